-- How a round is answered.
use Rattle.std.specs.Prelude.{◌≡◌, ℕ, List, Option, Some}
use Rattle.std.specs.Global.{Vec}
use Rattle.std.proofs.Common.{inr, refl, subst, sym}
use Rattle.run_disk.specs.Disk.{DiskState}
use Rattle.book_model.specs.Books.{BookView}
use Rattle.drive_lines.specs.declared.orders.Order.{Order}
use Rattle.drive_parts.specs.declared.heard.Heard.{Heard}
use Rattle.drive_runs.specs.declared.answers.Answer.{Answer}
use Rattle.drive_runs.specs.declared.openings.Hindrance.{Hindrance}
use Rattle.drive_runs.specs.declared.rebounds.Bound.{Bound}
use Rattle.drive_runs.specs.declared.rebounds.Bound.TheVariants as bound
use Rattle.drive_runs.specs.declared.records.Recorded.{Recorded}
use Rattle.drive_runs.specs.declared.round_parts.Rest.{Rest}
use Rattle.drive_runs.specs.declared.round_parts.RoundKind.{RoundKind}
use Rattle.drive_runs.specs.declared.rounds.Course.{Course}
use Rattle.drive_runs.specs.declared.sittings.Sitting.{Sitting}
use Rattle.drive_runs.specs.Answers.{AnswersCourse, AnswersRecorded, BindsFirst, EndsRound, Hinders}
use Rattle.drive_runs.specs.Answers.{IsRest, PlaysRound, PlaysUnless}
use Rattle.drive_runs.specs.Asks.{questions_of}
use Rattle.drive_runs.specs.Records.{Records}
use Rattle.drive_runs.specs.Rounds.{GoesOn}

-- Something hinders the night before a round is played.
pub hinders_before : {D : Type 0} (state : D → DiskState) (found : Option Hindrance)
    (what : Hindrance) (how : RoundKind) (s : Sitting) (heard : Heard) (now : ℕ) (b : BookView D)
    (it : Answer) → found ≡ Some what → Hinders what it
    → PlaysUnless state found how s heard now b it b
hinders_before state found what how s heard now b it is says =
    subst (λ (o : Option Hindrance). PlaysUnless state o how s heard now b it b) (sym is)
    (says, refl)

-- The tries that live got no tasks.
pub plays_unbound : {D : Type 0} (state : D → DiskState) (how : RoundKind) (s t : Sitting)
    (heard : Heard) (now : ℕ) (a b : BookView D) (tries : Bound) (what : Hindrance) (it : Answer)
    → BindsFirst state how s a tries t b → tries ≡ bound.Hindered what → Hinders what it
    → PlaysRound state how s heard now a it b
plays_unbound state how s t heard now a b tries what it binds is says = (
  bound.Hindered what,
  t,
  b,
  subst (λ (all : Bound). BindsFirst state how s a all t b) is binds,
  (says, refl),
)

-- The tries that live have tasks, and this has become of the round.
pub plays_recorded : {D : Type 0} (state : D → DiskState) (how : RoundKind) (s t before : Sitting)
    (heard : Heard) (now : ℕ) (a b c d : BookView D) (tries : Bound) (lines : Vec Order)
    (found recorded : Recorded) (rest : Rest) (it : Answer)
    → BindsFirst state how s a tries t b → tries ≡ bound.Orders lines
    → Records state t heard now b found before c → found ≡ recorded → IsRest heard now rest
    → AnswersRecorded state how before rest c lines.items recorded it d
    → PlaysRound state how s heard now a it d
plays_recorded state how s t before heard now a b c d tries lines found recorded rest it binds is
    records became left answers = (
      bound.Orders lines,
      t,
      b,
      subst (λ (all : Bound). BindsFirst state how s a all t b) is binds,
      record {
        recorded = recorded;
        before = before;
        between = c;
        records = subst (λ (r : Recorded). Records state t heard now b r before c) became records;
        rest = rest;
        left = left;
        answers = answers;
      },
    )

-- The round has gone on so.
pub goes_as : {D : Type 0} (state : D → DiskState) (how : RoundKind) (before after : Sitting)
    (rest : Rest) (old to new : BookView D) (lines : List Order) (found course : Course)
    (it : Answer) → GoesOn state before (questions_of rest.heard) old found after to
    → found ≡ course → AnswersCourse state how after rest to lines course it new
    → EndsRound state how before rest old lines it new
goes_as state how before after rest old to new lines found course it goes is answers =
    inr (
      course,
      after,
      to,
      subst (λ (it : Course). GoesOn state before (questions_of rest.heard) old it after to) is
          goes,
      answers,
    )
