-- The effect of a start and a finish on a desk and on a thread's counts.
use Rattle.run_model.proofs.Common.{◌≡◌, ℕ, ◌+◌, List, [], ◌∷◌, ◌++◌, Bool, true, false, Option}
use Rattle.run_model.proofs.Common.{None, Some, refl, ap, sym, subst, ◌∙◌, arith, Result, Ok, Err}
use Rattle.run_model.proofs.Common.{if◌then◌else◌, sum_by-append, sum_by-cons, Event, unless, cond}
use Rattle.run_model.proofs.Common.{count_by, if_room, is_full, State, result_unwrap_or, and_then}
use Rattle.run_model.proofs.Common.{MatchResult, OnErr, ⊤, refusals, decide_start, decide_finish}
use Rattle.run_model.proofs.Common.{reply_start, reply_finish}
use Rattle.run_model.specs.declared.answers.Started.{Started}
use Rattle.run_model.specs.declared.commands.Step.TheVariants as step
use Rattle.run_model.specs.declared.tasks.Outcome.{Outcome}
use Rattle.run_model.specs.Event as event
use Rattle.model_laws.specs.Kinds.{is_finish, is_start}
use Rattle.model_laws.proofs.StartingReplies.{start_of}
use Rattle.run_book.specs.Views.{unless_broken}
use Rattle.run_crew.proofs.Carrying.{added_by}
use Rattle.std.specs.Prelude.{option_to_list}
use Rattle.std.specs.Result.{is_ok}
use mir.Val.{bool_byte}
use Rattle.run_model.specs.declared.answers.Reply.{Reply}
use Rattle.run_model.specs.declared.commands.Step.{Step}
use Rattle.run_model.specs.declared.refusals.Refusal.{Refusal}
use Rattle.run_model.specs.declared.refusals.Refusal.TheVariants.{Broken, SessionFull}
use Rattle.run_disk.specs.Disk.{DiskState}
use Rattle.run_session.specs.Lasting.{Stays}
use Rattle.book_model.specs.Books.{BookView, CarriesOn}
use Rattle.book_model.specs.Steps.{AnswersStep}
use Rattle.run_crew.specs.Desks.{DeskView, finishes_of, starts_of}
use Rattle.run_crew.specs.OwnCounts.{OwnCountsView, one_finish, one_start}
use Rattle.run_crew.specs.Steps.{TakesStep}

pub takes_step :
    {D : Type 0} (state : D → DiskState) (d old : DeskView D) (x : Step) (r : Reply)
    (new : BookView D) → d ≡ old → AnswersStep state d.book x r new
    → Stays d.book.session.state new.session.state → CarriesOn state d.book new
    → TakesStep state old x r (record { book = new; since = d.since })
takes_step state d old x r new same answers stays on =
    let P : DeskView _ → Type 0 = λ o.
    TakesStep state o x r (record { book = new; since = d.since }) in
    subst P same (record { answers = answers; stays = stays; carries_on = on; since = refl })

-- ---- what is counted

-- One is counted if the answer is Ok.
abbrev pub CountsOne : {X : Type 0} → Result X Refusal → ℕ → Type 0
CountsOne r n = MatchResult r (λ _. n ≡ 1) (λ _. n ≡ 0)

pub counts_one : {X : Type 0} (r : Result X Refusal) (ok : Bool) (n : ℕ)
    → ok ≡ is_ok r → n ≡ bool_byte ok → CountsOne r n
counts_one (Ok x) ok n is as_byte = as_byte ∙ ap bool_byte is
counts_one (Err why) ok n is as_byte = as_byte ∙ ap bool_byte is

pub start_counted : {X : Type 0} (r : Result X Refusal) (own old : OwnCountsView)
    (parts amount n : ℕ)
    → own ≡ old → parts ≡ own.start_parts → amount ≡ own.starts + n → CountsOne r n
    → MatchResult r (λ _. record own { start_parts = parts; starts = amount } ≡ one_start old)
    (λ _. record own { start_parts = parts; starts = amount } ≡ old)
start_counted (Ok x) own old parts amount n same as_parts more one =
    ap (λ p. record own { start_parts = p; starts = amount }) as_parts
    ∙ ap (λ a. record own { starts = a }) (more ∙ ap (λ k. own.starts + k) one)
    ∙ ap one_start same
start_counted (Err why) own old parts amount n same as_parts more none =
    let a : amount ≡ own.starts = omega arith in
    ap (λ p. record own { start_parts = p; starts = amount }) as_parts
    ∙ ap (λ k. record own { starts = k }) a ∙ same

pub finish_counted : {X : Type 0} (r : Result X Refusal) (own old : OwnCountsView)
    (parts amount n : ℕ)
    → own ≡ old → parts ≡ own.finish_parts → amount ≡ own.finishes + n → CountsOne r n
    → MatchResult r (λ _. record own { finish_parts = parts; finishes = amount } ≡ one_finish old)
    (λ _. record own { finish_parts = parts; finishes = amount } ≡ old)
finish_counted (Ok x) own old parts amount n same as_parts more one =
    ap (λ p. record own { finish_parts = p; finishes = amount }) as_parts
    ∙ ap (λ a. record own { finishes = a }) (more ∙ ap (λ k. own.finishes + k) one)
    ∙ ap one_finish same
finish_counted (Err why) own old parts amount n same as_parts more none =
    let a : amount ≡ own.finishes = omega arith in
    ap (λ p. record own { finish_parts = p; finishes = amount }) as_parts
    ∙ ap (λ k. record own { finishes = k }) a ∙ same

-- ---- the totals

-- The decision is a refusal, or leads to this event.
abbrev pub LeadsTo : Event → Result (Option Event) Refusal → Type 0
LeadsTo e (Err why) = ⊤
LeadsTo e (Ok None) = ⊥
LeadsTo e (Ok (Some made)) = made ≡ e

pub unless_leads : (tests : List (Bool × Refusal)) (answer : Result (Option Event) Refusal)
    (e : Event) → LeadsTo e answer → LeadsTo e (unless tests answer)
unless_leads [] answer e is = is
unless_leads (t ∷ tests) answer e is =
    elim t.0 as (λ b. LeadsTo e (if b then Err t.1 else unless tests answer))
    [ true ↦ tt | false ↦ unless_leads tests answer e is ]

pub room_leads : (p : State) (log : ℕ) (e : Event) → LeadsTo e (if_room p log e)
room_leads p log e =
    elim (is_full p log e) as (λ b. LeadsTo e (if b then Err SessionFull else Ok (Some e)))
    [ true ↦ tt | false ↦ refl ]

one_made : {X : Type 0} (test : Event → Bool) (e : Event) (k : Bool)
    (d : Result (Option Event) Refusal) (f : Option Event → Result X Refusal) (x : X)
    → LeadsTo e d → Ok x ≡ (if k then Err Broken else and_then d f)
    → count_by test (if k then [] else option_to_list (result_unwrap_or d None))
    ≡ count_by test (e ∷ [])
one_made test e true d f x is reported = absurd (let h : Ok x ≡ Err Broken = reported in cc)
one_made test e false (Err why) f x is reported = absurd (let h : Ok x ≡ Err why = reported in cc)
one_made test e false (Ok None) f x is reported = absurd is
one_made test e false (Ok (Some made)) f x is reported = ap (λ m. count_by test (m ∷ [])) is

pub total_is : {D X : Type 0} (test : Event → Bool) (e : Event) (b new : BookView D)
    (d : Result (Option Event) Refusal) (f : Option Event → Result X Refusal)
    (r : Result X Refusal) (total n : ℕ)
    → LeadsTo e d → r ≡ (if b.journal.broken then Err Broken else and_then d f)
    → OnErr r (new ≡ b)
    → new.session.history ≡ b.session.history
    ++ (if b.journal.broken then [] else option_to_list (result_unwrap_or d None))
    → MatchResult r (λ _. n ≡ count_by test (e ∷ [])) (λ _. n ≡ 0)
    → total ≡ count_by test b.session.history
    → total + n ≡ count_by test new.session.history
total_is test e b new d f (Ok x) total n is reported refused grown one had =
    let added : List Event =
    if b.journal.broken then [] else option_to_list (result_unwrap_or d None) in
    let made : count_by test added ≡ count_by test (e ∷ []) =
    one_made test e b.journal.broken d f x is reported in
    let both : count_by test (b.session.history ++ added)
    ≡ count_by test b.session.history + count_by test added =
    sum_by-append (λ e. cond (test e) 1 0) b.session.history added in
    let same : count_by test new.session.history ≡ count_by test (b.session.history ++ added) =
    ap (λ es. count_by test es) grown in
    omega arith
total_is test e b new d f (Err why) total n is reported refused grown none had =
    let same : count_by test new.session.history ≡ count_by test b.session.history =
    ap (λ (v : BookView _). count_by test v.session.history) refused in
    omega arith

match_ones : {X : Type 0} (r : Result X Refusal) (n k counted : ℕ)
    → MatchResult r (λ _. n ≡ k) (λ _. n ≡ 0) → counted ≡ k
    → MatchResult r (λ _. n ≡ counted) (λ _. n ≡ 0)
match_ones (Ok x) n k counted is same = is ∙ sym same
match_ones (Err why) n k counted is same = is

match_none : {X : Type 0} (r : Result X Refusal) (n counted : ℕ) → n ≡ 0 → counted ≡ 0
    → MatchResult r (λ _. n ≡ counted) (λ _. n ≡ 0)
match_none (Ok x) n counted is none = is ∙ sym none
match_none (Err why) n counted is none = is

-- One event counts as one if it passes the test.
pub one_of : (test : Event → Bool) (e : Event) (b : Bool) → test e ≡ b
    → count_by test (e ∷ []) ≡ cond b 1 0
one_of test e b is =
    let counted : Bool → ℕ = λ b. cond b 1 0 in
    let one : counted (test e) ≡ counted b = ap counted is in
    omega (arith, one, sum_by-cons (λ e. cond (test e) 1 0) e [])

-- The totals after a start include the event that it added.
pub start_totals : {D : Type 0} (b new : BookView D) (r : Result Started Refusal)
    (starts finishes n : ℕ)
    → r ≡ unless_broken b (reply_start b.session.state b.session.log) → OnErr r (new ≡ b)
    → new.session.history ≡ b.session.history ++ added_by b step.Start → CountsOne r n
    → starts ≡ starts_of b.session.history → finishes ≡ finishes_of b.session.history
    → (starts + n ≡ starts_of new.session.history)
    × (finishes ≡ finishes_of new.session.history)
start_totals b new r starts finishes n reported refused grown one had other =
    let p = b.session.state in
    let e : Event = start_of p in
    let leads : LeadsTo e (decide_start p b.session.log) =
    unless_leads (refusals p e) (if_room p b.session.log e) e (room_leads p b.session.log e) in
    let counted = one_of is_start e true refl in
    let not_counted = one_of is_finish e false refl in (
      total_is is_start e b new
          (decide_start p b.session.log) _ r starts n leads reported refused grown
          (match_ones r n 1 (count_by is_start (e ∷ [])) one counted) had,
      omega (
        arith,
        total_is is_finish e b new (decide_start p b.session.log) _ r finishes 0 leads
            reported refused grown
            (match_none r 0 (count_by is_finish (e ∷ [])) refl not_counted) other,
      ),
    )

-- The totals after a finish include the event that it added.
pub finish_totals : {D : Type 0} (b new : BookView D) (task : ℕ) (how : Outcome)
    (r : Result ℕ Refusal) (starts finishes n : ℕ)
    → r ≡ unless_broken b (reply_finish b.session.state task how) → OnErr r (new ≡ b)
    → new.session.history ≡ b.session.history ++ added_by b (step.Finish task how)
    → CountsOne r n
    → starts ≡ starts_of b.session.history → finishes ≡ finishes_of b.session.history
    → (starts ≡ starts_of new.session.history)
    × (finishes + n ≡ finishes_of new.session.history)
finish_totals b new task how r starts finishes n reported refused grown one other had =
    let p = b.session.state in
    let e : Event = event.Finish task how in
    let leads : LeadsTo e (decide_finish p task how) =
    unless_leads (refusals p e) (Ok (Some e)) e refl in
    let counted = one_of is_finish e true refl in
    let not_counted = one_of is_start e false refl in (
      omega (
        arith,
        total_is is_start e b new (decide_finish p task how) _ r starts 0 leads
            reported refused grown
            (match_none r 0 (count_by is_start (e ∷ [])) refl not_counted) other,
      ),
      total_is is_finish e b new
          (decide_finish p task how) _ r finishes n leads reported refused grown
          (match_ones r n 1 (count_by is_finish (e ∷ [])) one counted) had,
    )
