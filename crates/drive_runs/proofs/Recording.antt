-- What was heard is recorded.
use Rattle.std.specs.Prelude.{◌≡◌, ◌<◌, ◌≤◌, ◌+◌, ◌&&◌, ◌++◌, ℕ, Bool, true, List, [], ◌∷◌}
use Rattle.std.specs.Prelude.{Option, Some, None, All, length, ltb, take}
use Rattle.std.specs.List.{cons_option, filter_map, list_all}
use Rattle.std.proofs.Common.{ap, append-nil, arith, get_or, inr, sym, ◌∙◌}
use Rattle.std.proofs.lemmas.Bool.{ltb-true}
use Rattle.std.proofs.lemmas.List.{take_more}
use Rattle.std.proofs.lemmas.List.Elements.{filter_map-append}
use Rattle.run_model.specs.State.{State}
use Rattle.run_model.proofs.Common.{and_parts}
use Rattle.run_disk.specs.Disk.{DiskState}
use Rattle.book_model.specs.Books.{BookView}
use Rattle.drive_parts.specs.declared.heard.Heard.{Heard}
use Rattle.drive_steps.specs.declared.cancels.CommandCancel.{CommandCancel}
use Rattle.drive_steps.specs.declared.cancels.GroupCancel.{GroupCancel}
use Rattle.drive_steps.specs.Rooms.{are_housed}
use Rattle.drive_runs.specs.declared.records.Recorded.{Recorded}
use Rattle.drive_runs.specs.declared.records.Recorded.TheVariants as recorded
use Rattle.drive_runs.specs.declared.sittings.Sitting.{Sitting}
use Rattle.drive_runs.specs.Records.{Becomes, Records, WasPlayed, are_numbered, is_of_plan}
use Rattle.drive_runs.proofs.Every.{all_below}

-- ---- one element more

one_more : {X Y : Type 0} (f : X → Option Y) (xs : List X) (i : ℕ) (d : X) → i < length xs
    → filter_map f (take (i + 1) xs)
    ≡ filter_map f (take i xs) ++ filter_map f (get_or xs i d ∷ [])
one_more f xs i d less =
    ap (λ (l : List _). filter_map f l) (take_more xs i d less)
    ∙ filter_map-append f (take i xs) (get_or xs i d ∷ [])

pub some_more : {X Y : Type 0} (f : X → Option Y) (xs : List X) (i : ℕ) (d : X) (y : Y)
    → i < length xs → f (get_or xs i d) ≡ Some y
    → filter_map f (take (i + 1) xs) ≡ filter_map f (take i xs) ++ y ∷ []
some_more f xs i d y less is =
    one_more f xs i d less
    ∙ ap (λ (o : Option _). filter_map f (take i xs) ++ cons_option o []) is

pub none_more : {X Y : Type 0} (f : X → Option Y) (xs : List X) (i : ℕ) (d : X)
    → i < length xs → f (get_or xs i d) ≡ None
    → filter_map f (take (i + 1) xs) ≡ filter_map f (take i xs)
none_more f xs i d less is =
    one_more f xs i d less
    ∙ ap (λ (o : Option _). filter_map f (take i xs) ++ cons_option o []) is
    ∙ append-nil (filter_map f (take i xs))

-- ---- the steps

-- These cancels name commands of a plan with this many.
abbrev pub AreOfCommands : (count : ℕ) → List CommandCancel → Type 0
AreOfCommands count cancels =
    All (λ (cancel : CommandCancel). cancel.command < count) cancels

abbrev pub AreOfGroups : (count : ℕ) → List GroupCancel → Type 0
AreOfGroups count groups = All (λ (cancel : GroupCancel). cancel.group < count) groups

pub record IsOfPlan (p : State) (s : Sitting) (heard : Heard) : Type 0 where
  pub housed : are_housed p s.names ≡ true
  pub cancels : AreOfCommands (length s.plan.commands.items) heard.cancels.items
  pub groups : AreOfGroups (length s.names.groups.items) heard.done.items

pub of_plan : (p : State) (s : Sitting) (heard : Heard) → is_of_plan p s heard ≡ true
    → IsOfPlan p s heard
of_plan p s heard is =
    let commands : ℕ = length s.plan.commands.items in
    let groups : ℕ = length s.names.groups.items in
    let one : Bool =
    list_all (λ (x : CommandCancel). ltb x.command commands) heard.cancels.items in
    let two : Bool = list_all (λ (x : GroupCancel). ltb x.group groups) heard.done.items in
    let first = and_parts (are_housed p s.names) (one && two) is in
    let others = and_parts one two first.1 in
    record {
      housed = first.0;
      cancels = all_below (λ (x : CommandCancel). x.command) commands heard.cancels.items true
          (sym others.0);
      groups = all_below (λ (x : GroupCancel). x.group) groups heard.done.items true
          (sym others.1);
    }

pub numbered : (p : State) (s : Sitting) (taken : List CommandCancel)
    → are_numbered p s taken ≡ true
    → AreOfCommands (length s.plan.commands.items) taken
    × (length p.work.tasks + length taken ≤ 65535)
numbered p s taken is =
    let commands : ℕ = length s.plan.commands.items in
    let one : Bool = list_all (λ (x : CommandCancel). ltb x.command commands) taken in
    let two : Bool = ltb (length taken) 4096 in
    let three : Bool = ltb (length p.work.tasks) 32768 in
    let first = and_parts one (two && three) is in
    let others = and_parts two three first.1 in
    let short = ltb-true (length taken) 4096 others.0 in
    let few = ltb-true (length p.work.tasks) 32768 others.1 in (
      all_below (λ (x : CommandCancel). x.command) commands taken true (sym first.0),
      omega (arith, short, few),
    )

-- ---- all of it

-- What became of what was heard, by the replies.
pub has_become : {D : Type 0} (state : D → DiskState) (s t : Sitting) (heard : Heard) (now : ℕ)
    (old new : BookView D) (row : WasPlayed state s heard now old t new) (how : Recorded)
    → Becomes (length row.ends) row.taken row.replies row.gone how
    → Records state s heard now old how t new
has_become state s t heard now old new row recorded.Well became = (row, became)
has_become state s t heard now old new row recorded.Reopen became = (row, became)
has_become state s t heard now old new row recorded.Full became = inr (row, became)
has_become state s t heard now old new row (recorded.Faulty fault) became = (row, became)
