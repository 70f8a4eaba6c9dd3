-- New scopes, groups and tasks are shown.
use Rattle.run_model.proofs.Common.{◌≡◌, ◌+◌, ℕ, Bool, true, false, List, [], ◌∷◌, ◌++◌, length}
use Rattle.run_model.proofs.Common.{Option, Some, None, slice_get, unwrap_or, refl, sym, ap, subst}
use Rattle.run_model.proofs.Common.{◌∙◌, option_map_or, take-append_seam, not-false, State}
use Rattle.run_model.proofs.Common.{WorkState, new_scope, new_group, new_task, with_hit, hit_due}
use Rattle.run_model.proofs.Common.{tick, retried_row, is_admitted, phase_by, phase_of, admits}
use Rattle.run_model.proofs.Common.{limit_of, unfinished_in, refusals, task_look_of, kind_made}
use Rattle.run_model.proofs.Common.{scope_of, group_of, Session, each_fails, HasRow}
use Rattle.std.proofs.Common.{IsSomeAnd}
use Rattle.run_model.specs.declared.scopes.Kind.TheVariants as kind
use Rattle.run_model.specs.declared.scopes.Hit.{Hit}
use Rattle.run_model.specs.declared.scopes.Scope.{Scope}
use Rattle.run_model.specs.declared.groups.Group.{Group}
use Rattle.run_model.specs.declared.tasks.Task.{Task}
use Rattle.run_model.specs.declared.tasks.Phase.{Phase}
use Rattle.run_model.specs.declared.tasks.Phase.TheVariants as phase
use Rattle.run_model.specs.declared.tasks.Stage.TheVariants as stage
use Rattle.run_model.specs.declared.answers.Answer.TheVariants as answer
use Rattle.run_model.specs.declared.commands.Command.TheVariants as command
use Rattle.run_model.specs.declared.commands.Wish.{Wish}
use Rattle.run_model.specs.Event as event
use Rattle.run_model.specs.WorkChanges.{after_go}
use Rattle.run_model.specs.Replies.{submission}
use Rattle.model_laws.specs.Answers.{Answered, SeesGroup, seen_name, task_seen}
use Rattle.model_laws.proofs.Answering.{carried_out}
use Rattle.model_laws.proofs.Places.{pushed_row}
use Rattle.model_laws.proofs.Seeing.{scope_seen, group_called, group_lives, task_found}

-- ---- scopes

pub ticked_name : (e clock : ℕ) (row : Scope) → (tick e clock row).name ≡ row.name
ticked_name e clock row = go (hit_due e clock row.kind)
  where
    go : (o : Option Hit) → (option_map_or (λ hit. with_hit hit row) o row).name ≡ row.name
    go None = refl
    go (Some hit) = refl

-- A row at the end is seen under its name.
made_scope : (p : State) (e clock : ℕ) (row : Scope) (q : State)
    → q.tree.scopes ≡ p.tree.scopes ++ tick e clock row ∷ []
    → seen_name q (length p.tree.scopes) ≡ Some row.name
made_scope p e clock row q pushed =
    let found = pushed_row p.tree.scopes q.tree.scopes (tick e clock row) pushed in
    scope_seen q (length p.tree.scopes) (tick e clock row) found
    ∙ ap (λ (name : List ℕ). Some name) (ticked_name e clock row)

same_scope : (m n : ℕ) → answer.Scope m ≡ answer.Scope n → m ≡ n
same_scope m n e = cc

pub derived_seen : (s : Session) (name parent : List ℕ) (wish : Wish) (n : ℕ) (q : State)
    → Answered s (command.Derive name parent wish) (answer.Scope n) q → seen_name q n ≡ Some name
derived_seen s name parent wish n q answered =
    let p : State = s.state in
    let done = carried_out s (command.Derive name parent wish) (answer.Scope n) q refl answered in
    let row : Scope = new_scope name (scope_of p parent) (kind_made p.tree.clock wish) in
    let pushed = ap (λ (t : State). t.tree.scopes) done.leaves in
    let seen = made_scope p (p.count + 1) p.tree.clock row q pushed in
    let here = same_scope (length p.tree.scopes) n done.answer in
    subst (λ (m : ℕ). seen_name q m ≡ Some name) here seen

-- ---- groups

-- A row at the end is seen with its name and in its scope.
made_group : (p : State) (name : List ℕ) (scope : ℕ) (bare : Bool) (q : State)
    → q.work.groups ≡ p.work.groups ++ new_group name scope bare ∷ []
    → SeesGroup q (length p.work.groups) name scope
made_group p name scope bare q pushed =
    let row : Group = new_group name scope bare in
    let found = pushed_row p.work.groups q.work.groups row pushed in
    record {
      called = group_called q (length p.work.groups) row found;
      lives = group_lives q (length p.work.groups) row found;
    }

same_group : (g h : ℕ) (a b : Option ℕ) → answer.Group g a ≡ answer.Group h b → (g ≡ h) × (a ≡ b)
same_group g h a b e = (cc, cc)

pub group_seen : (s : Session) (name parent : List ℕ) (g : ℕ) (own : Option ℕ) (q : State)
    → Answered s (command.Group name parent) (answer.Group g own) q
    → IsSomeAnd own (λ n. SeesGroup q g name n × (seen_name q n ≡ Some name))
group_seen s name parent g own q answered =
    let p : State = s.state in
    let n : ℕ = length p.tree.scopes in
    let done = carried_out s (command.Group name parent) (answer.Group g own) q refl answered in
    let here = same_group (length p.work.groups) g (Some n) own done.answer in
    let groups = ap (λ (t : State). t.work.groups) done.leaves in
    let made = made_group p name n false q groups in
    let group = subst (λ (h : ℕ). SeesGroup q h name n) here.0 made in
    let row : Scope = new_scope name (scope_of p parent) kind.Group in
    let scopes = ap (λ (t : State). t.tree.scopes) done.leaves in
    let scope = made_scope p (p.count + 1) p.tree.clock row q scopes in
    subst (λ (o : Option ℕ). IsSomeAnd o (λ n. SeesGroup q g name n × (seen_name q n ≡ Some name)))
    here.1 (group, scope)

pub bare_seen : (s : Session) (name scope : List ℕ) (g : ℕ) (own : Option ℕ) (q : State)
    → Answered s (command.Bare name scope) (answer.Group g own) q
    → (own ≡ None) × SeesGroup q g name (scope_of s.state scope)
bare_seen s name scope g own q answered =
    let p : State = s.state in
    let n : ℕ = scope_of p scope in
    let done = carried_out s (command.Bare name scope) (answer.Group g own) q refl answered in
    let here = same_group (length p.work.groups) g None own done.answer in
    let groups = ap (λ (t : State). t.work.groups) done.leaves in
    let made = made_group p name n true q groups in
    let group = subst (λ (h : ℕ). SeesGroup q h name n) here.0 made in
    (sym here.1, group)

-- ---- tasks

-- The phase of a row that was not started.
phase_of_fresh : (w : WorkState) (n : ℕ) (row : Task) → slice_get w.tasks n ≡ Some row
    → unwrap_or (phase_of w n) phase.Held ≡ phase_by (is_admitted w n row) row.stage
phase_of_fresh w n row found = rw found refl

same_task : (n m : ℕ) (a b : Phase) → answer.Task n a ≡ answer.Task m b → (n ≡ m) × (a ≡ b)
same_task n m a b e = (cc, cc)

-- A new row at the end is shown in the phase of the answer.
pub record Submitted (p : State) (row : Task) (n : ℕ) (reported : Phase) (q : State) : Type 0 where
  pub seen : task_look_of q n
      ≡ Some (task_seen row.group row.job row.argument reported row.retry_of)
  pub phase : reported ≡ phase_by (is_admitted q.work (length p.work.tasks) row) row.stage

submitted : (p : State) (row : Task) (n : ℕ) (reported : Phase) (q : State)
    → q.work.tasks ≡ p.work.tasks ++ row ∷ [] → submission p q ≡ answer.Task n reported
    → Submitted p row n reported q
submitted p row n reported q pushed e =
    let len : ℕ = length p.work.tasks in
    let found = pushed_row p.work.tasks q.work.tasks row pushed in
    let same = same_task len n (unwrap_or (phase_of q.work len) phase.Held) reported e in
    let fresh = sym same.1 ∙ phase_of_fresh q.work len row found in
    let look = λ (ph : Phase). Some (task_seen row.group row.job row.argument ph row.retry_of) in
    let here = task_found q len row found ∙ ap look (sym fresh) in
    record {
      seen = subst (λ (m : ℕ). task_look_of q m ≡ look reported) same.0 here;
      phase = fresh;
    }

pub go_seen : (s : Session) (group job argument : List ℕ) (n : ℕ) (reported : Phase) (q : State)
    → Answered s (command.Go group job argument) (answer.Task n reported) q
    → task_look_of q n ≡ Some (task_seen (group_of s.state group) job argument reported None)
go_seen s group job argument n reported q answered =
    let row : Task = new_task (group_of s.state group) job argument None in
    let done = carried_out s (command.Go group job argument)
    (answer.Task n reported) q refl answered in
    let pushed = ap (λ (t : State). t.work.tasks) done.leaves in
    (submitted s.state row n reported q pushed done.answer).seen

-- A group that admits one more admits the new task.
new_admitted : (w : WorkState) (g : ℕ) (job argument : List ℕ)
    → admits (limit_of w g) (unfinished_in g w.tasks) ≡ true
    → is_admitted (after_go g job argument w) (length w.tasks)
    (new_task g job argument None)
    ≡ true
new_admitted w g job argument room =
    ap (λ (tasks : List Task). admits (limit_of w g) (unfinished_in g tasks))
    (take-append_seam w.tasks (new_task g job argument None ∷ []))
    ∙ room

pub tried_seen : (s : Session) (group job argument : List ℕ) (n : ℕ) (reported : Phase) (q : State)
    → Answered s (command.TryGo group job argument) (answer.Task n reported) q
    → (reported ≡ phase.Ready)
    × (task_look_of q n ≡ Some (task_seen (group_of s.state group) job argument reported None))
tried_seen s group job argument n reported q answered =
    let w : WorkState = s.state.work in
    let g : ℕ = group_of s.state group in
    let row : Task = new_task g job argument None in
    let a = answer.Task n reported in
    let done = carried_out s (command.TryGo group job argument) a q refl answered in
    let pushed = ap (λ (t : State). t.work.tasks) done.leaves in
    let new = submitted s.state row n reported q pushed done.answer in
    let parts = each_fails (refusals s.state (event.TryGo g job argument)) done.may in
    let room = not-false (admits (limit_of w g) (unfinished_in g w.tasks)) parts.1.1.1.0 in
    let admitted =
    ap (λ (t : State). is_admitted t.work (length w.tasks) row) done.leaves
    ∙ new_admitted w g job argument room in
    (new.phase ∙ ap (λ (b : Bool). phase_by b stage.Fresh) admitted, new.seen)

pub retried_seen : (s : Session) (n m : ℕ) (old : Task) (reported : Phase) (q : State)
    → HasRow s.state.work.tasks n old → Answered s (command.Retry n) (answer.Task m reported) q
    → task_look_of q m ≡ Some (task_seen old.group old.job old.argument reported (Some n))
retried_seen s n m old reported q found answered =
    let w : WorkState = s.state.work in
    let row : Task = retried_row n old in
    let done = carried_out s (command.Retry n) (answer.Task m reported) q refl answered in
    let pushed =
    ap (λ (t : State). t.work.tasks) done.leaves
    ∙ ap
    (λ o.
    (option_map_or (λ row. record w { tasks = w.tasks ++ retried_row n row ∷ [] }) o w).tasks)
    found in
    (submitted s.state row m reported q pushed done.answer).seen
