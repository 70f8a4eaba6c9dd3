use Rattle.run_model.proofs.Common.{◌≡◌, ◌<◌, ◌==◌, ◌||◌, not, ℕ, Bool, true, false, List, length}
use Rattle.run_model.proofs.Common.{Some, get_or, slice_get, slice_get_read, same_Some, or-true}
use Rattle.run_model.proofs.Common.{refl, sym, ap, subst, ◌∙◌, arith, WorkState, unfinished_in}
use Rattle.run_model.specs.declared.groups.Group.{Group}
use Rattle.row_view.specs.WorkRows.{is_settled}
use Rattle.task_group.proofs.Settling.{busy_row, settled_row}
use Rattle.task_group.proofs.groups.Groups.is_settled.Goals.{else-row-via-else-row}
use Rattle.task_group.proofs.groups.Groups.is_settled.Goals.{
  else-row-via-then-row+else-unfinished-ne0,
}
use Rattle.task_group.proofs.groups.Groups.is_settled.Goals as goal
use mathlib.Core.Bool.{beq}

-- The row that was read is the group's.
row_is : (groups same : List Group) (g : ℕ) (read row : Group) → g < length groups
    → read ≡ get_or groups g read → groups ≡ same → slice_get same g ≡ Some row → read ≡ row
row_is groups same g read row known is e found =
    same_Some read row
    (sym (slice_get_read groups (length groups) g read refl known is)
    ∙ ap (λ (l : List Group). slice_get l g) e ∙ found)

idle_then : (waited : Bool) (n : ℕ) → n ≡ 0 → (not waited || n == 0) ≡ true
idle_then waited n none = rw none (or-true (not waited))

pub index-row-requires : goal.index-row-requires
index-row-requires g c =
    let known = rw (← c.self.view_is) at c.requires.known in rw c.self.inside.groups.ok.0 known

pub unfinished-requires : goal.unfinished-requires
unfinished-requires g c = c.requires.known

pub overflow_cast-g : goal.overflow_cast-g
overflow_cast-g g c =
    let known = rw (← c.self.view_is) at c.requires.known in
    omega (arith, known, c.self.invariant.0.seated.sound.few_groups)

pub returns-then-unfinished-ne0 : goal.returns-then-unfinished-ne0
returns-then-unfinished-ne0 g c row found =
    let known = rw (← c.self.view_is) at c.requires.known in
    let same = row_is c.self.inside.groups.items c.args.self.now.groups c.args.g
    c.index-row.result.now row known
    c.index-row.ensures (ap (λ (w : WorkState). w.groups) c.self.view_is) found in
    subst (λ (r : Group). false ≡ is_settled c.args.self.now c.args.g r) same
    (busy_row c.args.self.now c.args.g c.unfinished.result c.index-row.result.now c.if-row.true
    c.unfinished.ensures c.if-unfinished-ne0.true)

pub returns : goal.returns
returns g c row found =
    let known = rw (← c.self.view_is) at c.requires.known in
    let w = c.args.self.now in
    let now = c.index-row.result.now in
    let same = row_is c.self.inside.groups.items w.groups c.args.g now row known
    c.index-row.ensures (ap (λ (u : WorkState). u.groups) c.self.view_is) found in
    let idle : (not now.waited || unfinished_in c.args.g w.tasks == 0) ≡ true =
    elim c.else-row.branch [
      | else-row-via-then-row+else-unfinished-ne0 v ↦
          idle_then now.waited (unfinished_in c.args.g w.tasks)
          (sym v.unfinished.ensures ∙ v.if-unfinished-ne0.false)
      | else-row-via-else-row v ↦ rw v.if-row.false refl
    ] in
    subst (λ (r : Group). beq c.is_some.result c.args.lost ≡ is_settled w c.args.g r) same
    (settled_row w c.args.g now c.is_some.result c.args.lost idle c.is_some.ensures
    c.requires.lost)
