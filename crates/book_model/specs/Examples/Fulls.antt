-- Sessions that have as many scopes, groups or tasks as fit, or one fewer. Their names aren't
-- distinct, so no store can keep them, but the definitions cover them all.
use Rattle.std.specs.Prelude.{ℕ, ◌-◌, true, List, [], ◌∷◌, ◌++◌, Some, None, codes, replicate}
use Rattle.run_model.specs.declared.scopes.Kind.TheVariants as kind
use Rattle.run_model.specs.declared.groups.Group.{Group}
use Rattle.run_model.specs.declared.commands.Wish.{Wish}
use Rattle.run_model.specs.declared.commands.Wish.TheVariants as wish
use Rattle.run_model.specs.declared.layouts.Layout.{Layout}
use Rattle.run_model.specs.Rows.{root, new_scope, new_group, new_task}
use Rattle.run_model.specs.State.{TreeState, WorkState}
use Rattle.run_model.specs.Session.{Session, begun_at}

-- A tree of this many scopes: root, and others below it.
abbrev pub scopes_in : Layout → ℕ → TreeState
scopes_in layout n = record {
  layout = layout;
  clock = 0;
  scopes = root ∷ replicate (n - 1) (new_scope (codes "s") 0 kind.Cancel);
}

-- Three groups: one was waited for, one wasn't, and one has a limit of 1.
abbrev pub three_groups : List Group
three_groups =
    record (new_group (codes "waited") 0 true) { waited = true }
    ∷ new_group (codes "open") 0 true
    ∷ record (new_group (codes "limited") 0 true) { limit = Some 1 }
    ∷ []

-- This many groups, beginning with these three, and this many tasks of the third one. None of them
-- was started.
abbrev pub work_in : Layout → (groups tasks : ℕ) → WorkState
work_in layout groups tasks = record {
  layout = layout;
  groups = three_groups ++ replicate (groups - 3) (new_group (codes "more") 0 true);
  tasks = replicate tasks (new_task 2 (codes "copy") (codes "a") None);
}

-- A session with this many scopes, groups and tasks, and with an empty log.
abbrev pub session_in : Layout → (scopes groups tasks : ℕ) → Session
session_in layout scopes groups tasks = begun_at (record {
  count = 1;
  tree = scopes_in layout scopes;
  work = work_in layout groups tasks;
})

-- A timeout that leads past the greatest moment.
abbrev pub past_moments : Wish
past_moments = wish.Timeout 253000000001 None
