-- The answers of the groups to a question about one group, by its row.
use Rattle.std.specs.Prelude.{ℕ}
use Rattle.run_model.specs.declared.answers.GroupLook.{GroupLook}
use Rattle.run_model.specs.declared.groups.Group.{Group}

-- The answer to a question about a group with this row and this many unfinished tasks.
abbrev pub look_by : ℕ → Group → GroupLook
look_by unfinished row = record {
  name = row.name;
  scope = row.scope;
  unfinished = unfinished;
  limit = row.limit;
  waited = row.waited;
  error = row.error;
}
