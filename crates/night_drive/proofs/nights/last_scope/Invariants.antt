use Rattle.std.specs.Prelude.{◌≡◌, ◌<◌, IfSome}
use Rattle.night_drive.specs.Searches.{last_below}
use Rattle.night_drive.specs.Seen.{is_scope}
use Rattle.night_drive.proofs.nights.last_scope.Given as goal

-- The last one of the first scopes.
abbrev pub invariant-loop-scope : goal.invariant-loop-scope
invariant-loop-scope g l = record {
  last : l.last ≡ last_below (is_scope l.state l.night l.group) l.scope;
  within : IfSome l.last (λ scope. scope < l.scope);
}
