-- A command of the command line has no argument that the commands below it share.
use Rattle.std.proofs.Common.{◌≡◌, Bool, false, refl, true}
use Rattle.std.specs.Prelude.{◌&&◌, not}

pub third_is_false : (a b g r : Bool) → a && (not b && (not g && r)) ≡ true → g ≡ false
third_is_false false b g r h = cc
third_is_false true true g r h = cc
third_is_false true false true r h = cc
third_is_false true false false r h = refl
