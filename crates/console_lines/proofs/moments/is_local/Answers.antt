use Rattle.std.proofs.Common.{refl}
use Rattle.std.proofs.Math.Bool.{and_assoc}
use Rattle.console_lines.specs.Moments.{is_local}
use Rattle.console_lines.proofs.moments.is_local.Goals as goal

pub returns-then-not-has_shape : goal.returns-then-not-has_shape
unfolding is_local
returns-then-not-has_shape c =
    rw (← c.has_shape.ensures.value, c.if-not-has_shape.true) refl

pub returns : goal.returns
unfolding is_local
returns c = rw (← c.has_shape.ensures.value, c.if-not-has_shape.false) (simp and_assoc (cc))
