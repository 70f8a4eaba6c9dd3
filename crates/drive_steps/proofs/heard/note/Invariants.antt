use Rattle.std.specs.Prelude.{take}
use Rattle.drive_steps.specs.Heard.{AreNoted}
use Rattle.drive_steps.proofs.heard.note.Given as goal

-- The first ends are noted.
abbrev pub invariant-loop-end : goal.invariant-loop-end
invariant-loop-end l = AreNoted l.fn.ends l.ends (take l.end-index l.heard) l.now
