use Rattle.std.proofs.Common.{◌*◌, take}
use Rattle.std.specs.List.{flat_map}
use Rattle.state_views.specs.Entries.{string_byte}
use Rattle.console_lines.specs.Appended.{Appended}
use Rattle.state_views.proofs.json_entries.push_escaped.Given as goal

-- The first bytes were buffered, as at most two each.
abbrev pub invariant-loop-byte : goal.invariant-loop-byte
invariant-loop-byte g l =
    Appended l.initial.out.items l.out.items (flat_map string_byte (take l.byte-index l.bytes))
    (2 * l.byte-index)
