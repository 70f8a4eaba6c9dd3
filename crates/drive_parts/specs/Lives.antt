-- The tries of an earlier session that are still there.
use Rattle.std.specs.Prelude.{◌≡◌, ◌==◌, ◌&&◌, ◌++◌, ◌∷◌, Bool, false, List, [], Option, Some, None}
use Rattle.std.specs.List.{filter_map, list_any}
use Rattle.std.specs.Str.{bytes_eq}
use Rattle.drive_lines.specs.declared.fields.TryName.{TryName}
use Rattle.drive_lines.specs.declared.reports.Report.{Report}
use Rattle.drive_lines.specs.declared.reports.Report.TheVariants as report
use Rattle.drive_parts.specs.declared.lives.LivesDraft.{LivesDraft}

-- The try of a line.
abbrev pub try_of : Report → Option TryName
try_of (report.Lives t) = Some t
try_of _ = None

-- Two tries are the same.
abbrev pub same_try : TryName → TryName → Bool
same_try a b = bytes_eq a.group b.group && bytes_eq a.key b.key && a.number == b.number

-- These are the tries of some lines, in order.
abbrev pub AreTries : List Report → LivesDraft → Type 0
AreTries reports d = d.tries.items ≡ filter_map try_of reports

-- A line can come next: it names a try that no line before it names.
abbrev pub MayLive : List Report → Report → Type 0
MayLive reports (report.Lives t) =
    list_any (λ other. same_try other t) (filter_map try_of reports) ≡ false
MayLive reports _ = ⊥

-- One more line was added, or it can't come next.
abbrev pub AddsTry : List Report → Report → Option LivesDraft → Type 0
AddsTry reports r None = MayLive reports r → ⊥
AddsTry reports r (Some e) = MayLive reports r × AreTries (reports ++ r ∷ []) e
