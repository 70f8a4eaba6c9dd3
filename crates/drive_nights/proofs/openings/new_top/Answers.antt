use Rattle.std.proofs.Common.{◌≡◌, List, ℕ, subst, sym, true}
use Rattle.drive_nights.specs.Names.{is_short}
use Rattle.drive_nights.proofs.Spelling.{night_is_short}
use Rattle.drive_nights.proofs.openings.new_top.Goals as goal

pub free_name-requires : goal.free_name-requires
free_name-requires g c =
    subst (λ (name : List ℕ). is_short name c.args.night ≡ true) (sym c.name_copy.ensures)
    (night_is_short c.args.night c.requires)
