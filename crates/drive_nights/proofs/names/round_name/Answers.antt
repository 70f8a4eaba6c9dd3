use Rattle.std.proofs.Common.{◌∙◌, ◌≤◌, List, ℕ, length, subst, sym}
use Rattle.std.proofs.Common.{arith}
use Rattle.run_model.specs.Texts.{IsName}
use Rattle.drive_nights.specs.Names.{round_name}
use Rattle.drive_nights.proofs.Spelling.{IsRoundName, is_name_by, round_is_name}
use Rattle.drive_nights.proofs.names.round_name.Goals as goal

pub name_copy-requires : goal.name_copy-requires
name_copy-requires c =
    let it : IsRoundName (round_name c.args.group.now c.args.night c.args.k) =
    round_is_name c.args.group.now c.args.night c.args.k c.round_bytes.ensures.name
    c.requires.short c.ranges.night.fits c.requires.few in
    subst (λ (bytes : List ℕ). IsName bytes)
    (sym (c.as_slice.ensures.value ∙ c.round_bytes.ensures.value))
    (is_name_by (round_name c.args.group.now c.args.night c.args.k) it.named it.long
    (omega (arith, it.short)))

pub returns-clause-short : goal.returns-clause-short
returns-clause-short c =
    let it : IsRoundName (round_name c.args.group.now c.args.night c.args.k) =
    round_is_name c.args.group.now c.args.night c.args.k c.round_bytes.ensures.name
    c.requires.short c.ranges.night.fits c.requires.few in
    let same = c.name_copy.ensures ∙ c.as_slice.ensures.value ∙ c.round_bytes.ensures.value in
    subst (λ (bytes : List ℕ). length bytes ≤ 29) (sym same) it.short
