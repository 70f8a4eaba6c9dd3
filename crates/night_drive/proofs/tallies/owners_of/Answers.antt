use Rattle.std.proofs.Common.{◌≡◌, ◌<◌, ◌≤◌, ◌∙◌, ◌++◌, ◌∷◌, [], ℕ, Bool, List, ap, arith, get_or}
use Rattle.std.proofs.Common.{length, map, sym, take}
use Rattle.std.proofs.lemmas.List.{map_more, take_all}
use Rattle.night_drive.specs.Seen.{is_owned}
use Rattle.night_drive.proofs.tallies.owners_of.Goals as goal

pub loop-group-preserved : goal.loop-group-preserved
loop-group-preserved g c =
    let groups = c.args.names.now.groups.items in
    let i = c.loop-group.group-index in
    let name = c.group-item.result in
    let items = c.deref-group-items.ensures.value in
    let owned : List ℕ → Bool =
    λ x. is_owned c.args.state.now c.args.names.now.night x c.args.h in
    let within : i < length groups = omega (arith, ap length items) in
    let item : name ≡ get_or groups i name =
    c.group-item.is ∙ ap (λ (xs : List (List ℕ)). get_or xs i name) items in
    c.in_ok-push.ensures.items
    ∙ ap (λ (xs : List Bool). xs ++ c.is_owned.result ∷ []) c.loop-group.invariant
    ∙ ap (λ b. map owned (take i groups) ++ b ∷ []) (c.is_owned.ensures ∙ ap owned item)
    ∙ sym (map_more owned groups i name within)

pub returns : goal.returns
returns g c =
    let groups = c.args.names.now.groups.items in
    let items = c.deref-group-items.ensures.value in
    let past : length groups ≤ c.loop-group.group-index = omega (arith, ap length items) in
    let owned : List ℕ → Bool =
    λ x. is_owned c.args.state.now c.args.names.now.night x c.args.h in
    c.loop-group.invariant
    ∙ ap (λ (xs : List (List ℕ)). map owned xs) (take_all c.loop-group.group-index groups past)
