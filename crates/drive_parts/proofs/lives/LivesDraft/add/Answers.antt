use Rattle.std.proofs.Common.{◌≡◌, ◌++◌, ◌∷◌, ◌∙◌, [], ap, subst, sym}
use Rattle.std.specs.List.{filter_map, list_any}
use Rattle.drive_lines.specs.declared.reports.Report.{Report}
use Rattle.drive_parts.specs.Lives.{MayLive, same_try, try_of}
use Rattle.drive_parts.proofs.Planning.{adds_try}
use Rattle.drive_parts.proofs.lives.LivesDraft.add.Goals as goal

pub returns : goal.returns
returns c = λ xs is.
    let t = c.in-Lives.living in
    let items = c.push.new.self.items in
    let P : Report → Type 0 = λ r. MayLive xs r × (items ≡ filter_map try_of (xs ++ r ∷ [])) in
    subst P (sym c.in-Lives.is) (adds_try xs c.args.self.tries.items items t
    (ap (list_any (λ other. same_try other t)) (sym c.as_slice.ensures.value)
    ∙ sym c.is_listed.ensures ∙ c.if-is_listed.false) c.in_ok-push.ensures.items is)
