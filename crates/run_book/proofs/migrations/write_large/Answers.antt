use Rattle.std.proofs.Common.{◌∙◌, arith, subst}
use Rattle.std.proofs.lemmas.List.{drop-take}
use Rattle.row_view.specs.declared.heads.ImageVersion.TheVariants.{Two}
use Rattle.row_view.specs.Image.{image}
use Rattle.row_view.specs.Keeping.{IsImage}
use Rattle.run_model.specs.declared.layouts.Layout.TheVariants.{Large}
use Rattle.book_model.specs.Migrations.{Writes, widened}
use Rattle.book_model.proofs.Widening.{widened_means}
use Rattle.run_book.proofs.Making.{store_made}
use Rattle.run_book.proofs.Migrating.{fits_large}
use Rattle.run_book.proofs.migrations.write_large.Goals as goal

-- The image after the journal's head is passed to `format`. It was written as an image of the
-- state's layout, which is the small one.
pub returns-in-Ok-clause-writes : goal.returns-in-Ok-clause-writes
returns-in-Ok-clause-writes g c =
    let state = g.E.RunDisk.state in
    let p = c.args.state.now in
    let given = state c.args.new.now in
    let new = state c.format.new.disk in
    let filled = c.fill-count in
    let small = subst (λ l. IsImage Two l (image p) p) c.requires.layout.tree
    filled.ensures.is_image in
    subst (λ r. Writes Large (widened p) given r new) c.in-Ok.is
    (store_made state given new Large (widened p) _ (g.met.E.RunDisk.is_disk c.format.new.disk)
    c.requires.size (widened_means p small)
    (drop-take 12 filled.result filled.new.body ∙ filled.ensures.image) c.format.result
    c.format.ensures.calls c.format.ensures.formatted)

pub returns-in-Err-clause-writes : goal.returns-in-Err-clause-writes
returns-in-Err-clause-writes g c =
    let state = g.E.RunDisk.state in
    let p = c.args.state.now in
    let given = state c.args.new.now in
    let new = state c.format.new.disk in
    let filled = c.fill-count in
    let small = subst (λ l. IsImage Two l (image p) p) c.requires.layout.tree
    filled.ensures.is_image in
    subst (λ r. Writes Large (widened p) given r new) c.in-Err.is
    (store_made state given new Large (widened p) _ (g.met.E.RunDisk.is_disk c.format.new.disk)
    c.requires.size (widened_means p small)
    (drop-take 12 filled.result filled.new.body ∙ filled.ensures.image) c.format.result
    c.format.ensures.calls c.format.ensures.formatted)

pub fill-count-requires-clause-few : goal.fill-count-requires-clause-few
fill-count-requires-clause-few g c = omega (arith, c.requires.few)

pub format-requires-clause-whole : goal.format-requires-clause-whole
format-requires-clause-whole g c = (
  Large,
  c.requires.size,
  fits_large c.args.state.now.tree.layout c.fill-count.result c.fill-count.new.body
      c.requires.layout.tree c.fill-count.ensures.most
      (c.fill-count.ensures.size ∙ c.requires.room),
)

pub returns-in-Ok-clause-fault : goal.returns-in-Ok-clause-fault
returns-in-Ok-clause-fault g c = tt
