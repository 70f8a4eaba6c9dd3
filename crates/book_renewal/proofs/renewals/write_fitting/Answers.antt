use Rattle.std.proofs.Common.{◌∙◌}
use Rattle.std.proofs.lemmas.List.{drop-take}
use Rattle.state_renewal.specs.Renewed.{renewed_in}
use Rattle.run_book.proofs.Making.{store_made}
use Rattle.book_renewal.proofs.Renewing.{fits_slot, renewed_means}
use Rattle.book_renewal.proofs.renewals.write_fitting.Goals as goal

pub format-requires-clause-whole : goal.format-requires-clause-whole
format-requires-clause-whole g c = (
  c.args.to,
  c.requires.size,
  fits_slot c.args.to c.fill_renewed-count.result c.fill_renewed-count.new.body
      c.fill_renewed-count.ensures.most (c.fill_renewed-count.ensures.size ∙ c.requires.room),
)

-- The image after the journal's head is passed to `format`.
pub returns-clause-writes : goal.returns-clause-writes
returns-clause-writes g c =
    let state = g.E.RunDisk.state in
    let filled = c.fill_renewed-count in
    store_made state (state c.args.new.now) (state c.format.new.disk) c.args.to
    (renewed_in c.args.to c.args.state.now) _ (g.met.E.RunDisk.is_disk c.format.new.disk)
    c.requires.size (renewed_means c.args.to c.args.state.now filled.ensures.is_image)
    (drop-take 12 filled.result filled.new.body ∙ filled.ensures.image) c.format.result
    c.format.ensures.calls c.format.ensures.formatted
