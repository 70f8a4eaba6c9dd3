use Rattle.std.proofs.Common.{arith}
use Rattle.row_view.specs.declared.heads.ImageVersion.TheVariants.{Two}
use Rattle.row_view.specs.Image.{image}
use Rattle.row_view.proofs.ImageLengths.{image_most}
use Rattle.state_renewal.specs.Renewed.{renewed, renewed_in}
use Rattle.run_book.proofs.Filling.{filled}
use Rattle.book_renewal.proofs.renewals.fill_renewed.Goals as goal

pub returns-clause-most : goal.returns-clause-most
returns-clause-most g c =
    let p = c.args.state.now in
    omega (
      arith,
      c.write_image.ensures.len,
      image_most Two c.args.to (image (renewed p)) (renewed_in c.args.to p)
          c.write_image.ensures.image,
    )

pub returns-clause-image : goal.returns-clause-image
returns-clause-image g c =
    filled 12 _ c.write_image.result c.args.body.now c.write_image.new.out _
    (image (renewed c.args.state.now)) (omega (arith, c.requires.size)) c.write_image.ensures.len
    c.write_image.ensures.written
