use Rattle.run_disk.proofs.EarlierImages.{image_before_write, image_before_sync}
use Rattle.run_disk.proofs.disk_laws.later_calls_change_no_earlier_image.Goals as goal

pub returns-clause-write : goal.returns-clause-write
returns-clause-write c = image_before_write

pub returns-clause-sync : goal.returns-clause-sync
returns-clause-sync c = image_before_sync
