-- Later calls don't change what a crash after earlier calls leaves.
use Rattle.std.proofs.Common.{◌≤◌, ◌↔◌, ℕ, List, sym, ◌∙◌}
use Rattle.run_disk.specs.Writes.{Write, History, and_write, and_sync}
use Rattle.run_disk.specs.History.{IsImage}
use Rattle.run_disk.proofs.MomentLemmas.{byte_after-later_write, is_unsynced-later_write}
use Rattle.run_disk.proofs.MomentLemmas.{byte_after-later_sync, is_unsynced-later_sync}

pub image_before_write : (h : History) (w : Write) (k : ℕ) (x : List ℕ) → k ≤ w.moment
    → IsImage (and_write h w) k x ↔ IsImage h k x
image_before_write h w k x later =
    let torn = λ (i : ℕ). is_unsynced-later_write h w k i later in
    let byte = λ (i : ℕ). byte_after-later_write h w k i later in (
      λ image. record {
        size = image.size;
        bytes = λ i within whole. image.bytes i within (torn i ∙ whole) ∙ byte i;
      },
      λ image. record {
        size = image.size;
        bytes = λ i within whole. image.bytes i within (sym (torn i) ∙ whole) ∙ sym (byte i);
      },
    )

pub image_before_sync : (h : History) (moment k : ℕ) (x : List ℕ) → k ≤ moment
    → IsImage (and_sync h moment) k x ↔ IsImage h k x
image_before_sync h moment k x later =
    let torn = λ (i : ℕ). is_unsynced-later_sync h moment k i later in
    let byte = λ (i : ℕ). byte_after-later_sync h moment k i in (
      λ image. record {
        size = image.size;
        bytes = λ i within whole. image.bytes i within (torn i ∙ whole) ∙ byte i;
      },
      λ image. record {
        size = image.size;
        bytes = λ i within whole. image.bytes i within (sym (torn i) ∙ whole) ∙ sym (byte i);
      },
    )
