-- What contracts see of a thread's counts.
use Rattle.std.specs.Prelude.{ℕ, ◌+◌, ◌≡◌, ◌≤◌}

-- What contracts see of a thread's counts: the parts and the amount of its share of the starts, and
-- those of its share of the finishes.
pub record OwnCountsView : Type 0 where
  pub start_parts : ℕ
  pub starts : ℕ
  pub finish_parts : ℕ
  pub finishes : ℕ

-- One part of each share, and no amount.
abbrev pub one_part : OwnCountsView
one_part = record { start_parts = 1; starts = 0; finish_parts = 1; finishes = 0 }

-- One more start was counted.
abbrev pub one_start : OwnCountsView → OwnCountsView
one_start own = record own { starts = own.starts + 1 }

-- One more finish was counted.
abbrev pub one_finish : OwnCountsView → OwnCountsView
one_finish own = record own { finishes = own.finishes + 1 }

-- Both counts in one.
abbrev pub joined : OwnCountsView → OwnCountsView → OwnCountsView
joined own other = record {
  start_parts = own.start_parts + other.start_parts;
  starts = own.starts + other.starts;
  finish_parts = own.finish_parts + other.finish_parts;
  finishes = own.finishes + other.finishes;
}

-- After a run of this many workers, whose notes hold this many finishes, the counts have their
-- parts again. They hold those finishes, and as many starts, or at most one more for each worker.
pub record CountsNight (workers noted : ℕ) (own after : OwnCountsView) : Type 0 where
  pub start_parts : after.start_parts ≡ own.start_parts
  pub finish_parts : after.finish_parts ≡ own.finish_parts
  pub finishes : after.finishes ≡ own.finishes + noted
  pub starts : own.starts + noted ≤ after.starts
  pub one_more : after.starts ≤ own.starts + noted + workers

-- ---- for private functions: no public contract cites what follows

-- This many parts of each share were given away.
abbrev pub GivesParts : ℕ → OwnCountsView → OwnCountsView → Type 0
GivesParts parts own after =
    (after.start_parts + parts ≡ own.start_parts)
    × (after.finish_parts + parts ≡ own.finish_parts)

-- The counts stay the same.
abbrev pub CountsSame : OwnCountsView → OwnCountsView → Type 0
CountsSame own after = (after.starts ≡ own.starts) × (after.finishes ≡ own.finishes)

-- This many shifts, whose notes hold this many finishes, were joined into the counts. For each of
-- them it has one more part of each share. It has counted those finishes, and as many starts, or at
-- most one more for each shift.
pub record JoinsShifts (shifts noted : ℕ) (own after : OwnCountsView) : Type 0 where
  pub start_parts : after.start_parts ≡ own.start_parts + shifts
  pub finish_parts : after.finish_parts ≡ own.finish_parts + shifts
  pub finishes : after.finishes ≡ own.finishes + noted
  pub starts : own.starts + noted ≤ after.starts
  pub one_more : after.starts ≤ own.starts + noted + shifts
