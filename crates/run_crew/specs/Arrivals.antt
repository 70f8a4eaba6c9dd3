-- How the counts of the threads on their way to the lock change. No public contract cites this.
--
-- The threads on their way and those that sleep are the threads that came and haven't left. A
-- thread that goes to sleep, or is awake again, moves from the one number to the other.
use Rattle.std.specs.Prelude.{ℕ, ◌+◌, ◌-◌, ◌%◌, ◌^◌, ◌==◌, if◌then◌else◌, min}
use Rattle.run_crew.specs.declared.arrival_counts.ArrivalCounts.{ArrivalCounts}

-- The count, or the greatest one.
abbrev pub at_most : ℕ → ℕ
at_most n = min n (2 ^ 64 - 1)

-- One more thread is on its way.
abbrev pub came : ArrivalCounts → ArrivalCounts
came c = record c { awake = at_most (c.awake + 1) }

-- One thread fewer is on its way.
abbrev pub left : ArrivalCounts → ArrivalCounts
left c = record c { awake = c.awake - 1 }

-- One thread sleeps that was on its way.
abbrev pub slept : ArrivalCounts → ArrivalCounts
slept c = record c { awake = c.awake - 1; asleep = at_most (c.asleep + 1) }

-- One thread that slept is on its way again, unless the number of flushes isn't this one any more:
-- then a flush has counted the thread already.
abbrev pub woke : ℕ → ArrivalCounts → ArrivalCounts
woke flushes c =
    if c.flushes == flushes
    then record c { awake = at_most (c.awake + 1); asleep = c.asleep - 1 }
    else c

-- One more flush was made, and every thread that slept is on its way again.
abbrev pub saved : ArrivalCounts → ArrivalCounts
saved c = record {
  awake = at_most (c.awake + c.asleep);
  asleep = 0;
  flushes = (c.flushes + 1) % 2 ^ 64;
}
