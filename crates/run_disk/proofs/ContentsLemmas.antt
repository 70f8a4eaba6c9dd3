-- Contents that agree outside a range.
use Rattle.std.proofs.Common.{◌≤◌, ◌+◌, ℕ, List, refl, ◌∙◌, arith}
use Rattle.run_disk.specs.Contents.{SameOutside}

-- nothing has changed
pub same_all : (at n : ℕ) (x : List ℕ) → SameOutside at n x x
same_all at n x = record { size = refl; before = λ i below. refl; behind = λ i above. refl }

-- one change after another in the same range
pub same_after : (at n : ℕ) (x y z : List ℕ)
    → SameOutside at n x y → SameOutside at n y z → SameOutside at n x z
same_after at n x y z first second = record {
  size = second.size ∙ first.size;
  before = λ i below. second.before i below ∙ first.before i below;
  behind = λ i above. second.behind i above ∙ first.behind i above;
}

-- a change in a range is one in a wider range
pub same_wider : (at n from m : ℕ) (x y : List ℕ)
    → SameOutside at n x y → from ≤ at → at + n ≤ from + m → SameOutside from m x y
same_wider at n from m x y same left right = record {
  size = same.size;
  before = λ i below. same.before i (omega arith);
  behind = λ i above. same.behind i (omega arith);
}
