-- Rows that were written field by field.
use Rattle.std.proofs.Common.{◌≡◌, ℕ, ◌+◌, ◌≤◌, List, ◌++◌, length, ◌∙◌, ap, arith, length-append}
use Rattle.row_view.specs.Writing.{put_at}
use Rattle.row_view.proofs.Joins.{put_then, put_three}

-- The lengths of four, five and six parts.
pub length_four :
    (w x y z : List ℕ) → length (w ++ x ++ y ++ z) ≡ length w + length x + length y + length z
length_four w x y z =
    omega (arith, length-append (w ++ x ++ y) z, length-append (w ++ x) y, length-append w x)

pub length_five :
    (v w x y z : List ℕ) → length (v ++ w ++ x ++ y ++ z)
    ≡ length v + length w + length x + length y + length z
length_five v w x y z =
    omega (arith, length-append (v ++ w ++ x ++ y) z, length_four v w x y)

pub length_six :
    (u v w x y z : List ℕ) → length (u ++ v ++ w ++ x ++ y ++ z)
    ≡ length u + length v + length w + length x + length y + length z
length_six u v w x y z =
    omega (arith, length-append (u ++ v ++ w ++ x ++ y) z, length_five u v w x y)

-- ---- four, five and six puts are one

pub put_four :
    (old : List ℕ) (at m n k : ℕ) (w x y z : List ℕ) →
    m ≡ at + length w → n ≡ m + length x → k ≡ n + length y → k ≤ length old →
    put_at (put_at (put_at (put_at old at w) m x) n y) k z ≡ put_at old at (w ++ x ++ y ++ z)
put_four old at m n k w x y z e f g room =
    ap (λ l. put_at l k z) (put_three old at m n w x y e f (omega arith))
    ∙ put_then old at k (w ++ x ++ y) z
    (omega (arith, length-append (w ++ x) y, length-append w x)) room

pub put_five :
    (old : List ℕ) (at m n k j : ℕ) (v w x y z : List ℕ) →
    m ≡ at + length v → n ≡ m + length w → k ≡ n + length x → j ≡ k + length y →
    j ≤ length old →
    put_at (put_at (put_at (put_at (put_at old at v) m w) n x) k y) j z
    ≡ put_at old at (v ++ w ++ x ++ y ++ z)
put_five old at m n k j v w x y z e f g h room =
    ap (λ l. put_at l j z) (put_four old at m n k v w x y e f g (omega arith))
    ∙ put_then old at j (v ++ w ++ x ++ y) z
    (omega (arith, length-append (v ++ w ++ x) y, length-append (v ++ w) x, length-append v w)) room

pub put_six :
    (old : List ℕ) (at m n k j i : ℕ) (u v w x y z : List ℕ) →
    m ≡ at + length u → n ≡ m + length v → k ≡ n + length w → j ≡ k + length x →
    i ≡ j + length y → i ≤ length old →
    put_at (put_at (put_at (put_at (put_at (put_at old at u) m v) n w) k x) j y) i z
    ≡ put_at old at (u ++ v ++ w ++ x ++ y ++ z)
put_six old at m n k j i u v w x y z e f g h p room =
    ap (λ l. put_at l i z) (put_five old at m n k j u v w x y e f g h (omega arith))
    ∙ put_then old at i (u ++ v ++ w ++ x ++ y) z
    (omega (
      arith,
      length-append (u ++ v ++ w ++ x) y,
      length-append (u ++ v ++ w) x,
      length-append (u ++ v) w,
      length-append u v,
    )) room
