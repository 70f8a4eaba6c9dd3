-- Writing bytes one after another is writing them at once.
use Rattle.std.proofs.Common.{◌≡◌, ℕ, ◌+◌, ◌≤◌, List, [], ◌++◌, length, take, drop, sym, ap, ◌∙◌}
use Rattle.std.proofs.Common.{arith, append-nil, append_assoc, length-append}
use Rattle.std.proofs.lemmas.List.{length-take-le, drop-drop, take-append-drop}
use Rattle.row_view.proofs.Fields.{seam}
use Rattle.row_view.specs.Writing.{put_at}

pub put_nothing : (old : List ℕ) (at : ℕ) → old ≡ put_at old at []
unfolding put_at
put_nothing old at =
    sym (ap (λ l. l ++ drop (at + 0) old) (append-nil (take at old))
    ∙ ap (λ n. take at old ++ drop n old) (omega arith) ∙ take-append-drop at old)

pub put_then :
    (old : List ℕ) (at m : ℕ) (x y : List ℕ) → m ≡ at + length x → m ≤ length old →
    put_at (put_at old at x) m y ≡ put_at old at (x ++ y)
unfolding put_at
put_then old at m x y e room =
    let prefix = take at old ++ x in
    let behind = drop (at + length x) old in
    let size : length prefix ≡ m =
    length-append (take at old) x
    ∙ ap (λ n. n + length x) (length-take-le at old (omega arith)) ∙ sym e in
    let parts = seam prefix behind m size in
    let rest : drop (m + length y) (prefix ++ behind) ≡ drop (at + length (x ++ y)) old =
    sym (drop-drop (length y) m (prefix ++ behind))
    ∙ ap (λ l. drop (length y) l) parts.1
    ∙ drop-drop (length y) (at + length x) old
    ∙ ap (λ n. drop n old) (omega (arith, length-append x y)) in
    ap (λ l. l ++ y ++ drop (m + length y) (prefix ++ behind)) (sym parts.0)
    ∙ ap (λ l. (prefix ++ y) ++ l) rest
    ∙ ap (λ l. l ++ drop (at + length (x ++ y)) old) (append_assoc (take at old) x y)

pub put_three :
    (old : List ℕ) (at m n : ℕ) (x y z : List ℕ) →
    m ≡ at + length x → n ≡ m + length y → n ≤ length old →
    put_at (put_at (put_at old at x) m y) n z ≡ put_at old at (x ++ y ++ z)
put_three old at m n x y z e f room =
    ap (λ l. put_at l n z) (put_then old at m x y e (omega arith))
    ∙ put_then old at n (x ++ y) z (omega (arith, length-append x y)) room
