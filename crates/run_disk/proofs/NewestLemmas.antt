-- The newest of some writes at a place.
use Rattle.run_model.proofs.Common.{◌≡◌, ◌<◌, ◌+◌, ℕ, Bool, true, false, ◌||◌, List, [], ◌∷◌}
use Rattle.run_model.proofs.Common.{Option, None, Some, ◌++◌, length, get_or, suc, slice_index_or}
use Rattle.run_model.proofs.Common.{take, refl, sym, ◌∙◌, ap, arith, unwrap_or, option_or}
use Rattle.run_model.proofs.Common.{list_any, All, All-nil}
use Rattle.std.proofs.lemmas.List.Elements.{All-cons}
use Rattle.std.proofs.lemmas.List.{take_more}
use Rattle.run_disk.specs.Writes.{Write}
use Rattle.run_disk.specs.History.{PutsOver, newest, byte_put}

-- nothing found, and then another
option_or-none : {T : Type 0} → (o : Option T) → option_or o None ≡ o
option_or-none None = refl
option_or-none (Some x) = refl

option_or-assoc : {T : Type 0} → (a b c : Option T)
    → option_or (option_or a b) c ≡ option_or a (option_or b c)
option_or-assoc None b c = refl
option_or-assoc (Some x) b c = refl

unwrap_or-option_or : {T : Type 0} → (a b : Option T) (d : T)
    → unwrap_or (option_or a b) d ≡ unwrap_or a (unwrap_or b d)
unwrap_or-option_or None b d = refl
unwrap_or-option_or (Some x) b d = refl

-- one more write decides the byte if it reaches the place
pub newest-push : (left : Write → List ℕ) (ws : List Write) (w : Write) (i : ℕ)
    → newest left (ws ++ w ∷ []) i ≡ option_or (byte_put w.at (left w) i) (newest left ws i)
newest-push left [] w i = sym (option_or-none (byte_put w.at (left w) i))
newest-push left (v ∷ ws) w i =
    ap (λ o. option_or o (byte_put v.at (left v) i)) (newest-push left ws w i)
    ∙ option_or-assoc (byte_put w.at (left w) i) (newest left ws i) (byte_put v.at (left v) i)

pub byte-push : (left : Write → List ℕ) (ws : List Write) (w : Write) (i d : ℕ)
    → unwrap_or (newest left (ws ++ w ∷ []) i) d
    ≡ unwrap_or (byte_put w.at (left w) i) (unwrap_or (newest left ws i) d)
byte-push left ws w i d =
    ap (λ o. unwrap_or o d) (newest-push left ws w i)
    ∙ unwrap_or-option_or (byte_put w.at (left w) i) (newest left ws i) d

-- what holds of each element holds of the first, and of each of the others
pub all-head : {X : Type 0} (P : X → Type 0) (x : X) (xs : List X) → All P (x ∷ xs) → P x
all-head P x xs all = all 0 x (omega arith)

pub all-tail : {X : Type 0} (P : X → Type 0) (x : X) (xs : List X) → All P (x ∷ xs) → All P xs
all-tail P x xs all = λ k d below. all (suc k) d (omega arith)

-- two ways to leave writes that give the place the same bytes
pub newest-same : (one other : Write → List ℕ) (ws : List Write) (i : ℕ)
    → All (λ w. byte_put w.at (one w) i ≡ byte_put w.at (other w) i) ws
    → newest one ws i ≡ newest other ws i
newest-same one other [] i same = refl
newest-same one other (w ∷ ws) i same =
    let P = λ (v : Write). byte_put v.at (one v) i ≡ byte_put v.at (other v) i in
    ap (λ o. option_or o (byte_put w.at (one w) i))
    (newest-same one other ws i (all-tail P w ws same))
    ∙ ap (option_or (newest other ws i)) (all-head P w ws same)

-- two tests that agree on each element
pub list_any-same : {X : Type 0} (p q : X → Bool) (xs : List X)
    → All (λ x. p x ≡ q x) xs → list_any p xs ≡ list_any q xs
list_any-same p q [] same = refl
list_any-same p q (x ∷ xs) same =
    let rest = list_any-same p q xs (all-tail (λ y. p y ≡ q y) x xs same) in
    let here = all-head (λ y. p y ≡ q y) x xs same in
    simp (here, rest)

neither : (a b : Bool) → (a || b) ≡ false → (a ≡ false) × (b ≡ false)
neither true b fails = cc
neither false b fails = (refl, fails)

-- a test that no element passes
pub list_any-false : {X : Type 0} (p : X → Bool) (xs : List X)
    → list_any p xs ≡ false → All (λ x. p x ≡ false) xs
list_any-false p [] none = All-nil (λ x. p x ≡ false)
list_any-false p (x ∷ xs) none =
    let parts = neither (p x) (list_any p xs) none in
    All-cons (λ y. p y ≡ false) x xs parts.0 (list_any-false p xs parts.1)

-- one write more, put over the window that the others left
pub byte-next : (left : Write → List ℕ) (ws : List Write) (n : ℕ) (w : Write) (from : ℕ)
    (first mid new : List ℕ) → n < length ws → w ≡ slice_index_or ws n w
    → ((i : ℕ) → i < length first → get_or mid i 0
    ≡ unwrap_or (newest left (take n ws) (from + i)) (get_or first i 0))
    → length mid ≡ length first → PutsOver from w.at (left w) mid new
    → (i : ℕ) → i < length first → get_or new i 0
    ≡ unwrap_or (newest left (take (n + 1) ws) (from + i)) (get_or first i 0)
byte-next left ws n w from first mid new within is before size put i below =
    let more : take (n + 1) ws ≡ take n ws ++ w ∷ [] =
    take_more ws n w within ∙ ap (λ v. take n ws ++ v ∷ []) (sym is) in
    put.bytes i (omega (arith, size))
    ∙ ap (unwrap_or (byte_put w.at (left w) (from + i))) (before i below)
    ∙ sym (byte-push left (take n ws) w (from + i) (get_or first i 0))
    ∙ ap (λ vs. unwrap_or (newest left vs (from + i)) (get_or first i 0)) (sym more)
