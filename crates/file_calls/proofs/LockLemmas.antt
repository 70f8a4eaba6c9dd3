-- A lock that is taken alone, and the locks that are held after some calls.
use Rattle.std.proofs.Common.{◌≡◌, ◌⊎◌, ◌∷◌, [], ◌++◌, ◌&&◌, ◌||◌, ◌∙◌, true, false, ℕ, Bool}
use Rattle.std.proofs.Common.{List, arith, refl, ap, sym, inl, inr, not}
use Rattle.std.specs.Prelude.{fold, nat_eq, if◌then◌else◌}
use Rattle.std.specs.List.{Contains, list_any}
use Rattle.std.proofs.Math.Bool.{and-true}
use Rattle.std.proofs.lemmas.Bool.Decides.{nat_tests}
use Rattle.std.proofs.lemmas.List.Elements.{All-contains, All-contains_itself, All-filter}
use Rattle.std.proofs.lemmas.List.Elements.{Contains-push_cases}
use Rattle.std.proofs.lemmas.List.Folds.{list_any_at}
use Rattle.file_calls.specs.declared.locks.Lock.{Lock}
use Rattle.file_calls.specs.Locks.{Ask, Close, LockCall, excludes, held_by, without}

on_same_file : (lock other : Lock) → lock.is_alone ≡ true
    → excludes lock other ≡ nat_eq other.file lock.file
on_same_file lock other alone =
    ap (λ is_alone. nat_eq other.file lock.file && (is_alone || other.is_alone)) alone
    ∙ and-true (nat_eq other.file lock.file)

same_any : (p q : Lock → Bool) → ((lock : Lock) → p lock ≡ q lock) → (held : List Lock)
    → list_any p held ≡ list_any q held
same_any p q same [] = refl
same_any p q same (lock ∷ held) =
    let first = same lock in
    let rest = same_any p q same held in
    cc

pub alone_excludes_all : (lock : Lock) (held : List Lock) → lock.is_alone ≡ true
    → list_any (excludes lock) held ≡ false
    → list_any (λ other. nat_eq other.file lock.file) held ≡ false
alone_excludes_all lock held alone free =
    sym (same_any (excludes lock) (λ other. nat_eq other.file lock.file)
    (λ other. on_same_file lock other alone) held)
    ∙ free

-- of two locks on a file one of which is alone, both belong to one opening
abbrev pub AreApart : List Lock → Type 0
AreApart held = (lock other : Lock) → Contains held lock → Contains held other
    → lock.is_alone ≡ true → other.file ≡ lock.file → other.holder ≡ lock.holder

any_of : (p : Lock → Bool) (held : List Lock) (lock : Lock) → Contains held lock
    → p lock ≡ true → list_any p held ≡ true
any_of p held lock among passes =
    list_any_at p held among.0 lock among.1 (ap p among.2 ∙ passes)

same_file : (a b : Lock) → a.file ≡ b.file → nat_eq a.file b.file ≡ true
same_file a b e = grind (arith, nat_tests, e)

-- a lock that is held excludes a new one on its file, if either is alone
excluded : (held : List Lock) (lock other : Lock) → list_any (excludes lock) held ≡ false
    → Contains held other → other.file ≡ lock.file
    → (lock.is_alone || other.is_alone) ≡ true → ⊥
excluded held lock other free among file alone =
    let is : (nat_eq other.file lock.file && (lock.is_alone || other.is_alone)) ≡ true =
    rw (same_file other lock file) alone in
    let any : list_any (excludes lock) held ≡ true =
    any_of (excludes lock) held other among is in
    absurd cc

or-true : (b : Bool) → (b || true) ≡ true
or-true true = refl
or-true false = refl

apart_more : (held : List Lock) (taken : Lock) → list_any (excludes taken) held ≡ false
    → AreApart held → AreApart (held ++ taken ∷ [])
apart_more held taken free apart lock other in_lock in_other alone file =
    go (Contains-push_cases held taken lock in_lock) (Contains-push_cases held taken other in_other)
  where
    go : Contains held lock ⊎ (taken ≡ lock) → Contains held other ⊎ (taken ≡ other)
        → other.holder ≡ lock.holder
    go (inl a) (inl b) = apart lock other a b alone file
    go (inr a) (inr b) = ap (λ it. it.holder) (sym b ∙ a)
    go (inl a) (inr b) = absurd (excluded held taken lock free a
        (sym file ∙ ap (λ it. it.file) (sym b))
        (rw alone (or-true taken.is_alone)))
    go (inr a) (inl b) = absurd (excluded held taken other free b
        (file ∙ ap (λ it. it.file) (sym a))
        (rw (ap (λ it. it.is_alone) a ∙ alone) refl))

apart_fewer : (held left : List Lock) → ((lock : Lock) → Contains left lock → Contains held lock)
    → AreApart held → AreApart left
apart_fewer held left fewer apart lock other in_lock in_other =
    apart lock other (fewer lock in_lock) (fewer other in_other)

still_held : (holder : ℕ) (held : List Lock) (lock : Lock) → Contains (without holder held) lock
    → Contains held lock
still_held holder held lock =
    All-contains (Contains held) (without holder held) lock
    (All-filter (λ it. not (nat_eq it.holder holder)) (Contains held) held
    (All-contains_itself held))

apart_by : (held : List Lock) (call : LockCall) → AreApart held → AreApart (held_by held call)
apart_by held (Ask lock) apart = go (list_any (excludes lock) held) refl
  where
    go : (is_busy : Bool) → list_any (excludes lock) held ≡ is_busy
        → AreApart (if is_busy then held else held ++ lock ∷ [])
    go true busy = apart
    go false free = apart_more held lock free apart
apart_by held (Close holder) apart =
    apart_fewer held (without holder held) (still_held holder held) apart

apart_after : (held : List Lock) (calls : List LockCall) → AreApart held
    → AreApart (fold held_by held calls)
apart_after held [] apart = apart
apart_after held (call ∷ calls) apart =
    apart_after (held_by held call) calls (apart_by held call apart)

pub always_apart : (calls : List LockCall) → AreApart (fold held_by [] calls)
always_apart calls =
    apart_after [] calls (λ lock other among. absurd (omega (arith, among.1)))
