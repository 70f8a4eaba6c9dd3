-- What a shelf has under each name, once one of its places has changed.
use Rattle.std.proofs.Common.{◌≡◌, ◌≢◌, ◌∙◌, ℕ, List, Bool, true, false, ap, inl, inr, refl}
use Rattle.std.proofs.Common.{arith, subst, sym}
use Rattle.std.specs.Prelude.{◌+◌, length, nat_eq, slice_range, ⊤, Result, Ok, Err, OnOk}
use Rattle.std.proofs.lemmas.List.{take_all}
use Rattle.std.specs.Cmp.Lexicographic.{bytes_decides, pointwise, same_text}
use Rattle.std.specs.String.{string_bytes}
use Rattle.run_disk.specs.Calls.{Reads}
use Rattle.run_disk.specs.Disk.{DiskState}
use Rattle.run_disk.specs.declared.disks.DiskFailed.{DiskFailed}
use Rattle.program_tests.specs.declared.shelves.Shelf.{Shelf}
use Rattle.program_tests.specs.Shelves.{Gets, Held, IsElsewhereSame, Lies, Loses, Nothing, Spot}
use Rattle.program_tests.specs.Shelves.{Gives, spot_at, spot_of, spot_of_two}

false_of : (xs ys : List ℕ) (r : Bool) → r ≡ pointwise nat_eq xs ys → xs ≢ ys → r ≡ false
false_of xs ys true e n = absurd (n (same_text xs ys e))
false_of xs ys false e n = refl

differ : (xs ys : List ℕ) → xs ≢ ys → pointwise nat_eq xs ys ≡ false
differ xs ys n = false_of xs ys (pointwise nat_eq xs ys) refl n

equal : (xs ys : List ℕ) → xs ≡ ys → pointwise nat_eq xs ys ≡ true
equal xs ys e = (bytes_decides xs ys).1 e

-- ---- of two places

first_of : (b c : Bool) (x y : Spot) → b ≡ true → spot_of_two b c x y ≡ x
first_of true c x y e = refl
first_of false c x y e = absurd (cc)

second_of : (b c : Bool) (x y : Spot) → b ≡ false → c ≡ true → spot_of_two b c x y ≡ y
second_of true c x y e g = absurd (cc)
second_of false true x y e g = refl
second_of false false x y e g = absurd (cc)

none_of : (b c : Bool) (x y : Spot) → b ≡ false → c ≡ false → spot_of_two b c x y ≡ Nothing
none_of true c x y e g = absurd (cc)
none_of false true x y e g = absurd (cc)
none_of false false x y e g = refl

past_first : (b c : Bool) (x y z : Spot) → b ≡ false → spot_of_two b c x z ≡ spot_of_two b c y z
past_first true c x y z e = absurd (cc)
past_first false true x y z e = refl
past_first false false x y z e = refl

past_second : (b c : Bool) (x y z : Spot) → c ≡ false → spot_of_two b c x y ≡ spot_of_two b c x z
past_second true c x y z e = refl
past_second false true x y z e = absurd (cc)
past_second false false x y z e = refl

-- the second place was free, and is for another file now
past_taken : (b c d : Bool) (x y : Spot) → d ≡ false
    → spot_of_two b d x y ≡ spot_of_two b c x Nothing
past_taken true c d x y e = refl
past_taken false c true x y e = absurd (cc)
past_taken false true false x y e = refl
past_taken false false false x y e = refl

-- ---- of a shelf

pub first_is : (f : Shelf) (name : List ℕ) → name ≡ string_bytes f.first.name
    → spot_at f name ≡ spot_of f.first.kept
unfolding spot_at
first_is f name e =
    first_of (pointwise nat_eq name (string_bytes f.first.name))
    (pointwise nat_eq name (string_bytes f.second.name)) (spot_of f.first.kept)
    (spot_of f.second.kept) (equal name (string_bytes f.first.name) e)

pub second_is : (f : Shelf) (name : List ℕ) → name ≢ string_bytes f.first.name
    → name ≡ string_bytes f.second.name → spot_at f name ≡ spot_of f.second.kept
unfolding spot_at
second_is f name n e =
    second_of (pointwise nat_eq name (string_bytes f.first.name))
    (pointwise nat_eq name (string_bytes f.second.name)) (spot_of f.first.kept)
    (spot_of f.second.kept) (differ name (string_bytes f.first.name) n)
    (equal name (string_bytes f.second.name) e)

pub none_is : (f : Shelf) (name : List ℕ) → name ≢ string_bytes f.first.name
    → name ≢ string_bytes f.second.name → spot_at f name ≡ Nothing
unfolding spot_at
none_is f name n m =
    none_of (pointwise nat_eq name (string_bytes f.first.name))
    (pointwise nat_eq name (string_bytes f.second.name)) (spot_of f.first.kept)
    (spot_of f.second.kept) (differ name (string_bytes f.first.name) n)
    (differ name (string_bytes f.second.name) m)

-- nothing else than the places counts
pub same_spot : (f0 f1 : Shelf) (name : List ℕ) → f1.first ≡ f0.first → f1.second ≡ f0.second
    → spot_at f1 name ≡ spot_at f0 name
unfolding spot_at
same_spot f0 f1 name e g = rw e (rw g refl)

-- its first place has another content
pub first_elsewhere : (f0 f1 : Shelf) (name : List ℕ) → name ≡ string_bytes f0.first.name
    → f1.first.name ≡ f0.first.name → f1.second ≡ f0.second → IsElsewhereSame name f0 f1
unfolding spot_at
first_elsewhere f0 f1 name e names same other n =
    rw names (rw same (past_first (pointwise nat_eq other (string_bytes f0.first.name))
    (pointwise nat_eq other (string_bytes f0.second.name)) (spot_of f1.first.kept)
    (spot_of f0.first.kept) (spot_of f0.second.kept)
    (differ other (string_bytes f0.first.name) (λ q. n (q ∙ sym e)))))

-- its second place has
pub second_elsewhere : (f0 f1 : Shelf) (name : List ℕ) → name ≡ string_bytes f0.second.name
    → f1.second.name ≡ f0.second.name → f1.first ≡ f0.first → IsElsewhereSame name f0 f1
unfolding spot_at
second_elsewhere f0 f1 name e names same other n =
    rw names (rw same (past_second (pointwise nat_eq other (string_bytes f0.first.name))
    (pointwise nat_eq other (string_bytes f0.second.name)) (spot_of f0.first.kept)
    (spot_of f1.second.kept) (spot_of f0.second.kept)
    (differ other (string_bytes f0.second.name) (λ q. n (q ∙ sym e)))))

-- its second place was free, and is for this file now
pub taken_elsewhere : (f0 f1 : Shelf) (name : List ℕ) → name ≡ string_bytes f1.second.name
    → spot_of f0.second.kept ≡ Nothing → f1.first ≡ f0.first → IsElsewhereSame name f0 f1
unfolding spot_at
taken_elsewhere f0 f1 name e free same other n =
    rw same (rw free (past_taken (pointwise nat_eq other (string_bytes f0.first.name))
    (pointwise nat_eq other (string_bytes f0.second.name))
    (pointwise nat_eq other (string_bytes f1.second.name)) (spot_of f0.first.kept)
    (spot_of f1.second.kept)
    (differ other (string_bytes f1.second.name) (λ q. n (q ∙ sym e)))))

-- ---- of what was put into a place

pub first_gets : (f0 f1 : Shelf) (name : List ℕ) → name ≡ string_bytes f0.first.name
    → f1.first.name ≡ f0.first.name → f1.second ≡ f0.second
    → Gets f0 name (spot_of f1.first.kept) f1
first_gets f0 f1 name e names same = record {
  has = inl (first_is f1 name (e ∙ ap string_bytes (sym names)));
  elsewhere = first_elsewhere f0 f1 name e names same;
}

pub second_gets : (f0 f1 : Shelf) (name : List ℕ) → name ≢ string_bytes f0.first.name
    → name ≡ string_bytes f0.second.name → f1.second.name ≡ f0.second.name
    → f1.first ≡ f0.first → Gets f0 name (spot_of f1.second.kept) f1
second_gets f0 f1 name n e names same = record {
  has = inl (second_is f1 name
      (subst (λ p. name ≢ string_bytes p.name) (sym same) n)
      (e ∙ ap string_bytes (sym names)));
  elsewhere = second_elsewhere f0 f1 name e names same;
}

pub none_gets : (f : Shelf) (name : List ℕ) (spot : Spot) → name ≢ string_bytes f.first.name
    → name ≢ string_bytes f.second.name → Gets f name spot f
none_gets f name spot n m = record {
  has = inr (none_is f name n m, refl);
  elsewhere = λ other others. refl;
}

-- there was a file
pub gets_over : (f0 f1 : Shelf) (name : List ℕ) (spot : Spot) → Gets f0 name spot f1
    → spot_at f0 name ≢ Nothing → spot_at f1 name ≡ spot
gets_over f0 f1 name spot gets there = elim gets.has [
  | inl has ↦ has
  | inr none ↦ absurd (there none.0)
]

pub gets_none : (f f0 f1 : Shelf) (name : List ℕ) → f.first ≡ f0.first → f.second ≡ f0.second
    → Gets f name Nothing f1 → Loses f0 name f1
gets_none f f0 f1 name e g gets = record {
  gone = elim gets.has [
    | inl has ↦ has
    | inr none ↦ subst (λ h. spot_at h name ≡ Nothing) (sym none.1) none.0
  ];
  elsewhere = λ other n. gets.elsewhere other n ∙ same_spot f0 f other e g;
}

pub lies_there : (spot : Spot) (bytes : List ℕ) → spot ≡ Lies bytes → spot ≢ Nothing
lies_there spot bytes lies none = cc

pub held_there : (spot : Spot) → spot ≡ Held → spot ≢ Nothing
held_there spot held none = cc

pub same_bytes : (x y : List ℕ) → Lies x ≡ Lies y → x ≡ y
same_bytes x y e = cc

-- ---- a reading

whole : (xs : List ℕ) (n : ℕ) → n ≡ length xs → slice_range xs 0 (0 + n) ≡ xs
whole xs n e = take_all _ xs (omega (arith, e))

-- A reading of all of a disk gives what reads give of it.
pub gives_all : (given left : DiskState) (bytes : List ℕ) (size : ℕ) (r : Result ⊤ DiskFailed)
    → size ≡ length given.now
    → Reads given left
    → OnOk r (bytes ≡ slice_range given.now 0 (0 + size))
    → OnOk r (Gives given bytes left)
gives_all given left bytes size (Ok x) e reads is = record {
  bytes_are = is ∙ whole given.now size e;
  same = reads.now;
}
gives_all given left bytes size (Err why) e reads is = tt
