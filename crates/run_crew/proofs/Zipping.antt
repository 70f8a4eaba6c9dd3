-- Two lists, each element of which has its counterpart at the same place of the other one.
use Rattle.std.proofs.Common.{◌≡◌, ◌⊎◌, ◌+◌, ◌<◌, ◌∙◌, ℕ, List, [], ◌∷◌, ◌++◌, length, map, ap}
use Rattle.std.proofs.Common.{append-nil, arith, inl, inr, refl, subst, suc, sym}
use Rattle.std.specs.List.{AllZip}
use Rattle.std.specs.Prelude.{Err, IfOk, Ok, Result}

pub zip_push : {A B : Type 0} (R : A → B → Type 0) (xs : List A) (ys : List B) (x : A) (y : B)
    → AllZip R xs ys → R x y → AllZip R (xs ++ x ∷ []) (ys ++ y ∷ [])
zip_push R [] [] x y zip is = (is, tt)
zip_push R [] (b ∷ ys) x y zip is = absurd zip
zip_push R (a ∷ xs) [] x y zip is = absurd zip
zip_push R (a ∷ xs) (b ∷ ys) x y zip is = (zip.0, zip_push R xs ys x y zip.1 is)

pub zip_length : {A B : Type 0} (R : A → B → Type 0) (xs : List A) (ys : List B)
    → AllZip R xs ys → length xs ≡ length ys
zip_length R [] [] zip = refl
zip_length R [] (b ∷ ys) zip = absurd zip
zip_length R (a ∷ xs) [] zip = absurd zip
zip_length R (a ∷ xs) (b ∷ ys) zip = ap suc (zip_length R xs ys zip.1)

pub zip_of_maps : {A B C D : Type 0} (R : C → D → Type 0) (f : A → C) (g : B → D) (xs : List A)
    (ys : List B) → AllZip R (map f xs) (map g ys) → AllZip (λ x y. R (f x) (g y)) xs ys
zip_of_maps R f g [] [] zip = tt
zip_of_maps R f g [] (b ∷ ys) zip = absurd zip
zip_of_maps R f g (a ∷ xs) [] zip = absurd zip
zip_of_maps R f g (a ∷ xs) (b ∷ ys) zip = (zip.0, zip_of_maps R f g xs ys zip.1)

maps_of_zip : {A B C D : Type 0} (R : C → D → Type 0) (f : A → C) (g : B → D) (xs : List A)
    (ys : List B) → AllZip (λ x y. R (f x) (g y)) xs ys → AllZip R (map f xs) (map g ys)
maps_of_zip R f g [] [] zip = tt
maps_of_zip R f g [] (b ∷ ys) zip = absurd zip
maps_of_zip R f g (a ∷ xs) [] zip = absurd zip
maps_of_zip R f g (a ∷ xs) (b ∷ ys) zip = (zip.0, maps_of_zip R f g xs ys zip.1)

pub zip_none : {A B : Type 0} (R : A → B → Type 0) (ys : List B) (n : ℕ) → n ≡ 0
    → n ≡ length ys → AllZip R [] ys
zip_none R [] n none counts = tt
zip_none R (b ∷ ys) n none counts = absurd (omega (arith, none, counts))

-- ---- a list that is made from another, element by element

-- Of the elements to come some are there, and some are left; or one was left out.
abbrev pub Takes : {A B C : Type 0} → (A → C) → (B → C) → ℕ → ℕ → ℕ → List A → List B → List C
    → Type 0
Takes f g n had left xs ys all = (had + left < n) ⊎ (map f xs ++ map g ys ≡ all)

map_push : {A C : Type 0} (f : A → C) (xs : List A) (x : A) (rest : List C)
    → map f (xs ++ x ∷ []) ++ rest ≡ map f xs ++ f x ∷ rest
map_push f [] x rest = refl
map_push f (a ∷ xs) x rest = ap (λ l. f a ∷ l) (map_push f xs x rest)

-- None has been taken yet.
pub takes_all : {A C : Type 0} (f : A → C) (xs : List A) (n : ℕ) (rest all : List C) → n ≡ 0
    → n ≡ length xs → rest ≡ all → map f xs ++ rest ≡ all
takes_all f [] n rest all none counts same = same
takes_all f (x ∷ xs) n rest all none counts same = absurd (omega (arith, none, counts))

pub pushes : {A B C : Type 0} (f : A → C) (g : B → C) (xs xs' : List A) (x : A) (ys ys' : List B)
    (y : B) (all : List C) → xs' ≡ xs ++ x ∷ [] → ys ≡ y ∷ ys' → f x ≡ g y
    → map f xs ++ map g ys ≡ all → map f xs' ++ map g ys' ≡ all
pushes f g xs xs' x ys ys' y all pushed first same is =
    ap (λ l. map f l ++ map g ys') pushed
    ∙ (map_push f xs x (map g ys')
    ∙ (ap (λ c. map f xs ++ c ∷ map g ys') same
    ∙ (ap (λ l. map f xs ++ map g l) (sym first) ∙ is)))

pub takes_one : {A B C : Type 0} (f : A → C) (g : B → C) (n had left has' left' : ℕ)
    (xs xs' : List A) (x : A) (ys ys' : List B) (y : B) (all : List C) → has' ≡ had + 1
    → left' + 1 ≡ left → xs' ≡ xs ++ x ∷ [] → ys ≡ y ∷ ys' → f x ≡ g y
    → Takes f g n had left xs ys all → Takes f g n has' left' xs' ys' all
takes_one f g n had left has' left' xs xs' x ys ys' y all more less pushed first same (inl few) =
    inl (omega (arith, more, less, few))
takes_one f g n had left has' left' xs xs' x ys ys' y all more less pushed first same (inr is) =
    inr (pushes f g xs xs' x ys ys' y all pushed first same is)

-- A relation between each element and its counterpart is one between the parts that both lists
-- show, if no element was left out.
pub zip_taken : {A B C D : Type 0} (R : C → D → Type 0) (f : A → C) (g : B → C) (m n k : ℕ)
    (xs : List A) (ys : List B) (es : List D) → (m < n) ⊎ (map f xs ≡ map g ys) → m ≡ length xs
    → k ≡ length es → k ≡ n → AllZip (λ x e. R (f x) e) xs es → AllZip (λ y e. R (g y) e) ys es
zip_taken R f g m n k xs ys es (inl few) is_m is_k same zip =
    absurd (omega (arith, few, is_m, is_k, same, zip_length (λ x e. R (f x) e) xs es zip))
zip_taken R f g m n k xs ys es (inr shown) is_m is_k same zip =
    zip_of_maps R g (λ e. e) ys es
    (subst (λ l. AllZip R l (map (λ e. e) es)) shown (maps_of_zip R f (λ e. e) xs es zip))

-- If none is left, all have been taken.
pub zip_all : {A B : Type 0} (R : A → B → Type 0) (taken rest all : List A) (ys : List B)
    → taken ++ rest ≡ all → rest ≡ [] → AllZip R taken ys → AllZip R all ys
zip_all R taken rest all ys is none zip =
    subst (λ l. AllZip R l ys)
    (sym (append-nil taken) ∙ (ap (λ l. taken ++ l) (sym none) ∙ is)) zip

pub takes_done : {A B C : Type 0} (f : A → C) (g : B → C) (n had left : ℕ) (xs : List A)
    (ys : List B) (all : List C) → Takes f g n had left xs ys all → ys ≡ []
    → (had < n) ⊎ (map f xs ≡ all)
takes_done f g n had left xs ys all (inl few) none = inl (omega (arith, few))
takes_done f g n had left xs ys all (inr is) none =
    inr (sym (append-nil (map f xs)) ∙ (ap (λ l. map f xs ++ map g l) (sym none) ∙ is))

-- A fact about the value of a result follows from two others.
pub ok_then : {X E : Type 0} (P Q R : X → Type 0) → ((x : X) → P x → Q x → R x)
    → (r : Result X E) → IfOk r P → IfOk r Q → IfOk r R
ok_then P Q R each (Ok x) one other = each x one other
ok_then P Q R each (Err e) one other = tt
