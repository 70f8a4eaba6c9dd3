-- The fields of a line are spelled in one way, and no others are spelled so.
use Rattle.std.specs.Prelude.{◌≡◌, ◌<◌, ◌^◌, ℕ, List, codes, Option, Some, None}
use Rattle.std.specs.Fmt.{decimal}
use Rattle.std.proofs.Common.{arith, refl, sym, ap, subst, ◌∙◌}
use Rattle.run_model.specs.declared.tasks.Outcome.{Outcome}
use Rattle.run_model.specs.declared.tasks.Outcome.TheVariants as outcome
use Rattle.run_model.specs.Texts.{IsName, IsText}
use Rattle.plan_lines.proofs.Digits.{misread, written}
use Rattle.plan_lines.proofs.Spelling.{no_space}
use Rattle.plan_lines.specs.declared.tokens.Token.TheVariants as token
use Rattle.drive_lines.specs.declared.fields.Fields.{Fields}
use Rattle.drive_lines.specs.declared.fields.Fields.TheVariants as fields
use Rattle.drive_lines.specs.declared.fields.TryName.{TryName}
use Rattle.drive_lines.specs.declared.words.Shape.{Shape}
use Rattle.drive_lines.specs.declared.words.Shape.TheVariants as shape
use Rattle.drive_lines.specs.Cuts.{HasNoSpace}
use Rattle.drive_lines.specs.Fields.{FieldsRead, FitsFields, FitsOutcome, FitsTry, IsShort}
use Rattle.drive_lines.specs.Fields.{fields_shape, fields_text, outcome_text, try_text}
use Rattle.drive_lines.specs.Spaces.{after, first_of, rest_of, spaced}
use Rattle.drive_lines.proofs.Spaces.{first_of_after, name_no_space, rest_of_after, whole_again}

-- ---- numbers

pub digits_no_space : (n : ℕ) → IsShort n → HasNoSpace (decimal n)
digits_no_space n h = no_space (token.Number n) h

pub same_number : (m n : ℕ) → IsShort m → IsShort n → decimal m ≡ decimal n → m ≡ n
same_number m n h k e = misread m n (decimal n) h e (sym (written n k))

-- What comes before a space, and after it.
pub same_first : (a b x y : List ℕ) → HasNoSpace a → HasNoSpace b → spaced a x ≡ spaced b y → a ≡ b
same_first a b x y h k e =
    sym (first_of_after a (Some x) h) ∙ ap first_of e ∙ first_of_after b (Some y) k

pub same_rest : (a b x y : List ℕ) → HasNoSpace a → HasNoSpace b → spaced a x ≡ spaced b y → x ≡ y
same_rest a b x y h k e =
    let both : Some x ≡ Some y =
    sym (rest_of_after a (Some x) h) ∙ ap rest_of e ∙ rest_of_after b (Some y) k in
    cc

pub number_unread : (bytes word : List ℕ) → word ≡ first_of bytes
    → ((n : ℕ) → n < 10 ^ 12 → decimal n ≡ word → ⊥)
    → (n : ℕ) (rest : List ℕ) → n < 10 ^ 12 → spaced (decimal n) rest ≡ bytes → ⊥
number_unread bytes word is none n rest short e =
    none n short (sym (first_of_after (decimal n) (Some rest) (digits_no_space n short))
    ∙ ap first_of e ∙ sym is)

pub number_alone : (bytes : List ℕ) → None ≡ rest_of bytes
    → (n : ℕ) (rest : List ℕ) → n < 10 ^ 12 → spaced (decimal n) rest ≡ bytes → ⊥
number_alone bytes none n rest short e =
    let no : None ≡ Some rest =
    none ∙ sym (ap rest_of e) ∙ rest_of_after (decimal n) (Some rest) (digits_no_space n short) in
    cc

pub number_found : (bytes word rest : List ℕ) (n : ℕ) → word ≡ first_of bytes
    → Some rest ≡ rest_of bytes → decimal n ≡ word → spaced (decimal n) rest ≡ bytes
number_found bytes word rest n is left text =
    ap (λ (w : List ℕ). spaced w rest) (text ∙ is) ∙ ap (after (first_of bytes)) left
    ∙ whole_again bytes

-- ---- outcomes

pub same_outcome : (o p : Outcome) → outcome_text o ≡ outcome_text p → o ≡ p
same_outcome outcome.Success outcome.Success e = refl
same_outcome outcome.Success (outcome.Failure why) e = cc
same_outcome (outcome.Failure why) outcome.Success e = cc
same_outcome (outcome.Failure why) (outcome.Failure other) e =
    let same : why ≡ other = same_rest (codes "error") (codes "error") why other refl refl e in
    cc

-- ---- tries

-- The parts of a try are found where the spaces are.
pub record TryAt (t : TryName) (bytes : List ℕ) : Type 0 where
  pub group : first_of bytes ≡ t.group
  pub rest : rest_of bytes ≡ Some (spaced t.key (decimal t.number))
  pub key : first_of (spaced t.key (decimal t.number)) ≡ t.key
  pub number : rest_of (spaced t.key (decimal t.number)) ≡ Some (decimal t.number)

pub try_at : (t : TryName) (bytes : List ℕ) → FitsTry t → try_text t ≡ bytes → TryAt t bytes
try_at t bytes fits e =
    let rest = spaced t.key (decimal t.number) in
    let group = name_no_space t.group fits.group in
    let key = name_no_space t.key fits.key in
    record {
      group = sym (ap first_of e) ∙ first_of_after t.group (Some rest) group;
      rest = sym (ap rest_of e) ∙ rest_of_after t.group (Some rest) group;
      key = first_of_after t.key (Some (decimal t.number)) key;
      number = rest_of_after t.key (Some (decimal t.number)) key;
    }

pub same_try : (t u : TryName) → FitsTry t → FitsTry u → try_text t ≡ try_text u → t ≡ u
same_try t u h k e =
    let a = name_no_space t.group h.group in
    let b = name_no_space u.group k.group in
    let d = name_no_space t.key h.key in
    let f = name_no_space u.key k.key in
    let x = spaced t.key (decimal t.number) in
    let y = spaced u.key (decimal u.number) in
    let groups : t.group ≡ u.group = same_first t.group u.group x y a b e in
    let rests : x ≡ y = same_rest t.group u.group x y a b e in
    let keys : t.key ≡ u.key =
    same_first t.key u.key (decimal t.number) (decimal u.number) d f rests in
    let digits : decimal t.number ≡ decimal u.number =
    same_rest t.key u.key (decimal t.number) (decimal u.number) d f rests in
    let numbers : t.number ≡ u.number =
    same_number t.number u.number (omega (arith, h.number)) (omega (arith, k.number)) digits in
    let one : t ≡ record t { group = u.group } =
    ap (λ (g : List ℕ). record t { group = g }) groups in
    let two : record t { group = u.group } ≡ record u { number = t.number } =
    ap (λ (g : List ℕ). record u { key = g; number = t.number }) keys in
    one ∙ two ∙ ap (λ (n : ℕ). record u { number = n }) numbers

-- Why there is no try.
pub try_no_rest : (bytes : List ℕ) → None ≡ rest_of bytes
    → (t : TryName) → FitsTry t → try_text t ≡ bytes → ⊥
try_no_rest bytes none t fits e =
    let some = (try_at t bytes fits e).rest in
    cc

pub try_no_group : (bytes word : List ℕ) → word ≡ first_of bytes → (IsName word → ⊥)
    → (t : TryName) → FitsTry t → try_text t ≡ bytes → ⊥
try_no_group bytes word is none t fits e =
    none (subst IsName (sym (is ∙ (try_at t bytes fits e).group)) fits.group)

-- What is left of a try after its group.
left_of : (bytes rest : List ℕ) → Some rest ≡ rest_of bytes
    → (t : TryName) → FitsTry t → try_text t ≡ bytes → rest ≡ spaced t.key (decimal t.number)
left_of bytes rest left t fits e =
    let some = (try_at t bytes fits e).rest in
    cc

pub try_no_key : (bytes rest word : List ℕ) → Some rest ≡ rest_of bytes → word ≡ first_of rest
    → (IsName word → ⊥) → (t : TryName) → FitsTry t → try_text t ≡ bytes → ⊥
try_no_key bytes rest word left is none t fits e =
    let key : word ≡ t.key =
    is ∙ ap first_of (left_of bytes rest left t fits e) ∙ (try_at t bytes fits e).key in
    none (subst IsName (sym key) fits.key)

pub try_no_number : (bytes rest : List ℕ) → Some rest ≡ rest_of bytes → None ≡ rest_of rest
    → (t : TryName) → FitsTry t → try_text t ≡ bytes → ⊥
try_no_number bytes rest left none t fits e =
    let some : None ≡ Some (decimal t.number) =
    none ∙ ap rest_of (left_of bytes rest left t fits e) ∙ (try_at t bytes fits e).number in
    cc

pub try_no_digits : (bytes rest digits : List ℕ) → Some rest ≡ rest_of bytes
    → Some digits ≡ rest_of rest → ((n : ℕ) → n < 2 ^ 16 → decimal n ≡ digits → ⊥)
    → (t : TryName) → FitsTry t → try_text t ≡ bytes → ⊥
try_no_digits bytes rest digits left last none t fits e =
    let some : Some digits ≡ Some (decimal t.number) =
    last ∙ ap rest_of (left_of bytes rest left t fits e) ∙ (try_at t bytes fits e).number in
    let same : decimal t.number ≡ digits = cc in
    none t.number fits.number same

pub try_found : (bytes rest digits word key : List ℕ) (g k : List ℕ) (n : ℕ)
    → word ≡ first_of bytes → Some rest ≡ rest_of bytes → key ≡ first_of rest
    → Some digits ≡ rest_of rest → IsName word × (g ≡ word) → IsName key × (k ≡ key)
    → (n < 2 ^ 16) × (decimal n ≡ digits)
    → FitsTry (record { group = g; key = k; number = n })
    × (try_text (record { group = g; key = k; number = n }) ≡ bytes)
try_found bytes rest digits word key g k n is left at last group key_is number =
    let more : spaced k (decimal n) ≡ rest =
    ap (λ (x : List ℕ). spaced x (decimal n)) (key_is.1 ∙ at)
    ∙ ap (λ (x : List ℕ). spaced (first_of rest) x) number.1
    ∙ ap (after (first_of rest)) last ∙ whole_again rest in (
      record {
        group = subst IsName (sym group.1) group.0;
        key = subst IsName (sym key_is.1) key_is.0;
        number = number.0;
      },
      ap (λ (x : List ℕ). spaced x (spaced k (decimal n))) (group.1 ∙ is)
          ∙ ap (λ (x : List ℕ). spaced (first_of bytes) x) more
          ∙ ap (after (first_of bytes)) left ∙ whole_again bytes,
    )

-- ---- the fields of each shape

record OfAlone (f : Fields) (left : Option (List ℕ)) : Type 0 where
  text : None ≡ left
  is : f ≡ fields.Alone

record OfNumber (f : Fields) (left : Option (List ℕ)) : Type 0 where
  n : ℕ
  short : IsShort n
  text : Some (decimal n) ≡ left
  is : f ≡ fields.Number n

record OfNumberText (f : Fields) (left : Option (List ℕ)) : Type 0 where
  n : ℕ
  words : List ℕ
  short : IsShort n
  fits : IsText words
  text : Some (spaced (decimal n) words) ≡ left
  is : f ≡ fields.NumberText n words

record OfEnded (f : Fields) (left : Option (List ℕ)) : Type 0 where
  n : ℕ
  outcome : Outcome
  short : IsShort n
  fits : FitsOutcome outcome
  text : Some (spaced (decimal n) (outcome_text outcome)) ≡ left
  is : f ≡ fields.Ended n outcome

record OfLives (f : Fields) (left : Option (List ℕ)) : Type 0 where
  living : TryName
  fits : FitsTry living
  text : Some (try_text living) ≡ left
  is : f ≡ fields.Lives living

abbrev OfShape : Shape → Fields → Option (List ℕ) → Type 0
OfShape shape.Alone f left = OfAlone f left
OfShape shape.Number f left = OfNumber f left
OfShape shape.NumberText f left = OfNumberText f left
OfShape shape.Ended f left = OfEnded f left
OfShape shape.Lives f left = OfLives f left

of_own : (f : Fields) (left : Option (List ℕ)) → FitsFields f → fields_text f ≡ left
    → OfShape (fields_shape f) f left
of_own fields.Alone left fits e = record { text = e; is = refl }
of_own (fields.Number n) left fits e = record { n = n; short = fits; text = e; is = refl }
of_own (fields.NumberText n text) left fits e =
    record { n = n; words = text; short = fits.0; fits = fits.1; text = e; is = refl }
of_own (fields.Ended n o) left fits e =
    record { n = n; outcome = o; short = fits.0; fits = fits.1; text = e; is = refl }
of_own (fields.Lives t) left fits e = record { living = t; fits = fits; text = e; is = refl }

of_shape : (s : Shape) (f : Fields) (left : Option (List ℕ)) → FitsFields f
    → fields_shape f ≡ s → fields_text f ≡ left → OfShape s f left
of_shape s f left fits same e =
    subst (λ (t : Shape). OfShape t f left) same (of_own f left fits e)

pub same_fields : (f g : Fields) → FitsFields f → FitsFields g → fields_shape f ≡ fields_shape g
    → fields_text f ≡ fields_text g → f ≡ g
same_fields fields.Alone g h k s e = sym (of_shape shape.Alone g None k (sym s) (sym e)).is
same_fields (fields.Number n) g h k s e =
    let i = of_shape shape.Number g (Some (decimal n)) k (sym s) (sym e) in
    let digits : decimal i.n ≡ decimal n = (let both = i.text in cc) in
    let same : i.n ≡ n = same_number i.n n i.short h digits in
    sym (i.is ∙ ap fields.Number same)
same_fields (fields.NumberText n text) g h k s e =
    let i = of_shape shape.NumberText g (Some (spaced (decimal n) text)) k (sym s) (sym e) in
    let both : spaced (decimal i.n) i.words ≡ spaced (decimal n) text = (let some = i.text in cc) in
    let a = digits_no_space i.n i.short in
    let b = digits_no_space n h.0 in
    let same : i.n ≡ n =
    same_number i.n n i.short h.0 (same_first (decimal i.n) (decimal n) i.words text a b both) in
    let rest : i.words ≡ text = same_rest (decimal i.n) (decimal n) i.words text a b both in
    let is = i.is in
    cc
same_fields (fields.Ended n o) g h k s e =
    let i = of_shape shape.Ended g (Some (spaced (decimal n) (outcome_text o))) k (sym s) (sym e) in
    let x = outcome_text i.outcome in
    let y = outcome_text o in
    let both : spaced (decimal i.n) x ≡ spaced (decimal n) y = (let some = i.text in cc) in
    let a = digits_no_space i.n i.short in
    let b = digits_no_space n h.0 in
    let same : i.n ≡ n =
    same_number i.n n i.short h.0 (same_first (decimal i.n) (decimal n) x y a b both) in
    let ended : i.outcome ≡ o =
    same_outcome i.outcome o (same_rest (decimal i.n) (decimal n) x y a b both) in
    let is = i.is in
    cc
same_fields (fields.Lives t) g h k s e =
    let i = of_shape shape.Lives g (Some (try_text t)) k (sym s) (sym e) in
    let both : try_text i.living ≡ try_text t = (let some = i.text in cc) in
    let same : i.living ≡ t = same_try i.living t i.fits h both in
    sym (i.is ∙ ap fields.Lives same)

-- Why there are no fields.
pub number_text_unread : (left : Option (List ℕ)) (bytes rest : List ℕ) (n : ℕ) → left ≡ Some bytes
    → (n < 10 ^ 12) × (spaced (decimal n) rest ≡ bytes) → (IsText rest → ⊥)
    → FieldsRead shape.NumberText left None
number_text_unread left bytes rest n is number none = λ f fits s e.
    let i = of_shape shape.NumberText f left fits s e in
    let some : Some (spaced (decimal i.n) i.words) ≡ Some bytes = i.text ∙ is in
    let both : spaced (decimal i.n) i.words ≡ bytes = cc in
    let words : i.words ≡ rest =
    same_rest (decimal i.n) (decimal n) i.words rest (digits_no_space i.n i.short)
    (digits_no_space n number.0) (both ∙ sym number.1) in
    none (subst IsText words i.fits)

pub ended_unread : (left : Option (List ℕ)) (bytes rest : List ℕ) (n : ℕ) → left ≡ Some bytes
    → (n < 10 ^ 12) × (spaced (decimal n) rest ≡ bytes)
    → ((o : Outcome) → FitsOutcome o → outcome_text o ≡ rest → ⊥)
    → FieldsRead shape.Ended left None
ended_unread left bytes rest n is number none = λ f fits s e.
    let i = of_shape shape.Ended f left fits s e in
    let some : Some (spaced (decimal i.n) (outcome_text i.outcome)) ≡ Some bytes = i.text ∙ is in
    let both : spaced (decimal i.n) (outcome_text i.outcome) ≡ bytes = cc in
    let text : outcome_text i.outcome ≡ rest =
    same_rest (decimal i.n) (decimal n) (outcome_text i.outcome) rest
    (digits_no_space i.n i.short) (digits_no_space n number.0) (both ∙ sym number.1) in
    none i.outcome i.fits text
