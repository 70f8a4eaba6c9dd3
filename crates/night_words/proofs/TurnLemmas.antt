-- The parser's look at a word that names no command: it is the mark `--`, or a value.
use Rattle.std.proofs.Common.{◌≡◌, ◌∷◌, ◌⊎◌, ℕ, Bool, List, Option, Some, None, [], ap, cond}
use Rattle.std.proofs.Common.{false, inl, inr, length, refl, suc, true, zero}
use Rattle.std.specs.Prelude.{◌&&◌, find, if◌then◌else◌, is_some, not, slice_get}
use Rattle.std.specs.List.{slice_index_or}
use Rattle.std.specs.Option.{option_map_or}
use Rattle.std.specs.Str.{bytes_eq, chars}
use Rattle.std.proofs.lemmas.Slice.Eq.{bytes_eq-Decides}
use Rattle.clap.specs.Lexer.{long_of, short_of}
use Rattle.clap.specs.Simple.{Shape, built, help_rule}
use Rattle.clap.specs.Kinds.{Kinds, or_else}
use Rattle.clap.specs.Faults.{bundle_fault, bundle_step_fault, flag_word_fault, flags_fault}
use Rattle.clap.specs.Faults.{long_fault, other_fault, short_fault}
use Rattle.clap.specs.Walk.{Held, Outcome, Row, Rule, Text, Waiting, after_flag, arg_by_long}
use Rattle.clap.specs.Walk.{arg_by_short, bundle_met, bundle_step, has_long, has_short, idle}
use Rattle.clap.specs.Walk.{long_or_other, plain, plain_word, short_or_plain}
use Rattle.clap.specs.Walk.{subcommand_or_other, trailing, value}
use Rattle.clap.specs.declared.error.kind.ErrorKind.{ErrorKind}
use Rattle.night_words.specs.Commands.{night}

-- `--`, after which no word is a flag
abbrev pub mark : Text
mark = 45 ∷ 45 ∷ []

-- what is held between two words
abbrev pub held : List Row → Option (Text × List Text) → Held
held rows pending = record { rows = rows; pending = pending; skip = 0 }

-- where two steps find nothing, the first does
pub first_none : (a b : Kinds) → or_else a b ≡ [] → a ≡ []
first_none [] b none = refl
first_none (k ∷ ks) b none = cc

-- where two steps find nothing, the second does
pub second_none : (a b : Kinds) → or_else a b ≡ [] → b ≡ []
second_none [] b none = none
second_none (k ∷ ks) b none = cc

-- a fact of no argument and of each of two is one of what a search among them finds
pub found_of_two : (p : Rule → Bool) (P : Option Rule → Type 0) (a b : Rule) → P None
    → P (Some a) → P (Some b) → P (find p (a ∷ b ∷ []))
found_of_two p P a b none first second = go (p a) (p b)
  where
    go : (x y : Bool) → P (cond x (Some a) (cond y (Some b) None))
    go true y = first
    go false true = second
    go false false = none

-- each word that looks like short flags is found
abbrev pub ShortsFail : Shape → Type 0
ShortsFail s = (x : ℕ) (rest : Text) (h : Held) (next : Held → Kinds)
    → short_fault s.rules s.args_override_self (arg_by_short s.rules x) rest h next ≡ [] → ⊥

-- a command's flags ask for help or the version, so that each word that looks like one is found
pub record IsStrict (s : Shape) : Type 0 where
  pub longs : (name : Text) (v : Option Text) (h : Held)
      → long_fault s.rules s.args_override_self (arg_by_long s.rules name) v h ≡ [] → ⊥
  pub shorts : ShortsFail s

-- a bundle of flags in which nothing is found is no flag
bundle_is_plain : (s : Shape) → ShortsFail s → (flags : Text) (h : Held) (k : ℕ)
    → flags_fault s.rules s.args_override_self k flags 0 h ≡ []
    → bundle_met s.rules k flags 0 plain h ≡ (h, plain)
unfolding flags_fault bundle_met
bundle_is_plain s shorts flags h zero none = refl
bundle_is_plain s shorts flags h (suc k) none = go (slice_get (chars flags) 0) none
  where
    go : (x : Option ℕ)
        → bundle_step_fault s.rules s.args_override_self x flags 0 h
        (flags_fault s.rules s.args_override_self k) ≡ []
        → bundle_step s.rules x flags 0 plain h (bundle_met s.rules k) ≡ (h, plain)
    go None none = refl
    go (Some x) none = absurd (shorts x _ h _ none)

-- so is a word that begins with one hyphen, or with none
pub short_is_plain : (s : Shape) → ShortsFail s → (q : Waiting) (word : Text)
    (flags : Option Text) (r : List Row) (p : Option (Text × List Text))
    → option_map_or (λ f. bundle_fault s.rules s.args_override_self f (held r p)) flags [] ≡ []
    → short_or_plain s.rules q word flags (held r p) ≡ plain_word s.rules q word (held r p)
short_is_plain s shorts q word None r p none = refl
short_is_plain s shorts q word (Some flags) r p none =
    ap (λ (m : Held × Outcome). after_flag s.rules q word m.0 m.1)
    (bundle_is_plain s shorts flags (held r p) (length flags) none)

-- and one that begins with two hyphens, or with fewer
long_is_value : (s : Shape) → IsStrict s → (word : Text) (long : Option (Text × Option Text))
    (r : List Row) (p : Option (Text × List Text))
    → flag_word_fault s.rules s.args_override_self long word (held r p) ≡ []
    → long_or_other s.rules idle word long (held r p) ≡ (held r p, value)
long_is_value s strict word None r p none =
    short_is_plain s strict.shorts idle word (short_of word) r p none
long_is_value s strict word (Some q) r p none = absurd (strict.longs q.0 q.1 (held r p) none)

-- a word in which nothing is found, and which names no command
pub mark_or_value : (s : Shape) → IsStrict s → (position : ℕ) (word : Text) (r : List Row)
    (p : Option (Text × List Text)) → other_fault s None word (held r p) ≡ []
    → (word ≡ mark)
    ⊎ (subcommand_or_other s.rules None idle position word (held r p) ≡ (held r p, value))
mark_or_value s strict position word r p none = go (bytes_eq word mark) refl none
  where
    go : (b : Bool) → bytes_eq word mark ≡ b
        → (if b then [] else flag_word_fault s.rules s.args_override_self (long_of word) word
        (held r p)) ≡ []
        → (word ≡ mark) ⊎ ((if b then (held r p, trailing position)
        else long_or_other s.rules idle word (long_of word) (held r p)) ≡ (held r p, value))
    go true same none = inl ((bytes_eq-Decides word mark).0 same)
    go false other none = inr (long_is_value s strict word (long_of word) r p none)

-- `night` above its commands
abbrev pub above : Shape
above = (built night).top

abbrev pub flag_of : Shape → ℕ → Rule
flag_of s i = slice_index_or s.rules i help_rule

abbrev pub has_name : Text → Rule → Bool
has_name name a = not (is_some a.index) && has_long a name

abbrev pub has_letter : ℕ → Rule → Bool
has_letter x a = not (is_some a.index) && has_short a x

-- what a long flag, found or not, comes to
abbrev LongFails : Shape → Option Text → Held → Option Rule → Type 0
LongFails s v h o = long_fault s.rules s.args_override_self o v h ≡ [] → ⊥

-- what a short flag, found or not, comes to
abbrev pub ShortFails : Shape → Text → Held → (Held → Kinds) → Option Rule → Type 0
ShortFails s rest h next o =
    short_fault s.rules s.args_override_self o rest h next ≡ [] → ⊥

-- a flag that asks for help is found, whatever is held
pub help_is_found : (a b : Kinds) (k : ErrorKind) → or_else a (k ∷ b) ≡ [] → ⊥
help_is_found a b k none =
    let bad = second_none a (k ∷ b) none in
    cc

above_longs : (name : Text) (v : Option Text) (h : Held)
    → LongFails above v h (arg_by_long above.rules name)
above_longs name None h =
    let no : LongFails above None h None = λ none. cc in
    let help : LongFails above None h (Some (flag_of above 0)) = λ none.
    help_is_found _ _ _ none in
    let version : LongFails above None h (Some (flag_of above 1)) = λ none.
    help_is_found _ _ _ none in
    found_of_two (has_name name) (LongFails above None h) (flag_of above 0) (flag_of above 1) no
    help version
above_longs name (Some v) h =
    let no : LongFails above (Some v) h None = λ none. cc in
    let help : LongFails above (Some v) h (Some (flag_of above 0)) = λ none. cc in
    let version : LongFails above (Some v) h (Some (flag_of above 1)) = λ none. cc in
    found_of_two (has_name name) (LongFails above (Some v) h) (flag_of above 0) (flag_of above 1)
    no help version

above_shorts : (x : ℕ) (rest : Text) (h : Held) (next : Held → Kinds)
    → ShortFails above rest h next (arg_by_short above.rules x)
above_shorts x rest h next =
    let no : ShortFails above rest h next None = λ none. cc in
    let help : ShortFails above rest h next (Some (flag_of above 0)) = λ none.
    help_is_found _ _ _ (first_none _ _ none) in
    let version : ShortFails above rest h next (Some (flag_of above 1)) = λ none.
    help_is_found _ _ _ (first_none _ _ none) in
    found_of_two (has_letter x) (ShortFails above rest h next) (flag_of above 0) (flag_of above 1)
    no help version

pub above_is_strict : IsStrict above
above_is_strict = record { longs = above_longs; shorts = above_shorts }
