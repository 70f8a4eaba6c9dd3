-- The parser's look at a word after a command that takes flags and options: it is the mark `--`,
-- one of these, or a value.
use Rattle.std.proofs.Common.{◌≡◌, ◌∙◌, ◌∷◌, ◌⊎◌, ℕ, Bool, List, Option, Some, None, [], ap, cond}
use Rattle.std.proofs.Common.{false, inl, inr, refl, subst, sym, true}
use Rattle.std.specs.Prelude.{◌&&◌, ◌||◌, find, if◌then◌else◌, is_some, not}
use Rattle.std.specs.List.{list_any}
use Rattle.std.specs.Str.{bytes_eq}
use Rattle.std.specs.Option.{option_map_or}
use Rattle.std.proofs.lemmas.Slice.Eq.{bytes_eq-Decides}
use Rattle.clap.specs.Lexer.{long_of, short_of}
use Rattle.clap.specs.Faults.{flag_word_fault}
use Rattle.clap.specs.Faults.{long_fault, option_fault, other_fault, react_fault, settle_fault}
use Rattle.clap.specs.Faults.{short_fault, step_fault, turn_fault}
use Rattle.clap.specs.Kinds.{Kinds}
use Rattle.clap.specs.Simple.{Shape, filled, help_rule, new_rule, with_index}
use Rattle.clap.specs.Walk.{Held, Row, Rule, Step, Text, Waiting, Walk, action_of}
use Rattle.clap.specs.Walk.{after_flag, after_step, arg_by_id, arg_by_long, arg_by_short}
use Rattle.clap.specs.Walk.{flag_met, has_long, has_short, idle}
use Rattle.clap.specs.Walk.{long_met, long_or_other, option, option_met, plain_word}
use Rattle.clap.specs.Walk.{positional, settled_rows, subcommand_or_other}
use Rattle.clap.specs.Walk.{takes_values, trailing, used, walked}
use Rattle.clap.specs.declared.builder.action.ArgAction.{ArgAction}
use Rattle.clap.specs.declared.builder.action.ArgAction.TheVariants.{Help, Set}
use Rattle.clap.specs.declared.error.kind.ErrorKind.TheVariants as kind
use Rattle.night_words.specs.Commands.{flag, value_option}
use Rattle.night_words.proofs.TurnLemmas.{ShortsFail, first_none, has_letter, has_name, held}
use Rattle.night_words.proofs.TurnLemmas.{help_is_found, mark, second_none, short_is_plain}

-- ---- the arguments of a command

-- a word with a place, wanted or not
abbrev pub place : Text → ℕ → Bool → Rule
place id i is_wanted = with_index i
    (filled (record (new_rule id) { action = Some Set; required = is_wanted; value_names = 1 }))

-- what an argument of these commands is
pub data Form (s : Shape) (a : Rule) : Type 0 where
  is_flag : (id : Text) → a ≡ filled (flag id) → Form s a
  is_option : (id : Text) → a ≡ filled (value_option id) → arg_by_id s.rules a.id ≡ Some a
      → Form s a
  is_place : (id : Text) (i : ℕ) (is_wanted : Bool) → a ≡ place id i is_wanted → Form s a
  is_help : a ≡ filled help_rule → Form s a

abbrev pub All : (Rule → Type 0) → List Rule → Type 0
All P [] = Unit {0}
All P (a ∷ rest) = P a × All P rest

abbrev pub IsIn : Rule → List Rule → Type 0
IsIn a [] = ⊥
IsIn a (b ∷ rest) = (b ≡ a) ⊎ IsIn a rest

pub all_in : (P : Rule → Type 0) (a : Rule) (rules : List Rule) → All P rules → IsIn a rules → P a
all_in P a [] all is = absurd is
all_in P a (b ∷ rest) all (inl is) = subst P is all.0
all_in P a (b ∷ rest) all (inr is) = all_in P a rest all.1 is

-- a test that none passes fails at each
pub none_in : (p : Rule → Bool) (a : Rule) (rules : List Rule) → list_any p rules ≡ false
    → IsIn a rules → p a ≡ true → ⊥
none_in p a [] none is holds = absurd is
none_in p a (b ∷ rest) none is holds = go (p b) refl (none_in p a rest) none is
  where
    go : (x : Bool) → p b ≡ x → (list_any p rest ≡ false → IsIn a rest → p a ≡ true → ⊥)
        → x || list_any p rest ≡ false → (b ≡ a) ⊎ IsIn a rest → ⊥
    go true e below none is = cc
    go false e below none (inl same) =
        let bad : true ≡ false = sym holds ∙ sym (ap p same) ∙ e in
        cc
    go false e below none (inr there) = below none there holds

-- what a search finds is there, and what was searched for
pub found_in : (p : Rule → Bool) (a : Rule) (rules : List Rule) → find p rules ≡ Some a
    → IsIn a rules × (p a ≡ true)
found_in p a [] found = cc
found_in p a (b ∷ rest) found = go (p b) refl (found_in p a rest) found
  where
    go : (x : Bool) → p b ≡ x → (find p rest ≡ Some a → IsIn a rest × (p a ≡ true))
        → cond x (Some b) (find p rest) ≡ Some a → IsIn a (b ∷ rest) × (p a ≡ true)
    go true holds below found =
        let rule : Option Rule → Rule = λ o. option_map_or (λ (r : Rule). r) o b in
        let is : b ≡ a = ap rule found in
        (inl is, subst (λ r. p r ≡ true) is holds)
    go false fails below found = (inr (below found).0, (below found).1)

abbrev pub asks_help : ArgAction → Bool
asks_help Help = true
asks_help _ = false

-- a flag or an option, but for that which asks for help
abbrev pub is_named : Rule → Bool
is_named a = not (is_some a.index) && not (asks_help (action_of a))

-- a command has such arguments alone
pub record IsFormed (s : Shape) : Type 0 where
  pub once : s.args_override_self ≡ false
  pub forms : All (Form s) s.rules

pub form_in : (s : Shape) → IsFormed s → (a : Rule) → IsIn a s.rules → Form s a
form_in s formed a is = all_in (Form s) a s.rules formed.forms is

-- ---- where the walk stands

-- the walk between two words
abbrev pub standing : List Row → Option (Text × List Text) → Waiting → ℕ → Bool → Walk
standing rows pending waiting position behind = record {
  held = held rows pending;
  waiting = waiting;
  position = position;
  is_trailing = behind;
  stopped = None;
}

-- where nothing waits for a value
abbrev pub stands : List Row → Option (Text × List Text) → ℕ → Bool → Walk
stands rows pending position behind = standing rows pending idle position behind

-- ---- a word

-- what a word comes to, and where the walk stands after it
pub data Comes (s : Shape) (r : List Row) (p : Option (Text × List Text)) (q : Waiting) (n : ℕ)
    (word : Text) : Type 0 where
  by_mark : word ≡ mark → walked s.rules [] (standing r p q n false) word ≡ standing r p q n true
      → Comes s r p q n word
  by_use : (a : Rule) → IsIn a s.rules → is_named a ≡ true → (values : List Text)
      → react_fault s.rules s.args_override_self a values (held r p) ≡ []
      → walked s.rules [] (standing r p q n false) word
      ≡ stands (used a values (settled_rows s.rules p r)) None n false → Comes s r p q n word
  by_wait : (a : Rule) → IsIn a s.rules → is_named a ≡ true → takes_values a ≡ true
      → arg_by_id s.rules a.id ≡ Some a
      → settle_fault s.rules s.args_override_self (held r p) ≡ []
      → walked s.rules [] (standing r p q n false) word
      ≡ standing (settled_rows s.rules p r) (Some (a.id, [])) (option a.id) n false
      → Comes s r p q n word
  by_value : step_fault s n (plain_word s.rules q word (held r p)).0
      (plain_word s.rules q word (held r p)).1 ≡ []
      → walked s.rules [] (standing r p q n false) word
      ≡ after_step s.rules word (standing r p q n false)
      (plain_word s.rules q word (held r p)).0 (plain_word s.rules q word (held r p)).1
      → Comes s r p q n word

-- what is found has no place
no_place : (id : Text) (i : ℕ) (b c : Bool) (a : Rule) → a ≡ place id i b
    → not (is_some a.index) && c ≡ true → ⊥
no_place id i b c a is holds =
    let bad : false ≡ true = sym (ap (λ (r : Rule). not (is_some r.index) && c) is) ∙ holds in
    cc

module _ (s : Shape) (formed : IsFormed s) where
  -- no flag has a letter but that which asks for help
  short_fails : (x : ℕ) (rest : Text) (h : Held) (after : Held → Kinds) (o : Option Rule)
      → find (has_letter x) s.rules ≡ o
      → short_fault s.rules s.args_override_self o rest h after ≡ [] → ⊥
  short_fails x rest h after None found none = cc
  short_fails x rest h after (Some a) found none =
      go (form_in s formed a (found_in (has_letter x) a s.rules found).0)
    where
      lettered : has_letter x a ≡ true
      lettered = (found_in (has_letter x) a s.rules found).1

      go : Form s a → ⊥
      go (is_flag id is) =
          let bad : false ≡ true = sym (ap (has_letter x) is) ∙ lettered in
          cc
      go (is_option id is at) =
          let bad : false ≡ true = sym (ap (has_letter x) is) ∙ lettered in
          cc
      go (is_place id i b is) = no_place id i b (has_short a x) a is lettered
      go (is_help is) = help_is_found _ _ _ (first_none _ _ (subst
          (λ r. short_fault s.rules s.args_override_self (Some r) rest h after ≡ []) is none))

  shorts : ShortsFail s
  shorts x rest h after none = short_fails x rest h after (arg_by_short s.rules x) refl none

  module _ (r : List Row) (p : Option (Text × List Text)) (q : Waiting) (n : ℕ) (word : Text) where
    -- what the word comes to
    abbrev met : Held × Step
    met = subcommand_or_other s.rules None q n word (held r p)

    -- and where the walk stands after it
    abbrev Meets : Held × Step → Type 0
    Meets m = step_fault s n m.0 m.1 ≡ []
        → walked s.rules [] (standing r p q n false) word
        ≡ after_step s.rules word (standing r p q n false) m.0 m.1 → Comes s r p q n word

    -- a flag, with or without a value
    flag_comes : (a : Rule) → IsIn a s.rules → is_named a ≡ true
        → (b : Bool) → takes_values a ≡ b → b ≡ false → (v : Option Text)
        → (if b then option_fault s.rules s.args_override_self a v (held r p)
        else (if is_some v then kind.TooManyValues ∷ []
        else react_fault s.rules s.args_override_self a [] (held r p))) ≡ []
        → (let m = if b then option_met s.rules a v (held r p) else flag_met s.rules a v (held r p)
        in Meets (after_flag s.rules q word m.0 m.1))
    flag_comes a is named true takes fails v none = cc
    flag_comes a is named false takes fails None none = λ fine at. by_use a is named [] none at
    flag_comes a is named false takes fails (Some x) none = cc

    -- an option, with or without one
    option_comes : (a : Rule) → IsIn a s.rules → is_named a ≡ true
        → arg_by_id s.rules a.id ≡ Some a → (b : Bool) → takes_values a ≡ b → b ≡ true
        → (v : Option Text)
        → (if b then option_fault s.rules s.args_override_self a v (held r p)
        else (if is_some v then kind.TooManyValues ∷ []
        else react_fault s.rules s.args_override_self a [] (held r p))) ≡ []
        → (let m = if b then option_met s.rules a v (held r p) else flag_met s.rules a v (held r p)
        in Meets (after_flag s.rules q word m.0 m.1))
    option_comes a is named at_id false takes holds v none = cc
    option_comes a is named at_id true takes holds None none =
        λ fine at. by_wait a is named takes at_id none at
    option_comes a is named at_id true takes holds (Some x) none =
        λ fine at. by_use a is named (x ∷ []) none at

    -- a flag that asks for help is found
    no_help : (a : Rule) → a ≡ filled help_rule → (v : Option Text)
        → long_fault s.rules s.args_override_self (Some a) v (held r p) ≡ [] → ⊥
    no_help a is v none = go v (subst
        (λ a. long_fault s.rules s.args_override_self (Some a) v (held r p) ≡ []) is none)
      where
        go : (v : Option Text)
            → long_fault s.rules s.args_override_self (Some (filled help_rule)) v (held r p) ≡ []
            → ⊥
        go None none = help_is_found _ _ _ none
        go (Some x) none = cc

    -- a long flag
    long_comes : (name : Text) (v : Option Text) (o : Option Rule)
        → find (has_name name) s.rules ≡ o
        → long_fault s.rules s.args_override_self o v (held r p) ≡ []
        → Meets (after_flag s.rules q word (long_met s.rules o v (held r p)).0
        (long_met s.rules o v (held r p)).1)
    long_comes name v None found none = cc
    long_comes name v (Some a) found none = go (form_in s formed a is)
      where
        is : IsIn a s.rules
        is = (found_in (has_name name) a s.rules found).0

        go : Form s a → Meets (after_flag s.rules q word
            (long_met s.rules (Some a) v (held r p)).0 (long_met s.rules (Some a) v (held r p)).1)
        go (is_flag id e) =
            flag_comes a is (ap is_named e) (takes_values a) refl (ap takes_values e) v none
        go (is_option id e at) =
            option_comes a is (ap is_named e) at (takes_values a) refl (ap takes_values e) v none
        go (is_place id i b e) = absurd (no_place id i b (has_long a name) a e
            (found_in (has_name name) a s.rules found).1)
        go (is_help e) = absurd (no_help a e v none)

    word_comes : (long : Option (Text × Option Text)) → long_of word ≡ long
        → flag_word_fault s.rules s.args_override_self long word (held r p) ≡ []
        → Meets (long_or_other s.rules q word long (held r p))
    word_comes None e none = λ fine at.
        let is = short_is_plain s shorts q word (short_of word) r p none in
        by_value (subst (λ (m : Held × Step). step_fault s n m.0 m.1 ≡ []) is fine)
        (at ∙ ap (λ (m : Held × Step). after_step s.rules word (standing r p q n false) m.0 m.1)
        is)
    word_comes (Some l) e none = long_comes l.0 l.1 (arg_by_long s.rules l.0) refl none

    met_comes : other_fault s None word (held r p) ≡ [] → Meets met
    met_comes none = go (bytes_eq word mark) refl none
      where
        go : (b : Bool) → bytes_eq word mark ≡ b
            → (if b then [] else flag_word_fault s.rules s.args_override_self (long_of word) word
            (held r p)) ≡ []
            → Meets (if b then (held r p, trailing n)
            else long_or_other s.rules q word (long_of word) (held r p))
        go true same none = λ fine at. by_mark ((bytes_eq-Decides word mark).0 same) at
        go false other none = word_comes (long_of word) refl none

-- no word below a command names another one
pub comes : (s : Shape) → IsFormed s → (r : List Row) (p : Option (Text × List Text)) (q : Waiting)
    (n : ℕ) (word : Text) → turn_fault s [] (standing r p q n false) word ≡ []
    → Comes s r p q n word
unfolding walked
comes s formed r p idle n word none =
    met_comes s formed r p idle n word (first_none _ _ none) (second_none _ _ none) refl
comes s formed r p (option id) n word none =
    met_comes s formed r p (option id) n word (first_none _ _ none) (second_none _ _ none) refl
comes s formed r p positional n word none =
    met_comes s formed r p positional n word (first_none _ _ none) (second_none _ _ none) refl
