-- The words after a command: the stores that it takes, its flags and options, and the mark `--`.
use Rattle.std.proofs.Common.{◌≡◌, ◌∙◌, ◌∷◌, ◌++◌, ◌⊎◌, ℕ, Bool, List, Option, Some, None, [], ap}
use Rattle.std.proofs.Common.{false, inl, inr, refl, subst, sym, true}
use Rattle.std.specs.Prelude.{◌&&◌, ◌||◌, codes, if◌then◌else◌, not}
use Rattle.std.specs.List.{list_any, slice_index_or}
use Rattle.std.specs.Option.{option_map_or}
use Rattle.clap.specs.Faults.{check_fault, level_fault, settle_fault, step_fault, turn_fault}
use Rattle.clap.specs.Faults.{use_fault}
use Rattle.clap.specs.Simple.{Shape, built, rows_at}
use Rattle.clap.specs.Takes.{is_given}
use Rattle.clap.specs.Walk.{Row, Rule, Text, Waiting, Walk, arg_by_id, arg_by_index, finished}
use Rattle.clap.specs.Walk.{first_of, idle, is_empty, nothing_held, option, positional}
use Rattle.clap.specs.Walk.{takes_values, to_positional, used, value, walk, walked}
use Rattle.clap.specs.declared.error.kind.ErrorKind.TheVariants as kind
use Rattle.clap.proofs.OnLiterals.{clap_on_literals}
use Rattle.night_words.specs.Commands.{AsksAlone, AsksForTwo, AsksOver, AsksViews, is_true, night}
use Rattle.night_words.proofs.FlagLemmas.{Comes, IsFormed, IsIn, by_mark, by_use, by_value, by_wait}
use Rattle.night_words.proofs.FlagLemmas.{comes, is_flag, is_help, is_named, is_option, is_place}
use Rattle.night_words.proofs.FlagLemmas.{none_in, place, standing, stands}
use Rattle.night_words.proofs.LevelLemmas.{end_passes, end_settles, first_passes, start, walk_keeps}
use Rattle.night_words.proofs.LevelLemmas.{words_pass}
use Rattle.night_words.proofs.RowLemmas.{IsFull, given_is_read}
use Rattle.night_words.proofs.TurnLemmas.{above, held, mark}
use Rattle.night_words.proofs.UsedLemmas.{Came, IsKept, IsQuiet, a_flag, a_mark, a_value, came}
use Rattle.night_words.proofs.UsedLemmas.{
  end_full,
  end_rows,
  end_reported,
  keeps,
  kept_full,
  not_reported,
}

pub data Command : Type 0 where
  demos : Command
  formats : Command
  scripts : Command
  inspects : Command
  migrates : Command
  crews : Command
  renews : Command
  plans : Command
  drives : Command

-- the name of each, and its place among them
abbrev pub entry_of : Command → Text × ℕ
entry_of demos = (codes "demo", 0)
entry_of formats = (codes "format", 1)
entry_of scripts = (codes "script", 2)
entry_of inspects = (codes "inspect", 3)
entry_of migrates = (codes "migrate", 4)
entry_of crews = (codes "crew", 5)
entry_of renews = (codes "renew", 6)
entry_of plans = (codes "plan", 7)
entry_of drives = (codes "drive", 8)

abbrev pub word_of : Command → Text
word_of c = (entry_of c).0

abbrev pub shape : Command → Shape
shape c = slice_index_or (built night).subs (entry_of c).1 above

formed : (c : Command) → IsFormed (shape c)
formed demos = record { once = refl; forms = (is_flag (codes "strict") refl, (is_help refl, tt)) }
formed formats = record {
  once = refl;
  forms = (
    is_place (codes "STORE") 1 true refl,
    (is_flag (codes "new") refl, (is_help refl, tt)),
  );
}
formed scripts = record {
  once = refl;
  forms = (
    is_place (codes "STORE") 1 true refl,
    (is_flag (codes "strict") refl, (is_flag (codes "now") refl, (is_help refl, tt))),
  );
}
formed inspects = record {
  once = refl;
  forms = (
    is_place (codes "STORE") 1 true refl,
    (
      is_flag (codes "tasks") refl,
      (
        is_option (codes "phase") refl refl,
        (
          is_option (codes "group") refl refl,
          (
            is_flag (codes "json") refl,
            (
              is_flag (codes "tree") refl,
              (
                is_flag (codes "no-tasks") refl,
                (is_flag (codes "summary") refl, (is_help refl, tt)),
              ),
            ),
          ),
        ),
      ),
    ),
  );
}
formed migrates = record {
  once = refl;
  forms = (
    is_place (codes "STORE") 1 true refl,
    (is_place (codes "NEW") 2 true refl, (is_flag (codes "new") refl, (is_help refl, tt))),
  );
}
formed crews = record {
  once = refl;
  forms = (
    is_place (codes "STORE") 1 true refl,
    (is_option (codes "workers") refl refl, (is_flag (codes "known") refl, (is_help refl, tt))),
  );
}
formed renews = record {
  once = refl;
  forms = (
    is_place (codes "STORE") 1 true refl,
    (
      is_place (codes "NEW") 2 false refl,
      (is_flag (codes "new") refl, (is_flag (codes "in-place") refl, (is_help refl, tt))),
    ),
  );
}
formed plans = record { once = refl; forms = (is_help refl, tt) }
formed drives =
    record { once = refl; forms = (is_place (codes "STORE") 1 true refl, (is_help refl, tt)) }

-- no flag and no option of the command is there, by the words that were found; of a crew's words
-- nothing is shown
abbrev pub IsUnset : Command → (word : Text → Option Text) → Type 0
IsUnset demos word = is_true (word (codes "strict")) ≡ false
IsUnset formats word = is_true (word (codes "new")) ≡ false
IsUnset scripts word = (is_true (word (codes "strict")) ≡ false)
    × (is_true (word (codes "now")) ≡ false)
IsUnset inspects word = AsksViews false false false false false word
IsUnset migrates word = is_true (word (codes "new")) ≡ false
IsUnset crews word = ⊥
IsUnset plans word = Unit {0}
IsUnset drives word = Unit {0}
IsUnset renews word = (is_true (word (codes "new")) ≡ false)
    × (is_true (word (codes "in-place")) ≡ false)

-- neither of three, where a fourth isn't
none_of : (a b c j : Bool) → a || ((b || c) && not j) ≡ false → j ≡ false
    → (a ≡ false) × (b ≡ false) × (c ≡ false)
none_of true b c j e not_j = cc
none_of false b c true e not_j = cc
none_of false true c false e not_j = cc
none_of false false true false e not_j = cc
none_of false false false false e not_j = (refl, refl, refl)

neither : (a b : Bool) → a ≡ false → b ≡ false → a || b ≡ false
neither true b e f = cc
neither false b e f = f

quiet : (c : Command) (rows : List Row) → IsUnset c (λ id. first_of id rows)
    → IsQuiet (shape c) rows
quiet demos rows unset = neither _ _ unset refl
quiet formats rows unset = neither _ _ unset refl
quiet scripts rows unset = neither _ _ unset.0 (neither _ _ unset.1 refl)
quiet inspects rows unset =
    let no = none_of _ _ _ _ unset.0 unset.1 in
    neither _ _ no.0 (neither _ _ no.1 (neither _ _ no.2 (neither _ _ unset.1
    (neither _ _ unset.2 (neither _ _ unset.4 (neither _ _ unset.3 refl))))))
quiet migrates rows unset = neither _ _ unset refl
quiet crews rows unset = absurd unset
quiet plans rows unset = refl
quiet drives rows unset = refl
quiet renews rows unset = neither _ _ unset.0 (neither _ _ unset.1 refl)

-- ---- where the walk stands after values alone

-- the command takes so many
abbrev Fits : List Text → Command → Type 0
Fits [] c = Unit {0}
Fits (x ∷ []) demos = ⊥
Fits (x ∷ []) plans = ⊥
Fits (x ∷ []) c = Unit {0}
Fits (x ∷ y ∷ []) migrates = Unit {0}
Fits (x ∷ y ∷ []) renews = Unit {0}
Fits (x ∷ y ∷ []) c = ⊥
Fits (x ∷ y ∷ z ∷ vs) c = ⊥

abbrev rows_by : List Text → List Row
rows_by [] = []
rows_by (x ∷ []) = []
rows_by (x ∷ y ∷ vs) = used (place (codes "STORE") 1 true) (x ∷ []) []

abbrev pending_by : List Text → Option (Text × List Text)
pending_by [] = None
pending_by (x ∷ []) = Some (codes "STORE", x ∷ [])
pending_by (x ∷ y ∷ vs) = Some (codes "NEW", y ∷ [])

abbrev position_by : List Text → ℕ
position_by [] = 1
position_by (x ∷ []) = 2
position_by (x ∷ y ∷ vs) = 3

-- where it stands, after the mark or not
abbrev placed : List Text → Bool → Walk
placed vs t = stands (rows_by vs) (pending_by vs) (position_by vs) t

full_by : (vs : List Text) → IsFull (rows_by vs)
full_by [] = tt
full_by (x ∷ []) = tt
full_by (x ∷ y ∷ vs) = ((x, ([], refl)), tt)

-- one more value has a place, or it is found
value_goes : (vs : List Text) (c : Command) (t : Bool) (word : Text)
    → step_fault (shape c) (position_by vs) (held (rows_by vs) (pending_by vs)) value ≡ []
    → Fits (vs ++ word ∷ []) c
    × (to_positional (shape c).rules (arg_by_index (shape c).rules (position_by vs)) word
    (placed vs t) (held (rows_by vs) (pending_by vs)) ≡ placed (vs ++ word ∷ []) (t || false))
value_goes [] demos t word none = cc
value_goes [] plans t word none = cc
value_goes [] c t word none = (tt, refl)
value_goes (x ∷ []) migrates t word none = (tt, refl)
value_goes (x ∷ []) renews t word none = (tt, refl)
value_goes (x ∷ []) c t word none = cc
value_goes (x ∷ y ∷ vs) demos t word none = cc
value_goes (x ∷ y ∷ vs) plans t word none = cc
value_goes (x ∷ y ∷ vs) c t word none = cc

-- the words are the program's own name, a command and these values, with the mark among them
abbrev IsMarked : (name command : Text) → List Text → List Text → Type 0
IsMarked name command [] words = words ≡ name ∷ command ∷ mark ∷ []
IsMarked name command (x ∷ []) words = (words ≡ name ∷ command ∷ mark ∷ x ∷ [])
    ⊎ (words ≡ name ∷ command ∷ x ∷ mark ∷ [])
IsMarked name command (x ∷ y ∷ []) words = (words ≡ name ∷ command ∷ mark ∷ x ∷ y ∷ [])
    ⊎ ((words ≡ name ∷ command ∷ x ∷ mark ∷ y ∷ [])
    ⊎ (words ≡ name ∷ command ∷ x ∷ y ∷ mark ∷ []))
IsMarked name command (x ∷ y ∷ z ∷ vs) words = Unit {0}

-- with it or without
abbrev IsPut : (name command : Text) → Bool → List Text → List Text → Type 0
IsPut name command false vs words = words ≡ name ∷ command ∷ vs
IsPut name command true vs words = IsMarked name command vs words

-- the words ask for the command with these values alone
abbrev AsksBy : Text → List Text → List Text → Type 0
AsksBy command vs words = (name : Text)
    × ((words ≡ name ∷ command ∷ vs) ⊎ IsMarked name command vs words)

asks_by : (name command : Text) (t : Bool) (vs words : List Text)
    → IsPut name command t vs words → AsksBy command vs words
asks_by name command false vs words is = (name, inl is)
asks_by name command true vs words is = (name, inr is)

module _ (name command : Text) (words : List Text) (word : Text) where
  more : (l : List Text) → words ≡ l → words ++ word ∷ [] ≡ l ++ word ∷ []
  more l is = ap (λ (m : List Text). m ++ word ∷ []) is

  -- where the word is a value
  put_more : (t : Bool) (vs : List Text) → IsPut name command t vs words
      → IsPut name command t (vs ++ word ∷ []) (words ++ word ∷ [])
  put_more false vs is = more _ is
  put_more true [] is = inl (more _ is)
  put_more true (x ∷ []) (inl is) = inl (more _ is)
  put_more true (x ∷ []) (inr is) = inr (inl (more _ is))
  put_more true (x ∷ y ∷ []) is = tt
  put_more true (x ∷ y ∷ z ∷ vs) is = tt

  -- where it is the mark
  put_mark : (vs : List Text) → words ≡ name ∷ command ∷ vs → word ≡ mark
      → IsMarked name command vs (words ++ word ∷ [])
  put_mark [] is m = more _ is ∙ ap (λ (t : Text). name ∷ command ∷ t ∷ []) m
  put_mark (x ∷ []) is m = inr (more _ is ∙ ap (λ (t : Text). name ∷ command ∷ x ∷ t ∷ []) m)
  put_mark (x ∷ y ∷ []) is m =
      inr (inr (more _ is ∙ ap (λ (t : Text). name ∷ command ∷ x ∷ y ∷ t ∷ []) m))
  put_mark (x ∷ y ∷ z ∷ vs) is m = tt

-- ---- one more word

-- where the walk stands after these words, the program's own name and the command first
data At (c : Command) (name : Text) (words : List Text) (w : Walk) : Type 0 where
  put : (vs : List Text) (t : Bool) → Fits vs c → IsPut name (word_of c) t vs words
      → w ≡ placed vs t → At c name words w
  flagged : IsKept (shape c) (formed c) w → At c name words w

module _ (c : Command) (name : Text) where
  abbrev Turns : Text → Walk → Type 0
  Turns word w = turn_fault (shape c) [] w word ≡ []

  step : (words : List Text) (w : Walk) (word : Text) → At c name words w → Turns word w
      → At c name (words ++ word ∷ []) (walked (shape c).rules [] w word)
  unfolding walked
  step words w word (flagged k) none = flagged (keeps (shape c) (formed c) w word k none)
  step words w word (put vs true fits is ew) none =
      let goes = value_goes vs c true word (subst (Turns word) ew none) in
      put (vs ++ word ∷ []) true goes.0 (put_more name (word_of c) words word true vs is)
      (ap (λ (v : Walk). walked (shape c).rules [] v word) ew ∙ goes.1)
  step words w word (put vs false fits is ew) none =
      go (came (shape c) (formed c) (rows_by vs) (pending_by vs) (position_by vs) w word
      (full_by vs) ew none)
    where
      go : Came (shape c) (formed c) (rows_by vs) (pending_by vs) (position_by vs) w word
          → At c name (words ++ word ∷ []) (walked (shape c).rules [] w word)
      go (a_mark m at) = put vs true fits (put_mark name (word_of c) words word vs is m) at
      go (a_flag k) = flagged k
      go (a_value fine at) =
          let goes = value_goes vs c false word fine in
          put (vs ++ word ∷ []) false goes.0
          (put_more name (word_of c) words word false vs is) (at ∙ goes.1)

-- ---- all the words

abbrev EndPasses : Command → Walk → Type 0
EndPasses c w = check_fault (shape c) (finished (shape c).rules w.held) false ≡ []

abbrev EndSettles : Command → Walk → Type 0
EndSettles c w = settle_fault (shape c).rules (shape c).args_override_self w.held ≡ []

abbrev ReadsStore : List Row → Type 0
ReadsStore rows = (x : Text) × (first_of (codes "STORE") rows ≡ Some x)

-- the stores that the command needs were read
abbrev pub Stored : Command → List Row → Type 0
Stored demos rows = Unit {0}
Stored plans rows = Unit {0}
Stored migrates rows = ReadsStore rows
    × ((x : Text) × (first_of (codes "NEW") rows ≡ Some x))
Stored c rows = ReadsStore rows

-- the words name what was read alone
abbrev pub Alone : Command → List Row → List Text → Type 0
Alone demos rows words = AsksAlone (word_of demos) words
Alone plans rows words = AsksAlone (word_of plans) words
Alone migrates rows words = (old given : Text) → first_of (codes "STORE") rows ≡ Some old
    → first_of (codes "NEW") rows ≡ Some given → AsksForTwo (word_of migrates) old given words
Alone renews rows words = (old given : Text) → first_of (codes "STORE") rows ≡ Some old
    → first_of (codes "NEW") rows ≡ Some given → AsksForTwo (word_of renews) old given words
Alone c rows words = (store : Text) → first_of (codes "STORE") rows ≡ Some store
    → AsksOver (word_of c) store words

-- where a command is met, its stores were read, and the words name them alone where no flag is
pub record Reads (c : Command) (rows : List Row) (words : List Text) : Type 0 where
  pub stored : Stored c rows
  pub alone : IsUnset c (λ id. first_of id rows) → Alone c rows words

-- a store is wanted, and of `migrate` a new one
abbrev Lacks : (a b : Bool) → Type 0
Lacks a b = (if a || b then kind.MissingRequiredArgument ∷ [] else []) ≡ []

one_given : (b : Bool) → Lacks (not b) false → b ≡ true
one_given true none = refl
one_given false none = cc

both_given : (a b : Bool) → Lacks (not a) (not b || false) → (a ≡ true) × (b ≡ true)
both_given true true none = (refl, refl)
both_given true false none = cc
both_given false b none = cc

-- so they are read
stores_read : (c : Command) (rows : List Row) → IsFull rows
    → check_fault (shape c) rows false ≡ [] → Stored c rows
stores_read demos rows full none = tt
stores_read plans rows full none = tt
stores_read migrates rows full none =
    let both = both_given (is_given (codes "STORE") rows) (is_given (codes "NEW") rows) none in (
      given_is_read (codes "STORE") rows full both.0,
      given_is_read (codes "NEW") rows full both.1,
    )
stores_read c rows full none =
    given_is_read (codes "STORE") rows full (one_given (is_given (codes "STORE") rows) none)

pub text_is : (s t : Text) → Some s ≡ Some t → s ≡ t
text_is s t is = cc

-- what was read of two stores
asks_two : (command x y old given : Text) (words : List Text) → Some x ≡ Some old
    → Some y ≡ Some given → AsksForTwo command x y words → AsksForTwo command old given words
asks_two command x y old given words one two asks =
    subst (λ (s : Text). AsksForTwo command s given words) (text_is x old one)
    (subst (λ (s : Text). AsksForTwo command x s words) (text_is y given two) asks)

asks_over : (command x store : Text) (words : List Text) → Some x ≡ Some store
    → AsksOver command x words → AsksOver command store words
asks_over command x store words is asks =
    subst (λ (s : Text). AsksOver command s words) (text_is x store is) asks

-- values alone
ends_alone : (vs : List Text) (c : Command) (words : List Text) → Fits vs c
    → EndPasses c (placed vs false) → AsksBy (word_of c) vs words
    → Alone c (finished (shape c).rules (held (rows_by vs) (pending_by vs))) words
unfolding clap_on_literals
ends_alone [] demos words fits none asks = asks
ends_alone [] plans words fits none asks = asks
ends_alone [] c words fits none asks = cc
ends_alone (x ∷ []) demos words fits none asks = absurd fits
ends_alone (x ∷ []) plans words fits none asks = absurd fits
ends_alone (x ∷ []) migrates words fits none asks = cc
ends_alone (x ∷ []) renews words fits none asks = λ old given one two.
    let bad : Some given ≡ None = sym two in
    cc
ends_alone (x ∷ []) c words fits none asks = λ store is. asks_over (word_of c) x store words is asks
ends_alone (x ∷ y ∷ []) migrates words fits none asks =
    λ old given one two. asks_two (word_of migrates) x y old given words one two asks
ends_alone (x ∷ y ∷ []) renews words fits none asks =
    λ old given one two. asks_two (word_of renews) x y old given words one two asks
ends_alone (x ∷ y ∷ []) c words fits none asks = absurd fits
ends_alone (x ∷ y ∷ z ∷ vs) c words fits none asks = absurd fits

ends : (c : Command) (name : Text) (words : List Text) (w : Walk) → At c name words w
    → EndPasses c w → EndSettles c w → Reads c (finished (shape c).rules w.held) words
ends c name words w (put vs t fits is ew) none fine =
    let at : w.held ≡ held (rows_by vs) (pending_by vs) = ap (λ (v : Walk). v.held) ew in
    record {
      stored = stores_read c _
          (end_full (shape c) (formed c) (rows_by vs) (pending_by vs) w (full_by vs) at fine) none;
      alone = λ unset. subst (λ h. Alone c (finished (shape c).rules h) words) (sym at)
          (ends_alone vs c words fits
          (subst (λ h. check_fault (shape c) (finished (shape c).rules h) false ≡ []) at none)
          (asks_by name (word_of c) t vs words is));
    }
ends c name words w (flagged k) none fine =
    let rows = end_rows (shape c) (formed c) w in
    record {
      stored = stores_read c rows (kept_full (shape c) (formed c) w k fine) none;
      alone = λ unset. absurd (not_reported (shape c) rows (quiet c rows unset)
          (end_reported (shape c) (formed c) w k fine));
    }

-- nothing is found in the words after a command
abbrev pub Passes : Command → List Text → Type 0
Passes c rest = level_fault (shape c) [] nothing_held rest false [] ≡ []

abbrev pub over : Command → List Text → Walk
over c rest = walk (shape c).rules [] nothing_held rest

pub reads : (c : Command) (name : Text) (rest : List Text) → Passes c rest
    → Reads c (rows_at (shape c) rest).1 (name ∷ word_of c ∷ rest)
reads c name rest none = ends c name (name ∷ word_of c ∷ rest) (over c rest)
    (walk_keeps (shape c) (At c name) (step c name) (name ∷ word_of c ∷ []) rest start
    (put [] false tt refl refl) (words_pass (shape c) [] rest false [] none))
    (end_passes (shape c) rest none)
    (end_settles (shape c) rest none)

-- ---- words that name a store alone

-- a command over one store, of whose flags none is needed
abbrev pub IsOver : Command → Type 0
IsOver formats = Unit {0}
IsOver scripts = Unit {0}
IsOver inspects = Unit {0}
IsOver drives = Unit {0}
IsOver c = ⊥

-- the parser read this store, and no flag and no option
abbrev pub ReadsAlone : Command → Text → Walk → Type 0
ReadsAlone c x w = (first_of (codes "STORE") (finished (shape c).rules w.held) ≡ Some x)
    × IsUnset c (λ id. first_of id (finished (shape c).rules w.held))

reads_alone : (c : Command) → IsOver c → (x : Text) (t : Bool)
    → ReadsAlone c x (placed (x ∷ []) t)
reads_alone formats one x t = (refl, refl)
reads_alone scripts one x t = (refl, (refl, refl))
reads_alone inspects one x t = (refl, (refl, refl, refl, refl, refl))
reads_alone drives one x t = (refl, tt)
reads_alone c one x t = absurd one

-- a first value is taken
takes_first : (c : Command) → IsOver c → step_fault (shape c) 1 (held [] None) value ≡ []
takes_first formats one = refl
takes_first scripts one = refl
takes_first inspects one = refl
takes_first drives one = refl
takes_first c one = absurd one

marks : (c : Command) (r : List Row) (p : Option (Text × List Text)) (q : Waiting) (n : ℕ)
    → walked (shape c).rules [] (standing r p q n false) mark ≡ standing r p q n true
unfolding walked
marks c r p idle n = refl
marks c r p (option id) n = refl
marks c r p positional n = refl

-- a store was given where one is needed
store_given : (c : Command) → IsOver c → (rows : List Row) → check_fault (shape c) rows false ≡ []
    → is_given (codes "STORE") rows ≡ true
store_given formats one rows none = one_given (is_given (codes "STORE") rows) none
store_given scripts one rows none = one_given (is_given (codes "STORE") rows) none
store_given inspects one rows none = one_given (is_given (codes "STORE") rows) none
store_given drives one rows none = one_given (is_given (codes "STORE") rows) none
store_given c one rows none = absurd one

-- no words give it
never_given : (c : Command) → IsOver c
    → is_given (codes "STORE") (finished (shape c).rules (held [] None)) ≡ true → ⊥
never_given formats one given = cc
never_given scripts one given = cc
never_given inspects one given = cc
never_given drives one given = cc
never_given c one given = absurd one

-- whether a flag or an option alone gives it
abbrev gives_store : Command → List Text → Rule → Bool
gives_store c values a = is_named a
    && is_given (codes "STORE") (finished (shape c).rules (held (used a values []) None))

none_gives : (c : Command) → IsOver c → (values : List Text)
    → list_any (gives_store c values) (shape c).rules ≡ false
none_gives formats one values = refl
none_gives scripts one values = refl
none_gives inspects one values = refl
none_gives drives one values = refl
none_gives c one values = absurd one

-- whether an option may be without a value
abbrev is_valueless : Command → Rule → Bool
is_valueless c a =
    takes_values a && is_empty (use_fault (shape c).args_override_self a [] [])

none_valueless : (c : Command) → IsOver c → list_any (is_valueless c) (shape c).rules ≡ false
none_valueless formats one = refl
none_valueless scripts one = refl
none_valueless inspects one = refl
none_valueless drives one = refl
none_valueless c one = absurd one

module _ (c : Command) (one : IsOver c) where
  no_use : (a : Rule) → IsIn a (shape c).rules → is_named a ≡ true → (values : List Text)
      → (t : Bool) → EndPasses c (stands (used a values []) None 1 t) → ⊥
  no_use a there named values t none =
      let rows = finished (shape c).rules (held (used a values []) None) in
      none_in (gives_store c values) a (shape c).rules (none_gives c one values) there
      (ap (λ b. b && is_given (codes "STORE") rows) named ∙ store_given c one rows none)

  no_value : (a : Rule) → IsIn a (shape c).rules → takes_values a ≡ true
      → arg_by_id (shape c).rules a.id ≡ Some a → (t : Bool)
      → EndSettles c (standing [] (Some (a.id, [])) (option a.id) 1 t) → ⊥
  no_value a there takes at t none =
      let again = (shape c).args_override_self in
      none_in (is_valueless c) a (shape c).rules (none_valueless c one) there
      (ap (λ b. b && is_empty (use_fault again a [] [])) takes
      ∙ ap is_empty (subst (λ o. option_map_or (λ b. use_fault again b [] []) o [] ≡ []) at none))

  pub after_mark : (x : Text) → ReadsAlone c x (over c (mark ∷ x ∷ []))
  unfolding walked
  after_mark x =
      let at : over c (mark ∷ x ∷ []) ≡ placed (x ∷ []) true =
      ap (λ (w : Walk). walked (shape c).rules [] w x) (marks c [] None idle 1)
      ∙ (value_goes [] c true x (takes_first c one)).1 in
      subst (ReadsAlone c x) (sym at) (reads_alone c one x true)

  -- the words after the store
  abbrev pub tail : Bool → List Text
  tail false = []
  tail true = mark ∷ []

  -- where the walk stands after them
  last : (x : Text) (t : Bool) (r : List Row) (p : Option (Text × List Text)) (q : Waiting)
      (n : ℕ) → walked (shape c).rules [] start x ≡ standing r p q n false
      → over c (x ∷ tail t) ≡ standing r p q n t
  last x false r p q n is = is
  last x true r p q n is = ap (λ (u : Walk). walked (shape c).rules [] u mark) is ∙ marks c r p q n

  -- a mark alone names no store, and a second one is a store
  mark_alone : (t : Bool) → EndPasses c (over c (mark ∷ tail t))
      → ReadsAlone c mark (over c (mark ∷ tail t))
  mark_alone false none =
      let at = marks c [] None idle 1 in
      let given : is_given (codes "STORE") (finished (shape c).rules (held [] None)) ≡ true =
      store_given c one (finished (shape c).rules (held [] None)) (subst (EndPasses c) at none) in
      absurd (never_given c one given)
  mark_alone true none = after_mark mark

  pub first_alone : (x : Text) (t : Bool) → Passes c (x ∷ tail t)
      → ReadsAlone c x (over c (x ∷ tail t))
  first_alone x t none = go (comes (shape c) (formed c) [] None idle 1 x (first_passes (shape c) []
      start x (tail t) (words_pass (shape c) [] (x ∷ tail t) false [] none)))
    where
      finds : EndPasses c (over c (x ∷ tail t))
      finds = end_passes (shape c) (x ∷ tail t) none

      go : Comes (shape c) [] None idle 1 x → ReadsAlone c x (over c (x ∷ tail t))
      go (by_mark m at) =
          subst (λ (u : Text). ReadsAlone c u (over c (u ∷ tail t))) (sym m)
          (mark_alone t (subst (λ (u : Text). EndPasses c (over c (u ∷ tail t))) m finds))
      go (by_use a there its values fine at) = absurd (no_use a there its values t
          (subst (EndPasses c) (last x t (used a values []) None idle 1 at) finds))
      go (by_wait a there its takes at_id fine at) = absurd (no_value a there takes at_id t
          (subst (EndSettles c) (last x t [] (Some (a.id, [])) (option a.id) 1 at)
          (end_settles (shape c) (x ∷ tail t) none)))
      go (by_value fine at) = subst (ReadsAlone c x)
          (sym (last x t [] (Some (codes "STORE", x ∷ [])) idle 2
          (at ∙ (value_goes [] c false x fine).1)))
          (reads_alone c one x t)
