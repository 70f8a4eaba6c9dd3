-- What is used after a command stays told: a flag that stands there, and the value of an option.
use Rattle.std.proofs.Common.{◌≡◌, ◌∙◌, ◌∷◌, ◌++◌, ℕ, Bool, List, Option, Some, None, [], ap}
use Rattle.std.proofs.Common.{false, length, refl, subst, suc, sym, true}
use Rattle.std.specs.Prelude.{◌&&◌, ◌==◌, codes, if◌then◌else◌, is_some}
use Rattle.std.specs.List.{list_any}
use Rattle.std.specs.Option.{option_map_or}
use Rattle.std.specs.Str.{bytes_eq}
use Rattle.std.proofs.Math.Dec.{eqb-zero-suc}
use Rattle.std.proofs.lemmas.Slice.Eq.{bytes_eq-Decides}
use Rattle.clap.specs.Faults.{positional_fault, react_fault, settle_fault, step_fault, turn_fault}
use Rattle.clap.specs.Faults.{use_fault}
use Rattle.clap.specs.Kinds.{Kinds, range_kinds}
use Rattle.clap.specs.Simple.{Shape, filled, help_rule}
use Rattle.clap.specs.Walk.{Held, Row, Rule, Text, Waiting, Walk, after_step, arg_by_id}
use Rattle.clap.specs.Walk.{arg_by_index, finished, first_of, has_row, idle, is_pending, option}
use Rattle.clap.specs.Walk.{option_word, plain_word, positional, pushed, reading_by, settled_rows}
use Rattle.clap.specs.Walk.{started, takes_several, takes_values, to_positional, used}
use Rattle.clap.specs.Walk.{used_by_id, value}
use Rattle.clap.specs.Walk.{walked, with_values, without}
use Rattle.clap.specs.declared.error.kind.ErrorKind.TheVariants as kind
use Rattle.clap.specs.declared.parser.matches.ValueSource.TheVariants.{CommandLine}
use Rattle.night_words.specs.Commands.{flag, is_true, value_option}
use Rattle.night_words.proofs.FlagLemmas.{Comes, Form, IsFormed, IsIn, by_mark, by_use, by_value}
use Rattle.night_words.proofs.FlagLemmas.{by_wait, comes, form_in, found_in, is_flag, is_help}
use Rattle.night_words.proofs.FlagLemmas.{is_named, is_option, is_place, none_in, place, standing}
use Rattle.night_words.proofs.FlagLemmas.{stands}
use Rattle.night_words.proofs.RowLemmas.{Grows, IsFull, defaults_grow, first_last, first_use}
use Rattle.night_words.proofs.RowLemmas.{grows_first, grows_full, grows_none, grows_then, no_row}
use Rattle.night_words.proofs.RowLemmas.{row_by, use_grows}
use Rattle.night_words.proofs.TurnLemmas.{first_none, held, help_is_found, mark, second_none}

-- ---- one use

-- a word that was read says that its argument is used: of an option any does
abbrev pub shows : Bool → Option Text → Bool
shows true word = is_some word
shows false word = is_true word

abbrev pub is_shown : Rule → List Row → Bool
is_shown a rows = shows (takes_values a) (first_of a.id rows)

-- a first use leaves a value after
record IsUsed (a : Rule) (values : List Text) (r : List Row) : Type 0 where
  first : Text
  rest : List Text
  none : has_row a.id r ≡ false
  is : used a values r ≡ with_values a.id (reading_by a) CommandLine (first ∷ rest) (without a.id r)
  shown : is_named a ≡ true → shows (takes_values a) (Some first) ≡ true

-- a flag has no value
no_values : (n : ℕ) → range_kinds 0 0 (suc n) ≡ [] → ⊥
no_values n none = go (0 == suc n) (eqb-zero-suc n) none
  where
    go : (b : Bool) → b ≡ false → (if b then [] else kind.WrongNumberOfValues ∷ []) ≡ [] → ⊥
    go true e none = cc
    go false e none = cc

flag_used : (id : Text) (values : List Text) (r : List Row)
    → use_fault false (filled (flag id)) values r ≡ [] → IsUsed (filled (flag id)) values r
flag_used id [] r none = record {
  first = codes "true";
  rest = [];
  none = no_row (has_row id r) _ (first_none _ _ none);
  is = refl;
  shown = λ named. refl;
}
flag_used id (v ∷ vs) r none = absurd (no_values (length vs) (first_none _ _ none))

option_used : (id : Text) (values : List Text) (r : List Row)
    → use_fault false (filled (value_option id)) values r ≡ []
    → IsUsed (filled (value_option id)) values r
option_used id [] r none = cc
option_used id (v ∷ vs) r none = record {
  first = v;
  rest = vs;
  none = no_row (has_row id r) _ (first_none _ _ (second_none _ _ none));
  is = refl;
  shown = λ named. refl;
}

place_used : (id : Text) (i : ℕ) (b : Bool) (values : List Text) (r : List Row)
    → use_fault false (place id i b) values r ≡ [] → IsUsed (place id i b) values r
place_used id i b [] r none = cc
place_used id i b (v ∷ vs) r none = record {
  first = v;
  rest = vs;
  none = no_row (has_row id r) _ (first_none _ _ (second_none _ _ none));
  is = refl;
  shown = λ named. refl;
}

help_used : (values : List Text) (r : List Row) → use_fault false (filled help_rule) values r ≡ []
    → ⊥
help_used values r none = help_is_found _ _ _ none

form_used : (s : Shape) (a : Rule) (values : List Text) (r : List Row) → Form s a
    → use_fault false a values r ≡ [] → IsUsed a values r
form_used s a values r (is_flag id e) none = subst (λ b. IsUsed b values r) (sym e)
    (flag_used id values r (subst (λ b. use_fault false b values r ≡ []) e none))
form_used s a values r (is_option id e at) none = subst (λ b. IsUsed b values r) (sym e)
    (option_used id values r (subst (λ b. use_fault false b values r ≡ []) e none))
form_used s a values r (is_place id i b e) none = subst (λ b. IsUsed b values r) (sym e)
    (place_used id i b values r (subst (λ b. use_fault false b values r ≡ []) e none))
form_used s a values r (is_help e) none =
    absurd (help_used values r (subst (λ b. use_fault false b values r ≡ []) e none))

used_grows : (a : Rule) (values : List Text) (r : List Row) → IsUsed a values r
    → Grows r (used a values r)
used_grows a values r u = subst (Grows r) (sym u.is)
    (use_grows a.id (reading_by a) u.first u.rest r u.none)

same_text : (t : Text) → bytes_eq t t ≡ true
same_text t = (bytes_eq-Decides t t).1 refl

used_shows : (a : Rule) (values : List Text) (r : List Row) → IsUsed a values r
    → is_named a ≡ true → is_shown a (used a values r) ≡ true
used_shows a values r u named =
    let row = row_by a.id (reading_by a) CommandLine (u.first ∷ u.rest) in
    let read : first_of a.id (used a values r) ≡ Some u.first =
    ap (first_of a.id) (u.is ∙ first_use a.id (reading_by a) (u.first ∷ u.rest) r u.none)
    ∙ first_last a.id row r u.none (same_text a.id) in
    ap (shows (takes_values a)) read ∙ u.shown named

-- what is shown is a word that was read
shown_word : (b : Bool) (o : Option Text) → shows b o ≡ true → (v : Text) × (o ≡ Some v)
shown_word true None shown = cc
shown_word false None shown = cc
shown_word b (Some v) shown = (v, refl)

grows_shown : (a : Rule) (r more : List Row) → Grows r more → is_shown a r ≡ true
    → is_shown a more ≡ true
grows_shown a r more grows shown =
    let w = shown_word (takes_values a) (first_of a.id r) shown in
    ap (shows (takes_values a)) (grows_first a.id w.0 r more grows w.1 ∙ sym w.1) ∙ shown

-- ---- what is held

-- a flag or an option was used
pub record IsReported (s : Shape) (r : List Row) : Type 0 where
  pub rule : Rule
  pub there : IsIn rule s.rules
  pub named : is_named rule ≡ true
  pub shown : is_shown rule r ≡ true

reported_grows : (s : Shape) (r more : List Row) → Grows r more → IsReported s r → IsReported s more
reported_grows s r more grows t = record {
  rule = t.rule;
  there = t.there;
  named = t.named;
  shown = grows_shown t.rule r more grows t.shown;
}

-- or an option will be, whose values come in
data IsTouched (s : Shape) (r : List Row) (p : Option (Text × List Text)) : Type 0 where
  reported : IsReported s r → IsTouched s r p
  waited : (a : Rule) → IsIn a s.rules → is_named a ≡ true → arg_by_id s.rules a.id ≡ Some a
      → (values : List Text) → p ≡ Some (a.id, values) → IsTouched s r p

module _ (s : Shape) (formed : IsFormed s) where
  abbrev Settles : List Row → Option (Text × List Text) → Type 0
  Settles r p = settle_fault s.rules s.args_override_self (held r p) ≡ []

  once : (r : List Row) (p : Option (Text × List Text)) → Settles r p
      → settle_fault s.rules false (held r p) ≡ []
  once r p none = subst (λ b. settle_fault s.rules b (held r p) ≡ []) formed.once none

  pub settled_grows : (r : List Row) (p : Option (Text × List Text)) → Settles r p
      → Grows r (settled_rows s.rules p r)
  settled_grows r None none = grows_none r
  settled_grows r (Some v) none = go (arg_by_id s.rules v.0) refl (once r (Some v) none)
    where
      go : (o : Option Rule) → arg_by_id s.rules v.0 ≡ o
          → option_map_or (λ a. use_fault false a v.1 r) o [] ≡ []
          → Grows r (used_by_id o v.1 r)
      go None found none = grows_none r
      go (Some a) found none = used_grows a v.1 r
          (form_used s a v.1 r (form_in s formed a (found_in _ a s.rules found).0) none)

  settled_reported : (r : List Row) (p : Option (Text × List Text)) → IsTouched s r p → Settles r p
      → IsReported s (settled_rows s.rules p r)
  settled_reported r p (reported t) none = reported_grows s r _ (settled_grows r p none) t
  settled_reported r p (waited a is named at values e) none =
      subst (λ o. IsReported s (settled_rows s.rules o r)) (sym e) (record {
        rule = a;
        there = is;
        named = named;
        shown = ap (λ o. is_shown a (used_by_id o values r)) at
            ∙ used_shows a values r (form_used s a values r (form_in s formed a is) fine) named;
      })
    where
      fine : use_fault false a values r ≡ []
      fine = subst (λ o. option_map_or (λ b. use_fault false b values r) o [] ≡ []) at
          (subst (λ o. settle_fault s.rules false (held r o) ≡ []) e (once r p none))

  -- the rows after a use
  abbrev Reacts : Rule → List Text → List Row → Option (Text × List Text) → Type 0
  Reacts a values r p = react_fault s.rules s.args_override_self a values (held r p) ≡ []

  is_used : (a : Rule) → IsIn a s.rules → (values : List Text) (r : List Row)
      (p : Option (Text × List Text)) → Reacts a values r p
      → IsUsed a values (settled_rows s.rules p r)
  is_used a is values r p none =
      form_used s a values (settled_rows s.rules p r) (form_in s formed a is)
      (subst (λ b. use_fault b a values (settled_rows s.rules p r) ≡ []) formed.once
      (second_none (settle_fault s.rules s.args_override_self (held r p)) _ none))

  -- ---- where the walk stands

  -- each row has a value, and a flag or an option was used
  pub record IsKept (w : Walk) : Type 0 where
    rows : List Row
    pending : Option (Text × List Text)
    waiting : Waiting
    position : ℕ
    behind : Bool
    is : w ≡ standing rows pending waiting position behind
    full : IsFull rows
    touched : IsTouched s rows pending

  kept : (w : Walk) (r : List Row) (p : Option (Text × List Text)) (q : Waiting) (n : ℕ)
      (t : Bool) → w ≡ standing r p q n t → IsFull r → IsTouched s r p → IsKept w
  kept w r p q n t at full touched = record {
    rows = r;
    pending = p;
    waiting = q;
    position = n;
    behind = t;
    is = at;
    full = full;
    touched = touched;
  }

  -- a use that none came before
  pub used_kept : (r : List Row) (p : Option (Text × List Text)) (n : ℕ) (w : Walk) (a : Rule)
      (values : List Text) → IsFull r → IsIn a s.rules → is_named a ≡ true → Reacts a values r p
      → w ≡ stands (used a values (settled_rows s.rules p r)) None n false → IsKept w
  used_kept r p n w a values full is named none at =
      let u = is_used a is values r p none in
      let more = grows_then r (settled_rows s.rules p r)
      (used a values (settled_rows s.rules p r)) (settled_grows r p (first_none _ _ none))
      (used_grows a values (settled_rows s.rules p r) u) in
      kept w (used a values (settled_rows s.rules p r)) None idle n false at
      (grows_full r _ more full) (reported (record {
        rule = a;
        there = is;
        named = named;
        shown = used_shows a values (settled_rows s.rules p r) u named;
      }))

  pub wait_kept : (r : List Row) (p : Option (Text × List Text)) (n : ℕ) (w : Walk) (a : Rule)
      → IsFull r → IsIn a s.rules → is_named a ≡ true → arg_by_id s.rules a.id ≡ Some a
      → Settles r p
      → w ≡ standing (settled_rows s.rules p r) (Some (a.id, [])) (option a.id) n false → IsKept w
  wait_kept r p n w a full is named at_id none at =
      kept w (settled_rows s.rules p r) (Some (a.id, [])) (option a.id) n false at
      (grows_full r _ (settled_grows r p none) full) (waited a is named at_id [] refl)

  -- ---- one more word

  -- a value more for what is pending
  pushed_touched : (r : List Row) (p : Option (Text × List Text)) (id word : Text)
      → IsTouched s r p
      → IsTouched s r (Some ((started id p).0, (started id p).1 ++ word ∷ []))
  pushed_touched r p id word (reported t) = reported t
  pushed_touched r p id word (waited a is named at values e) =
      waited a is named at (values ++ word ∷ [])
      (ap (λ o. Some ((started id o).0, (started id o).1 ++ word ∷ [])) e)

  -- a value that goes to a place, or to none
  module _ (r : List Row) (p : Option (Text × List Text)) (q : Waiting) (n : ℕ) (t : Bool)
      (word : Text) (full : IsFull r) (touched : IsTouched s r p) where
    value_kept : (o : Option Rule) → (w : Walk)
        → option_map_or (λ a. positional_fault s.rules s.args_override_self a (held r p)) o [] ≡ []
        → w ≡ to_positional s.rules o word (standing r p q n t) (held r p) → IsKept w
    value_kept None w none at = kept w r p q n t at full touched
    value_kept (Some a) w none at = go (is_pending a p && takes_several a) none at
      where
        go : (b : Bool)
            → (if b then [] else settle_fault s.rules s.args_override_self (held r p)) ≡ []
            → w ≡ record (to_positional s.rules (Some a) word (standing r p q n t) (held r p)) {
              held = pushed a.id word (if b then held r p
                  else held (settled_rows s.rules p r) None);
            }
            → IsKept w
        go true none at =
            kept w r (Some ((started a.id p).0, (started a.id p).1 ++ word ∷ [])) _ _ _ at full
            (pushed_touched r p a.id word touched)
        go false none at =
            kept w (settled_rows s.rules p r) (Some (a.id, word ∷ [])) _ _ _ at
            (grows_full r _ (settled_grows r p none) full)
            (reported (settled_reported r p touched none))

    -- a value of an option that waits for one
    option_kept : (id : Text) (o : Option Rule) → (w : Walk)
        → w ≡ record (standing r p q n t) {
          held = (option_word o id word (held r p)).0;
          waiting = (option_word o id word (held r p)).1;
        }
        → IsKept w
    option_kept id None w at = kept w r p (option id) n t at full touched
    option_kept id (Some a) w at =
        kept w r (Some ((started id p).0, (started id p).1 ++ word ∷ []))
        (option_word (Some a) id word (held r p)).1 n t at full
        (pushed_touched r p id word touched)

  -- a place that nothing takes is one that is found
  taken_value : (n : ℕ) (h : Held) (o : Option Rule) (stray : Kinds)
      → option_map_or (λ a. positional_fault s.rules s.args_override_self a h) o stray ≡ []
      → option_map_or (λ a. positional_fault s.rules s.args_override_self a h) o [] ≡ []
  taken_value n h None stray none = refl
  taken_value n h (Some a) stray none = none

  module _ (r : List Row) (p : Option (Text × List Text)) (n : ℕ) (word : Text)
      (full : IsFull r) (touched : IsTouched s r p) where
    abbrev After : Waiting → Bool → Type 0
    After q t = IsKept (walked s.rules [] (standing r p q n t) word)

    plain_kept : (q : Waiting) → step_fault s n (plain_word s.rules q word (held r p)).0
        (plain_word s.rules q word (held r p)).1 ≡ []
        → walked s.rules [] (standing r p q n false) word
        ≡ after_step s.rules word (standing r p q n false)
        (plain_word s.rules q word (held r p)).0 (plain_word s.rules q word (held r p)).1
        → After q false
    plain_kept idle none at = value_kept r p idle n false word full touched
        (arg_by_index s.rules n) _ (taken_value n (held r p) (arg_by_index s.rules n) _ none) at
    plain_kept positional none at = value_kept r p positional n false word full touched
        (arg_by_index s.rules n) _ (taken_value n (held r p) (arg_by_index s.rules n) _ none) at
    plain_kept (option id) none at =
        option_kept r p (option id) n false word full touched id (arg_by_id s.rules id) _ at

    came_kept : (q : Waiting) → Comes s r p q n word → After q false
    came_kept q (by_mark m at) = kept _ r p q n true at full touched
    came_kept q (by_use a is named values none at) =
        used_kept r p n _ a values full is named none at
    came_kept q (by_wait a is named takes at_id none at) =
        wait_kept r p n _ a full is named at_id none at
    came_kept q (by_value none at) = plain_kept q none at

    word_kept : (q : Waiting) (t : Bool) → turn_fault s [] (standing r p q n t) word ≡ []
        → After q t
    unfolding walked
    word_kept q true none = value_kept r p q n true word full touched (arg_by_index s.rules n) _
        (taken_value n (held r p) (arg_by_index s.rules n) _ none) refl
    word_kept q false none = came_kept q (comes s formed r p q n word none)

  pub keeps : (w : Walk) (word : Text) → IsKept w → turn_fault s [] w word ≡ []
      → IsKept (walked s.rules [] w word)
  keeps w word k none =
      subst (λ v. IsKept (walked s.rules [] v word)) (sym k.is)
      (word_kept k.rows k.pending k.position word k.full k.touched k.waiting k.behind
      (subst (λ v. turn_fault s [] v word ≡ []) k.is none))

  -- ---- after the last word

  -- what is read at the end
  abbrev pub end_rows : Walk → List Row
  end_rows w = finished s.rules w.held

  pub end_full : (r : List Row) (p : Option (Text × List Text)) (w : Walk) → IsFull r
      → w.held ≡ held r p → settle_fault s.rules s.args_override_self w.held ≡ []
      → IsFull (end_rows w)
  end_full r p w full is none =
      let fine : Settles r p =
      subst (λ h. settle_fault s.rules s.args_override_self h ≡ []) is none in
      subst (λ h. IsFull (finished s.rules h)) (sym is)
      (grows_full _ _ (defaults_grow s.rules (settled_rows s.rules p r))
      (grows_full r _ (settled_grows r p fine) full))

  pub end_reported : (w : Walk) → IsKept w
      → settle_fault s.rules s.args_override_self w.held ≡ [] → IsReported s (end_rows w)
  end_reported w k none =
      let is = ap (λ (v : Walk). v.held) k.is in
      let fine : Settles k.rows k.pending =
      subst (λ h. settle_fault s.rules s.args_override_self h ≡ []) is none in
      subst (λ h. IsReported s (finished s.rules h)) (sym is)
      (reported_grows s _ _ (defaults_grow s.rules (settled_rows s.rules k.pending k.rows))
      (settled_reported k.rows k.pending k.touched fine))

  pub kept_full : (w : Walk) → IsKept w
      → settle_fault s.rules s.args_override_self w.held ≡ [] → IsFull (end_rows w)
  kept_full w k none = end_full k.rows k.pending w k.full (ap (λ (v : Walk). v.held) k.is) none

  -- ---- a word after words of which none was a flag or an option

  -- what it comes to
  pub data Came (r : List Row) (p : Option (Text × List Text)) (n : ℕ) (w : Walk) (word : Text)
      : Type 0 where
    a_mark : word ≡ mark → walked s.rules [] w word ≡ stands r p n true → Came r p n w word
    a_flag : IsKept (walked s.rules [] w word) → Came r p n w word
    a_value : step_fault s n (held r p) value ≡ []
        → walked s.rules [] w word
        ≡ to_positional s.rules (arg_by_index s.rules n) word (stands r p n false) (held r p)
        → Came r p n w word

  pub came : (r : List Row) (p : Option (Text × List Text)) (n : ℕ) (w : Walk) (word : Text)
      → IsFull r → w ≡ stands r p n false → turn_fault s [] w word ≡ [] → Came r p n w word
  came r p n w word full ew none = go (comes s formed r p idle n word
      (subst (λ (v : Walk). turn_fault s [] v word ≡ []) ew none))
    where
      -- where it stood is where it goes on
      from : (v : Walk) → walked s.rules [] (stands r p n false) word ≡ v
          → walked s.rules [] w word ≡ v
      from v at = ap (λ (u : Walk). walked s.rules [] u word) ew ∙ at

      go : Comes s r p idle n word → Came r p n w word
      go (by_mark m at) = a_mark m (from _ at)
      go (by_use a there named values fine at) =
          a_flag (used_kept r p n _ a values full there named fine (from _ at))
      go (by_wait a there named takes at_id fine at) =
          a_flag (wait_kept r p n _ a full there named at_id fine (from _ at))
      go (by_value fine at) = a_value fine (from _ at)

-- ---- where nothing was used

-- no flag and no option is told
abbrev is_reported : List Row → Rule → Bool
is_reported rows a = is_named a && is_shown a rows

abbrev pub IsQuiet : Shape → List Row → Type 0
IsQuiet s rows = list_any (is_reported rows) s.rules ≡ false

pub not_reported : (s : Shape) (rows : List Row) → IsQuiet s rows → IsReported s rows → ⊥
not_reported s rows quiet t = none_in (is_reported rows) t.rule s.rules quiet t.there
    (ap (λ b. b && is_shown t.rule rows) t.named ∙ t.shown)
