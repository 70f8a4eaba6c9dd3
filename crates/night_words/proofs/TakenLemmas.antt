-- The words that are taken: a command, and the words after it that it takes.
use Rattle.std.proofs.Common.{◌≡◌, ◌∙◌, ◌∷◌, ◌++◌, ◌⊎◌, Bool, List, Option, Some, None, [], ap}
use Rattle.std.proofs.Common.{append-nil, append_assoc, cond, false, inl, inr, refl, subst, sym}
use Rattle.std.proofs.Common.{true}
use Rattle.std.specs.Prelude.{◌||◌, Err, Ok, codes, fold, option_map}
use Rattle.std.specs.Str.{bytes_eq}
use Rattle.std.proofs.lemmas.Slice.Eq.{bytes_eq-Decides}
use Rattle.clap.specs.Kinds.{Kinds, or_else}
use Rattle.clap.specs.Simple.{Shape, built, entered, names_of, rows_at, subcommand_of}
use Rattle.clap.specs.Faults.{built_fault, entered_fault, other_fault, step_fault, turn_fault}
use Rattle.clap.specs.Walk.{Held, Names, Row, Step, Text, Walk, first_of, idle, nothing_held}
use Rattle.clap.specs.Walk.{subcommand_or_other, value, walk, walked, walked_from}
use Rattle.clap.proofs.OnLiterals.{clap_on_literals}
use Rattle.night_words.specs.Commands.{Asks, AsksAlone, AsksFor, AsksForDemo, AsksForDrive}
use Rattle.night_words.specs.Commands.{AsksForFormat, AsksForInspect, AsksForScript, AsksForTwo}
use Rattle.night_words.specs.Commands.{AsksOver}
use Rattle.night_words.specs.Commands.{IsCausedBy, IsNamed, NamesMigration, NamesRenewal}
use Rattle.night_words.specs.Commands.{command_in, faults_of, is_true, named_in, new_in, night}
use Rattle.night_words.specs.Commands.{word_in}
use Rattle.night_words.specs.declared.requests.Request.{Request}
use Rattle.night_words.specs.declared.requests.Request.TheVariants.{Help, Migrate, Renew}
use Rattle.state_views.specs.declared.views.View.TheVariants.{Whole}
use Rattle.night_words.specs.declared.faults.WordsFault.{WordsFault}
use Rattle.night_words.specs.declared.faults.WordsFault.TheVariants.{Memory, Mistake, NotText}
use Rattle.night_words.specs.declared.faults.WordsFault.TheVariants.{SameStores}
use Rattle.night_words.proofs.LevelLemmas.{first_passes, lower_passes, rest_passes, start}
use Rattle.night_words.proofs.LevelLemmas.{words_pass}
use Rattle.night_words.proofs.PlaceLemmas.{Command, IsOver, IsUnset, Passes, ReadsAlone, Reads}
use Rattle.night_words.proofs.PlaceLemmas.{after_mark, crews, demos, drives, first_alone, formats}
use Rattle.night_words.proofs.PlaceLemmas.{inspects, migrates, over, plans, reads, renews, scripts}
use Rattle.night_words.proofs.PlaceLemmas.{shape, text_is, word_of}
use Rattle.night_words.proofs.TurnLemmas.{above, above_is_strict, first_none, mark}
use Rattle.night_words.proofs.TurnLemmas.{mark_or_value, second_none}
use Rattle.night_words.proofs.ViewLemmas.{views_alike}

-- the names that the parser knows
abbrev names : Names
names = names_of (built night)

-- ---- what a word comes to

-- what is found where a word came to this
abbrev stepped : Shape → Held × Step → Kinds
stepped s met = step_fault s 1 met.0 met.1

-- a value that no place takes is found
stray : (s : Shape) (met : Held × Step) (h : Held) → met ≡ (h, value)
    → (step_fault s 1 h value ≡ [] → ⊥) → stepped s met ≡ [] → ⊥
stray s met h is fails none = fails (subst (λ m. stepped s m ≡ []) is none)

-- where a command takes no value, the mark alone is taken
only_the_mark : (s : Shape) (word : Text)
    → (step_fault s 1 nothing_held value ≡ [] → ⊥)
    → (word ≡ mark)
    ⊎ (subcommand_or_other s.rules None idle 1 word nothing_held ≡ (nothing_held, value))
    → stepped s (subcommand_or_other s.rules None idle 1 word nothing_held) ≡ [] → word ≡ mark
only_the_mark s word fails (inl is) none = is
only_the_mark s word fails (inr is) none = absurd (stray s _ nothing_held is fails none)

-- ---- the first word

-- it is a command, or the mark
abbrev IsFirst : Text → Type 0
IsFirst word = ((c : Command) × (word ≡ word_of c)) ⊎ (word ≡ mark)

first_word : (word : Text) → turn_fault above names start word ≡ [] → IsFirst word
first_word word none =
    go (eq demos) (eq formats) (eq scripts) (eq inspects) (eq migrates) (eq crews) (eq renews)
    (eq plans) (eq drives) (bytes_eq (codes "help") word) refl refl refl refl refl refl refl refl
    refl none
  where
    eq : Command → Bool
    eq c = bytes_eq (word_of c) word

    met : (d f s i m c r p v h : Bool) → Option Text
    met d f s i m c r p v h = option_map (λ (n : Text × List Text). n.0)
        (cond (d || false) (Some (word_of demos, []))
        (cond (f || false) (Some (word_of formats, []))
        (cond (s || false) (Some (word_of scripts, []))
        (cond (i || false) (Some (word_of inspects, []))
        (cond (m || false) (Some (word_of migrates, []))
        (cond (c || false) (Some (word_of crews, []))
        (cond (r || false) (Some (word_of renews, []))
        (cond (p || false) (Some (word_of plans, []))
        (cond (v || false) (Some (word_of drives, []))
        (cond (h || false) (Some (codes "help", [])) None))))))))))

    is : (c : Command) → bytes_eq (word_of c) word ≡ true → IsFirst word
    is c same = inl (c, sym ((bytes_eq-Decides (word_of c) word).0 same))

    go : (d f s i m c r p v h : Bool) → bytes_eq (word_of demos) word ≡ d
        → bytes_eq (word_of formats) word ≡ f → bytes_eq (word_of scripts) word ≡ s
        → bytes_eq (word_of inspects) word ≡ i → bytes_eq (word_of migrates) word ≡ m
        → bytes_eq (word_of crews) word ≡ c → bytes_eq (word_of renews) word ≡ r
        → bytes_eq (word_of plans) word ≡ p → bytes_eq (word_of drives) word ≡ v
        → or_else (other_fault above (met d f s i m c r p v h) word nothing_held)
        (stepped above
        (subcommand_or_other above.rules (met d f s i m c r p v h) idle 1 word nothing_held))
        ≡ [] → IsFirst word
    go true f s i m c r p v h same e1 e2 e3 e4 e5 e6 e7 e8 none = is demos same
    go false true s i m c r p v h e0 same e2 e3 e4 e5 e6 e7 e8 none = is formats same
    go false false true i m c r p v h e0 e1 same e3 e4 e5 e6 e7 e8 none = is scripts same
    go false false false true m c r p v h e0 e1 e2 same e4 e5 e6 e7 e8 none = is inspects same
    go false false false false true c r p v h e0 e1 e2 e3 same e5 e6 e7 e8 none = is migrates same
    go false false false false false true r p v h e0 e1 e2 e3 e4 same e6 e7 e8 none =
        is crews same
    go false false false false false false true p v h e0 e1 e2 e3 e4 e5 same e7 e8 none =
        is renews same
    go false false false false false false false true v h e0 e1 e2 e3 e4 e5 e6 same e8 none =
        is plans same
    go false false false false false false false false true h e0 e1 e2 e3 e4 e5 e6 e7 same none =
        is drives same
    go false false false false false false false false false true e0 e1 e2 e3 e4 e5 e6 e7 e8
        none = cc
    go false false false false false false false false false false e0 e1 e2 e3 e4 e5 e6 e7 e8
        none =
        let fails : step_fault above 1 nothing_held value ≡ [] → ⊥ = λ bad. cc in
        inr (only_the_mark above word fails
        (mark_or_value above above_is_strict 1 word [] None (first_none _ _ none))
        (second_none _ _ none))

-- ---- the words after a command

-- a walk that met the command keeps the words after it
keeps_words : (name : Text) (taken rest : List Text) (w : Walk) → w.stopped ≡ Some (name, taken)
    → (fold (walked above.rules names) w rest).stopped ≡ Some (name, taken ++ rest)
unfolding walked
keeps_words name taken [] w is = is ∙ ap (λ t. Some (name, t)) (sym (append-nil taken))
keeps_words name taken (x ∷ rest) w is =
    keeps_words name (taken ++ x ∷ []) rest (walked above.rules names w x)
    (ap (λ o. (walked_from above.rules names o w x).stopped) is)
    ∙ ap (λ t. Some (name, t)) (append_assoc taken (x ∷ []) rest)

-- where the walk over a command and the words after it stops
abbrev stop : List Text → Option (Text × List Text)
stop words = (walk above.rules names nothing_held words).stopped

abbrev Finds : List Text → Type 0
Finds words = built_fault (built night) nothing_held words ≡ []

-- it stops there, and the parser enters the command
meets : (c : Command) (rest : List Text) → stop (word_of c ∷ rest) ≡ Some (word_of c, rest)
unfolding walked
meets demos rest =
    keeps_words (word_of demos) [] rest (walked above.rules names start (word_of demos)) refl
meets c rest = keeps_words (word_of c) [] rest (walked above.rules names start (word_of c)) refl

enters : (c : Command) (rest : List Text) → entered (built night) (Some (word_of c, rest))
    ≡ Some (word_of c, (rows_at (shape c) rest).1)
enters demos rest = refl
enters c rest = refl

entered_at : (c : Command) (name : Text) (rest : List Text)
    → subcommand_of night (name ∷ word_of c ∷ rest) ≡ Some (word_of c, (rows_at (shape c) rest).1)
entered_at c name rest = ap (entered (built night)) (meets c rest) ∙ enters c rest

-- below it nothing is found
below_passes : (command : Text) (rest : List Text) → stop (command ∷ rest) ≡ Some (command, rest)
    → Finds (command ∷ rest) → entered_fault (built night) (Some (command, rest)) ≡ []
below_passes command rest met none =
    let found : entered_fault (built night) (stop (command ∷ rest)) ≡ [] = lower_passes above names
    (command ∷ rest) _ (entered_fault (built night) (stop (command ∷ rest))) none in
    subst (λ o. entered_fault (built night) o ≡ []) met found

passes : (c : Command) (rest : List Text) → Finds (word_of c ∷ rest) → Passes c rest
passes demos rest none = below_passes (word_of demos) rest (meets demos rest) none
passes c rest none = below_passes (word_of c) rest (meets c rest) none

-- ---- all of the words

-- words in which nothing is found: the command that the parser entered, and what it read there
pub data Taken (words : List Text) : Type 0 where
  takes : (c : Command) (rows : List Row) → subcommand_of night words ≡ Some (word_of c, rows)
      → Reads c rows words → Taken words

-- the mark alone asks for nothing, and neither do no words
mark_alone : Finds (mark ∷ []) → ⊥
unfolding clap_on_literals
mark_alone none = cc

no_words : Finds [] → ⊥
unfolding clap_on_literals
no_words none = cc

-- after the mark each word is one that nothing takes
above_stray : (word : Text)
    → turn_fault above names (walked above.rules names start mark) word ≡ [] → ⊥
unfolding walked
above_stray word none = cc

with_mark : (rest : List Text) → Finds (mark ∷ rest) → ⊥
with_mark [] none = mark_alone none
with_mark (y ∷ ys) none =
    above_stray y (first_passes above names (walked above.rules names start mark) y ys
    (rest_passes above names start mark (y ∷ ys)
    (words_pass above names (mark ∷ y ∷ ys) _ _ none)))

-- words in which nothing is found ask for a command
pub taken : (words : List Text) → faults_of words ≡ [] → Taken words
taken [] none = absurd (no_words none)
taken (name ∷ []) none = absurd (no_words none)
taken (name ∷ word ∷ rest) none = go (first_word word (first_passes above names start word rest
    (words_pass above names (word ∷ rest) _ _ none)))
  where
    at : (w : Text) → word ≡ w → Finds (w ∷ rest)
    at w is = subst (λ w. Finds (w ∷ rest)) is none

    go : IsFirst word → Taken (name ∷ word ∷ rest)
    go (inl (c, is)) = subst (λ w. Taken (name ∷ w ∷ rest)) (sym is)
        (takes c (rows_at (shape c) rest).1 (entered_at c name rest)
        (reads c name rest (passes c rest (at (word_of c) is))))
    go (inr is) = absurd (with_mark rest (at mark is))

-- ---- what the parser names

abbrev entry : List Text → Option (Text × List Row)
entry words = subcommand_of night words

-- what is read of the rows is read of what the parser entered
found : (words : List Text) (c : Text) (rows : List Row) → entry words ≡ Some (c, rows)
    → (id : Text) → first_of id rows ≡ word_in id (entry words)
found words c rows e id = sym (ap (word_in id) e)

-- a command is named
pub taken_is_named : (words : List Text) → Taken words
    → IsNamed (named_in (entry words)) (new_in (entry words))
taken_is_named words (takes c rows e r) = go c e r
  where
    first : Option Text
    first = first_of (codes "STORE") rows

    store_named : (c s : Text) → entry words ≡ Some (c, rows) → first ≡ Some s
        → named_in (entry words) ≡ Some (c, Some s)
    store_named c s e is = ap named_in e ∙ ap (λ o. Some (c, o)) is

    go : (c : Command) → entry words ≡ Some (word_of c, rows) → Reads c rows words
        → IsNamed (named_in (entry words)) (new_in (entry words))
    go demos e r = inl (first, ap named_in e)
    go plans e r = inr (inl (first, ap named_in e))
    go crews e r = inr (inr (inl (first, ap named_in e)))
    go formats e r = inr (inr (inr (r.stored.0, inl (store_named _ _ e r.stored.1))))
    go scripts e r = inr (inr (inr (r.stored.0, inr (inl (store_named _ _ e r.stored.1)))))
    go inspects e r =
        inr (inr (inr (r.stored.0, inr (inr (inl (store_named _ _ e r.stored.1))))))
    go drives e r =
        inr (inr (inr (r.stored.0, inr (inr (inr (inl (store_named _ _ e r.stored.1)))))))
    go renews e r =
        inr (inr (inr (r.stored.0, inr (inr (inr (inr (inl (store_named _ _ e r.stored.1))))))))
    go migrates e r =
        let old = store_named (word_of migrates) r.stored.0.0 e r.stored.0.1 in
        let new = ap new_in e ∙ r.stored.1.1 in
        inr (inr (inr (r.stored.0.0, inr (inr (inr (inr (inr (r.stored.1.0, (old, new)))))))))

-- the command that the parser entered is no other one
not_named : (words : List Text) (rows : List Row) (c d : Command)
    → bytes_eq (word_of c) (word_of d) ≡ false → entry words ≡ Some (word_of c, rows)
    → command_in (entry words) ≡ Some (word_of d) → ⊥
not_named words rows c d differ e is =
    let same = text_is (word_of c) (word_of d) (sym (ap command_in e) ∙ is) in
    let bad : true ≡ false = sym ((bytes_eq-Decides (word_of c) (word_of d)).1 same) ∙ differ in
    cc

-- two stores that are named after `migrate`, to any file, are those that the words ask for
asks_migration : (words : List Text) (old given : Text) → Taken words
    → NamesMigration old given false (entry words)
    → AsksForTwo (word_of migrates) old given words
asks_migration words old given (takes migrates rows e r) is =
    let at = found words (word_of migrates) rows e in
    r.alone (ap is_true (at (codes "new")) ∙ is.3) old given
    (at (codes "STORE") ∙ is.1) (at (codes "NEW") ∙ is.2)
asks_migration words old given (takes c rows e r) is =
    absurd (not_named words rows c migrates refl e is.0)

-- two stores after `renew`, not in place, likewise
asks_renewal : (words : List Text) (old given : Text) → Taken words
    → NamesRenewal old (Some given) false false (entry words)
    → AsksForTwo (word_of renews) old given words
asks_renewal words old given (takes renews rows e r) is =
    let at = found words (word_of renews) rows e in
    r.alone (ap is_true (at (codes "new")) ∙ is.3, ap is_true (at (codes "in-place")) ∙ is.4)
    old given (at (codes "STORE") ∙ is.1) (at (codes "NEW") ∙ is.2)
asks_renewal words old given (takes c rows e r) is =
    absurd (not_named words rows c renews refl e is.0)

-- and what asks for it is asked for
pub taken_asks : (words : List Text) (asked : Request) → Taken words
    → Asks (subcommand_of night words) (Ok asked) → AsksFor asked words
taken_asks words (Migrate o g false) t is = (asks_migration words o.now g.now t is.0, is.1)
taken_asks words (Renew o g false) t is = (asks_renewal words o.now g.now t is.0, is.1)
taken_asks words (Help text) t is = absurd is
taken_asks words asked t is = is

-- and two equal names are those of the words, and so is each other fault
pub taken_fails : (words : List Text) (why : WordsFault) → Taken words
    → Asks (subcommand_of night words) (Err why) → IsCausedBy why words
taken_fails words SameStores t (store, (false, inl is)) =
    (store, (false, inl (asks_migration words store store t is)))
taken_fails words SameStores t (store, (false, inr is)) =
    (store, (false, inr (asks_renewal words store store t is)))
taken_fails words SameStores t (store, (true, is)) = (store, (true, is))
taken_fails words (Mistake text) t is = absurd is
taken_fails words NotText t is = absurd is
taken_fails words Memory t is = absurd is
taken_fails words why t is = is

-- ---- words without a flag

module _ (words : List Text) (none : faults_of words ≡ []) where
  pub demo_without : AsksForDemo false words → AsksAlone (word_of demos) words
  demo_without asks = go (taken words none)
    where
      go : Taken words → AsksAlone (word_of demos) words
      go (takes demos rows e r) =
          r.alone (ap is_true (found words (word_of demos) rows e (codes "strict")) ∙ asks.1)
      go (takes c rows e r) = absurd (not_named words rows c demos refl e asks.0)

  pub format_without : (store : Text) → AsksForFormat store false words
      → AsksOver (word_of formats) store words
  format_without store asks = go (taken words none)
    where
      go : Taken words → AsksOver (word_of formats) store words
      go (takes formats rows e r) =
          let at = found words (word_of formats) rows e in
          r.alone (ap is_true (at (codes "new")) ∙ asks.2) store (at (codes "STORE") ∙ asks.1)
      go (takes c rows e r) = absurd (not_named words rows c formats refl e asks.0)

  pub script_without : (store : Text) → AsksForScript store false false words
      → AsksOver (word_of scripts) store words
  script_without store asks = go (taken words none)
    where
      go : Taken words → AsksOver (word_of scripts) store words
      go (takes scripts rows e r) =
          let at = found words (word_of scripts) rows e in
          r.alone (
            ap is_true (at (codes "strict")) ∙ asks.2,
            ap is_true (at (codes "now")) ∙ asks.3,
          ) store (at (codes "STORE") ∙ asks.1)
      go (takes c rows e r) = absurd (not_named words rows c scripts refl e asks.0)

  pub inspect_without : (store : Text) → AsksForInspect store Whole words
      → AsksOver (word_of inspects) store words
  inspect_without store asks = go (taken words none)
    where
      go : Taken words → AsksOver (word_of inspects) store words
      go (takes inspects rows e r) =
          let at = found words (word_of inspects) rows e in
          r.alone (views_alike (λ id. first_of id rows) (λ id. word_in id (entry words)) at
          false false false false false asks.2) store (at (codes "STORE") ∙ asks.1)
      go (takes c rows e r) = absurd (not_named words rows c inspects refl e asks.0)

  pub drive_without : (store : Text) → AsksForDrive store words
      → AsksOver (word_of drives) store words
  drive_without store asks = go (taken words none)
    where
      go : Taken words → AsksOver (word_of drives) store words
      go (takes drives rows e r) =
          r.alone tt store (found words (word_of drives) rows e (codes "STORE") ∙ asks.1)
      go (takes c rows e r) = absurd (not_named words rows c drives refl e asks.0)

-- ---- and back

-- the parser entered this command, and read this store, and no flag and no option
pub record StandsAlone (c : Command) (store : Text) (words : List Text) : Type 0 where
  rows : List Row
  is : subcommand_of night words ≡ Some (word_of c, rows)
  read : first_of (codes "STORE") rows ≡ Some store
  unset : IsUnset c (λ id. first_of id rows)

module _ (c : Command) (one : IsOver c) (store : Text) where
  alone_there : (name : Text) (rest : List Text) → ReadsAlone c store (over c rest)
      → StandsAlone c store (name ∷ word_of c ∷ rest)
  alone_there name rest read = record {
    rows = (rows_at (shape c) rest).1;
    is = entered_at c name rest;
    read = read.0;
    unset = read.1;
  }

  pub store_alone : (words : List Text) → faults_of words ≡ [] → AsksOver (word_of c) store words
      → StandsAlone c store words
  store_alone words none (name, inl e) = subst (StandsAlone c store) (sym e)
      (alone_there name (store ∷ []) (first_alone c one store false
      (passes c (store ∷ []) (subst (λ w. faults_of w ≡ []) e none))))
  store_alone words none (name, inr (inl e)) = subst (StandsAlone c store) (sym e)
      (alone_there name (mark ∷ store ∷ []) (after_mark c one store))
  store_alone words none (name, inr (inr e)) = subst (StandsAlone c store) (sym e)
      (alone_there name (store ∷ mark ∷ []) (first_alone c one store true
      (passes c (store ∷ mark ∷ []) (subst (λ w. faults_of w ≡ []) e none))))

module _ (store : Text) (words : List Text) (none : faults_of words ≡ []) where
  pub format_alone : AsksOver (word_of formats) store words → AsksForFormat store false words
  format_alone asks =
      let s = store_alone formats tt store words none asks in
      let at = found words (word_of formats) s.rows s.is in (
        ap command_in s.is,
        sym (at (codes "STORE")) ∙ s.read,
        ap is_true (sym (at (codes "new"))) ∙ s.unset,
      )

  pub script_alone : AsksOver (word_of scripts) store words
      → AsksForScript store false false words
  script_alone asks =
      let s = store_alone scripts tt store words none asks in
      let at = found words (word_of scripts) s.rows s.is in (
        ap command_in s.is,
        sym (at (codes "STORE")) ∙ s.read,
        ap is_true (sym (at (codes "strict"))) ∙ s.unset.0,
        ap is_true (sym (at (codes "now"))) ∙ s.unset.1,
      )

  pub inspect_alone : AsksOver (word_of inspects) store words → AsksForInspect store Whole words
  inspect_alone asks =
      let s = store_alone inspects tt store words none asks in
      let at = found words (word_of inspects) s.rows s.is in (
        ap command_in s.is,
        sym (at (codes "STORE")) ∙ s.read,
        views_alike (λ id. word_in id (entry words)) (λ id. first_of id s.rows)
            (λ id. sym (at id)) false false false false false s.unset,
      )

  pub drive_alone : AsksOver (word_of drives) store words → AsksForDrive store words
  drive_alone asks =
      let s = store_alone drives tt store words none asks in
      (ap command_in s.is, sym (found words (word_of drives) s.rows s.is (codes "STORE")) ∙ s.read)
