-- What the parser's matches name, as their caller reads it.
use Rattle.std.proofs.Common.{◌≡◌, ◌∙◌, ℕ, Bool, List, Option, Some, None, [], ap, ap₂}
use Rattle.std.proofs.Common.{false, inl}
use Rattle.std.proofs.Common.{inr, refl, sym, true}
use Rattle.std.specs.Prelude.{Box, codes, option_and_then, option_map, unwrap_or}
use Rattle.std.specs.Prelude.{Result, Ok, Err}
use Rattle.std.specs.Borrow.{Bor}
use Rattle.std.specs.Box.{box_value}
use Rattle.std.specs.Option.{option_map_or}
use Rattle.std.specs.Str.{bytes_eq}
use Rattle.std.proofs.lemmas.Slice.Eq.{bytes_eq-Decides}
use Rattle.clap.proofs.WalkLemmas.{first_value-rows}
use Rattle.clap.specs.Matches.{first_value, found_of, subcommand_name_of}
use Rattle.clap.specs.Simple.{subcommand_rows, subcommand_rows_of}
use Rattle.clap.specs.Walk.{Row, Text, first_of, rows_of}
use Rattle.clap.specs.declared.parser.matches.ArgMatches.{ArgMatches}
use Rattle.clap.specs.declared.parser.matches.ArgMatches.TheViews.{out-ArgMatches, out-SubCommand}
use Rattle.clap.specs.declared.parser.matches.SubCommand.{SubCommand}
use Rattle.night_words.specs.Commands.{Asks, IsCrew, IsForTwo, IsInspect, IsNamed, IsRenewal}
use Rattle.night_words.specs.Commands.{IsView, Named, NamesCrew, NamesDemo, NamesDrive}
use Rattle.night_words.specs.Commands.{NamesFormat, NamesInspect, NamesMigration, NamesPlan}
use Rattle.night_words.specs.Commands.{NamesRenewal, NamesScript}
use Rattle.night_words.specs.Commands.{command_in, has_flag, is_true, named_by, named_in, new_by}
use Rattle.night_words.specs.Commands.{word_in, workers_of}
use Rattle.night_words.specs.declared.requests.Request.{Request}
use Rattle.night_words.specs.declared.requests.Request.TheVariants.{Crew, Inspect, Migrate, Renew}
use Rattle.night_words.specs.declared.requests.Request.TheVariants.{RenewInPlace}
use Rattle.state_views.specs.declared.views.View.{View}
use Rattle.night_words.specs.declared.faults.WordsFault.{WordsFault}
use Rattle.night_words.specs.declared.faults.WordsFault.TheVariants.{NoTree, Phase, Place}
use Rattle.night_words.specs.declared.faults.WordsFault.TheVariants.{SameStores}
use Rattle.night_words.specs.declared.faults.WordsFault.TheVariants.{Views, Workers}
use Rattle.night_words.proofs.PlaceLemmas.{crews, demos, drives, formats, inspects, migrates}
use Rattle.night_words.proofs.PlaceLemmas.{plans, renews, scripts, word_of}
use Rattle.night_words.proofs.ViewLemmas.{view_alike}

-- what is read of a subcommand and of its matches
abbrev pub Read : Type 0
Read = Option (Bor Text × Bor ArgMatches)

abbrev pub read_of : Read → Named
read_of = option_map (λ p. (p.0.now, first_of (codes "STORE") (rows_of (found_of p.1.now))))

module _ {Z : Type 0} where
  -- is what is named
  pub read_is_named : (r : Read) (x : Option (Box SubCommand Z))
      → option_map (λ p. p.0.now) r
      ≡ option_map (λ b. (out-SubCommand (box_value b)).name.now) x
      → option_map (λ p. rows_of (found_of p.1.now)) r
      ≡ option_map (λ p. p.1) (subcommand_rows x)
      → named_in (subcommand_rows x) ≡ read_of r
  read_is_named None None name rows = refl
  read_is_named None (Some b) name rows = cc
  read_is_named (Some p) None name rows = cc
  read_is_named (Some p) (Some b) name rows =
      let text : Option Text → Text = λ o. option_map_or (λ (t : Text). t) o [] in
      let list : Option (List Row) → List Row = λ o. option_map_or (λ (t : List Row). t) o [] in
      let both : Text → List Row → Named = λ t rs. Some (t, first_of (codes "STORE") rs) in
      ap₂ both (sym (ap text name)) (sym (ap list rows))

  -- and each word of it is read with them
  pub read_is_word : (id : Text) (r : Read) (x : Option (Box SubCommand Z))
      → option_map (λ p. rows_of (found_of p.1.now)) r
      ≡ option_map (λ p. p.1) (subcommand_rows x)
      → word_in id (subcommand_rows x)
      ≡ option_and_then (λ p. first_of id (rows_of (found_of p.1.now))) r
  read_is_word id None None rows = refl
  read_is_word id None (Some b) rows = cc
  read_is_word id (Some p) None rows = cc
  read_is_word id (Some p) (Some b) rows =
      let list : Option (List Row) → List Row = λ o. option_map_or (λ (t : List Row). t) o [] in
      ap (λ rs. first_of id rs) (sym (ap list rows))

  -- the command that was entered
  pub entered_is : (x : Option (Box SubCommand Z))
      → command_in (subcommand_rows x)
      ≡ option_map (λ b. (out-SubCommand (box_value b)).name.now) x
  entered_is None = refl
  entered_is (Some b) = refl

-- a word that was read, or the one in its place
pub unwrapped : (o : Option (Bor Text)) (d : Bor Text)
    → (unwrap_or o d).now ≡ unwrap_or (option_map (λ s. s.now) o) d.now
unwrapped None d = refl
unwrapped (Some s) d = refl

-- ---- the parser's matches, as their caller reads them

module _ (m : ArgMatches) (command : Bor Text) (inner : Bor ArgMatches)
    (name : Some command.now ≡ subcommand_name_of m)
    (rows : Some (rows_of (found_of inner.now)) ≡ option_map (λ p. p.1) (subcommand_rows_of m))
  where
    abbrev found : Text → Option Text
    found = first_value (found_of inner.now)

    abbrev entered : Option (Text × List Row)
    entered = subcommand_rows_of m

    -- the command and the store
    pub named_here : named_by m ≡ Some (command.now, found (codes "STORE"))
    named_here =
        read_is_named (Some (command, inner)) (out-ArgMatches m).subcommand name rows
        ∙ ap (λ o. Some (command.now, o))
        (sym (first_value-rows (found_of inner.now) (codes "STORE")))

    -- each word
    word_here : (id : Text) → word_in id entered ≡ found id
    word_here id =
        read_is_word id (Some (command, inner)) (out-ArgMatches m).subcommand rows
        ∙ sym (first_value-rows (found_of inner.now) id)

    -- the new store
    pub new_here : new_by m ≡ found (codes "NEW")
    new_here = word_here (codes "NEW")

    -- whether the words have a flag
    flag_here : (id : Text) (is_set : Bool) → is_set ≡ is_true (found id)
        → has_flag id entered ≡ is_set
    flag_here id is_set read = ap is_true (word_here id) ∙ sym read

    -- the command
    command_here : (word : Text) → command.now ≡ word → command_in entered ≡ Some word
    command_here word is =
        entered_is (out-ArgMatches m).subcommand ∙ sym name ∙ ap (λ t. Some t) is

    -- where the command is `demo`, what was read is what the parser entered
    pub demo_here : (strict : Bool) → command.now ≡ word_of demos
        → strict ≡ is_true (found (codes "strict")) → NamesDemo strict entered
    demo_here strict is read =
        (command_here (word_of demos) is, flag_here (codes "strict") strict read)

    -- so it is where it is `plan`
    pub plan_here : command.now ≡ word_of plans → NamesPlan entered
    plan_here is = command_here (word_of plans) is

    -- and where it is `drive`
    pub drive_here : (store : Text) → command.now ≡ word_of drives
        → Some store ≡ found (codes "STORE") → NamesDrive store entered
    drive_here store is stored =
        (command_here (word_of drives) is, word_here (codes "STORE") ∙ sym stored)

    -- and where it is `format`
    pub format_here : (store : Text) (is_new : Bool) → command.now ≡ word_of formats
        → Some store ≡ found (codes "STORE") → is_new ≡ is_true (found (codes "new"))
        → NamesFormat store is_new entered
    format_here store is_new is stored read = (
      command_here (word_of formats) is,
      word_here (codes "STORE") ∙ sym stored,
      flag_here (codes "new") is_new read,
    )

    -- and `script`
    pub script_here : (store : Text) (strict timed : Bool) → command.now ≡ word_of scripts
        → Some store ≡ found (codes "STORE") → strict ≡ is_true (found (codes "strict"))
        → timed ≡ is_true (found (codes "now")) → NamesScript store strict timed entered
    script_here store strict timed is stored one two = (
      command_here (word_of scripts) is,
      word_here (codes "STORE") ∙ sym stored,
      flag_here (codes "strict") strict one,
      flag_here (codes "now") timed two,
    )

    -- and where it is `crew`
    pub crew_here : (store : Text) (count workers : Option Text) (known : Bool)
        (r : Result Request WordsFault) → command.now ≡ word_of crews
        → count ≡ found (codes "STORE")
        → store ≡ unwrap_or count [] → workers ≡ found (codes "workers")
        → known ≡ is_true (found (codes "known")) → IsCrew store workers known r → Asks entered r
    crew_here store count workers known r is read whole given knows made = go r made
      where
        -- the words of this crew were found
        finds : (s : Text) (n : Option ℕ) (k : Bool) → s ≡ store → workers_of workers ≡ n
            → k ≡ known → NamesCrew s n k entered
        finds s n k over many same = (
          command_here (word_of crews) is,
          ap (λ o. unwrap_or o []) (word_here (codes "STORE") ∙ sym read) ∙ sym whole ∙ sym over,
          ap (λ o. workers_of o) (word_here (codes "workers") ∙ sym given) ∙ many,
          flag_here (codes "known") known knows ∙ sym same,
        )

        go : (r : Result Request WordsFault) → IsCrew store workers known r → Asks entered r
        go (Ok (Crew s n k)) made = finds s.now (Some n) k made.0 made.1 made.2
        go (Err Workers) made = (store, (known, finds store None known refl made refl))
        go other made = absurd made

    -- and where it is `inspect`
    pub inspect_here : (store : Text) (r : Result Request WordsFault)
        → command.now ≡ word_of inspects
        → Some store ≡ found (codes "STORE") → IsInspect store found r → Asks entered r
    inspect_here store r is stored made = go r made
      where
        -- the words of this view were found
        finds : (s : Text) (view : Result View WordsFault) → s ≡ store → IsView found view
            → NamesInspect s view entered
        finds s view over made = (
          command_here (word_of inspects) is,
          word_here (codes "STORE") ∙ sym stored ∙ ap Some (sym over),
          view_alike (λ id. word_in id entered) found word_here view made,
        )

        go : (r : Result Request WordsFault) → IsInspect store found r → Asks entered r
        go (Ok (Inspect s view)) made = finds s.now (Ok view) made.0 made.1
        go (Err Views) made = (store, finds store (Err Views) refl made)
        go (Err NoTree) made = (store, finds store (Err NoTree) refl made)
        go (Err Phase) made = (store, finds store (Err Phase) refl made)
        go other made = absurd made

    -- and where it is `renew`
    pub renewal_here : (store : Text) (new : Option Text) (is_new in_place : Bool)
        (r : Result Request WordsFault) → command.now ≡ word_of renews
        → Some store ≡ found (codes "STORE") → new ≡ found (codes "NEW")
        → is_new ≡ is_true (found (codes "new"))
        → in_place ≡ is_true (found (codes "in-place")) → IsRenewal store new is_new in_place r
        → Asks entered r
    renewal_here store new is_new in_place r is stored read any there made = go r made
      where
        -- the words of this renewal were found
        finds : (s : Text) (n : Option Text) (b p : Bool) → s ≡ store → new ≡ n → is_new ≡ b
            → in_place ≡ p → NamesRenewal s n b p entered
        finds s n b p old fresh alone set = (
          command_here (word_of renews) is,
          word_here (codes "STORE") ∙ sym stored ∙ ap Some (sym old),
          word_here (codes "NEW") ∙ sym read ∙ fresh,
          flag_here (codes "new") is_new any ∙ alone,
          flag_here (codes "in-place") in_place there ∙ set,
        )

        go : (r : Result Request WordsFault) → IsRenewal store new is_new in_place r
            → Asks entered r
        go (Ok (Renew o n b)) made = (
          finds o.now (Some n.now) b false made.0 made.1 (sym made.2) made.3,
          λ same. made.4 (sym made.0 ∙ same),
        )
        go (Ok (RenewInPlace o)) made = finds o.now None false true made.0 made.1 made.2 made.3
        go (Err SameStores) made =
            (store, (is_new, inr (finds store (Some store) is_new false refl made.0 refl made.1)))
        go (Err Place) made =
            let at = finds store new is_new in_place refl refl refl refl in
            (store, (new, (is_new, (in_place, made, at))))
        go other made = absurd made

    -- and where it is `migrate`
    pub migration_here : (store given : Text) (is_new : Bool) (r : Result Request WordsFault)
        → command.now ≡ word_of migrates → Some store ≡ found (codes "STORE")
        → Some given ≡ found (codes "NEW") → is_new ≡ is_true (found (codes "new"))
        → IsForTwo false is_new store given r → Asks entered r
    migration_here store given is_new r is stored read any made = go r made
      where
        -- the words of this migration were found
        finds : (s n : Text) (b : Bool) → s ≡ store → n ≡ given → b ≡ is_new
            → NamesMigration s n b entered
        finds s n b old fresh alone = (
          command_here (word_of migrates) is,
          word_here (codes "STORE") ∙ sym stored ∙ ap Some (sym old),
          word_here (codes "NEW") ∙ sym read ∙ ap Some (sym fresh),
          flag_here (codes "new") is_new any ∙ sym alone,
        )

        go : (r : Result Request WordsFault) → IsForTwo false is_new store given r → Asks entered r
        go (Ok (Migrate o n b)) made = (
          finds o.now n.now b made.2 made.3 made.1,
          λ same. made.4 (sym made.2 ∙ (same ∙ made.3)),
        )
        go (Ok (Renew o n b)) made =
            let bad : false ≡ true = made.0 in
            cc
        go (Err SameStores) made = (store, (is_new, inl (finds store store is_new refl made refl)))
        go other made = absurd made

-- a comparison of two texts, and what it says
pub same : (a b : Text) (r : Bool) → r ≡ bytes_eq a b → r ≡ true → a ≡ b
same a b r compared holds = (bytes_eq-Decides a b).0 (sym compared ∙ holds)

pub differ : (a b : Text) (r : Bool) → r ≡ bytes_eq a b → r ≡ false → a ≡ b → ⊥
differ a b r compared fails is =
    let bad : true ≡ false = sym ((bytes_eq-Decides a b).1 is) ∙ (sym compared ∙ fails) in
    cc

-- the name of the command
abbrev name_in : Named → Text
name_in = λ n. option_map_or (λ (p : Text × Option Text). p.0) n []

-- whether there is a store
abbrev has_store : Named → Bool
has_store = λ n. option_map_or
    (λ (p : Text × Option Text). option_map_or (λ (t : Text). true) p.1 false) n false

-- a store is there or not
store_clash : (named : Named) (name command store : Text) → named ≡ Some (name, None)
    → named ≡ Some (command, Some store) → ⊥
store_clash named name command store none some =
    let bad : false ≡ true = ap has_store (sym none ∙ some) in
    cc

-- a command without a store is `demo`, `plan` or `crew`
pub no_store : (named : Named) (new : Option Text) (name : Text) → IsNamed named new
    → named ≡ Some (name, None) → (name ≡ word_of demos → ⊥) → (name ≡ word_of plans → ⊥)
    → (name ≡ word_of crews → ⊥) → ⊥
no_store named new name which is no_demo no_plan no_crew = go which
  where
    clash : (command store : Text) → named ≡ Some (command, Some store) → ⊥
    clash command store e = store_clash named name command store is e

    go : IsNamed named new → ⊥
    go (inl (first, e)) = no_demo (ap name_in (sym is ∙ e))
    go (inr (inl (first, e))) = no_plan (ap name_in (sym is ∙ e))
    go (inr (inr (inl (first, e)))) = no_crew (ap name_in (sym is ∙ e))
    go (inr (inr (inr (store, inl e)))) = clash (word_of formats) store e
    go (inr (inr (inr (store, inr (inl e))))) = clash (word_of scripts) store e
    go (inr (inr (inr (store, inr (inr (inl e)))))) = clash (word_of inspects) store e
    go (inr (inr (inr (store, inr (inr (inr (inl e))))))) = clash (word_of drives) store e
    go (inr (inr (inr (store, inr (inr (inr (inr (inl e)))))))) = clash (word_of renews) store e
    go (inr (inr (inr (store, inr (inr (inr (inr (inr (given, n))))))))) =
        clash (word_of migrates) store n.0

-- a command over a store that is none of the others is `migrate`
pub two_left : (named : Named) (new : Option Text) (name store : Text) → IsNamed named new
    → named ≡ Some (name, Some store) → (name ≡ word_of demos → ⊥) → (name ≡ word_of plans → ⊥)
    → (name ≡ word_of crews → ⊥) → (name ≡ word_of formats → ⊥) → (name ≡ word_of scripts → ⊥)
    → (name ≡ word_of inspects → ⊥) → (name ≡ word_of drives → ⊥) → (name ≡ word_of renews → ⊥)
    → (name ≡ word_of migrates) × ((given : Text) × (new ≡ Some given))
two_left named new name store which is no_demo no_plan no_crew no_format no_script no_inspect
    no_drive no_renew = go which
  where
    go : IsNamed named new → (name ≡ word_of migrates) × ((given : Text) × (new ≡ Some given))
    go (inl (first, e)) = absurd (no_demo (ap name_in (sym is ∙ e)))
    go (inr (inl (first, e))) = absurd (no_plan (ap name_in (sym is ∙ e)))
    go (inr (inr (inl (first, e)))) = absurd (no_crew (ap name_in (sym is ∙ e)))
    go (inr (inr (inr (s, inl e)))) = absurd (no_format (ap name_in (sym is ∙ e)))
    go (inr (inr (inr (s, inr (inl e))))) = absurd (no_script (ap name_in (sym is ∙ e)))
    go (inr (inr (inr (s, inr (inr (inl e)))))) = absurd (no_inspect (ap name_in (sym is ∙ e)))
    go (inr (inr (inr (s, inr (inr (inr (inl e))))))) = absurd (no_drive (ap name_in (sym is ∙ e)))
    go (inr (inr (inr (s, inr (inr (inr (inr (inl e)))))))) =
        absurd (no_renew (ap name_in (sym is ∙ e)))
    go (inr (inr (inr (s, inr (inr (inr (inr (inr (given, n))))))))) =
        (ap name_in (sym is ∙ n.0), (given, n.1))

-- a new store is there
pub new_is_there : (new : Option Text) (given : Text) → new ≡ Some given → new ≡ None → ⊥
new_is_there new given some none =
    let bad : Some given ≡ None = sym some ∙ none in
    cc
