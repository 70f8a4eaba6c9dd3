-- The scope with a name, found along its chain.
use Rattle.run_model.proofs.Common.{◌≡◌, ◌≢◌, ◌<◌, ◌≤◌, ℕ, Bool, true, false, cond, List, [], ◌∷◌}
use Rattle.run_model.proofs.Common.{◌++◌, length, map, Option, Some, None, slice_get, get_or, inl}
use Rattle.run_model.proofs.Common.{inr, refl, sym, subst, ap, ◌∙◌, arith, nat_lt, is_none}
use Rattle.run_model.proofs.Common.{option_map, option_map_or, bytes_eq, cases_lt, cases_eq}
use Rattle.run_model.proofs.Common.{lt-ltb, le-ltb, length-map, same_Some, slice_get_within}
use Rattle.run_model.proofs.Common.{slice_get-get_or, slice_get-map, slice_get_read}
use Rattle.run_model.proofs.Common.{get_or_from_slice_get}
use Rattle.run_model.proofs.Common.{bytes_eq-Decides, false≢true, at_row, with_hit, tick, hit_due}
use Rattle.run_model.proofs.Common.{name_is_free, map_cases, map-append, IfSome, is_root}
use Rattle.run_model.proofs.Common.{is_detached, ◌||◌}
use Rattle.std.specs.List.{position}
use Rattle.std.proofs.lemmas.List.Sums.{position_or_len_is}
use Rattle.run_model.specs.declared.scopes.Scope.{Scope}
use Rattle.run_model.specs.declared.scopes.Hit.{Hit}
use Rattle.run_model.proofs.NameLemmas.{names_pushed}
use Rattle.run_model.proofs.RowLemmas.{map-at_row}
use Rattle.scope_tree.specs.Chains.{IsLast, Places}
use Rattle.scope_tree.specs.Links.{link_of, links_of, AreFound}
use Rattle.scope_tree.specs.Names.{home, names_of, homes_of, AreDistinct, AreNamed}
use Rattle.model_laws.proofs.Making.{ticked_name}

-- ---- the first that passes

position_is : {X : Type 0} (p : X → Bool) (xs : List X) (i : ℕ) (x : X)
    → slice_get xs i ≡ Some x → p x ≡ true
    → ((k : ℕ) (y : X) → k < i → slice_get xs k ≡ Some y → p y ≡ false)
    → position p xs ≡ Some i
position_is p xs i x found passes before =
    let within : i < length xs = slice_get_within xs i x found in
    let at = position_or_len_is p xs i x (omega arith)
    (λ k less. before k (get_or xs k x) less (slice_get-get_or xs k x (omega (arith, less))))
    (λ less. ap p (get_or_from_slice_get xs i x x found) ∙ passes) in
    ap (λ j. cond (nat_lt j (length xs)) (Some j) None) at
    ∙ ap (λ b. cond b (Some i) None) (lt-ltb i (length xs) within)

position_none : {X : Type 0} (p : X → Bool) (xs : List X)
    → ((k : ℕ) (y : X) → slice_get xs k ≡ Some y → p y ≡ false) → position p xs ≡ None
position_none p [] fails = refl
position_none p (x ∷ xs) fails =
    let all = x ∷ xs in
    let at = position_or_len_is p all (length all) x (omega arith)
    (λ k less. fails k (get_or all k x) (slice_get-get_or all k x less))
    (λ less. absurd (omega (arith, less))) in
    ap (λ j. cond (nat_lt j (length all)) (Some j) None) at
    ∙ ap (λ b. cond b (Some (length all)) None) (le-ltb (length all) (length all) (omega arith))

-- ---- names

differs : (a b : List ℕ) → a ≢ b → bytes_eq a b ≡ false
differs a b other = by_test (bytes_eq a b) (bytes_eq-Decides a b).0
  where
    by_test : (test : Bool) → (test ≡ true → a ≡ b) → test ≡ false
    by_test true is = absurd (other (is refl))
    by_test false is = refl

-- The name of a row that is there.
name_at : (rows : List Scope) (n : ℕ) (row : Scope) → slice_get rows n ≡ Some row
    → slice_get (names_of rows) n ≡ Some row.name
name_at rows n row found =
    slice_get-map (λ r. r.name) rows n ∙ ap (option_map (λ r. r.name)) found

-- There are as many names as there are rows.
named_length : (rows : List Scope) (keys : List (Option ℕ)) → AreNamed (names_of rows) keys
    → length keys ≡ length rows
named_length rows keys named =
    ap length named.homes ∙ length-map (names_of rows) (λ name. Some (home name))
    ∙ length-map rows (λ row. row.name)

-- A walk along a chain: no place from k on has the name, and the rest of its chain is below k.
pub record Walking (names : List (List ℕ)) (name : List ℕ) (o : Option ℕ) : Type 0 where
  pub k : ℕ
  pub last : IsLast (homes_of names) (home name) k o
  pub rest : (t : ℕ) → k ≤ t → slice_get names t ≡ Some name → ⊥

pub walk_starts : (names : List (List ℕ)) (keys : List (Option ℕ)) (name : List ℕ) (h : ℕ)
    (o : Option ℕ) → AreNamed names keys → h ≡ home name → IsLast keys h (length keys) o
    → Walking names name o
walk_starts names keys name h o named is last = record {
  k = length keys;
  last = subst (λ l. IsLast l (home name) (length keys) o) named.homes
      (subst (λ j. IsLast keys j (length keys) o) is last);
  rest = λ t more at. absurd (omega (
    arith,
    more,
    slice_get_within names t name at,
    ap length named.homes,
    length-map names (λ n. Some (home n)),
  ));
}

home_at : (names : List (List ℕ)) (t : ℕ) (name : List ℕ) → slice_get names t ≡ Some name
    → slice_get (homes_of names) t ≡ Some (Some (home name))
home_at names t name at =
    slice_get-map (λ n. Some (home n)) names t ∙ ap (option_map (λ n. Some (home n))) at

-- A walk that is at place n reads the row there.
module _ (rows : List Scope) (keys : List (Option ℕ)) (name : List ℕ) (o : Option ℕ) (n : ℕ)
    (named : AreNamed (names_of rows) keys) (walk : Walking (names_of rows) name o)
    (is : o ≡ Some n) where
  here : Walking (names_of rows) name (Some n)
  here = subst (Walking (names_of rows) name) is walk

  pub walk_inside : n < length rows
  walk_inside =
      let names = names_of rows in
      let within = slice_get_within (homes_of names) n (Some (home name)) here.last.1 in
      omega (
        arith,
        within,
        length-map names (λ m. Some (home m)),
        length-map rows (λ row. row.name),
      )

  pub walk_linked : n < length keys
  walk_linked = omega (arith, walk_inside, named_length rows keys named)

  module _ (row : Scope) (bytes : List ℕ) (read : row ≡ get_or rows n row)
      (bytes_are : bytes ≡ (get_or rows n row).name) where
    found : slice_get rows n ≡ Some row
    found = slice_get_read rows _ n row refl walk_inside read

    name_is : bytes ≡ row.name
    name_is = bytes_are ∙ ap (λ r. r.name) (sym read)

    -- It has the name.
    pub walk_finds : true ≡ bytes_eq name bytes
        → Some n ≡ position (λ row. bytes_eq name row.name) rows
    walk_finds spelled =
        let same : name ≡ row.name =
        (bytes_eq-Decides name bytes).0 (sym spelled) ∙ name_is in
        sym (position_is (λ row. bytes_eq name row.name) rows n row found
        ((bytes_eq-Decides name row.name).1 same)
        (λ k other less at. differs name other.name (λ e. absurd (omega (
          arith,
          less,
          named.distinct k n other.name row.name (name_at rows k other at)
              (name_at rows n row found) (sym e ∙ same),
        )))))

    -- It has another.
    pub walk_goes_on : false ≡ bytes_eq name bytes → (next : Option ℕ)
        → ((key : ℕ) → slice_get keys n ≡ Some (Some key) → IsLast keys key n next)
        → Walking (names_of rows) name next
    walk_goes_on other next before = record {
      k = n;
      last = subst (λ l. IsLast l (home name) n next) named.homes
          (before (home name) (ap (λ l. slice_get l n) named.homes ∙ here.last.1));
      rest = λ t more at. elim (cases_lt t here.k) [
        | inr past ↦ here.rest t past at
        | inl below ↦ elim (cases_eq t n) [
          | inl same ↦ differ (same_Some name row.name
              (sym at ∙ ap (slice_get (names_of rows)) same ∙ name_at rows n row found))
          | inr apart ↦ here.last.2 t (omega (arith, more, apart)) below
              (home_at (names_of rows) t name at)
        ]
      ];
    }
      where
        differ : name ≡ row.name → ⊥
        differ same = false≢true (other ∙ (bytes_eq-Decides name bytes).1 (same ∙ sym name_is))

pub no_place : (rows : List Scope) (name : List ℕ) → Walking (names_of rows) name None
    → position (λ row. bytes_eq name row.name) rows ≡ None
no_place rows name was = position_none (λ row. bytes_eq name row.name) rows
    (λ k row found. differs name row.name (λ e. not_there k
    (name_at rows k row found ∙ ap Some (sym e))))
  where
    not_there : (t : ℕ) → slice_get (names_of rows) t ≡ Some name → ⊥
    not_there t at = elim (cases_lt t was.k) [
      | inl below ↦ was.last t below (home_at (names_of rows) t name at)
      | inr past ↦ was.rest t past at
    ]

-- ---- a name more

named_push : (rows : List Scope) (keys keys' : List (Option ℕ)) (row : Scope)
    → AreNamed (names_of rows) keys
    → is_none (position (λ r. bytes_eq row.name r.name) rows) ≡ true
    → keys' ≡ keys ++ Some (home row.name) ∷ []
    → AreNamed (names_of (rows ++ row ∷ [])) keys'
named_push rows keys keys' row named free pushed =
    let names = map-append (λ r. r.name) rows (row ∷ []) in
    record {
      distinct = subst AreDistinct (sym names)
          (names_pushed (λ n. n) (names_of rows) row.name named.distinct not_there);
      homes = pushed ∙ ap (λ l. l ++ Some (home row.name) ∷ []) named.homes
          ∙ sym (ap homes_of names ∙ map-append (λ n. Some (home n)) (names_of rows)
          (row.name ∷ []));
    }
  where
    not_there : (k : ℕ) (name : List ℕ) → slice_get (names_of rows) k ≡ Some name
        → name ≡ row.name → ⊥
    not_there k name at same =
        let it = map_cases (λ r. r.name) k rows name at in
        name_is_free (λ r. r.name) row.name rows free k it.0 it.1 (sym it.2 ∙ same)

-- ---- changes that leave the names

names_hit : (hit : Hit) (s : ℕ) (rows : List Scope)
    → names_of (at_row (with_hit hit) s rows) ≡ names_of rows
names_hit hit s rows = map-at_row (λ r. r.name) (with_hit hit) s rows (λ row. refl)

names_ticked : (e now : ℕ) (rows : List Scope)
    → names_of (map (tick e now) rows) ≡ names_of rows
names_ticked e now [] = refl
names_ticked e now (row ∷ rows) =
    ap (λ n. n ∷ names_of (map (tick e now) rows)) (ticked_name e now row)
    ∙ ap (λ l. row.name ∷ l) (names_ticked e now rows)

links_ticked : (e now : ℕ) (rows : List Scope)
    → links_of (map (tick e now) rows) ≡ links_of rows
links_ticked e now [] = refl
links_ticked e now (row ∷ rows) =
    ap (λ n. n ∷ links_of (map (tick e now) rows)) (link_kept (hit_due e now row.kind))
    ∙ ap (λ l. link_of row ∷ l) (links_ticked e now rows)
  where
    link_kept : (due : Option Hit)
        → link_of (option_map_or (λ hit. with_hit hit row) due row) ≡ link_of row
    link_kept None = refl
    link_kept (Some hit) = refl

-- ---- names and links

pub link_fits : (row : Scope) (n : ℕ) → (is_root row.kind ≡ false → row.parent < n)
    → IfSome (link_of row) (λ k. k < n)
link_fits row n known = by_root (is_root row.kind) (is_detached row.kind) known
  where
    by_root : (r d : Bool) → (r ≡ false → row.parent < n)
        → IfSome (cond (r || d) None (Some row.parent)) (λ k. k < n)
    by_root true d known = tt
    by_root false true known = tt
    by_root false false known = known refl

-- There are as many names, and as many links, as there are rows.
pub found_lengths : (rows : List Scope) (capacity : ℕ) (names links : Places)
    → AreFound rows capacity names links
    → (length names.keys ≡ length rows) × (length links.keys ≡ length rows)
found_lengths rows capacity names links found = (
  named_length rows names.keys found.named,
  ap length found.linked ∙ length-map rows link_of,
)

pub found_hit : (hit : Hit) (s : ℕ) (rows : List Scope) (capacity : ℕ) (names links : Places)
    → AreFound rows capacity names links
    → AreFound (at_row (with_hit hit) s rows) capacity names links
found_hit hit s rows capacity names links were = record {
  named = subst (λ l. AreNamed l names.keys) (sym (names_hit hit s rows)) were.named;
  linked = were.linked ∙ sym (map-at_row link_of (with_hit hit) s rows (λ row. refl));
  names_fit = were.names_fit;
  links_fit = were.links_fit;
}

pub found_ticked : (e now : ℕ) (rows : List Scope) (capacity : ℕ) (names links : Places)
    → AreFound rows capacity names links → AreFound (map (tick e now) rows) capacity names links
found_ticked e now rows capacity names links were = record {
  named = subst (λ l. AreNamed l names.keys) (sym (names_ticked e now rows)) were.named;
  linked = were.linked ∙ sym (links_ticked e now rows);
  names_fit = were.names_fit;
  links_fit = were.links_fit;
}

pub found_pushed : (rows rows' : List Scope) (capacity capacity' : ℕ) (row : Scope)
    (names links names' links' : Places) → AreFound rows capacity names links
    → is_none (position (λ r. bytes_eq row.name r.name) rows) ≡ true
    → rows' ≡ rows ++ row ∷ [] → capacity' ≡ capacity
    → names' ≡ record names { keys = names.keys ++ Some (home row.name) ∷ [] }
    → links' ≡ record links { keys = links.keys ++ link_of row ∷ [] }
    → AreFound rows' capacity' names' links'
found_pushed rows rows' capacity capacity' row names links names' links' were free rows_are same
    names_are links_are =
    rw (rows_are, same) (record {
      named = named_push rows names.keys names'.keys row were.named free
          (ap (λ (p : Places). p.keys) names_are);
      linked = ap (λ (p : Places). p.keys) links_are
          ∙ ap (λ l. l ++ link_of row ∷ []) were.linked
          ∙ sym (map-append link_of rows (row ∷ []));
      names_fit = ap (λ (p : Places). p.capacity) names_are ∙ were.names_fit;
      links_fit = ap (λ (p : Places). p.capacity) links_are ∙ were.links_fit;
    })
