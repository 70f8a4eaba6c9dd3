-- A plan grows by a line of a round.
use Rattle.std.specs.Prelude.{◌≡◌, ◌<◌, ◌+◌, ◌++◌, ◌∷◌, ◌⊎◌, ℕ, Bool, zero, suc, true}
use Rattle.std.specs.Prelude.{false, List, [], Option, Some, None, length, map, slice_get}
use Rattle.std.specs.List.{filter_map}
use Rattle.std.specs.Option.{is_some, option_map, option_to_list}
use Rattle.std.specs.Global.{Vec}
use Rattle.std.proofs.Common.{arith, inl, inr, refl, sym, ap, subst, ◌∙◌, append_assoc, append-nil}
use Rattle.std.proofs.lemmas.List.{length_push, length-append, map-append}
use Rattle.std.proofs.lemmas.List.{length-map, map_push, same_from_push}
use Rattle.std.proofs.lemmas.Option.{none-some, same_Some, slice_get_within}
use Rattle.night_plan.specs.declared.commands.Command.{Command}
use Rattle.night_plan.specs.declared.commands.Group.{Group}
use Rattle.night_plan.specs.declared.commands.Plan.{Plan}
use Rattle.night_plan.specs.Plans.{IsSound}
use Rattle.plan_lines.specs.declared.lines.Outline.{Outline}
use Rattle.plan_lines.specs.declared.lines.PlanLine.{PlanLine}
use Rattle.plan_lines.specs.declared.lines.PlanLine.TheVariants as line
use Rattle.plan_lines.specs.States.{MayGrow}
use Rattle.drive_lines.specs.declared.reports.Report.{Report}
use Rattle.drive_lines.specs.declared.reports.Report.TheVariants as report
use Rattle.drive_nights.specs.declared.untils.Until.{Until}
use Rattle.drive_parts.specs.declared.growth.Growth.{Growth}
use Rattle.drive_parts.specs.declared.growth.Pending.{Pending}
use Rattle.drive_parts.specs.declared.plans.NightPlan.{NightPlan}
use Rattle.drive_parts.specs.Additions.{Listed, commands_in, group_of, groups_in, is_detail}
use Rattle.drive_parts.specs.Additions.{is_open, key_of, listed, name_of, pool_of, untils_in}
use Rattle.drive_parts.specs.Additions.{with_detail}
use Rattle.drive_parts.specs.Groups.{LacksUntil}
use Rattle.drive_parts.specs.Growth.{CanAdd, CanGrowBy, Closes, GrowsByCommand, GrowsByDetail}
use Rattle.drive_parts.specs.Growth.{GrowsByGroup, GrowsByPool, GrowsByUntil, HasNewDetail}
use Rattle.drive_parts.specs.Growth.{IsGrowing, IsWhole, MayAddCommand, MayAddDetail}
use Rattle.drive_parts.specs.Growth.{MayAddGroup, StaysOf, all_commands, all_keys, groups_after}
use Rattle.drive_parts.specs.Growth.{pools_after}
use Rattle.drive_parts.specs.Names.{AreGroupNames, AreKeys, HasKey, IsGroupName, groups_of}
use Rattle.drive_parts.proofs.Adding.{Extended, IsNoCommand, IsNoGroup, adds, closes}
use Rattle.drive_parts.proofs.Adding.{commands_extended, commands_keep, commands_push, keeps, opens}
use Rattle.drive_parts.proofs.Adding.{stays_open, untils_keep, untils_push, untils_set}
use Rattle.drive_parts.proofs.Naming.{groups_listed}
use Rattle.drive_parts.proofs.Planning.{extended_listed, outlined}

-- ---- rows, and one more of them

pub get_push : {A : Type 0} (xs : List A) (x y : A) (k : ℕ) → slice_get (xs ++ x ∷ []) k ≡ Some y
    → (slice_get xs k ≡ Some y) ⊎ ((k ≡ length xs) × (y ≡ x))
get_push [] x y zero e = inr (refl, sym (same_Some x y e))
get_push [] x y (suc k) e = absurd (none-some y e)
get_push (z ∷ xs) x y zero e = inl e
get_push (z ∷ xs) x y (suc k) e = elim (get_push xs x y k e) [
  | inl before ↦ inl before
  | inr last ↦ inr (ap suc last.0, last.1)
]

pub names_push : (names : List (List ℕ)) (name : List ℕ) → AreGroupNames names → IsGroupName name
    → ((k : ℕ) → slice_get names k ≡ Some name → ⊥) → AreGroupNames (names ++ name ∷ [])
names_push names name are allowed free = record {
  each = λ g other at. elim (get_push names name other g at) [
    | inl before ↦ are.each g other before
    | inr last ↦ subst IsGroupName (sym last.1) allowed
  ];
  own = λ g h other at also.
      elim (get_push names name other g at) [
        | inl before ↦ elim (get_push names name other h also) [
          | inl too ↦ are.own g h other before too
          | inr last ↦ absurd (free g (before ∙ ap Some last.1))
        ]
        | inr last ↦ elim (get_push names name other h also) [
          | inl too ↦ absurd (free h (too ∙ ap Some last.1))
          | inr second ↦ last.0 ∙ sym second.0
        ]
      ];
}

module _ (groups : List ℕ) (keys : List (List ℕ)) (group : ℕ) (key : List ℕ)
    (sized : length keys ≡ length groups) where
  has_push : (of : ℕ) (name : List ℕ) (c : ℕ)
      → HasKey (groups ++ group ∷ []) (keys ++ key ∷ []) of name c
      → HasKey groups keys of name c ⊎ ((c ≡ length groups) × (of ≡ group) × (name ≡ key))
  has_push of name c at = elim (get_push groups group of c at.is_in) [
    | inl before ↦ elim (get_push keys key name c at.has) [
      | inl too ↦ inl (record { is_in = before; has = too })
      | inr last ↦
          absurd (let less = slice_get_within groups c of before in
          omega (arith, less, last.0, sized))
    ]
    | inr last ↦ elim (get_push keys key name c at.has) [
      | inl too ↦
          absurd (let less = slice_get_within keys c name too in
          omega (arith, less, last.0, sized))
      | inr second ↦ inr (last.0, last.1, second.1)
    ]
  ]

  pub keys_push : AreKeys groups keys → ((c : ℕ) → HasKey groups keys group key c → ⊥)
      → AreKeys (groups ++ group ∷ []) (keys ++ key ∷ [])
  keys_push own free c d of name at also = elim (has_push of name c at) [
    | inl before ↦ elim (has_push of name d also) [
      | inl too ↦ own c d of name before too
      | inr last ↦ absurd (free c (record {
        is_in = before.is_in ∙ ap Some last.1;
        has = before.has ∙ ap Some last.2;
      }))
    ]
    | inr last ↦ elim (has_push of name d also) [
      | inl too ↦ absurd (free d (record {
        is_in = too.is_in ∙ ap Some last.1;
        has = too.has ∙ ap Some last.2;
      }))
      | inr second ↦ last.0 ∙ sym second.0
    ]
  ]

-- Two lists that are as long as each other, and one more element of each.
pub same_length_push : {A B : Type 0} (xs more : List A) (ys others : List B) (x : A) (y : B)
    → more ≡ xs ++ x ∷ [] → others ≡ ys ++ y ∷ [] → length xs ≡ length ys
    → length more ≡ length others
same_length_push xs more ys others x y e f h =
    ap length e ∙ length_push xs x ∙ ap (λ (n : ℕ). n + 1) h
    ∙ sym (ap length f ∙ length_push ys y)

-- The same of commands.
pub command_keys_push : (commands : List Command) (keys : List (List ℕ)) (command : Command)
    (key : List ℕ) → length keys ≡ length commands → AreKeys (groups_of commands) keys
    → ((c : ℕ) → HasKey (groups_of commands) keys command.group key c → ⊥)
    → AreKeys (groups_of (commands ++ command ∷ [])) (keys ++ key ∷ [])
command_keys_push commands keys command key sized own free =
    subst (λ (g : List ℕ). AreKeys g (keys ++ key ∷ []))
    (sym (map_push (λ (c : Command). c.group) commands command))
    (keys_push (groups_of commands) keys command.group key
    (sized ∙ sym (length-map commands (λ (c : Command). c.group))) own free)

-- ---- commands by which a plan can grow

pub can_add : (n : NightPlan) (command : Command) (b : Bool) → MayGrow b n.plan command → b ≡ true
    → CanAdd n (listed command)
can_add n command true may is = record {
  own = may.0.own;
  needs = may.0.needs;
  takes = may.0.takes;
  fits = may.1;
}
can_add n command false may is = absurd (let no : false ≡ true = is in cc)

-- The same command and the same plan, by other names.
can_same : (groups others commands numbers : ℕ) (pools sizes : List ℕ) (l m : Listed)
    → groups ≡ others → commands ≡ numbers → pools ≡ sizes → l ≡ m
    → CanGrowBy groups commands pools l → CanGrowBy others numbers sizes m
can_same groups others commands numbers pools sizes l m g c p e can =
    subst (λ (n : ℕ). CanGrowBy n numbers sizes m) g
    (subst (λ (n : ℕ). CanGrowBy groups n sizes m) c
    (subst (λ (s : List ℕ). CanGrowBy groups commands s m) p
    (subst (λ (x : Listed). CanGrowBy groups commands pools x) e can)))

-- ---- a plan and some lines, and one more line

module _ {A : Type 0} (old : List A) (f : List Report → List A) where
  more : (xs : List Report) (r : Report) (l m : List A) (v : A) → l ≡ old ++ f xs
      → m ≡ l ++ v ∷ [] → f (xs ++ r ∷ []) ≡ f xs ++ v ∷ [] → m ≡ old ++ f (xs ++ r ∷ [])
  more xs r l m v are push is =
      push ∙ ap (λ (n : List A). n ++ v ∷ []) are ∙ append_assoc old (f xs) (v ∷ [])
      ∙ ap (λ (n : List A). old ++ n) (sym is)

  same : (xs : List Report) (r : Report) (l m : List A) → l ≡ old ++ f xs → m ≡ l
      → f (xs ++ r ∷ []) ≡ f xs → m ≡ old ++ f (xs ++ r ∷ [])
  same xs r l m are stay is = stay ∙ are ∙ ap (λ (n : List A). old ++ n) (sym is)

pub stays : (n m o : NightPlan) → StaysOf n m → StaysOf m o → StaysOf n o
stays n m o one other = record {
  first = other.first ∙ one.first;
  all = other.all ∙ one.all;
  next = other.next ∙ one.next;
}

-- The commands of a growth are those of its plan, and the pending one.
commands_with : (g : Growth) (o : Option Pending) → g.pending ≡ o
    → all_commands g
    ≡ g.plan.plan.commands.items ++ option_to_list (option_map (λ (p : Pending). p.command) o)
commands_with g o is =
    ap (λ (q : Option Pending). g.plan.plan.commands.items
    ++ option_to_list (option_map (λ (p : Pending). p.command) q)) is

keys_with : (g : Growth) (o : Option Pending) → g.pending ≡ o
    → all_keys g ≡ g.plan.keys.items ++ option_to_list (option_map (λ (p : Pending). p.key) o)
keys_with g o is =
    ap (λ (q : Option Pending). g.plan.keys.items
    ++ option_to_list (option_map (λ (p : Pending). p.key) q)) is

module _ (old : NightPlan) (xs : List Report) (g : Growth) where
  -- The pending command is among the others.
  pub whole_of : (h : Growth) → IsGrowing old xs g → Closes g h → IsWhole old xs h
  whole_of h is to = record {
    plan = record {
      groups = to.groups.groups ∙ is.groups;
      names = ap (λ (v : Vec (List ℕ)). v.items) to.groups.names ∙ is.names;
      untils = ap (λ (v : Vec (Option Until)). v.items) to.groups.untils ∙ is.untils;
      commands = ap (map listed) to.commands ∙ is.commands;
      keys = to.keys ∙ is.keys;
      pools = to.pools ∙ is.pools;
      rest = stays old g.plan h.plan is.rest to.rest;
    };
    pending = to.pending;
    first = to.first ∙ is.first;
  }

  pub growing_of : IsWhole old xs g → is_open xs ≡ false → IsGrowing old xs g
  growing_of is closed = record {
    groups = is.plan.groups;
    names = is.plan.names;
    untils = is.plan.untils;
    commands =
        ap (map listed) (commands_with g None is.pending
        ∙ append-nil g.plan.plan.commands.items)
        ∙ is.plan.commands;
    keys = keys_with g None is.pending ∙ append-nil g.plan.keys.items ∙ is.plan.keys;
    pools = is.plan.pools;
    pending = ap is_some is.pending ∙ sym closed;
    first = is.first;
    rest = is.plan.rest;
  }

  -- A line by which no plan grows.
  pub whole_same : (r : Report) → IsNoGroup r → IsNoCommand r → pool_of r ≡ None
      → IsWhole old xs g → IsGrowing old (xs ++ r ∷ []) g
  whole_same r group command pool is = record {
    groups =
        same old.plan.groups.items (filter_map group_of) xs r g.plan.plan.groups.items
        g.plan.plan.groups.items is.plan.groups refl (keeps group_of xs r group.group);
    names =
        same old.groups.items (filter_map name_of) xs r g.plan.groups.items g.plan.groups.items
        is.plan.names refl (keeps name_of xs r group.name);
    untils =
        same old.untils.items untils_in xs r g.plan.untils.items g.plan.untils.items
        is.plan.untils refl (untils_keep xs r group);
    commands =
        same (map listed old.plan.commands.items) commands_in xs r
        (map listed g.plan.plan.commands.items) (map listed (all_commands g)) is.plan.commands
        (ap (map listed) (commands_with g None is.pending
        ∙ append-nil g.plan.plan.commands.items))
        (commands_keep xs r command);
    keys =
        same old.keys.items (filter_map key_of) xs r g.plan.keys.items (all_keys g) is.plan.keys
        (keys_with g None is.pending ∙ append-nil g.plan.keys.items)
        (keeps key_of xs r command.key);
    pools =
        same old.plan.pools.items (filter_map pool_of) xs r g.plan.plan.pools.items
        g.plan.plan.pools.items is.plan.pools refl (keeps pool_of xs r pool);
    pending = ap is_some is.pending ∙ sym (closes xs r command.outline command.detail);
    first = is.first;
    rest = is.plan.rest;
  }

-- ---- how many there are

pub groups_count : (old : NightPlan) (xs : List Report) (g : Growth)
    → g.plan.plan.groups.items ≡ old.plan.groups.items ++ filter_map group_of xs
    → length g.plan.plan.groups.items ≡ groups_after old xs
groups_count old xs g is =
    ap length is ∙ length-append old.plan.groups.items (filter_map group_of xs)

pub commands_count : (old : NightPlan) (g : Growth) (some : List Listed)
    → map listed g.plan.plan.commands.items ≡ map listed old.plan.commands.items ++ some
    → length g.plan.plan.commands.items ≡ length old.plan.commands.items + length some
commands_count old g some is =
    sym (length-map g.plan.plan.commands.items listed) ∙ ap length is
    ∙ length-append (map listed old.plan.commands.items) some
    ∙ ap (λ (n : ℕ). n + length some) (length-map old.plan.commands.items listed)

-- What follows of a growth, if it came to be.
abbrev pub Grew :
    (old : NightPlan) → List Report → (may : Type 0) → Report → Option Growth → Type 0
Grew old xs may r None = may → ⊥
Grew old xs may r (Some h) = may × IsGrowing old (xs ++ r ∷ []) h

-- ---- a new pool

-- A sound plan is sound with one more pool.
pub sound_pooled : (first : ℕ) (groups : List Group) (pools more : List ℕ)
    (commands : List Command) (order places : List ℕ) (size : ℕ) → more ≡ pools ++ size ∷ []
    → IsSound first groups (length pools) commands order places
    → IsSound first groups (length more) commands order places
sound_pooled first groups pools more commands order places size is sound = record {
  bounded = sound.bounded;
  own = sound.own;
  takes = λ c command take at has.
      let less = sound.takes c command take at has in
      let longer : length more ≡ length pools + 1 = ap length is ∙ length_push pools size in
      omega (arith, less, longer);
  within = sound.within;
  sized = sound.sized;
  placed = sound.placed;
  inside = sound.inside;
  at = sound.at;
  after = sound.after;
  before = sound.before;
}

pub grows_pool : (old : NightPlan) (xs : List Report) (g h : Growth) (size : ℕ)
    → IsWhole old xs g → GrowsByPool size g h
    → IsGrowing old (xs ++ report.Plan (line.Pool size) ∷ []) h
grows_pool old xs g h size is has =
    let r = report.Plan (line.Pool size) in
    let new = has.plan in
    growing_of old (xs ++ r ∷ []) h (record {
      plan = record {
        groups =
            same old.plan.groups.items (filter_map group_of) xs r g.plan.plan.groups.items
            h.plan.plan.groups.items is.plan.groups new.groups.groups (keeps group_of xs r refl);
        names =
            same old.groups.items (filter_map name_of) xs r g.plan.groups.items
            h.plan.groups.items is.plan.names
            (ap (λ (v : Vec (List ℕ)). v.items) new.groups.names) (keeps name_of xs r refl);
        untils =
            same old.untils.items untils_in xs r g.plan.untils.items h.plan.untils.items
            is.plan.untils (ap (λ (v : Vec (Option Until)). v.items) new.groups.untils)
            (untils_keep xs r (record { group = refl; name = refl; after = refl; untils = refl }));
        commands =
            same (map listed old.plan.commands.items) commands_in xs r
            (map listed g.plan.plan.commands.items) (map listed h.plan.plan.commands.items)
            is.plan.commands (ap (map listed) new.commands.commands)
            (commands_keep xs r (record { outline = refl; key = refl; detail = refl }));
        keys =
            same old.keys.items (filter_map key_of) xs r g.plan.keys.items h.plan.keys.items
            is.plan.keys (ap (λ (v : Vec (List ℕ)). v.items) new.commands.keys)
            (keeps key_of xs r refl);
        pools =
            more old.plan.pools.items (filter_map pool_of) xs r g.plan.plan.pools.items
            h.plan.plan.pools.items size is.plan.pools new.pools (adds pool_of xs r size refl);
        rest = stays old g.plan h.plan is.plan.rest new.rest;
      };
      pending = has.pending;
      first = has.first ∙ is.first;
    }) (closes xs r refl refl)

-- ---- a new group

pub grows_group : (old : NightPlan) (xs : List Report) (g : Growth) (group : Group)
    (name : List ℕ) (o : Option Growth) → IsWhole old xs g → GrowsByGroup group name g o
    → Grew old xs (MayAddGroup old xs name) (report.Group group name) o
grows_group old xs g group name None is has = λ may.
    has may.allowed (subst (λ (names : List (List ℕ)). (k : ℕ) → slice_get names k ≡ Some name → ⊥)
    (sym is.plan.names) may.free)
grows_group old xs g group name (Some h) is has =
    let r = report.Group group name in
    let new = has.2 in (
      record {
        allowed = has.0;
        free =
            subst (λ (names : List (List ℕ)). (k : ℕ) → slice_get names k ≡ Some name → ⊥)
            is.plan.names has.1;
      },
      growing_of old (xs ++ r ∷ []) h (record {
        plan = record {
          groups =
              more old.plan.groups.items (filter_map group_of) xs r g.plan.plan.groups.items
              h.plan.plan.groups.items group is.plan.groups new.groups
              (adds group_of xs r group refl);
          names =
              more old.groups.items (filter_map name_of) xs r g.plan.groups.items
              h.plan.groups.items name is.plan.names new.names (adds name_of xs r name refl);
          untils =
              more old.untils.items untils_in xs r g.plan.untils.items h.plan.untils.items None
              is.plan.untils new.untils (untils_push xs r refl);
          commands =
              same (map listed old.plan.commands.items) commands_in xs r
              (map listed g.plan.plan.commands.items) (map listed h.plan.plan.commands.items)
              is.plan.commands (ap (map listed) new.commands.commands)
              (commands_keep xs r (record { outline = refl; key = refl; detail = refl }));
          keys =
              same old.keys.items (filter_map key_of) xs r g.plan.keys.items h.plan.keys.items
              is.plan.keys (ap (λ (v : Vec (List ℕ)). v.items) new.commands.keys)
              (keeps key_of xs r refl);
          pools =
              same old.plan.pools.items (filter_map pool_of) xs r g.plan.plan.pools.items
              h.plan.plan.pools.items is.plan.pools new.pools (keeps pool_of xs r refl);
          rest = stays old g.plan h.plan is.plan.rest new.rest;
        };
        pending = has.3;
        first = has.4 ∙ is.first;
      }) (closes xs r refl refl),
    )

-- ---- the deadline of the last new group

last_or_none : {A : Type 0} (xs : List A)
    → (xs ≡ []) ⊎ ((before : List A) × (last : A) × (xs ≡ before ++ last ∷ []))
last_or_none [] = inl refl
last_or_none {A} (x ∷ xs) = elim (last_or_none xs) [
  | inl none ↦ inr ([], x, ap (λ (l : List A). x ∷ l) none)
  | inr some ↦ inr (x ∷ some.0, some.1, ap (λ (l : List A). x ∷ l) some.2)
]

-- The last deadline of two rows is that of the second one, if it has any.
last_until : (old mine before : List (Option Until)) → old ++ mine ≡ before ++ None ∷ []
    → length old < length (old ++ mine)
    → (some : List (Option Until)) × (mine ≡ some ++ None ∷ []) × (old ++ some ≡ before)
last_until old mine before is longer = elim (last_or_none mine) [
  | inl none ↦
      absurd (let same : length (old ++ mine) ≡ length old =
      ap (λ (l : List (Option Until)). length (old ++ l)) none ∙ ap length (append-nil old) in
      omega arith)
  | inr some ↦
      let parts =
      same_from_push (old ++ some.0) before some.1 None
      (append_assoc old some.0 (some.1 ∷ [])
      ∙ ap (λ (l : List (Option Until)). old ++ l) (sym some.2) ∙ is) in (
        some.0,
        some.2 ∙ ap (λ (u : Option Until). some.0 ++ u ∷ []) parts.1,
        parts.0,
      )
]

pub grows_until : (old : NightPlan) (xs : List Report) (g : Growth) (moment : ℕ) (words : List ℕ)
    (o : Option Growth) → IsWhole old xs g
    → GrowsByUntil (record { moment = moment; words = words }) g o
    → Grew old xs (LacksUntil (untils_in xs)) (report.Until moment words) o
grows_until old xs g moment words None is has = λ may.
    let long : length g.plan.untils.items ≡ length old.untils.items + length (untils_in xs) =
    ap length is.plan.untils ∙ length-append old.untils.items (untils_in xs) in
    let one : length (untils_in xs) ≡ length may.0 + 1 = ap length may.1 ∙ length_push may.0 None in
    let named = old.named in
    let dated = old.dated in
    let first = is.first in
    has (omega arith) (
      old.untils.items ++ may.0,
      is.plan.untils ∙ ap (λ (l : List (Option Until)). old.untils.items ++ l) may.1
          ∙ sym (append_assoc old.untils.items may.0 (None ∷ [])),
    )
grows_until old xs g moment words (Some h) is has =
    let r = report.Until moment words in
    let until : Until = record { moment = moment; words = words } in
    let new = has.1 in
    let named = old.named in
    let dated = old.dated in
    let first = is.first in
    let less : g.first < length g.plan.untils.items = has.0 in
    let long : length g.plan.untils.items ≡ length (old.untils.items ++ untils_in xs) =
    ap length is.plan.untils in
    let last =
    last_until old.untils.items (untils_in xs) new.before (sym is.plan.untils ∙ new.was)
    (omega arith) in (
      (last.0, last.1),
      growing_of old (xs ++ r ∷ []) h (record {
        plan = record {
          groups =
              same old.plan.groups.items (filter_map group_of) xs r g.plan.plan.groups.items
              h.plan.plan.groups.items is.plan.groups
              (ap (λ (p : Plan). p.groups.items) new.plan) (keeps group_of xs r refl);
          names =
              same old.groups.items (filter_map name_of) xs r g.plan.groups.items
              h.plan.groups.items is.plan.names
              (ap (λ (v : Vec (List ℕ)). v.items) new.names) (keeps name_of xs r refl);
          untils =
              new.is
              ∙ ap (λ (l : List (Option Until)). l ++ Some until ∷ []) (sym last.2)
              ∙ append_assoc old.untils.items last.0 (Some until ∷ [])
              ∙ ap (λ (l : List (Option Until)). old.untils.items ++ l)
              (sym (untils_set r until refl refl xs last.0 last.1));
          commands =
              same (map listed old.plan.commands.items) commands_in xs r
              (map listed g.plan.plan.commands.items) (map listed h.plan.plan.commands.items)
              is.plan.commands (ap (λ (p : Plan). map listed p.commands.items) new.plan)
              (commands_keep xs r (record { outline = refl; key = refl; detail = refl }));
          keys =
              same old.keys.items (filter_map key_of) xs r g.plan.keys.items h.plan.keys.items
              is.plan.keys (ap (λ (v : Vec (List ℕ)). v.items) new.keys)
              (keeps key_of xs r refl);
          pools =
              same old.plan.pools.items (filter_map pool_of) xs r g.plan.plan.pools.items
              h.plan.plan.pools.items is.plan.pools (ap (λ (p : Plan). p.pools.items) new.plan)
              (keeps pool_of xs r refl);
          rest = stays old g.plan h.plan is.plan.rest (record {
            first = ap (λ (p : Plan). p.first) new.plan;
            all = new.all;
            next = new.next;
          });
        };
        pending = has.2;
        first = has.3 ∙ is.first;
      }) (closes xs r refl refl),
    )

-- ---- a new command

-- The groups of the commands of a plan that has grown.
groups_grown : (old : NightPlan) (xs : List Report) (g : Growth) → IsWhole old xs g
    → groups_of g.plan.plan.commands.items
    ≡ groups_of old.plan.commands.items ++ groups_in xs
groups_grown old xs g is =
    let own : Listed → ℕ = λ command. command.outline.group in
    sym (groups_listed g.plan.plan.commands.items) ∙ ap (map own) is.plan.commands
    ∙ map-append own (map listed old.plan.commands.items) (commands_in xs)
    ∙ ap (λ (l : List ℕ). l ++ groups_in xs) (groups_listed old.plan.commands.items)

-- The same commands and keys, by another name.
pub key_same : (groups others : List ℕ) (keys same : List (List ℕ)) (group : ℕ) (key : List ℕ)
    (c : ℕ) → groups ≡ others → keys ≡ same → HasKey groups keys group key c
    → HasKey others same group key c
key_same groups others keys same group key c is has at = record {
  is_in = ap (λ (l : List ℕ). slice_get l c) (sym is) ∙ at.is_in;
  has = ap (λ (l : List (List ℕ)). slice_get l c) (sym has) ∙ at.has;
}

pub grows_command : (old : NightPlan) (xs : List Report) (g : Growth) (outline : Outline)
    (key : List ℕ) (o : Option Growth) → IsWhole old xs g → GrowsByCommand outline key g o
    → Grew old xs (MayAddCommand old xs outline.group key) (report.Command outline key) o
grows_command old xs g outline key None is has = λ may.
    has (subst (λ (n : ℕ). outline.group < n) (sym (groups_count old xs g is.plan.groups)) may.own)
    (λ some. may.free some.0 (key_same (groups_of g.plan.plan.commands.items)
    (groups_of old.plan.commands.items ++ groups_in xs) g.plan.keys.items
    (old.keys.items ++ filter_map key_of xs) outline.group key some.0
    (groups_grown old xs g is) is.plan.keys some.1))
grows_command old xs g outline key (Some h) is has =
    let r = report.Command outline key in
    let bare : Listed = record { outline = outline; needs = []; takes = [] } in (
      record {
        own =
            subst (λ (n : ℕ). outline.group < n) (groups_count old xs g is.plan.groups) has.own;
        free = λ c at.
            has.free (
              c,
              key_same (groups_of old.plan.commands.items ++ groups_in xs)
                  (groups_of g.plan.plan.commands.items) (old.keys.items ++ filter_map key_of xs)
                  g.plan.keys.items outline.group key c (sym (groups_grown old xs g is))
                  (sym is.plan.keys) at,
            );
      },
      record {
        groups =
            same old.plan.groups.items (filter_map group_of) xs r g.plan.plan.groups.items
            h.plan.plan.groups.items is.plan.groups
            (ap (λ (n : NightPlan). n.plan.groups.items) has.plan) (keeps group_of xs r refl);
        names =
            same old.groups.items (filter_map name_of) xs r g.plan.groups.items
            h.plan.groups.items is.plan.names
            (ap (λ (n : NightPlan). n.groups.items) has.plan) (keeps name_of xs r refl);
        untils =
            same old.untils.items untils_in xs r g.plan.untils.items h.plan.untils.items
            is.plan.untils (ap (λ (n : NightPlan). n.untils.items) has.plan)
            (untils_keep xs r (record {
              group = refl;
              name = refl;
              after = refl;
              untils = refl;
            }));
        commands =
            more (map listed old.plan.commands.items) commands_in xs r
            (map listed g.plan.plan.commands.items) (map listed (all_commands h)) bare
            is.plan.commands
            (ap (map listed) (commands_with h (Some has.new) has.is)
            ∙ ap (λ (n : NightPlan). map listed (n.plan.commands.items ++ has.new.command ∷ []))
            has.plan
            ∙ map_push listed g.plan.plan.commands.items has.new.command
            ∙ ap (λ (l : Listed). map listed g.plan.plan.commands.items ++ l ∷ [])
            (outlined outline has.new.command has.outlined))
            (commands_push xs r refl);
        keys =
            more old.keys.items (filter_map key_of) xs r g.plan.keys.items (all_keys h) key
            is.plan.keys
            (keys_with h (Some has.new) has.is
            ∙ ap (λ (n : NightPlan). n.keys.items ++ has.new.key ∷ []) has.plan
            ∙ ap (λ (k : List ℕ). g.plan.keys.items ++ k ∷ []) has.called)
            (adds key_of xs r key refl);
        pools =
            same old.plan.pools.items (filter_map pool_of) xs r g.plan.plan.pools.items
            h.plan.plan.pools.items is.plan.pools
            (ap (λ (n : NightPlan). n.plan.pools.items) has.plan) (keeps pool_of xs r refl);
        pending = ap is_some has.is ∙ sym (opens xs r outline refl);
        first = has.first ∙ is.first;
        rest = subst (StaysOf old) (sym has.plan) is.plan.rest;
      },
    )

-- ---- one more need or take

no_pool : (given : PlanLine) → is_detail (report.Plan given) ≡ true
    → pool_of (report.Plan given) ≡ None
no_pool (line.Pool size) is = absurd (let no : false ≡ true = is in cc)
no_pool _ is = refl

pending_there : (o : Option Pending) → is_some o ≡ true → (p : Pending) × (o ≡ Some p)
pending_there None is = absurd (let no : false ≡ true = is in cc)
pending_there (Some p) is = (p, refl)

module _ (old : NightPlan) (xs : List Report) (g : Growth) (given : PlanLine)
    (detail : is_detail (report.Plan given) ≡ true) (is : IsGrowing old xs g) where
  -- The last command of the lines is the one that is pending.
  last_pending : (p : Pending) → g.pending ≡ Some p
      → (e : Extended (commands_in xs) (commands_in (xs ++ report.Plan given ∷ []))
      (report.Plan given))
      → (map listed g.plan.plan.commands.items ≡ map listed old.plan.commands.items ++ e.before)
      × (listed p.command ≡ e.last)
  last_pending p there e =
      same_from_push (map listed g.plan.plan.commands.items)
      (map listed old.plan.commands.items ++ e.before) (listed p.command) e.last
      (sym (map_push listed g.plan.plan.commands.items p.command)
      ∙ ap (map listed) (sym (commands_with g (Some p) there)) ∙ is.commands
      ∙ ap (λ (l : List Listed). map listed old.plan.commands.items ++ l) e.was
      ∙ sym (append_assoc (map listed old.plan.commands.items) e.before (e.last ∷ [])))

  detail_none : GrowsByDetail given g None → MayAddDetail old xs (report.Plan given) → ⊥
  detail_none has may =
      let r = report.Plan given in
      let there = pending_there g.pending (is.pending ∙ may.opened) in
      let e : Extended (commands_in xs) (commands_in (xs ++ r ∷ [])) r =
      commands_extended r detail xs may.opened in
      let last = last_pending there.0 there.1 e in
      let parts =
      same_from_push may.before e.before may.last (with_detail e.last r) (sym may.is ∙ e.is) in
      has there.0 there.1
      (can_same (groups_after old xs) (length g.plan.plan.groups.items)
      (length old.plan.commands.items + length may.before)
      (length g.plan.plan.commands.items) (pools_after old xs) g.plan.plan.pools.items may.last
      (with_detail (listed there.0.command) r) (sym (groups_count old xs g is.groups))
      (ap (λ (l : List Listed). length old.plan.commands.items + length l) parts.0
      ∙ sym (commands_count old g e.before last.0)) (sym is.pools)
      (parts.1 ∙ ap (λ (l : Listed). with_detail l r) (sym last.1)) may.can)

  detail_some : (h : Growth) → HasNewDetail given g h
      → MayAddDetail old xs (report.Plan given)
      × IsGrowing old (xs ++ report.Plan given ∷ []) h
  detail_some h has =
      let r = report.Plan given in
      let opened : is_open xs ≡ true = sym is.pending ∙ ap is_some has.was in
      let e : Extended (commands_in xs) (commands_in (xs ++ r ∷ [])) r =
      commands_extended r detail xs opened in
      let last = last_pending has.old has.was e in
      let new : listed has.new.command ≡ with_detail e.last r =
      extended_listed given has.old.command has.new.command has.extends
      ∙ ap (λ (l : Listed). with_detail l r) last.1 in (
        record {
          opened = opened;
          before = e.before;
          last = with_detail e.last r;
          is = e.is;
          can =
              can_same (length g.plan.plan.groups.items) (groups_after old xs)
              (length g.plan.plan.commands.items)
              (length old.plan.commands.items + length e.before) g.plan.plan.pools.items
              (pools_after old xs) (listed has.new.command) (with_detail e.last r)
              (groups_count old xs g is.groups) (commands_count old g e.before last.0)
              is.pools new has.can;
        },
        record {
          groups =
              same old.plan.groups.items (filter_map group_of) xs r g.plan.plan.groups.items
              h.plan.plan.groups.items is.groups
              (ap (λ (n : NightPlan). n.plan.groups.items) has.plan) (keeps group_of xs r refl);
          names =
              same old.groups.items (filter_map name_of) xs r g.plan.groups.items
              h.plan.groups.items is.names (ap (λ (n : NightPlan). n.groups.items) has.plan)
              (keeps name_of xs r refl);
          untils =
              same old.untils.items untils_in xs r g.plan.untils.items h.plan.untils.items
              is.untils (ap (λ (n : NightPlan). n.untils.items) has.plan)
              (untils_keep xs r (record {
                group = refl;
                name = refl;
                after = refl;
                untils = refl;
              }));
          commands =
              ap (map listed) (commands_with h (Some has.new) has.is)
              ∙ ap (λ (n : NightPlan). map listed (n.plan.commands.items
              ++ has.new.command ∷ [])) has.plan
              ∙ map_push listed g.plan.plan.commands.items has.new.command
              ∙ ap (λ (l : Listed). map listed g.plan.plan.commands.items ++ l ∷ []) new
              ∙ ap (λ (l : List Listed). l ++ with_detail e.last r ∷ []) last.0
              ∙ append_assoc (map listed old.plan.commands.items) e.before
              (with_detail e.last r ∷ [])
              ∙ ap (λ (l : List Listed). map listed old.plan.commands.items ++ l) (sym e.is);
          keys =
              same old.keys.items (filter_map key_of) xs r (all_keys g) (all_keys h) is.keys
              (keys_with h (Some has.new) has.is
              ∙ ap (λ (n : NightPlan). n.keys.items ++ has.new.key ∷ []) has.plan
              ∙ ap (λ (k : List ℕ). g.plan.keys.items ++ k ∷ []) has.key
              ∙ sym (keys_with g (Some has.old) has.was)) (keeps key_of xs r refl);
          pools =
              same old.plan.pools.items (filter_map pool_of) xs r g.plan.plan.pools.items
              h.plan.plan.pools.items is.pools
              (ap (λ (n : NightPlan). n.plan.pools.items) has.plan)
              (keeps pool_of xs r (no_pool given detail));
          pending = ap is_some has.is ∙ sym (stays_open r detail xs opened);
          first = has.first ∙ is.first;
          rest = subst (StaysOf old) (sym has.plan) is.rest;
        },
      )

  pub grows_detail : (o : Option Growth) → GrowsByDetail given g o
      → Grew old xs (MayAddDetail old xs (report.Plan given)) (report.Plan given) o
  grows_detail None has = detail_none has
  grows_detail (Some h) has = detail_some h has
