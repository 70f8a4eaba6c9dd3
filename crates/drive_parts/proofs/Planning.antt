-- One more line of a plan.
use Rattle.std.specs.Prelude.{◌≡◌, ◌≤◌, ◌++◌, ◌∷◌, ◌||◌, ℕ, Bool, true, false, List, []}
use Rattle.std.specs.Prelude.{Option, Some, None, Result, Ok, Err, IfOk, map}
use Rattle.std.specs.List.{cons_option, filter_map, list_any}
use Rattle.std.specs.Option.{option_or}
use Rattle.std.proofs.Common.{refl, sym, ap, subst, ◌∙◌, append-nil}
use Rattle.std.proofs.lemmas.List.{map_push, same_from_push}
use Rattle.std.specs.Global.{Vec}
use Rattle.night_plan.specs.declared.commands.Command.{Command}
use Rattle.night_plan.specs.declared.commands.Group.{Group}
use Rattle.night_plan.specs.declared.commands.Need.{Need}
use Rattle.night_plan.specs.declared.commands.Take.{Take}
use Rattle.plan_lines.specs.declared.lines.Outline.{Outline}
use Rattle.plan_lines.specs.declared.lines.PlanLine.{PlanLine}
use Rattle.plan_lines.specs.declared.lines.PlanLine.TheVariants as line
use Rattle.plan_lines.specs.Commands.{Extends, HasNewNeed, HasNewTake, IsOutlined}
use Rattle.run_model.specs.declared.bounds.TheConstants.{GREATEST_MOMENT}
use Rattle.drive_lines.specs.declared.reports.Report.{Report}
use Rattle.drive_lines.specs.declared.reports.Report.TheVariants as report
use Rattle.drive_nights.specs.declared.untils.Until.{Until}
use Rattle.drive_parts.specs.declared.commands.CommandList.{CommandList}
use Rattle.drive_parts.specs.declared.groups.GroupList.{GroupList}
use Rattle.drive_parts.specs.declared.plans.PlanDraft.{PlanDraft}
use Rattle.drive_parts.specs.Additions.{Listed, commands_in, first_of, group_of, is_detail, is_open}
use Rattle.drive_parts.specs.Additions.{key_of, listed, name_of, need_of, outline_of, take_of}
use Rattle.drive_parts.specs.Additions.{pool_of, until_after, untils_in, with_detail}
use Rattle.drive_parts.specs.Commands.{AreCommands, HasCommand, HasDetail as HasOne}
use Rattle.drive_parts.specs.Groups.{AreGroups, HasUntil, LacksUntil}
use Rattle.drive_parts.specs.Lives.{MayLive, same_try, try_of}
use Rattle.drive_lines.specs.declared.fields.TryName.{TryName}
use Rattle.drive_parts.specs.Plans.{Adds, HasAll, HasDetail, HasGroup, HasLastUntil, IsClosed}
use Rattle.drive_parts.specs.Plans.{IsPlanned, all_of, is_next}
use Rattle.drive_parts.proofs.Adding.{IsNoCommand, IsNoGroup, adds, any_push, or_false, or_none}
use Rattle.drive_parts.proofs.Adding.{closes, commands_extended, commands_keep, commands_push}
use Rattle.drive_parts.proofs.Adding.{or_true, untils_keep}
use Rattle.drive_parts.proofs.Adding.{Extended, first_push, keeps, opens, push_is_some, stays_open}
use Rattle.drive_parts.proofs.Adding.{untils_push, untils_set}

-- ---- groups

pub groups_same : (xs : List Report) (r : Report) (l m : GroupList) → IsNoGroup r → m ≡ l
    → AreGroups xs l → AreGroups (xs ++ r ∷ []) m
groups_same xs r l m none same are =
    subst (AreGroups (xs ++ r ∷ [])) (sym same) (record {
      groups = are.groups ∙ sym (keeps group_of xs r none.group);
      names = are.names ∙ sym (keeps name_of xs r none.name);
      untils =
          are.untils ∙ sym (untils_keep xs r none);
    })

pub groups_more : (xs : List Report) (l m : GroupList) (group : Group) (name : List ℕ)
    → HasGroup group name l m → AreGroups xs l
    → AreGroups (xs ++ report.Group group name ∷ []) m
groups_more xs l m group name has are =
    let r = report.Group group name in
    record {
      groups =
          has.groups ∙ ap (λ (g : List Group). g ++ group ∷ []) are.groups
          ∙ sym (adds group_of xs r group refl);
      names =
          has.names ∙ ap (λ (n : List (List ℕ)). n ++ name ∷ []) are.names
          ∙ sym (adds name_of xs r name refl);
      untils =
          has.untils ∙ ap (λ (u : List (Option Until)). u ++ None ∷ []) are.untils
          ∙ sym (untils_push xs r refl);
    }

pub groups_dated : (xs : List Report) (l m : GroupList) (moment : ℕ) (words : List ℕ)
    → HasUntil (record { moment = moment; words = words }) l (Some m) → AreGroups xs l
    → LacksUntil (untils_in xs) × AreGroups (xs ++ report.Until moment words ∷ []) m
groups_dated xs l m moment words has are =
    let r = report.Until moment words in
    let until : Until = record { moment = moment; words = words } in
    let before = has.2.0 in
    let lacks : untils_in xs ≡ before ++ None ∷ [] = sym are.untils ∙ has.2.1 in (
      (before, lacks),
      record {
        groups =
            ap (λ (v : Vec Group). v.items) has.0 ∙ are.groups
            ∙ sym (keeps group_of xs r refl);
        names =
            ap (λ (v : Vec (List ℕ)). v.items) has.1 ∙ are.names
            ∙ sym (keeps name_of xs r refl);
        untils = has.2.2 ∙ sym (untils_set r until refl refl xs before lacks);
      },
    )

pub groups_lack : (xs : List Report) (l : GroupList) (until : Until)
    → HasUntil until l None → AreGroups xs l → LacksUntil (untils_in xs) → ⊥
groups_lack xs l until has are lacks = has (lacks.0, are.untils ∙ lacks.1)

-- ---- commands

pub commands_same : (xs : List Report) (r : Report) (l m : CommandList) → IsNoCommand r
    → IsClosed l m → AreCommands xs l → AreCommands (xs ++ r ∷ []) m
commands_same xs r l m none closed are = record {
  commands =
      ap (λ (v : Vec Command). map listed v.items) closed.commands ∙ are.commands
      ∙ sym (commands_keep xs r none);
  keys =
      ap (λ (v : Vec (List ℕ)). v.items) closed.keys ∙ are.keys
      ∙ sym (keeps key_of xs r none.key);
  growing = closed.growing ∙ sym (closes xs r none.outline none.detail);
}

-- A command without needs and takes is listed as its line says.
pub outlined : (outline : Outline) (command : Command) → IsOutlined outline command
    → listed command ≡ record { outline = outline; needs = []; takes = [] }
outlined outline command is =
    simp (is.group, is.priority, is.retries, is.wait, is.factor, is.cap, is.needs, is.takes)

pub commands_more : (xs : List Report) (l m : CommandList) (outline : Outline) (key : List ℕ)
    → HasCommand outline key l m → AreCommands xs l
    → AreCommands (xs ++ report.Command outline key ∷ []) m
commands_more xs l m outline key has are =
    let r = report.Command outline key in
    let new : Listed = record { outline = outline; needs = []; takes = [] } in
    record {
      commands =
          ap (map listed) has.commands ∙ map_push listed l.commands.items has.command
          ∙ ap (λ (c : Listed). map listed l.commands.items ++ c ∷ [])
          (outlined outline has.command has.outlined)
          ∙ ap (λ (c : List Listed). c ++ new ∷ []) are.commands
          ∙ sym (commands_push xs r refl);
      keys =
          has.keys ∙ ap (λ (k : List (List ℕ)). k ++ key ∷ []) are.keys
          ∙ sym (adds key_of xs r key refl);
      growing = has.growing ∙ sym (opens xs r outline refl);
    }

-- A need or a take changes how a command is listed.
pub need_listed : (need : Need) (old new : Command) → HasNewNeed old need new
    → listed new ≡ with_detail (listed old) (report.Plan (line.Need need))
need_listed need old new has =
    ap listed has.same
    ∙ ap (λ (needs : List Need). record (listed old) { needs = needs }) has.needs
    ∙ ap (λ (takes : List Take). record {
      outline = (listed old).outline;
      needs = old.needs.items ++ need ∷ [];
      takes = takes;
    }) (sym (append-nil old.takes.items))

pub take_listed : (take : Take) (old new : Command) → HasNewTake old take new
    → listed new ≡ with_detail (listed old) (report.Plan (line.Take take))
take_listed take old new has =
    ap listed has.same
    ∙ ap (λ (takes : List Take). record (listed old) { takes = takes }) has.takes
    ∙ ap (λ (needs : List Need). record {
      outline = (listed old).outline;
      needs = needs;
      takes = old.takes.items ++ take ∷ [];
    }) (sym (append-nil old.needs.items))

-- Any other line changes nothing.
same_listed : (l : Listed) (r : Report) → need_of r ≡ None → take_of r ≡ None
    → l ≡ with_detail l r
same_listed l r need take =
    ap (λ (needs : List Need). record l { needs = needs })
    (sym (ap (λ (o : Option Need). l.needs ++ cons_option o []) need ∙ append-nil l.needs))
    ∙ ap (λ (takes : List Take). record {
      outline = l.outline;
      needs = l.needs ++ filter_map need_of (r ∷ []);
      takes = takes;
    }) (sym (ap (λ (o : Option Take). l.takes ++ cons_option o []) take ∙ append-nil l.takes))

pub extended_listed : (given : PlanLine) (old new : Command) → Extends given old new
    → listed new ≡ with_detail (listed old) (report.Plan given)
extended_listed (line.Need need) old new has = need_listed need old new has
extended_listed (line.Take take) old new has = take_listed take old new has
extended_listed given old new has =
    ap listed has ∙ same_listed (listed old) (report.Plan given) refl refl

-- The last command is listed with one more need or take.
pub commands_grow : (xs : List Report) (given : PlanLine) (l m : CommandList)
    → is_detail (report.Plan given) ≡ true → HasOne given l m → AreCommands xs l
    → (is_open xs ≡ true) × AreCommands (xs ++ report.Plan given ∷ []) m
commands_grow xs given l m detail has are =
    let r = report.Plan given in
    let open_then : is_open xs ≡ true = sym are.growing ∙ has.growing in
    let more : Extended (commands_in xs) (commands_in (xs ++ r ∷ [])) r =
    commands_extended r detail xs open_then in
    let parts =
    same_from_push (map listed has.before) more.before (listed has.old) more.last
    (sym (map_push listed has.before has.old) ∙ ap (map listed) (sym has.had) ∙ are.commands
    ∙ more.was) in (
      open_then,
      record {
        commands =
            ap (map listed) has.has ∙ map_push listed has.before has.new
            ∙ ap (λ (c : Listed). map listed has.before ++ c ∷ [])
            (extended_listed given has.old has.new has.extends)
            ∙ ap (λ (b : List Listed). b ++ with_detail (listed has.old) r ∷ []) parts.0
            ∙ ap (λ (c : Listed). more.before ++ with_detail c r ∷ []) parts.1
            ∙ sym more.is;
        keys =
            ap (λ (v : Vec (List ℕ)). v.items) has.keys ∙ are.keys
            ∙ sym (keeps key_of xs r refl);
        growing = has.goes_on ∙ sym (stays_open r detail xs open_then);
      },
    )

-- No need or take can come next.
pub commands_closed : (xs : List Report) (l : CommandList)
    → (l.growing ≡ true → l.commands.items ≡ []) → AreCommands xs l → is_open xs ≡ true → ⊥
commands_closed xs l none are opened =
    let empty = none (are.growing ∙ opened) in
    let r = report.Plan (line.Take (record { pool = 0; amount = 0 })) in
    let more : Extended (commands_in xs) (commands_in (xs ++ r ∷ [])) r =
    commands_extended r refl xs opened in
    push_is_some more.before more.last
    (sym more.was ∙ sym are.commands ∙ ap (map listed) empty)

-- ---- a whole draft

-- The pools, the deadline of all groups, and whether another night begins.
pub record AreRest (reports : List Report) (e : PlanDraft) : Type 0 where
  pub pools : e.pools.items ≡ filter_map pool_of reports
  pub all : e.all ≡ first_of all_of reports
  pub next : e.next ≡ list_any is_next reports

pub rest_same : (xs : List Report) (r : Report) (d e : PlanDraft) → pool_of r ≡ None
    → all_of r ≡ None → is_next r ≡ false → IsPlanned xs d → e.pools ≡ d.pools → e.all ≡ d.all
    → e.next ≡ d.next → AreRest (xs ++ r ∷ []) e
rest_same xs r d e pool all next is pools alls nexts = record {
  pools =
      ap (λ (v : Vec ℕ). v.items) pools ∙ is.pools ∙ sym (keeps pool_of xs r pool);
  all =
      alls ∙ is.all ∙ sym (first_push all_of xs r
      ∙ ap (option_or (first_of all_of xs)) all ∙ or_none (first_of all_of xs));
  next =
      nexts ∙ is.next ∙ sym (any_push is_next xs r
      ∙ ap (λ (b : Bool). list_any is_next xs || b) next ∙ or_false (list_any is_next xs));
}

pub planned : (reports : List Report) (e : PlanDraft) → AreGroups reports e.groups
    → AreCommands reports e.commands → AreRest reports e → IsPlanned reports e
planned reports e groups commands rest = record {
  groups = groups;
  commands = commands;
  pools = rest.pools;
  all = rest.all;
  next = rest.next;
}

no_group : (r : Report) → group_of r ≡ None → name_of r ≡ None → until_after (r ∷ []) ≡ None
    → untils_in (r ∷ []) ≡ [] → IsNoGroup r
no_group r group name after untils =
    record { group = group; name = name; after = after; untils = untils }

no_command : (r : Report) → outline_of r ≡ None → key_of r ≡ None → is_detail r ≡ false
    → IsNoCommand r
no_command r outline key detail = record { outline = outline; key = key; detail = detail }

pub adds_pool : (xs : List Report) (d e : PlanDraft) (size : ℕ)
    → e.pools.items ≡ d.pools.items ++ size ∷ [] → e.groups ≡ d.groups
    → IsClosed d.commands e.commands → e.all ≡ d.all → e.next ≡ d.next
    → IsPlanned xs d → Adds xs (report.Plan (line.Pool size)) (Some e)
adds_pool xs d e size pools groups commands all next is =
    let r = report.Plan (line.Pool size) in (
      tt,
      record {
        groups =
            groups_same xs r d.groups e.groups (no_group r refl refl refl refl) groups is.groups;
        commands =
            commands_same xs r d.commands e.commands (no_command r refl refl refl) commands
            is.commands;
        pools =
            pools ∙ ap (λ (p : List ℕ). p ++ size ∷ []) is.pools
            ∙ sym (adds pool_of xs r size refl);
        all = all ∙ is.all ∙ sym (first_push all_of xs r ∙ or_none (first_of all_of xs));
        next = next ∙ is.next ∙ sym (any_push is_next xs r ∙ or_false (list_any is_next xs));
      },
    )

pub adds_group : (xs : List Report) (d e : PlanDraft) (group : Group) (name : List ℕ)
    → HasGroup group name d.groups e.groups → IsClosed d.commands e.commands
    → e.pools ≡ d.pools → e.all ≡ d.all → e.next ≡ d.next
    → IsPlanned xs d → Adds xs (report.Group group name) (Some e)
adds_group xs d e group name groups commands pools all next is =
    let r = report.Group group name in (
      tt,
      planned (xs ++ r ∷ []) e
          (groups_more xs d.groups e.groups group name groups is.groups)
          (commands_same xs r d.commands e.commands (no_command r refl refl refl) commands
          is.commands)
          (rest_same xs r d e refl refl refl is pools all next),
    )

pub adds_command : (xs : List Report) (d e : PlanDraft) (outline : Outline) (key : List ℕ)
    → HasCommand outline key d.commands e.commands → e.groups ≡ d.groups
    → e.pools ≡ d.pools → e.all ≡ d.all → e.next ≡ d.next
    → IsPlanned xs d → Adds xs (report.Command outline key) (Some e)
adds_command xs d e outline key commands groups pools all next is =
    let r = report.Command outline key in (
      tt,
      planned (xs ++ r ∷ []) e
          (groups_same xs r d.groups e.groups (no_group r refl refl refl refl) groups is.groups)
          (commands_more xs d.commands e.commands outline key commands is.commands)
          (rest_same xs r d e refl refl refl is pools all next),
    )

-- The last command has one more need or take, if that can come next.
abbrev AddsOpen : (reports : List Report) → Report → Option PlanDraft → Type 0
AddsOpen reports r None = is_open reports ≡ true → ⊥
AddsOpen reports r (Some e) = (is_open reports ≡ true) × IsPlanned (reports ++ r ∷ []) e

adds_detail : (xs : List Report) (d : PlanDraft) (e : Option PlanDraft) (given : PlanLine)
    → is_detail (report.Plan given) ≡ true → pool_of (report.Plan given) ≡ None
    → HasDetail given d e → IsPlanned xs d → AddsOpen xs (report.Plan given) e
adds_detail xs d None given detail pool has is = commands_closed xs d.commands has is.commands
adds_detail xs d (Some e) given detail pool has is =
    let r = report.Plan given in
    let commands =
    commands_grow xs given d.commands e.commands detail has.0 is.commands in (
      commands.0,
      planned (xs ++ r ∷ []) e
          (groups_same xs r d.groups e.groups (no_group r refl refl refl refl) has.1 is.groups)
          commands.1 (rest_same xs r d e pool refl refl is has.2 has.3 has.4),
    )

pub adds_need : (xs : List Report) (d : PlanDraft) (e : Option PlanDraft) (need : Need)
    → HasDetail (line.Need need) d e → IsPlanned xs d
    → Adds xs (report.Plan (line.Need need)) e
adds_need xs d None need has is = adds_detail xs d None (line.Need need) refl refl has is
adds_need xs d (Some e) need has is = adds_detail xs d (Some e) (line.Need need) refl refl has is

pub adds_take : (xs : List Report) (d : PlanDraft) (e : Option PlanDraft) (take : Take)
    → HasDetail (line.Take take) d e → IsPlanned xs d
    → Adds xs (report.Plan (line.Take take)) e
adds_take xs d None take has is = adds_detail xs d None (line.Take take) refl refl has is
adds_take xs d (Some e) take has is = adds_detail xs d (Some e) (line.Take take) refl refl has is

pub adds_until : (xs : List Report) (d : PlanDraft) (e : Option PlanDraft) (moment : ℕ)
    (words : List ℕ) → moment ≤ GREATEST_MOMENT
    → HasLastUntil (record { moment = moment; words = words }) d e → IsPlanned xs d
    → Adds xs (report.Until moment words) e
adds_until xs d None moment words within has is = λ may.
    groups_lack xs d.groups (record { moment = moment; words = words }) has is.groups may.1
adds_until xs d (Some e) moment words within has is =
    let r = report.Until moment words in
    let groups = groups_dated xs d.groups e.groups moment words has.0 is.groups in (
      (within, groups.0),
      planned (xs ++ r ∷ []) e groups.1
          (commands_same xs r d.commands e.commands (no_command r refl refl refl) has.1
          is.commands)
          (rest_same xs r d e refl refl refl is has.2 has.3 has.4),
    )

pub adds_all : (xs : List Report) (d : PlanDraft) (e : Option PlanDraft) (moment : ℕ)
    (words : List ℕ) → moment ≤ GREATEST_MOMENT
    → HasAll (record { moment = moment; words = words }) d e → IsPlanned xs d
    → Adds xs (report.All moment words) e
adds_all xs d None moment words within has is = λ may. has (is.all ∙ may.1)
adds_all xs d (Some e) moment words within has is =
    let r = report.All moment words in
    let until : Until = record { moment = moment; words = words } in
    let none : first_of all_of xs ≡ None = sym is.all ∙ has.0 in (
      (within, none),
      record {
        groups =
            groups_same xs r d.groups e.groups (no_group r refl refl refl refl) has.2 is.groups;
        commands =
            commands_same xs r d.commands e.commands (no_command r refl refl refl) has.3
            is.commands;
        pools =
            ap (λ (v : Vec ℕ). v.items) has.4 ∙ is.pools ∙ sym (keeps pool_of xs r refl);
        all =
            has.1 ∙ sym (first_push all_of xs r
            ∙ ap (λ (o : Option Until). option_or o (Some until)) none);
        next = has.5 ∙ is.next ∙ sym (any_push is_next xs r ∙ or_false (list_any is_next xs));
      },
    )

pub adds_next : (xs : List Report) (d e : PlanDraft) → IsClosed d.commands e.commands
    → e.groups ≡ d.groups → e.pools ≡ d.pools → e.all ≡ d.all → e.next ≡ true
    → IsPlanned xs d → Adds xs report.Next (Some e)
adds_next xs d e commands groups pools all next is =
    let r = report.Next in (
      tt,
      record {
        groups =
            groups_same xs r d.groups e.groups (no_group r refl refl refl refl) groups is.groups;
        commands =
            commands_same xs r d.commands e.commands (no_command r refl refl refl) commands
            is.commands;
        pools =
            ap (λ (v : Vec ℕ). v.items) pools ∙ is.pools ∙ sym (keeps pool_of xs r refl);
        all = all ∙ is.all ∙ sym (first_push all_of xs r ∙ or_none (first_of all_of xs));
        next = next ∙ sym (any_push is_next xs r ∙ or_true (list_any is_next xs));
      },
    )

-- What follows of a value follows of a result.
pub ok_then : {A E : Type 0} {P Q : A → Type 0} (r : Result A E) → ((x : A) → P x → Q x)
    → IfOk r P → IfOk r Q
ok_then (Ok x) then is = then x is
ok_then (Err e) then is = tt

-- ---- tries

pub adds_try : (xs : List Report) (old items : List TryName) (t : TryName)
    → list_any (λ other. same_try other t) old ≡ false → items ≡ old ++ t ∷ []
    → old ≡ filter_map try_of xs
    → MayLive xs (report.Lives t) × (items ≡ filter_map try_of (xs ++ report.Lives t ∷ []))
adds_try xs old items t free push is = (
  ap (list_any (λ other. same_try other t)) (sym is) ∙ free,
  push ∙ ap (λ (l : List TryName). l ++ t ∷ []) is ∙ sym (adds try_of xs (report.Lives t) t refl),
)
