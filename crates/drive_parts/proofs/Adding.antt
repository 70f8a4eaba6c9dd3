-- What lines add to a plan, if one more line comes after them.
use Rattle.std.specs.Prelude.{◌≡◌, ◌++◌, ◌∷◌, ◌&&◌, ◌||◌, Bool, true, false, List, []}
use Rattle.std.specs.Prelude.{Option, Some, None, if◌then◌else◌}
use Rattle.std.specs.List.{cons_option, filter_map, list_all, list_any}
use Rattle.std.specs.Option.{is_some, option_map_or, option_or}
use Rattle.std.proofs.Common.{refl, sym, ap, subst, ◌∙◌, append-nil}
use Rattle.std.proofs.lemmas.List.Elements.{filter_map-append}
use Rattle.night_plan.specs.declared.commands.Group.{Group}
use Rattle.night_plan.specs.declared.commands.Need.{Need}
use Rattle.night_plan.specs.declared.commands.Take.{Take}
use Rattle.plan_lines.specs.declared.lines.Outline.{Outline}
use Rattle.drive_lines.specs.declared.reports.Report.{Report}
use Rattle.drive_lines.specs.declared.reports.Report.TheVariants as report
use Rattle.drive_nights.specs.declared.untils.Until.{Until}
use Rattle.drive_parts.specs.Additions.{Listed, commands_in, details, first_of, group_of, is_detail}
use Rattle.drive_parts.specs.Additions.{is_open, key_of, listed_with, name_of, need_of, outline_of}
use Rattle.drive_parts.specs.Additions.{with_detail}
use Rattle.drive_parts.specs.Additions.{take_of, until_after, until_of, untils_in}

-- ---- values of lines

module _ {A : Type 0} (f : Report → Option A) where
  pub adds : (xs : List Report) (r : Report) (v : A) → f r ≡ Some v
      → filter_map f (xs ++ r ∷ []) ≡ filter_map f xs ++ v ∷ []
  adds xs r v e =
      filter_map-append f xs (r ∷ [])
      ∙ ap (λ (o : Option A). filter_map f xs ++ cons_option o []) e

  pub keeps : (xs : List Report) (r : Report) → f r ≡ None
      → filter_map f (xs ++ r ∷ []) ≡ filter_map f xs
  keeps xs r e =
      filter_map-append f xs (r ∷ [])
      ∙ ap (λ (o : Option A). filter_map f xs ++ cons_option o []) e
      ∙ append-nil (filter_map f xs)

pub or_none : {A : Type 0} (o : Option A) → option_or o None ≡ o
or_none None = refl
or_none (Some x) = refl

pub or_assoc : {A : Type 0} (o p q : Option A)
    → option_or o (option_or p q) ≡ option_or (option_or o p) q
or_assoc None p q = refl
or_assoc (Some x) p q = refl

pub or_is_none : {A : Type 0} (o p : Option A) → option_or o p ≡ None → (o ≡ None) × (p ≡ None)
or_is_none None p e = (refl, e)
or_is_none (Some x) p e = absurd (let no : Some x ≡ None = e in cc)

module _ {A : Type 0} (f : Report → Option A) where
  pub first_push : (xs : List Report) (r : Report)
      → first_of f (xs ++ r ∷ []) ≡ option_or (first_of f xs) (f r)
  first_push [] r = or_none (f r)
  first_push (x ∷ xs) r =
      ap (option_or (f x)) (first_push xs r) ∙ or_assoc (f x) (first_of f xs) (f r)

pub or_false : (b : Bool) → (b || false) ≡ b
or_false true = refl
or_false false = refl

pub or_true : (b : Bool) → (b || true) ≡ true
or_true true = refl
or_true false = refl

pub or_or : (a b c : Bool) → (a || (b || c)) ≡ ((a || b) || c)
or_or true b c = refl
or_or false b c = refl

and_true : (b : Bool) → (b && true) ≡ b
and_true true = refl
and_true false = refl

and_false : (b : Bool) → (b && false) ≡ false
and_false true = refl
and_false false = refl

and_and : (a b c : Bool) → (a && (b && c)) ≡ ((a && b) && c)
and_and true b c = refl
and_and false b c = refl

module _ {A : Type 0} (p : A → Bool) where
  pub any_push : (xs : List A) (r : A) → list_any p (xs ++ r ∷ []) ≡ (list_any p xs || p r)
  any_push [] r = or_false (p r)
  any_push (x ∷ xs) r =
      ap (λ (b : Bool). p x || b) (any_push xs r) ∙ or_or (p x) (list_any p xs) (p r)

  pub all_push : (xs : List A) (r : A) → list_all p (xs ++ r ∷ []) ≡ (list_all p xs && p r)
  all_push [] r = and_true (p r)
  all_push (x ∷ xs) r =
      ap (λ (b : Bool). p x && b) (all_push xs r) ∙ and_and (p x) (list_all p xs) (p r)

pub push_is_some : {A : Type 0} (xs : List A) (x : A) → xs ++ x ∷ [] ≡ [] → ⊥
push_is_some [] x e = cc
push_is_some (y ∷ xs) x e = cc

-- ---- deadlines

until_after_push : (xs : List Report) (r : Report) → until_after (r ∷ []) ≡ None
    → until_after (xs ++ r ∷ []) ≡ until_after xs
until_after_push [] r e = e
until_after_push (x ∷ xs) r e =
    ap (λ (o : Option Until). if is_some (group_of x) then None else option_or (until_of x) o)
    (until_after_push xs r e)

choose_append : {A : Type 0} (b : Bool) (x : A) (xs ys : List A)
    → (if b then x ∷ (xs ++ ys) else xs ++ ys) ≡ (if b then x ∷ xs else xs) ++ ys
choose_append true x xs ys = refl
choose_append false x xs ys = refl

-- A line that is no deadline adds those of its own.
pub untils_push : (xs : List Report) (r : Report) → until_after (r ∷ []) ≡ None
    → untils_in (xs ++ r ∷ []) ≡ untils_in xs ++ untils_in (r ∷ [])
untils_push [] r e = refl
untils_push (x ∷ xs) r e =
    ap (λ (o : Option Until). if is_some (group_of x) then o ∷ untils_in (xs ++ r ∷ [])
    else untils_in (xs ++ r ∷ [])) (until_after_push xs r e)
    ∙ ap (λ (l : List (Option Until)). if is_some (group_of x) then until_after xs ∷ l else l)
    (untils_push xs r e)
    ∙ choose_append (is_some (group_of x)) (until_after xs) (untils_in xs) (untils_in (r ∷ []))

-- After another group, no line changes the deadline.
some_group : (xs ys : List Report) → (untils_in xs ≡ [] → ⊥)
    → until_after (xs ++ ys) ≡ until_after xs
some_group [] ys some = absurd (some refl)
some_group (x ∷ xs) ys some =
    elim (is_some (group_of x)) as (λ (b : Bool).
    ((if b then until_after xs ∷ untils_in xs else untils_in xs) ≡ [] → ⊥)
    → (if b then None else option_or (until_of x) (until_after (xs ++ ys)))
    ≡ (if b then None else option_or (until_of x) (until_after xs))) [
      | true ↦ λ _. refl
      | false ↦ λ h. ap (option_or (until_of x)) (some_group xs ys h)
    ] some

-- The first deadline after a group is that of the group.
module _ (r : Report) (u : Until) (is : until_of r ≡ Some u) (no : group_of r ≡ None) where
  no_group : (xs : List Report) → untils_in xs ≡ [] → until_after xs ≡ None
      → (until_after (xs ++ r ∷ []) ≡ Some u) × (untils_in (xs ++ r ∷ []) ≡ [])
  no_group [] none lacks = (
    ap (λ (o : Option Group). if is_some o then None else option_or (until_of r) None) no
        ∙ ap (λ (o : Option Until). option_or o None) is,
    ap (λ (o : Option Group). if is_some o then until_after [] ∷ untils_in [] else untils_in [])
        no,
  )
  no_group (x ∷ xs) none lacks =
      elim (is_some (group_of x)) as (λ (b : Bool).
      (if b then until_after xs ∷ untils_in xs else untils_in xs) ≡ []
      → (if b then None else option_or (until_of x) (until_after xs)) ≡ None
      → ((if b then None else option_or (until_of x) (until_after (xs ++ r ∷ []))) ≡ Some u)
      × ((if b then until_after (xs ++ r ∷ []) ∷ untils_in (xs ++ r ∷ [])
      else untils_in (xs ++ r ∷ [])) ≡ [])) [
        | true ↦ λ e _. absurd (let f : until_after xs ∷ untils_in xs ≡ [] = e in cc)
        | false ↦ λ e l.
            let both = or_is_none (until_of x) (until_after xs) l in
            let more = no_group xs e both.1 in (
              ap (option_or (until_of x)) more.0
                  ∙ ap (λ (o : Option Until). option_or o (Some u)) both.0,
              more.1,
            )
      ] none lacks

  -- The last group has the deadline, if it had none.
  pub untils_set : (xs : List Report) (before : List (Option Until))
      → untils_in xs ≡ before ++ None ∷ [] → untils_in (xs ++ r ∷ []) ≡ before ++ Some u ∷ []
  untils_set [] before e = absurd (push_is_some before None (sym e))
  untils_set (x ∷ xs) [] e =
      elim (is_some (group_of x)) as (λ (b : Bool).
      (if b then until_after xs ∷ untils_in xs else untils_in xs) ≡ None ∷ []
      → (if b then until_after (xs ++ r ∷ []) ∷ untils_in (xs ++ r ∷ [])
      else untils_in (xs ++ r ∷ [])) ≡ Some u ∷ []) [
        | true ↦ λ f.
            let whole : until_after xs ∷ untils_in xs ≡ None ∷ [] = f in
            let head : until_after xs ≡ None = cc in
            let tail : untils_in xs ≡ [] = cc in
            let more = no_group xs tail head in
            let one : until_after (xs ++ r ∷ []) ≡ Some u = more.0 in
            let none : untils_in (xs ++ r ∷ []) ≡ [] = more.1 in
            cc
        | false ↦ λ f. untils_set xs [] f
      ] e
  untils_set (x ∷ xs) (b ∷ before) e =
      elim (is_some (group_of x)) as (λ (g : Bool).
      (if g then until_after xs ∷ untils_in xs else untils_in xs) ≡ b ∷ (before ++ None ∷ [])
      → (if g then until_after (xs ++ r ∷ []) ∷ untils_in (xs ++ r ∷ [])
      else untils_in (xs ++ r ∷ [])) ≡ b ∷ (before ++ Some u ∷ [])) [
        | true ↦ λ f.
            let whole : until_after xs ∷ untils_in xs ≡ b ∷ (before ++ None ∷ []) = f in
            let head : until_after xs ≡ b = cc in
            let tail : untils_in xs ≡ before ++ None ∷ [] = cc in
            let same = some_group xs (r ∷ [])
            (λ none. push_is_some before None (sym tail ∙ none)) in
            let more = untils_set xs before tail in
            cc
        | false ↦ λ f. untils_set xs (b ∷ before) f
      ] e

-- A line is no group and no deadline of one.
pub record IsNoGroup (r : Report) : Type 0 where
  pub group : group_of r ≡ None
  pub name : name_of r ≡ None
  pub after : until_after (r ∷ []) ≡ None
  pub untils : untils_in (r ∷ []) ≡ []

pub untils_keep : (xs : List Report) (r : Report) → IsNoGroup r
    → untils_in (xs ++ r ∷ []) ≡ untils_in xs
untils_keep xs r none =
    untils_push xs r none.after
    ∙ ap (λ (u : List (Option Until)). untils_in xs ++ u) none.untils
    ∙ append-nil (untils_in xs)

-- ---- commands

details_push : (xs : List Report) (r : Report) → is_detail r ≡ false
    → details (xs ++ r ∷ []) ≡ details xs
details_push [] r e = ap (λ (b : Bool). if b then r ∷ [] else []) e
details_push (x ∷ xs) r e =
    ap (λ (l : List Report). if is_detail x then x ∷ l else []) (details_push xs r e)

-- A line that is no need and no take adds the commands of its own.
pub commands_push : (xs : List Report) (r : Report) → is_detail r ≡ false
    → commands_in (xs ++ r ∷ []) ≡ commands_in xs ++ commands_in (r ∷ [])
commands_push [] r e = refl
commands_push (x ∷ xs) r e =
    elim (outline_of x) as (λ (o : Option Outline).
    option_map_or (λ out. listed_with (details (xs ++ r ∷ [])) out ∷ commands_in (xs ++ r ∷ []))
    o (commands_in (xs ++ r ∷ []))
    ≡ option_map_or (λ out. listed_with (details xs) out ∷ commands_in xs) o (commands_in xs)
    ++ commands_in (r ∷ [])) [
      | None ↦ commands_push xs r e
      | Some out ↦
          ap (λ (l : List Report). listed_with l out ∷ commands_in (xs ++ r ∷ []))
          (details_push xs r e)
          ∙ ap (λ (l : List Listed). listed_with (details xs) out ∷ l) (commands_push xs r e)
    ]

-- A line is no command, no need and no take.
pub record IsNoCommand (r : Report) : Type 0 where
  pub outline : outline_of r ≡ None
  pub key : key_of r ≡ None
  pub detail : is_detail r ≡ false

pub commands_keep : (xs : List Report) (r : Report) → IsNoCommand r
    → commands_in (xs ++ r ∷ []) ≡ commands_in xs
commands_keep xs r none =
    commands_push xs r none.detail
    ∙ ap (λ (o : Option Outline). commands_in xs ++ option_map_or (λ out. record {
      outline = out;
      needs = [];
      takes = [];
    } ∷ []) o []) none.outline
    ∙ append-nil (commands_in xs)

-- No command is a need or a take.
detail_no_command : (r : Report) → is_detail r ≡ true → outline_of r ≡ None
detail_no_command (report.Command outline key) e = absurd (let no : false ≡ true = e in cc)
detail_no_command _ e = refl

-- After a command that is still to come, no line changes the needs and takes.
open_details : (xs ys : List Report) → is_open xs ≡ true → details (xs ++ ys) ≡ details xs
open_details [] ys e = absurd (let no : false ≡ true = e in cc)
open_details (x ∷ xs) ys e =
    let Goal : Bool → Type 0 = λ b.
    is_detail x ≡ b
    → (if b then x ∷ details (xs ++ ys) else []) ≡ (if b then x ∷ details xs else []) in
    let each : (b : Bool) → Goal b = λ b. elim b as Goal [
      | true ↦ λ is.
          ap (λ (l : List Report). x ∷ l) (open_details xs ys
          (let P : Option Outline → Type 0 = λ o.
          (is_some o && list_all is_detail xs || is_open xs) ≡ true in
          subst P (detail_no_command x is) e))
      | false ↦ λ is. refl
    ] in
    each (is_detail x) refl

-- If all lines are needs and takes, there is no command among them.
all_details : (xs : List Report) → list_all is_detail xs ≡ true
    → (details xs ≡ xs) × (commands_in xs ≡ [])
all_details [] e = (refl, refl)
all_details (x ∷ xs) e =
    let Goal : Bool → Type 0 = λ b.
    is_detail x ≡ b → (b && list_all is_detail xs) ≡ true
    → ((if b then x ∷ details xs else []) ≡ x ∷ xs) × (commands_in (x ∷ xs) ≡ []) in
    let each : (b : Bool) → Goal b = λ b. elim b as Goal [
      | true ↦ λ is all.
          let more = all_details xs all in (
            ap (λ (l : List Report). x ∷ l) more.0,
            ap (λ (o : Option Outline). option_map_or
                (λ out. listed_with (details xs) out ∷ commands_in xs) o (commands_in xs))
                (detail_no_command x is)
                ∙ more.1,
          )
      | false ↦ λ is all. absurd (let no : false ≡ true = all in cc)
    ] in
    each (is_detail x) refl e

-- The last command has one more need or take.
pub record Extended (old new : List Listed) (r : Report) : Type 0 where
  pub before : List Listed
  pub last : Listed
  pub was : old ≡ before ++ last ∷ []
  pub is : new ≡ before ++ with_detail last r ∷ []

extended_by : (x : Listed) (old new : List Listed) (r : Report) → Extended old new r
    → Extended (x ∷ old) (x ∷ new) r
extended_by x old new r e = record {
  before = x ∷ e.before;
  last = e.last;
  was = ap (λ (l : List Listed). x ∷ l) e.was;
  is = ap (λ (l : List Listed). x ∷ l) e.is;
}

module _ (r : Report) (is : is_detail r ≡ true) where
  all_more : (xs : List Report) → list_all is_detail xs ≡ true
      → list_all is_detail (xs ++ r ∷ []) ≡ true
  all_more xs all = all_push is_detail xs r ∙ ap (λ (b : Bool). b && is_detail r) all ∙ is

  -- It is the only command.
  only_command : (xs : List Report) (out : Outline) → list_all is_detail xs ≡ true
      → Extended (listed_with (details xs) out ∷ commands_in xs)
      (listed_with (details (xs ++ r ∷ [])) out ∷ commands_in (xs ++ r ∷ [])) r
  only_command xs out all =
      let here = all_details xs all in
      let more = all_details (xs ++ r ∷ []) (all_more xs all) in
      record {
        before = [];
        last = listed_with (details xs) out;
        was = ap (λ (l : List Listed). listed_with (details xs) out ∷ l) here.1;
        is =
            ap (λ (l : List Listed). listed_with (details (xs ++ r ∷ [])) out ∷ l) more.1
            ∙ ap (λ (l : List Report). listed_with l out ∷ [])
            (more.0 ∙ ap (λ (l : List Report). l ++ r ∷ []) (sym here.0))
            ∙ ap (λ (l : List Need). record {
              outline = out;
              needs = l;
              takes = filter_map take_of (details xs ++ r ∷ []);
            } ∷ []) (filter_map-append need_of (details xs) (r ∷ []))
            ∙ ap (λ (l : List Take). record {
              outline = out;
              needs = filter_map need_of (details xs) ++ filter_map need_of (r ∷ []);
              takes = l;
            } ∷ []) (filter_map-append take_of (details xs) (r ∷ []));
      }

  or_cases : (a b : Bool) → (a || b) ≡ true → b ≡ false → a ≡ true
  or_cases a true e f = absurd (let no : true ≡ false = f in cc)
  or_cases true false e f = refl
  or_cases false false e f = e

  pub commands_extended : (xs : List Report) → is_open xs ≡ true
      → Extended (commands_in xs) (commands_in (xs ++ r ∷ [])) r
  commands_extended [] e = absurd (let no : false ≡ true = e in cc)
  commands_extended (x ∷ xs) e =
      elim (outline_of x) as (λ (o : Option Outline).
      (is_some o && list_all is_detail xs || is_open xs) ≡ true
      → Extended (option_map_or (λ out. listed_with (details xs) out ∷ commands_in xs) o
      (commands_in xs))
      (option_map_or (λ out. listed_with (details (xs ++ r ∷ [])) out
      ∷ commands_in (xs ++ r ∷ [])) o (commands_in (xs ++ r ∷ []))) r) [
        | None ↦ λ f. commands_extended xs f
        | Some out ↦ λ f.
            let Goal : Bool → Type 0 = λ b.
            is_open xs ≡ b
            → Extended (listed_with (details xs) out ∷ commands_in xs)
            (listed_with (details (xs ++ r ∷ [])) out ∷ commands_in (xs ++ r ∷ [])) r in
            let each : (b : Bool) → Goal b = λ b. elim b as Goal [
              | true ↦ λ g.
                  let same = open_details xs (r ∷ []) g in
                  let P : List Report → Type 0 = λ l.
                  Extended (listed_with (details xs) out ∷ commands_in xs)
                  (listed_with l out ∷ commands_in (xs ++ r ∷ [])) r in
                  subst P (sym same) (extended_by (listed_with (details xs) out)
                  (commands_in xs) (commands_in (xs ++ r ∷ [])) r (commands_extended xs g))
              | false ↦ λ g.
                  only_command xs out (or_cases (list_all is_detail xs) (is_open xs) f g)
            ] in
            each (is_open xs) refl
      ] e

  -- Needs and takes can still come next.
  pub stays_open : (xs : List Report) → is_open xs ≡ true → is_open (xs ++ r ∷ []) ≡ true
  stays_open [] e = absurd (let no : false ≡ true = e in cc)
  stays_open (x ∷ xs) e =
      let Goal : Bool → Type 0 = λ b.
      is_open xs ≡ b
      → (is_some (outline_of x) && list_all is_detail (xs ++ r ∷ []) || is_open (xs ++ r ∷ []))
      ≡ true in
      let each : (b : Bool) → Goal b = λ b. elim b as Goal [
        | true ↦ λ g.
            ap (λ (o : Bool). is_some (outline_of x) && list_all is_detail (xs ++ r ∷ []) || o)
            (stays_open xs g)
            ∙ or_true (is_some (outline_of x) && list_all is_detail (xs ++ r ∷ []))
        | false ↦ λ g.
            let some = or_cases (is_some (outline_of x) && list_all is_detail xs) (is_open xs) e
            g in
            ap (λ (a : Bool). is_some (outline_of x) && a || is_open (xs ++ r ∷ []))
            (all_push is_detail xs r ∙ ap (λ (a : Bool). list_all is_detail xs && a) is
            ∙ and_true (list_all is_detail xs))
            ∙ ap (λ (a : Bool). a || is_open (xs ++ r ∷ [])) some
      ] in
      each (is_open xs) refl

-- After a command they can, and after any other line they can't.
pub opens : (xs : List Report) (r : Report) (out : Outline) → outline_of r ≡ Some out
    → is_open (xs ++ r ∷ []) ≡ true
opens [] r out e = ap (λ (o : Option Outline). is_some o && true || false) e
opens (x ∷ xs) r out e =
    ap (λ (o : Bool). is_some (outline_of x) && list_all is_detail (xs ++ r ∷ []) || o)
    (opens xs r out e)
    ∙ or_true (is_some (outline_of x) && list_all is_detail (xs ++ r ∷ []))

pub closes : (xs : List Report) (r : Report) → outline_of r ≡ None → is_detail r ≡ false
    → is_open (xs ++ r ∷ []) ≡ false
closes [] r e f = ap (λ (o : Option Outline). is_some o && true || false) e
closes (x ∷ xs) r e f =
    ap (λ (o : Bool). is_some (outline_of x) && list_all is_detail (xs ++ r ∷ []) || o)
    (closes xs r e f)
    ∙ or_false (is_some (outline_of x) && list_all is_detail (xs ++ r ∷ []))
    ∙ ap (λ (a : Bool). is_some (outline_of x) && a)
    (all_push is_detail xs r ∙ ap (λ (a : Bool). list_all is_detail xs && a) f
    ∙ and_false (list_all is_detail xs))
    ∙ and_false (is_some (outline_of x))
