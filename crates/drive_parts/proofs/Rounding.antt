-- One more line of a round.
use Rattle.std.specs.Prelude.{◌≡◌, ◌≤◌, ℕ, Bool, true, false, List, Option, Some}
use Rattle.std.specs.Prelude.{None, length}
use Rattle.std.specs.Global.{Vec}
use Rattle.std.proofs.Common.{refl, sym, ap, subst, ◌∙◌}
use Rattle.night_plan.specs.declared.commands.Group.{Group}
use Rattle.night_plan.specs.declared.commands.Need.{Need}
use Rattle.night_plan.specs.declared.commands.Take.{Take}
use Rattle.plan_lines.specs.declared.lines.Outline.{Outline}
use Rattle.plan_lines.specs.declared.lines.PlanLine.{PlanLine}
use Rattle.plan_lines.specs.declared.lines.PlanLine.TheVariants as line
use Rattle.run_model.specs.declared.bounds.TheConstants.{GREATEST_MOMENT}
use Rattle.drive_lines.specs.declared.reports.Report.{Report}
use Rattle.drive_lines.specs.declared.reports.Report.TheVariants as report
use Rattle.drive_parts.specs.declared.growth.Growth.{Growth}
use Rattle.drive_parts.specs.declared.heard.Counts.{Counts}
use Rattle.drive_parts.specs.declared.heard.Fact.{Fact}
use Rattle.drive_parts.specs.declared.heard.Fact.TheVariants as fact
use Rattle.drive_parts.specs.declared.heard.Heard.{Heard}
use Rattle.drive_parts.specs.declared.plans.NightPlan.{NightPlan}
use Rattle.drive_parts.specs.declared.rounds.HeardDraft.{HeardDraft}
use Rattle.drive_parts.specs.Additions.{commands_in, untils_in}
use Rattle.drive_parts.specs.Groups.{LacksUntil}
use Rattle.drive_parts.specs.Growth.{Closes, GrowsByCommand, GrowsByDetail, GrowsByGroup}
use Rattle.drive_parts.specs.Growth.{GrowsByPool, GrowsByUntil, IsWhole, commands_after}
use Rattle.drive_parts.specs.Growth.{groups_after}
use Rattle.drive_parts.specs.Heard.{HearsLine, MayReport, line_of}
use Rattle.drive_parts.specs.Rounds.{ArePartsOf, Hears, HearsFact, IsHeard, MayHear}
use Rattle.drive_parts.specs.Rounds.{counts_after, draft_of}
use Rattle.drive_parts.proofs.Growing.{Grew, commands_count, grows_command, grows_detail}
use Rattle.drive_parts.proofs.Growing.{groups_count, grows_group, grows_pool, grows_until}
use Rattle.drive_parts.proofs.Growing.{whole_of, whole_same}
use Rattle.drive_parts.proofs.Hearing.{IsNoFact, fact_no_command, fact_no_group, fact_no_pool}
use Rattle.drive_parts.proofs.Hearing.{heard_push, heard_same, quiet}

-- ---- lines by which the plan grows

-- A plan can grow by a line.
abbrev pub is_growth : Report → Bool
is_growth (report.Group group name) = true
is_growth (report.Command outline key) = true
is_growth (report.Until moment words) = true
is_growth (report.Plan (line.Pool size)) = true
is_growth (report.Plan (line.Need need)) = true
is_growth (report.Plan (line.Take take)) = true
is_growth _ = false

no_fact : (r : Report) → is_growth r ≡ true → IsNoFact r
no_fact (report.Group group name) is =
    quiet (report.Group group name) refl refl refl refl refl refl refl refl refl refl
no_fact (report.Command outline key) is =
    quiet (report.Command outline key) refl refl refl refl refl refl refl refl refl refl
no_fact (report.Until moment words) is =
    quiet (report.Until moment words) refl refl refl refl refl refl refl refl refl refl
no_fact (report.Plan (line.Pool size)) is =
    quiet (report.Plan (line.Pool size)) refl refl refl refl refl refl refl refl refl refl
no_fact (report.Plan (line.Need need)) is =
    quiet (report.Plan (line.Need need)) refl refl refl refl refl refl refl refl refl refl
no_fact (report.Plan (line.Take take)) is =
    quiet (report.Plan (line.Take take)) refl refl refl refl refl refl refl refl refl refl
no_fact _ is = absurd (let no : false ≡ true = is in cc)

module _ (old : NightPlan) (living : List ℕ) (xs : List Report) (d : HeardDraft)
    (is : IsHeard old living xs d) where
  -- A line by which the plan grows reports nothing.
  pub hears_growth : (r : Report) (o : Option Growth) → IsNoFact r
      → Grew old xs (MayHear old living xs r) r o
      → Hears old living xs r (draft_of o d.heard d.living)
  hears_growth r None none has = has
  hears_growth r (Some h) none has = (
    has.0,
    record {
      growth = has.1;
      heard = heard_same xs r d.heard none is.heard;
      living = is.living;
    },
  )

  pub hears_pool : (g h : Growth) (size : ℕ) → Closes d.growth g → GrowsByPool size g h
      → Hears old living xs (report.Plan (line.Pool size)) (draft_of (Some h) d.heard d.living)
  hears_pool g h size closes has =
      hears_growth (report.Plan (line.Pool size)) (Some h)
      (no_fact (report.Plan (line.Pool size)) refl)
      (tt, grows_pool old xs g h size (whole_of old xs d.growth g is.growth closes) has)

  pub hears_group : (g : Growth) (group : Group) (name : List ℕ) (o : Option Growth)
      → Closes d.growth g → GrowsByGroup group name g o
      → Hears old living xs (report.Group group name) (draft_of o d.heard d.living)
  hears_group g group name o closes has =
      hears_growth (report.Group group name) o (no_fact (report.Group group name) refl)
      (grows_group old xs g group name o (whole_of old xs d.growth g is.growth closes) has)

  pub hears_command : (g : Growth) (outline : Outline) (key : List ℕ) (o : Option Growth)
      → Closes d.growth g → GrowsByCommand outline key g o
      → Hears old living xs (report.Command outline key) (draft_of o d.heard d.living)
  hears_command g outline key o closes has =
      hears_growth (report.Command outline key) o (no_fact (report.Command outline key) refl)
      (grows_command old xs g outline key o (whole_of old xs d.growth g is.growth closes) has)

  dated : (moment : ℕ) (words : List ℕ) (o : Option Growth) → moment ≤ GREATEST_MOMENT
      → Grew old xs (LacksUntil (untils_in xs)) (report.Until moment words) o
      → Grew old xs (MayHear old living xs (report.Until moment words))
      (report.Until moment words) o
  dated moment words None within has = λ may. has may.1
  dated moment words (Some h) within has = ((within, has.0), has.1)

  pub hears_until : (g : Growth) (moment : ℕ) (words : List ℕ) (o : Option Growth)
      → moment ≤ GREATEST_MOMENT → Closes d.growth g
      → GrowsByUntil (record { moment = moment; words = words }) g o
      → Hears old living xs (report.Until moment words) (draft_of o d.heard d.living)
  hears_until g moment words o within closes has =
      hears_growth (report.Until moment words) o (no_fact (report.Until moment words) refl)
      (dated moment words o within (grows_until old xs g moment words o
      (whole_of old xs d.growth g is.growth closes) has))

  pub hears_need : (need : Need) (o : Option Growth)
      → GrowsByDetail (line.Need need) d.growth o
      → Hears old living xs (report.Plan (line.Need need)) (draft_of o d.heard d.living)
  hears_need need o has =
      hears_growth (report.Plan (line.Need need)) o
      (no_fact (report.Plan (line.Need need)) refl)
      (grows_detail old xs d.growth (line.Need need) refl is.growth o has)

  pub hears_take : (take : Take) (o : Option Growth)
      → GrowsByDetail (line.Take take) d.growth o
      → Hears old living xs (report.Plan (line.Take take)) (draft_of o d.heard d.living)
  hears_take take o has =
      hears_growth (report.Plan (line.Take take)) o
      (no_fact (report.Plan (line.Take take)) refl)
      (grows_detail old xs d.growth (line.Take take) refl is.growth o has)

  -- ---- lines that report facts

  -- The parts of the draft, once no command is pending.
  pub parts_of : (g : Growth) → Closes d.growth g
      → ArePartsOf old living xs g d.heard d.living.items
  parts_of g closes = record {
    growth = whole_of old xs d.growth g is.growth closes;
    heard = is.heard;
    living = is.living;
  }

-- The same line and the same draft, by other names.
pub hears_as : (old : NightPlan) (living : List ℕ) (xs : List Report) (r s : Report)
    (o p : Option HeardDraft) → r ≡ s → p ≡ o → Hears old living xs s o → Hears old living xs r p
hears_as old living xs r s o p line draft has =
    subst (λ (t : Report). Hears old living xs t p) (sym line)
    (subst (λ (q : Option HeardDraft). Hears old living xs s q) (sym draft) has)

-- A line by which no plan grows can be heard if it can report a fact.
may_report : (old : NightPlan) (living : List ℕ) (xs : List Report) (r : Report)
    → is_growth r ≡ false → MayHear old living xs r
    → MayReport (counts_after old xs) living xs r
may_report old living xs (report.Group group name) other may =
    absurd (let is : true ≡ false = other in cc)
may_report old living xs (report.Command outline key) other may =
    absurd (let is : true ≡ false = other in cc)
may_report old living xs (report.Until moment words) other may =
    absurd (let is : true ≡ false = other in cc)
may_report old living xs (report.Plan (line.Pool size)) other may =
    absurd (let is : true ≡ false = other in cc)
may_report old living xs (report.Plan (line.Need need)) other may =
    absurd (let is : true ≡ false = other in cc)
may_report old living xs (report.Plan (line.Take take)) other may =
    absurd (let is : true ≡ false = other in cc)
may_report old living xs _ other may = may

-- A line that none of these patterns fits is no line by which a plan grows.
pub no_growth : (r : Report)
    → ((l : PlanLine) → r ≡ report.Plan l → ⊥)
    → ((group : Group) (name : List ℕ) → r ≡ report.Group group name → ⊥)
    → ((outline : Outline) (key : List ℕ) → r ≡ report.Command outline key → ⊥)
    → ((moment : ℕ) (words : List ℕ) → r ≡ report.Until moment words → ⊥)
    → is_growth r ≡ false
no_growth (report.Plan l) plan group command until = absurd (plan l refl)
no_growth (report.Group g name) plan group command until = absurd (group g name refl)
no_growth (report.Command o key) plan group command until = absurd (command o key refl)
no_growth (report.Until moment words) plan group command until = absurd (until moment words refl)
no_growth _ plan group command until = refl

pub no_detail : (l : PlanLine) → ((size : ℕ) → l ≡ line.Pool size → ⊥)
    → ((need : Need) → l ≡ line.Need need → ⊥)
    → ((take : Take) → l ≡ line.Take take → ⊥) → is_growth (report.Plan l) ≡ false
no_detail (line.Pool size) pools needs takes = absurd (pools size refl)
no_detail (line.Need need) pools needs takes = absurd (needs need refl)
no_detail (line.Take take) pools needs takes = absurd (takes take refl)
no_detail _ pools needs takes = refl

pub hears_of : (old : NightPlan) (living : List ℕ) (xs : List Report) (r : Report)
    (o : Option HeardDraft) → is_growth r ≡ false → HearsFact old living xs r o
    → Hears old living xs r o
hears_of old living xs r None other has = λ may. has (may_report old living xs r other may)
hears_of old living xs r (Some e) other has = has

pub may_fact : (old : NightPlan) (living : List ℕ) (xs : List Report) (f : Fact)
    → MayReport (counts_after old xs) living xs (line_of f) → MayHear old living xs (line_of f)
may_fact old living xs (fact.End end) may = may
may_fact old living xs _ may = may

-- The counts of a growth are those after the lines.
abbrev counts : (groups commands pools : ℕ) → Counts
counts groups commands pools = record { groups = groups; commands = commands; pools = pools }

pub counted : (old : NightPlan) (xs : List Report) (g : Growth) → IsWhole old xs g
    → counts (length g.plan.plan.groups.items) (length g.plan.plan.commands.items)
    (length g.plan.plan.pools.items)
    ≡ counts_after old xs
counted old xs g is =
    ap (λ (n : ℕ). counts n (length g.plan.plan.commands.items)
    (length g.plan.plan.pools.items)) (groups_count old xs g is.plan.groups)
    ∙ ap (λ (n : ℕ). counts (groups_after old xs) n (length g.plan.plan.pools.items))
    (commands_count old g (commands_in xs) is.plan.commands)
    ∙ ap (λ (n : List ℕ). counts (groups_after old xs) (commands_after old xs) (length n))
    is.plan.pools

module _ (old : NightPlan) (living : List ℕ) (xs : List Report) (g : Growth) (h : Heard)
    (tasks : Vec ℕ) (are : ArePartsOf old living xs g h tasks.items)
    (a b n : ℕ) (groups : a ≡ length g.plan.plan.groups.items)
    (commands : b ≡ length g.plan.plan.commands.items)
    (pools : n ≡ length g.plan.plan.pools.items)
    (lived : List ℕ) (same : lived ≡ tasks.items) where
  counts_same : counts a b n ≡ counts_after old xs
  counts_same =
      ap (λ (k : ℕ). counts k b n) groups
      ∙ ap (λ (k : ℕ). counts (length g.plan.plan.groups.items) k n) commands
      ∙ ap (λ (k : ℕ). counts (length g.plan.plan.groups.items)
      (length g.plan.plan.commands.items) k) pools
      ∙ counted old xs g are.growth

  pub hears_none : (r : Report) → (MayReport (counts a b n) lived xs r → ⊥)
      → HearsFact old living xs r None
  hears_none r never = λ may.
      never (subst (λ (c : Counts). MayReport c lived xs r) (sym counts_same)
      (subst (λ (l : List ℕ). MayReport (counts_after old xs) l xs r)
      (sym (same ∙ are.living)) may))

  pub hears_fact : (r : Report) (f : Fact) (m : Heard)
      → MayReport (counts a b n) lived xs r → r ≡ line_of f → HearsLine (line_of f) h m
      → HearsFact old living xs r (Some (record { growth = g; heard = m; living = tasks }))
  hears_fact r f m may is line =
      subst (λ (s : Report). HearsFact old living xs s (Some (record {
        growth = g;
        heard = m;
        living = tasks;
      }))) (sym is) (
        may_fact old living xs f
            (subst (λ (s : Report). MayReport (counts_after old xs) living xs s) is
            (subst (λ (l : List ℕ). MayReport (counts_after old xs) l xs r)
            (same ∙ are.living)
            (subst (λ (c : Counts). MayReport c lived xs r) counts_same may))),
        record {
          growth =
              whole_same old xs g (line_of f) (fact_no_group f) (fact_no_command f)
              (fact_no_pool f) are.growth;
          heard = heard_push xs (line_of f) h m line are.heard;
          living = are.living;
        },
      )
