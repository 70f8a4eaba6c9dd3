-- After its mark a night has ended.
use Rattle.std.proofs.Common.{◌≡◌, ◌<◌, ◌∙◌, ◌&&◌, ◌||◌, ◌+◌, ℕ, suc, Bool, true, false, cond}
use Rattle.std.proofs.Common.{List, [], ◌∷◌, Option, Some, None, length, length-append, slice_get}
use Rattle.std.proofs.Common.{is_some, nat_le, codes, ap, refl, sym, subst, arith, ◌⊎◌, ◌↔◌, inl}
use Rattle.std.proofs.Common.{inr}
use Rattle.std.specs.Prelude.{unwrap_or}
use Rattle.std.proofs.Math.Bool.{or-true}
use Rattle.std.proofs.lemmas.Bool.{and_parts, false≢true}
use Rattle.std.proofs.lemmas.Option.{same_Some}
use Rattle.std.specs.Fmt.{decimal}
use Rattle.std.specs.Option.{option_and_then, option_map_or}
use Rattle.run_model.proofs.RowLemmas.{row_there, slice_get-push_last}
use Rattle.run_model.specs.Allowed.{takes_cause}
use Rattle.run_model.specs.declared.commands.Command.{Command}
use Rattle.run_model.specs.declared.commands.Command.TheVariants as call
use Rattle.run_model.specs.declared.commands.Step.{Step}
use Rattle.run_model.specs.declared.commands.Step.TheVariants as step
use Rattle.run_model.specs.declared.commands.Wish.TheVariants as wish
use Rattle.run_model.specs.declared.scopes.Kind.{Kind}
use Rattle.run_model.specs.declared.scopes.Kind.TheVariants as kind
use Rattle.run_model.specs.declared.scopes.Scope.{Scope}
use Rattle.run_model.specs.Event as event
use Rattle.run_model.specs.Replies.{scope_of}
use Rattle.run_model.specs.Rows.{new_scope}
use Rattle.run_model.specs.Rules.{IsConsistent}
use Rattle.run_model.specs.Scopes.{is_root, text_under}
use Rattle.run_model.specs.Session.{Session, after_step, reply_of_step, with_event}
use Rattle.run_model.specs.State.{State, scope_named}
use Rattle.run_model.specs.Texts.{is_name}
use Rattle.model_laws.proofs.Names.{place_of_name}
use Rattle.night_drive.specs.Names.{is_same, night_of}
use Rattle.night_drive.specs.Searches.{last_below}
use Rattle.night_drive.proofs.Searching.{last_alike_below, last_passes, last_within}
use Rattle.drive_nights.specs.declared.names.Role.TheVariants as role
use Rattle.drive_nights.specs.Effects.{IsClosed, MarksEnd, NightsEnd, NightsGoOn, is_taken}
use Rattle.drive_nights.specs.Marks.{mark_at, mark_of}
use Rattle.drive_nights.specs.Names.{role_name}
use Rattle.drive_nights.specs.Nights.{base_of, is_base, is_base_row, is_ended, is_first_top}
use Rattle.drive_nights.specs.Nights.{last_night, name_at}
use Rattle.drive_nights.specs.Nights.{night_text, top_above}
use Rattle.drive_nights.proofs.Making.{Grows, derive_grows}
use Rattle.drive_nights.proofs.Placing.{derive_last, derived}
use Rattle.drive_nights.proofs.Taking.{command_taken, consistent_after}

-- ---- a scope that is neither a base nor begins a night

-- The state after a mark.
abbrev marked : State → (name : List ℕ) → ℕ → (text : List ℕ) → State
marked p name s text = derived p name s (kind.Value (codes "ended") text)

length_marked : (p : State) (name : List ℕ) (s : ℕ) (text : List ℕ)
    → length (marked p name s text).tree.scopes ≡ suc (length p.tree.scopes)
length_marked p name s text =
    let new : Scope = new_scope name s (kind.Value (codes "ended") text) in
    length-append p.tree.scopes (new ∷ []) ∙ omega arith

row_marked : (p : State) (name : List ℕ) (s : ℕ) (text : List ℕ)
    → slice_get (marked p name s text).tree.scopes (length p.tree.scopes)
    ≡ Some (new_scope name s (kind.Value (codes "ended") text))
row_marked p name s text =
    slice_get-push_last p.tree.scopes (new_scope name s (kind.Value (codes "ended") text))

base_marked : (p : State) (name : List ℕ) (s : ℕ) (text : List ℕ) (n : ℕ) → IsConsistent p
    → base_of (marked p name s text) n ≡ base_of p n
base_marked p name s text n consistent =
    ap (last_below (is_base q n)) (length_marked p name s text)
    ∙ ap (λ b. cond b (Some (length p.tree.scopes))
    (last_below (is_base q n) (length p.tree.scopes))) no_base
    ∙ last_alike_below (is_base q n) (is_base p n) (length p.tree.scopes) same
  where
    q : State
    q = marked p name s text

    grows : Grows p (marked p name s text)
    grows = derive_grows p name s (kind.Value (codes "ended") text) consistent.numbered

    same : (t : ℕ) → t < length p.tree.scopes
        → is_base (marked p name s text) n t ≡ is_base p n t
    same t less =
        ap (λ (o : Option Scope). option_map_or (is_base_row n) o false
        && is_same (night_of q t) (night_text n)) (grows.scopes t less)
        ∙ ap (λ (o : Option (List ℕ)). option_map_or (is_base_row n) (slice_get p.tree.scopes t)
        false && is_same o (night_text n)) (grows.nights t less)

    no_row : (b : Bool) → cond b false (is_same None (cond b None (Some (decimal n)))) ≡ false
    no_row true = refl
    no_row false = refl

    no_base : is_base (marked p name s text) n (length p.tree.scopes) ≡ false
    no_base =
        ap (λ (o : Option Scope). option_map_or (is_base_row n) o false
        && is_same (night_of q (length p.tree.scopes)) (night_text n)) (row_marked p name s text)
        ∙ ap (λ b. b && is_same (night_of q (length p.tree.scopes)) (night_text n))
        (no_row (nat_le n 1))

last_marked : (p : State) (name : List ℕ) (s : ℕ) (text : List ℕ) → IsConsistent p
    → last_night (marked p name s text) ≡ last_night p
last_marked p name s text consistent =
    derive_last p name s (kind.Value (codes "ended") text) consistent.numbered refl

-- ---- the top of a night

base_no_root : (n : ℕ) (k : Kind) → nat_le n 1 ≡ false
    → is_same (text_under (codes "night") k) (night_text n) ≡ true → is_root k ≡ false
base_no_root n kind.Root later same =
    absurd (false≢true (sym (ap (λ b. is_same None (cond b None (Some (decimal n)))) later) ∙ same))
base_no_root n kind.Cancel later same = refl
base_no_root n kind.Cause later same = refl
base_no_root n (kind.Deadline moment cause) later same = refl
base_no_root n (kind.Value key text) later same = refl
base_no_root n kind.Detached later same = refl
base_no_root n kind.Group later same = refl

-- The top above a base is there.
record HasTop (p : State) (n b : ℕ) : Type 0 where
  within : b < length p.tree.scopes
  top_within : top_above p n b < length p.tree.scopes

has_top : (p : State) (n b : ℕ) → IsConsistent p → base_of p n ≡ Some b → HasTop p n b
has_top p n b consistent last =
    let within : b < length p.tree.scopes =
    last_within (is_base p n) (length p.tree.scopes) b last in
    let parts = and_parts (option_map_or (is_base_row n) (slice_get p.tree.scopes b) false)
    (is_same (night_of p b) (night_text n))
    (last_passes (is_base p n) (length p.tree.scopes) b last) in
    record {
      within = within;
      top_within = by_row (slice_get p.tree.scopes b) refl parts.0 within;
    }
  where
    by_number : (row : Scope) → slice_get p.tree.scopes b ≡ Some row → (c : Bool)
        → nat_le n 1 ≡ c → is_base_row n row ≡ true → b < length p.tree.scopes
        → cond c b (option_map_or (λ (x : Scope). x.parent) (slice_get p.tree.scopes b) 0)
        < length p.tree.scopes
    by_number row found true is passes within = within
    by_number row found false is passes within =
        let number : is_same (text_under (codes "night") row.kind) (night_text n) ≡ true =
        sym (ap (λ c. cond c (takes_cause row.kind && is_first_top row.name)
        (is_same (text_under (codes "night") row.kind) (night_text n))) is)
        ∙ passes in
        let lower : row.parent < b =
        consistent.numbered.ordered b row found (base_no_root n row.kind is number) in
        let here : option_map_or (λ (x : Scope). x.parent) (slice_get p.tree.scopes b) 0
        ≡ row.parent =
        ap (λ (o : Option Scope). option_map_or (λ (x : Scope). x.parent) o 0) found in
        omega (arith, lower, within, here)

    by_row : (o : Option Scope) → slice_get p.tree.scopes b ≡ o
        → option_map_or (is_base_row n) o false ≡ true → b < length p.tree.scopes
        → top_above p n b < length p.tree.scopes
    by_row None found passes within = absurd (false≢true passes)
    by_row (Some row) found passes within =
        by_number row found (nat_le n 1) refl passes within

-- ---- the mark

-- The night has a base, and this is the mark below its top.
record IsMark (p : State) (n : ℕ) (mark : Step) : Type 0 where
  base : ℕ
  based : base_of p n ≡ Some base
  mark_is : mark ≡ step.Command (call.Derive
      (role_name (name_at p (top_above p n base)) role.Ended) (name_at p (top_above p n base))
      (wish.Value (codes "ended") (decimal p.tree.clock)))

is_mark : (p : State) (n : ℕ) (mark : Step) → mark_of p n ≡ Some mark → IsMark p n mark
is_mark p n mark e = by_base (base_of p n) refl e
  where
    by_name : (b : ℕ) → base_of p n ≡ Some b → (c : Bool)
        → cond c (Some (step.Command (call.Derive
        (role_name (name_at p (top_above p n b)) role.Ended) (name_at p (top_above p n b))
        (wish.Value (codes "ended") (decimal p.tree.clock))))) None ≡ Some mark
        → IsMark p n mark
    by_name b is true e = record { base = b; based = is; mark_is = sym (same_Some _ mark e) }
    by_name b is false e = cc

    by_base : (o : Option ℕ) → base_of p n ≡ o
        → option_and_then (λ s. mark_at p (name_at p (top_above p n s))) o ≡ Some mark
        → IsMark p n mark
    by_base None is e = cc
    by_base (Some b) is e =
        by_name b is (is_name (role_name (name_at p (top_above p n b)) role.Ended)) e

ended_so : (p : State) (n b s : ℕ) (text : List ℕ) → IsConsistent p → base_of p n ≡ Some b
    → IsConsistent (marked p (role_name (name_at p (top_above p n b)) role.Ended) s text)
    → is_ended (marked p (role_name (name_at p (top_above p n b)) role.Ended) s text) n ≡ true
ended_so p n b s text consistent based after =
    ap (λ (o : Option ℕ). option_map_or (λ x. is_some (scope_named q.tree
    (role_name (name_at q (top_above q n x)) role.Ended))) o false)
    (base_marked p name s text n consistent ∙ based)
    ∙ ap (λ (t : ℕ). is_some (scope_named q.tree (role_name (name_at q t) role.Ended))) top
    ∙ ap (λ (o : Option Scope). is_some (scope_named q.tree
    (role_name (option_map_or (λ (row : Scope). row.name) o (codes "root")) role.Ended)))
    (grows.scopes (top_above p n b) (has_top p n b consistent based).top_within)
    ∙ ap is_some (place_of_name (λ (row : Scope). row.name) q.tree.scopes (length p.tree.scopes)
    (new_scope name s (kind.Value (codes "ended") text)) after.numbered.scope_names
    (row_marked p name s text))
  where
    name : List ℕ
    name = role_name (name_at p (top_above p n b)) role.Ended

    q : State
    q = marked p (role_name (name_at p (top_above p n b)) role.Ended) s text

    grows : Grows p (marked p (role_name (name_at p (top_above p n b)) role.Ended) s text)
    grows =
        derive_grows p (role_name (name_at p (top_above p n b)) role.Ended) s
        (kind.Value (codes "ended") text) consistent.numbered

    top : top_above (marked p (role_name (name_at p (top_above p n b)) role.Ended) s text) n b
        ≡ top_above p n b
    top =
        ap (λ (o : Option Scope). cond (nat_le n 1) b
        (option_map_or (λ (row : Scope). row.parent) o 0))
        (grows.scopes b (has_top p n b consistent based).within)

-- The scope of this name is the top.
top_found : (p : State) (n b : ℕ) → IsConsistent p → base_of p n ≡ Some b
    → scope_of p (name_at p (top_above p n b)) ≡ top_above p n b
top_found p n b consistent based =
    let top : ℕ = top_above p n b in
    let row = row_there p.tree.scopes top (has_top p n b consistent based).top_within in
    ap (λ (o : Option Scope). scope_of p (option_map_or (λ (x : Scope). x.name) o (codes "root")))
    row.1
    ∙ ap (λ (o : Option ℕ). unwrap_or o (length p.tree.scopes))
    (place_of_name (λ (x : Scope). x.name) p.tree.scopes top row.0 consistent.numbered.scope_names
    row.1)

pub marks_end : MarksEnd
marks_end s n mark it =
    subst (λ (x : Step). is_taken (reply_of_step s x) ≡ true
    → IsClosed s.state (after_step s x).state n) (sym its.mark_is) by_call
    (and_parts (is_taken (reply_of_step s mark)) true it.taken).0
  where
    p : State
    p = s.state

    its : IsMark s.state n mark
    its = is_mark s.state n mark it.mark_is

    asked : Command
    asked = call.Derive (role_name (name_at s.state (top_above s.state n its.base)) role.Ended)
        (name_at s.state (top_above s.state n its.base))
        (wish.Value (codes "ended") (decimal s.state.tree.clock))

    by_call : is_taken (reply_of_step s (step.Command asked)) ≡ true
        → IsClosed s.state (after_step s (step.Command asked)).state n
    by_call taken =
        let b : ℕ = its.base in
        let name : List ℕ = role_name (name_at p (top_above p n b)) role.Ended in
        let top : ℕ = top_above p n b in
        let text : List ℕ = decimal p.tree.clock in
        let to : after_step s (step.Command asked)
        ≡ with_event s (Some (event.Derive name top (kind.Value (codes "ended") text))) =
        command_taken s asked refl taken
        ∙ ap (λ (t : ℕ). with_event s (Some (event.Derive name t
        (kind.Value (codes "ended") text)))) (top_found p n b it.consistent its.based) in
        let after : IsConsistent (marked p name top text) =
        subst (λ (x : Session). IsConsistent x.state) to
        (consistent_after s (step.Command asked ∷ []) it.consistent) in
        let ended : is_ended (marked p name top text) n ≡ true =
        ended_so p n b top text it.consistent its.based after in
        let base : is_some (base_of (marked p name top text) n) ≡ true =
        ap is_some (base_marked p name top text n it.consistent ∙ its.based) in
        let here : IsClosed p (marked p name top text) n = record {
          base = b;
          based = its.based;
          scopes = refl;
          work = refl;
          ended = ended;
          another = λ last next.
              let q : State = marked p name top text in
              let same : last_night q ≡ n = last_marked p name top text it.consistent ∙ last in
              ap (λ (m : ℕ). cond (is_some (base_of q m) && (next || is_ended q m)) (m + 1) m) same
              ∙ ap (λ c. cond (c && (next || is_ended q n)) (n + 1) n) base
              ∙ ap (λ c. cond (next || c) (n + 1) n) ended
              ∙ ap (λ c. cond c (n + 1) n) (or-true next);
        } in
        subst (λ (x : Session). IsClosed p x.state n) (sym to) here

-- One more than a number, or the number, by three answers.
begins_another : (last : ℕ) (begun next ended : Bool)
    → ((cond (begun && (next || ended)) (last + 1) last ≡ last + 1)
    ↔ ((begun ≡ true) × ((next ≡ true) ⊎ (ended ≡ true))))
    × ((cond (begun && (next || ended)) (last + 1) last ≡ last + 1)
    ⊎ (cond (begun && (next || ended)) (last + 1) last ≡ last))
begins_another last false next ended =
    ((λ same. absurd (omega (arith, same)), λ both. absurd (false≢true both.0)), inr refl)
begins_another last true false false =
    ((λ same. absurd (omega (arith, same)), λ both. absurd (neither both.1)), inr refl)
  where
    neither : (false ≡ true) ⊎ (false ≡ true) → ⊥
    neither (inl e) = false≢true e
    neither (inr e) = false≢true e
begins_another last true false true = ((λ same. (refl, inr refl), λ both. refl), inl refl)
begins_another last true true ended = ((λ same. (refl, inl refl), λ both. refl), inl refl)

pub nights_end : NightsEnd
nights_end p next =
    begins_another (last_night p) (is_some (base_of p (last_night p))) next
    (is_ended p (last_night p))

pub nights_go_on : NightsGoOn
nights_go_on p going =
    ap (λ c. cond (is_some (base_of p (last_night p)) && (false || c)) (last_night p + 1)
    (last_night p)) going
    ∙ by_base (is_some (base_of p (last_night p)))
  where
    by_base : (c : Bool)
        → cond (c && false) (last_night p + 1) (last_night p) ≡ last_night p
    by_base true = refl
    by_base false = refl
