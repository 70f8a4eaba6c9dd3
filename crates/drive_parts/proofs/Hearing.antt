-- What was heard of a round, and one more line.
use Rattle.std.specs.Prelude.{◌≡◌, ◌<◌, ◌≤◌, ◌==◌, ◌||◌, ◌++◌, ◌∷◌, ℕ, Bool, suc, true, false}
use Rattle.std.specs.Prelude.{List, [], Option, None, slice_index}
use Rattle.std.specs.List.{cons_option, filter_map, list_any}
use Rattle.std.specs.Option.{option_or}
use Rattle.std.proofs.Common.{arith, refl, sym, ap, ◌∙◌, append-nil}
use Rattle.std.proofs.lemmas.Bool.Decides.{Decides-eqb}
use Rattle.std.proofs.lemmas.List.Elements.{filter_map-append}
use Rattle.drive_lines.specs.declared.reports.Report.{Report}
use Rattle.drive_lines.specs.declared.reports.Report.TheVariants as report
use Rattle.drive_steps.specs.declared.heard.Ended.{Ended}
use Rattle.drive_steps.specs.Heard.{has_ended}
use Rattle.drive_parts.specs.declared.heard.Fact.{Fact}
use Rattle.drive_parts.specs.declared.heard.Fact.TheVariants as fact
use Rattle.drive_parts.specs.declared.heard.Heard.{Heard}
use Rattle.drive_parts.specs.Additions.{pool_of}
use Rattle.drive_parts.specs.Heard.{AreHeard, HearsLine, ask_of, cancel_of, done_of, end_of}
use Rattle.drive_parts.specs.Heard.{gone_of, group_ask_of, is_hurry, is_over, is_question, last_of}
use Rattle.drive_parts.specs.Heard.{line_of, names_task, size_of, time_of}
use Rattle.drive_parts.proofs.Adding.{IsNoCommand, IsNoGroup, any_push, or_assoc, or_false, or_none}
use Rattle.drive_parts.proofs.Adding.{or_or}

-- ---- one more line

module _ {A : Type 0} (f : Report → Option A) where
  row_push : (xs : List Report) (r : Report) (old new : List A)
      → new ≡ old ++ filter_map f (r ∷ []) → old ≡ filter_map f xs
      → new ≡ filter_map f (xs ++ r ∷ [])
  row_push xs r old new push are =
      push ∙ ap (λ (l : List A). l ++ filter_map f (r ∷ [])) are
      ∙ sym (filter_map-append f xs (r ∷ []))

  last_push : (xs : List Report) (r : Report)
      → last_of f (xs ++ r ∷ []) ≡ option_or (f r) (last_of f xs)
  last_push [] r = sym (or_none (f r))
  last_push (x ∷ xs) r =
      ap (λ (o : Option A). option_or o (f x)) (last_push xs r)
      ∙ sym (or_assoc (f r) (last_of f xs) (f x))

pub heard_push : (xs : List Report) (r : Report) (h m : Heard) → HearsLine r h m → AreHeard xs h
    → AreHeard (xs ++ r ∷ []) m
heard_push xs r h m line are = record {
  ends = row_push end_of xs r h.ends.items m.ends.items line.ends are.ends;
  gone = row_push gone_of xs r h.gone.items m.gone.items line.gone are.gone;
  cancels = row_push cancel_of xs r h.cancels.items m.cancels.items line.cancels are.cancels;
  done = row_push done_of xs r h.done.items m.done.items line.done are.done;
  time = line.time ∙ ap (option_or (time_of r)) are.time ∙ sym (last_push time_of xs r);
  sizes = row_push size_of xs r h.sizes.items m.sizes.items line.sizes are.sizes;
  hurry =
      line.hurry ∙ ap (λ (b : Bool). b || is_hurry r) are.hurry ∙ sym (any_push is_hurry xs r);
  asked =
      line.asked ∙ ap (λ (b : Bool). b || is_question r) are.asked
      ∙ sym (any_push is_question xs r);
  asks = row_push ask_of xs r h.asks.items m.asks.items line.asks are.asks;
  firsts = row_push group_ask_of xs r h.firsts.items m.firsts.items line.firsts are.firsts;
}

-- ---- lines that report nothing

-- A line reports no fact.
pub record IsNoFact (r : Report) : Type 0 where
  pub end : end_of r ≡ None
  pub gone : gone_of r ≡ None
  pub cancel : cancel_of r ≡ None
  pub done : done_of r ≡ None
  pub time : time_of r ≡ None
  pub size : size_of r ≡ None
  pub hurry : is_hurry r ≡ false
  pub question : is_question r ≡ false
  pub ask : ask_of r ≡ None
  pub first : group_ask_of r ≡ None

pub quiet : (r : Report) → end_of r ≡ None → gone_of r ≡ None → cancel_of r ≡ None
    → done_of r ≡ None → time_of r ≡ None → size_of r ≡ None → is_hurry r ≡ false
    → is_question r ≡ false → ask_of r ≡ None → group_ask_of r ≡ None → IsNoFact r
quiet r end gone cancel done time size hurry question ask first = record {
  end = end;
  gone = gone;
  cancel = cancel;
  done = done;
  time = time;
  size = size;
  hurry = hurry;
  question = question;
  ask = ask;
  first = first;
}

no_more : {A : Type 0} (f : Report → Option A) (r : Report) (old : List A) → f r ≡ None
    → old ≡ old ++ filter_map f (r ∷ [])
no_more {A} f r old none =
    sym (ap (λ (o : Option A). old ++ cons_option o []) none ∙ append-nil old)

pub heard_same : (xs : List Report) (r : Report) (h : Heard) → IsNoFact r → AreHeard xs h
    → AreHeard (xs ++ r ∷ []) h
heard_same xs r h none are =
    heard_push xs r h h (record {
      ends = no_more end_of r h.ends.items none.end;
      gone = no_more gone_of r h.gone.items none.gone;
      cancels = no_more cancel_of r h.cancels.items none.cancel;
      done = no_more done_of r h.done.items none.done;
      time = sym (ap (λ (o : Option ℕ). option_or o h.time) none.time);
      sizes = no_more size_of r h.sizes.items none.size;
      hurry = sym (ap (λ (b : Bool). h.hurry || b) none.hurry ∙ or_false h.hurry);
      asked = sym (ap (λ (b : Bool). h.asked || b) none.question ∙ or_false h.asked);
      asks = no_more ask_of r h.asks.items none.ask;
      firsts = no_more group_ask_of r h.firsts.items none.first;
    }) are

-- ---- lines by which no plan grows

pub fact_no_group : (f : Fact) → IsNoGroup (line_of f)
fact_no_group (fact.End end) = record { group = refl; name = refl; after = refl; untils = refl }
fact_no_group _ = record { group = refl; name = refl; after = refl; untils = refl }

pub fact_no_command : (f : Fact) → IsNoCommand (line_of f)
fact_no_command (fact.End end) = record { outline = refl; key = refl; detail = refl }
fact_no_command _ = record { outline = refl; key = refl; detail = refl }

pub fact_no_pool : (f : Fact) → pool_of (line_of f) ≡ None
fact_no_pool (fact.End end) = refl
fact_no_pool _ = refl

-- ---- tries that are over

or_between : (a b c : Bool) → (a || (b || c)) ≡ (b || (a || c))
or_between true true c = refl
or_between true false c = refl
or_between false b c = refl

named_by : (task : ℕ) (xs : List Report) → list_any (is_over task) xs
    ≡ (has_ended (filter_map end_of xs) task
    || list_any (λ (gone : ℕ). gone == task) (filter_map gone_of xs))
named_by task [] = refl
named_by task (report.Ended other outcome ∷ xs) =
    ap (λ (b : Bool). other == task || b) (named_by task xs)
    ∙ or_or (other == task)
    (has_ended (filter_map end_of xs) task)
    (list_any (λ (gone : ℕ). gone == task) (filter_map gone_of xs))
named_by task (report.Gone other ∷ xs) =
    ap (λ (b : Bool). other == task || b) (named_by task xs)
    ∙ or_between (other == task)
    (has_ended (filter_map end_of xs) task)
    (list_any (λ (gone : ℕ). gone == task) (filter_map gone_of xs))
named_by task (_ ∷ xs) = named_by task xs

-- What was heard names the tasks that the lines name.
pub named_heard : (task : ℕ) (xs : List Report) (h : Heard) → AreHeard xs h
    → names_task h task ≡ list_any (is_over task) xs
named_heard task xs h are =
    ap (λ (l : List Ended). has_ended l task
    || list_any (λ (gone : ℕ). gone == task) h.gone.items) are.ends
    ∙ ap (λ (l : List ℕ).
    has_ended (filter_map end_of xs) task
    || list_any (λ (gone : ℕ). gone == task) l) are.gone
    ∙ sym (named_by task xs)

-- No try that lives has a greater task than a store can have.
pub none_past : (living : List ℕ) (task : ℕ) → ((k : ℕ) → slice_index living k < 65536)
    → 65536 ≤ task → list_any (λ (other : ℕ). other == task) living ≡ true → ⊥
none_past [] task fits large any = absurd (let no : false ≡ true = any in cc)
none_past (x ∷ xs) task fits large any =
    let Goal : Bool → Type 0 = λ b.
    (x == task) ≡ b → (b || list_any (λ (other : ℕ). other == task) xs) ≡ true → ⊥ in
    let each : (b : Bool) → Goal b = λ b. elim b as Goal [
      | true ↦ λ is passes.
          let same : x ≡ task = (Decides-eqb x task).0 is in
          let less : x < 65536 = fits 0 in
          omega arith
      | false ↦ λ is passes. none_past xs task (λ k. fits (suc k)) large passes
    ] in
    each (x == task) refl any

-- The number of a task, by another name.
pub lives_at : (living : List ℕ) (task t : ℕ) (b : Bool) → t ≡ task
    → b ≡ list_any (λ (other : ℕ). other == t) living
    → list_any (λ (other : ℕ). other == task) living ≡ b
lives_at living task t b is test =
    ap (λ (n : ℕ). list_any (λ (other : ℕ). other == n) living) (sym is) ∙ sym test

pub named_at : (xs : List Report) (h : Heard) (task t : ℕ) (b : Bool) → AreHeard xs h → t ≡ task
    → b ≡ names_task h t → list_any (is_over task) xs ≡ b
named_at xs h task t b are is test =
    ap (λ (n : ℕ). list_any (is_over n) xs) (sym is) ∙ sym (test ∙ named_heard t xs h are)
