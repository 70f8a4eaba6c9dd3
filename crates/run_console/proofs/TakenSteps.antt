-- The steps that lines play over a book, one line after the other.
use Rattle.std.specs.Prelude.{◌≡◌, ◌||◌, Bool, false, ℕ, List, [], ◌∷◌, ◌++◌, Option, Some, None}
use Rattle.std.specs.Prelude.{Err}
use Rattle.std.specs.List.{cons_option, list_any}
use Rattle.std.proofs.Common.{inl, inr, refl, sym, ap, subst, ◌∙◌}
use Rattle.run_model.specs.declared.answers.Reply.{Reply}
use Rattle.run_model.specs.declared.commands.Step.{Step}
use Rattle.run_model.specs.declared.commands.Step.TheVariants as step
use Rattle.run_model.specs.declared.faults.Trouble.{Trouble}
use Rattle.run_disk.specs.Disk.{DiskState}
use Rattle.book_model.specs.Books.{CarriesOn, BookView}
use Rattle.book_model.specs.Plays.{is_fault}
use Rattle.book_model.specs.Steps.{AnswersStep, StepsOn, reply_of_save}
use Rattle.book_model.proofs.Playing.{or_false}
use Rattle.book_model.proofs.Rows.{row_join, row_one}
use Rattle.console_lines.specs.declared.line_requests.LineRequest.{LineRequest}
use Rattle.console_lines.specs.declared.line_requests.LineRequest.TheVariants as asked
use Rattle.console_lines.specs.declared.faults.RunFault.{RunFault}
use Rattle.console_lines.specs.declared.faults.RunFault.TheVariants as fault
use Rattle.console_lines.specs.LineRequests.{request_of}
use Rattle.console_lines.specs.Script.{step_of, steps_of}
use Rattle.run_console.specs.RunProgress.{Troubled}
use Rattle.run_console.specs.TakenSteps.{TakesAll, Tries, first_steps, next_steps, steps_asked}

-- ---- lists

cons_more : (o : Option Step) (xs ys : List Step)
    → cons_option o (xs ++ ys) ≡ cons_option o xs ++ ys
cons_more None xs ys = refl
cons_more (Some x) xs ys = refl

steps_of-append : (xs ys : List (List ℕ)) → steps_of (xs ++ ys) ≡ steps_of xs ++ steps_of ys
steps_of-append [] ys = refl
steps_of-append (x ∷ xs) ys =
    ap (λ l. cons_option (step_of (request_of x)) l) (steps_of-append xs ys)
    ∙ cons_more (step_of (request_of x)) (steps_of xs) (steps_of ys)

none_either : (xs ys : List Reply) → list_any is_fault xs ≡ false → list_any is_fault ys ≡ false
    → list_any is_fault (xs ++ ys) ≡ false
none_either [] ys p q = q
none_either (x ∷ xs) ys p q =
    let parts = or_false (is_fault x) (list_any is_fault xs) p in
    ap (λ (b : Bool). b || list_any is_fault (xs ++ ys)) parts.0
    ∙ none_either xs ys parts.1 q

module _ {D : Type 0} (state : D → DiskState) where
  -- ---- one step

  pub takes_none : {h : BookView D} → TakesAll state h [] h
  takes_none = record { answers = []; row = refl; fine = refl }

  -- A tally takes none.
  pub takes_tally : {h : BookView D} (line : List ℕ) → request_of line ≡ asked.Tally
      → TakesAll state h (steps_of (line ∷ [])) h
  takes_tally {h} line tally =
      subst (λ (a : LineRequest). TakesAll state h (steps_asked a) h) (sym tally) (takes_none)

  -- A step that isn't answered by a fault.
  pub takes_one : {old new : BookView D} {x : Step} (r : Reply) → AnswersStep state old x r new
      → CarriesOn state old new → is_fault r ≡ false → TakesAll state old (x ∷ []) new
  takes_one {old} {new} {x} r answers on fine = record {
    answers = r ∷ [];
    row = row_one state old new x r answers on;
    fine = ap (λ b. b || false) fine;
  }

  -- ---- some steps

  pub takes_join : {a b c : BookView D} {xs ys : List Step} → TakesAll state a xs b
      → TakesAll state b ys c → TakesAll state a (xs ++ ys) c
  takes_join {a} {b} {c} {xs} {ys} p q = record {
    answers = p.answers ++ q.answers;
    row = row_join state a b c xs ys p.answers q.answers p.row q.row;
    fine = none_either p.answers q.answers p.fine q.fine;
  }

  pub takes_lines : {a b c : BookView D} (xs ys : List (List ℕ)) → TakesAll state a (steps_of xs) b
      → TakesAll state b (steps_of ys) c → TakesAll state a (steps_of (xs ++ ys)) c
  takes_lines {a} {c} xs ys p q =
      subst (λ l. TakesAll state a l c) (sym (steps_of-append xs ys))
      (takes_join p q)

  -- No step leaves the book as it was.
  nothing_row : (a b : BookView D) (answers : List Reply) → StepsOn state a [] answers b → b ≡ a
  nothing_row a b [] row = row
  nothing_row a b (r ∷ answers) row = absurd row

  pub took_nothing : {a b : BookView D} → TakesAll state a [] b → b ≡ a
  took_nothing {a} {b} p = nothing_row a b p.answers p.row

  -- ---- the step that was next

  -- There was none.
  pub tried_nothing : (a b : BookView D) → Tries state a fault.Output [] b → b ≡ a
  tried_nothing a b (inl same) = same
  tried_nothing a b (inr row) = nothing_row a b row.0 row.1

  tries_any : (a b : BookView D) (why : RunFault) (steps : List Step) → Tries state a why [] b
      → Tries state a why steps b
  tries_any a b fault.Output steps p = inl (tried_nothing a b p)
  tries_any a b (fault.Store why) steps p = absurd p
  tries_any a b fault.Input steps p = p
  tries_any a b fault.InputTooLong steps p = p
  tries_any a b fault.Memory steps p = p

  -- More lines come after those that are left.
  pub tries_more : (a b : BookView D) (why : RunFault) (left more : List (List ℕ))
      → Tries state a why (first_steps left) b → Tries state a why (first_steps (left ++ more)) b
  tries_more a b why [] more p = tries_any a b why (first_steps more) p
  tries_more a b why (line ∷ left) more p = p

  -- Or the end of the input is.
  pub tries_next : (a b : BookView D) (why : RunFault) (left : List (List ℕ))
      → Tries state a why (first_steps left) b → Tries state a why (next_steps left) b
  tries_next a b why [] p = tries_any a b why (step.Flush ∷ []) p
  tries_next a b why (line ∷ left) p = p

  -- A step that the store stopped, after its trouble.
  pub tries_troubled : (old new : BookView D) (why : RunFault) (trouble : Trouble)
      (steps : List Step) (g : List ℕ) (w0 w1 : Option (List ℕ))
      → StepsOn state old steps (reply_of_save (Err trouble) ∷ []) new
      → Troubled why trouble g w0 w1 → Tries state old why steps new
  tries_troubled old new fault.Output trouble steps g w0 w1 row stop =
      inr (reply_of_save (Err trouble) ∷ [], row)
  tries_troubled old new (fault.Store why) trouble steps g w0 w1 row stop =
      subst (λ (t : Trouble). StepsOn state old steps (reply_of_save (Err t) ∷ []) new)
      (sym stop.0) row
  tries_troubled old new fault.Input trouble steps g w0 w1 row stop = absurd stop
  tries_troubled old new fault.InputTooLong trouble steps g w0 w1 row stop = absurd stop
  tries_troubled old new fault.Memory trouble steps g w0 w1 row stop = absurd stop
