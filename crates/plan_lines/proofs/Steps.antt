-- A step of a run: what a line makes of it, and its answer.
use Rattle.std.specs.Prelude.{◌≡◌, ◌≢◌, ◌==◌, ◌∷◌, ℕ, Bool, false, List, [], Option}
use Rattle.std.specs.Prelude.{Result, Ok, Err, length}
use Rattle.std.proofs.Common.{◌∙◌, ap, arith, inr, refl, subst, sym}
use Rattle.std.proofs.lemmas.Bool.{true≢false}
use Rattle.console_lines.specs.declared.faults.RunFault.{RunFault}
use Rattle.console_lines.specs.declared.faults.RunFault.TheVariants as fault
use Rattle.plan_lines.specs.declared.answers.AnswerLine.{AnswerLine}
use Rattle.plan_lines.specs.declared.lines.PlanLine.{PlanLine}
use Rattle.plan_lines.specs.declared.runs.Next.{Next}
use Rattle.plan_lines.specs.declared.runs.InputPart.{InputPart}
use Rattle.plan_lines.specs.Lines.{Means}
use Rattle.plan_lines.specs.Runs.{Answers, Gives, Rejects, TakesLine}

-- A step does what a part of it does.
pub answers_as : (P Q : Next → List AnswerLine → Type 0) (r : Result Next RunFault)
    (w0 w1 : Option (List ℕ))
    → ((after : Next) (lines : List AnswerLine) → P after lines → Q after lines)
    → Answers P r w0 w1 → Answers Q r w0 w1
answers_as P Q (Ok after) w0 w1 f h = (h.0, f after h.0 h.1, h.2)
answers_as P Q (Err fault.Output) w0 w1 f h = (h.0, h.1, f h.0 h.1 h.2, h.3, h.4, h.5)
answers_as P Q (Err fault.Memory) w0 w1 f h = h
answers_as P Q (Err fault.Input) w0 w1 f h = absurd h
answers_as P Q (Err fault.InputTooLong) w0 w1 f h = absurd h
answers_as P Q (Err (fault.Store why)) w0 w1 f h = absurd h

-- This comes after it, and this is the answer.
pub answers_this : (Q : Next → List AnswerLine → Type 0) (this : Next) (these : List AnswerLine)
    (r : Result Next RunFault) (w0 w1 : Option (List ℕ)) → Q this these
    → Answers (Gives this these) r w0 w1 → Answers Q r w0 w1
answers_this Q this these r w0 w1 is =
    answers_as (Gives this these) Q r w0 w1 (
    λ after lines h.
    subst (λ (a : Next). Q a lines) (sym h.0)
    (subst (λ (l : List AnswerLine). Q this l) (sym h.1) is)
    )

-- ---- a line that isn't empty

pub some_from_test : {A : Type 0} (xs : List A) (empty : Bool) → empty ≡ (length xs == 0)
    → empty ≡ false → xs ≢ []
some_from_test [] empty is unlike = λ e. absurd (true≢false (sym is ∙ unlike))
some_from_test (x ∷ xs) empty is unlike = λ e. absurd (omega (arith, ap length e))

pub takes_bad : (s : InputPart) (n : ℕ) (bytes : List ℕ) → bytes ≢ []
    → ((parsed : PlanLine) → Means bytes parsed → ⊥) → (after : Next) (lines : List AnswerLine)
    → Rejects n after lines → TakesLine s n bytes after lines
takes_bad s n [] some none after lines h = absurd (some refl)
takes_bad s n (b ∷ bytes) some none after lines h = inr (none, h)

-- ---- a step of the loop

pub answers_at : (P : Next → List AnswerLine → Type 0) (this that : Next) (w0 w1 : Option (List ℕ))
    → this ≡ that → Answers P (Ok this) w0 w1 → Answers P (Ok that) w0 w1
answers_at P this that w0 w1 is = subst (λ (a : Next). Answers P (Ok a) w0 w1) is
