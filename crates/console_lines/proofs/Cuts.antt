-- The reply to a line is the reply to the part of it that is kept: a line that is cut is a bad line
-- either way.
use Rattle.std.specs.Prelude.{◌≡◌, ◌<◌, ℕ, false, List, length, Option, Some, None, if◌then◌else◌}
use Rattle.std.proofs.Common.{inl, inr, arith, ap, refl, ◌∙◌, sym}
use Rattle.std.proofs.lemmas.Bool.{cases_lt}
use Rattle.std.proofs.lemmas.Bool.Decides.{nat_tests}
use Rattle.std.proofs.lemmas.Grind.{common_steps}
use Rattle.std.proofs.lemmas.List.{length-take-le, take_all}
use Rattle.run_model.specs.Session.{Session}
use Rattle.console_lines.specs.declared.line_requests.LineRequest.TheVariants.{BadLine}
use Rattle.console_lines.specs.declared.rejections.Rejection.{Rejection}
use Rattle.console_lines.specs.declared.rejections.Rejection.TheVariants as rejection
use Rattle.console_lines.specs.LineRequests.{request_of}
use Rattle.console_lines.specs.Progress.{kept}
use Rattle.console_lines.specs.Replies.{reply_lines}
use Rattle.console_lines.specs.Script.{reply, after_line, replies_to, after_asked}
use Rattle.console_lines.specs.Strict.{ends_in_return, rejection_by}

pub asked_of_long : (line : List ℕ) → 256 < length line → request_of line ≡ BadLine
asked_of_long line h = grind (arith, nat_tests, common_steps, h)

-- What is the same of all lines that are too long is the same of what is kept of a line.
same_of_kept : {A : Type 0} (f : List ℕ → A) (of_long : A)
    → ((line : List ℕ) → 256 < length line → f line ≡ of_long)
    → (line : List ℕ) → f (kept line) ≡ f line
same_of_kept f of_long all line = elim (cases_lt 256 (length line)) [
  | inl long ↦
      let len : length (kept line) ≡ 257 = length-take-le 257 line (omega (arith, long)) in
      all (kept line) (omega (arith, len)) ∙ sym (all line long)
  | inr short ↦ ap f (take_all 257 line (omega (arith, short)))
]

pub asked_of_kept : (line : List ℕ) → request_of (kept line) ≡ request_of line
asked_of_kept = same_of_kept request_of BadLine asked_of_long

pub reply_kept : (s : Session) (line : List ℕ) → reply s (kept line) ≡ reply s line
unfolding reply
reply_kept s line = ap (λ a. reply_lines (replies_to s a)) (asked_of_kept line)

pub after_line_kept :
    (s : Session) (line : List ℕ) → after_line s (kept line) ≡ after_line s line
unfolding after_line
after_line_kept s line = ap (λ a. after_asked s a) (asked_of_kept line)

long_ends : (line : List ℕ) → 256 < length line → ends_in_return line ≡ false
long_ends line h = grind (arith, nat_tests, common_steps, h)

-- The kept part of a line ends with a carriage return exactly if the line does.
pub ends_kept : (line : List ℕ) → ends_in_return (kept line) ≡ ends_in_return line
ends_kept = same_of_kept ends_in_return false long_ends

-- Lines with the same last byte are rejected in the same way.
pub rejected_alike : (why : Option Rejection) (xs ys : List ℕ)
    → ends_in_return xs ≡ ends_in_return ys → rejection_by why xs ≡ rejection_by why ys
rejected_alike None xs ys e = refl
rejected_alike (Some rejection.BadLine) xs ys e =
    ap (λ b. if b then Some rejection.CarriageReturn else Some rejection.BadLine) e
rejected_alike (Some rejection.CarriageReturn) xs ys e = refl
rejected_alike (Some (rejection.Refused why)) xs ys e = refl
