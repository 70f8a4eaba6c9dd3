-- What `plan` does.
use Rattle.std.specs.Prelude.{◌≡◌, ℕ, List, Option, Result, Ok, Err, None}
use Rattle.console_lines.specs.declared.faults.RunFault.{RunFault}
use Rattle.console_lines.specs.declared.rejections.Rejection.TheVariants.{BadLine}
use Rattle.plan_lines.specs.declared.runs.RunEnd.{RunEnd}
use Rattle.plan_lines.specs.declared.runs.RunEnd.TheVariants.{Bad, InputEnded, Refused}
use Rattle.plan_lines.specs.Runs.{RunsPlan}
use Rattle.store_words.specs.declared.endings.Done.{Done}
use Rattle.store_words.specs.declared.endings.Done.TheVariants.{NoPlan, Rejection, Well}
use Rattle.store_words.specs.declared.failures.Failure.{Failure}

-- How the end of a run is answered.
abbrev pub AnswersPlan : Result RunEnd RunFault → Result Done Failure → Type 0
AnswersPlan (Ok InputEnded) answer = answer ≡ Ok Well
AnswersPlan (Ok (Refused why)) answer = answer ≡ Ok NoPlan
AnswersPlan (Ok (Bad line)) answer =
    answer ≡ Ok (Rejection (record { number = line; why = BadLine }))
AnswersPlan (Err why) answer = answer ≡ Err (record { fault = why; file = None })

-- A run has read this input and written this output, and the answer says how it has ended.
abbrev pub DoesPlan : Result Done Failure → (r0 r1 w0 w1 : Option (List ℕ)) → Type 0
DoesPlan answer r0 r1 w0 w1 =
    (done : Result RunEnd RunFault) × RunsPlan done r0 r1 w0 w1 × AnswersPlan done answer
