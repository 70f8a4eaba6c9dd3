-- How each line of the program is read back.
use Rattle.std.specs.Prelude.{◌∷◌, ℕ, List, [], Option, Some, None, codes, if◌then◌else◌}
use Rattle.std.specs.Option.{option_and_then, option_map}
use Rattle.std.specs.Str.{bytes_eq}
use Rattle.night_plan.specs.declared.standings.Standing.{Standing}
use Rattle.night_plan.specs.declared.standings.Standing.TheVariants as standing
use Rattle.run_model.specs.declared.faults.Fault.{Fault}
use Rattle.run_model.specs.declared.faults.Fault.TheVariants as fault
use Rattle.run_model.specs.Faults.{fault_text}
use Rattle.run_model.specs.Texts.{IsText}
use Rattle.console_lines.specs.Numbers.{number_of}
use Rattle.plan_lines.specs.declared.answers.AnswerLine.{AnswerLine}
use Rattle.plan_lines.specs.declared.answers.AnswerLine.TheVariants as answer
use Rattle.drive_lines.specs.declared.fields.TryName.{TryName}
use Rattle.drive_lines.specs.declared.orders.Order.{Order}
use Rattle.drive_lines.specs.declared.orders.Order.TheVariants as order
use Rattle.drive_lines.specs.Fields.{FitsTry, IsShort}
use Rattle.drive_lines.specs.Spaces.{first_of, rest_of}

-- ---- which lines are read back

-- The moment of a standing has at most 12 digits.
abbrev pub FitsStanding : Standing → Type 0
FitsStanding (standing.Waiting moment) = IsShort moment
FitsStanding _ = Unit {0}

-- No line of an answer begins or stops a command without naming its task, and each number has at
-- most 12 digits.
abbrev pub FitsAnswer : AnswerLine → Type 0
FitsAnswer (answer.Plan n) = IsShort n
FitsAnswer (answer.Unknown c) = IsShort c
FitsAnswer (answer.TooMuch c) = IsShort c
FitsAnswer answer.Circle = Unit {0}
FitsAnswer (answer.Member c) = IsShort c
FitsAnswer (answer.Begin c) = ⊥
FitsAnswer (answer.Stop c) = ⊥
FitsAnswer (answer.Later moment) = IsShort moment
FitsAnswer (answer.Stands c s) = IsShort c × FitsStanding s
FitsAnswer (answer.Bad n) = IsShort n
FitsAnswer answer.End = Unit {0}

-- Each number has at most 12 digits, and names and texts are what they have to be.
abbrev pub FitsOrder : Order → Type 0
FitsOrder (order.Answer a) = FitsAnswer a
FitsOrder (order.Night n) = IsShort n
FitsOrder (order.Name g) = IsShort g
FitsOrder (order.Twice c) = IsShort c
FitsOrder (order.Other task) = IsShort task
FitsOrder (order.Begin c task t) = IsShort c × IsShort task × FitsTry t
FitsOrder (order.Rebound c task t) = IsShort c × IsShort task × FitsTry t
FitsOrder (order.Stop task why) = IsShort task × IsText why
FitsOrder (order.Error c text) = IsShort c × IsText text
FitsOrder (order.First g text) = IsShort g × IsText text
FitsOrder _ = Unit {0}

-- ---- how they are read

-- A number that is the rest of a line.
abbrev pub number_in : Option (List ℕ) → Option ℕ
number_in rest = option_and_then number_of rest

-- The line with this number.
abbrev pub of_number : (ℕ → Order) → Option (List ℕ) → Option Order
of_number make rest = option_map make (number_in rest)

-- A number, and what is read of the bytes after its space.
abbrev pub number_then : {A : Type 0} → (ℕ → List ℕ → Option A) → List ℕ → Option A
number_then read bytes =
    option_and_then (λ n. option_and_then (read n) (rest_of bytes)) (number_of (first_of bytes))

-- A try.
abbrev pub try_in : List ℕ → Option TryName
try_in bytes =
    option_and_then (λ rest. option_map
    (λ n. record { group = first_of bytes; key = first_of rest; number = n })
    (number_in (rest_of rest))) (rest_of bytes)

-- A command, its task, and its try.
abbrev pub of_try : (ℕ → ℕ → TryName → Order) → List ℕ → Option Order
of_try make bytes =
    number_then (λ c. number_then (λ task rest. option_map (make c task) (try_in rest))) bytes

-- A number, and a text.
abbrev pub of_text : (ℕ → List ℕ → Order) → List ℕ → Option Order
of_text make bytes = number_then (λ n text. Some (make n text)) bytes

-- How a command stands.
abbrev pub standing_in : List ℕ → Option Standing
standing_in word =
    if bytes_eq word (codes "ready") then Some standing.Ready
    else if bytes_eq word (codes "pending") then Some standing.Pending
    else if bytes_eq word (codes "busy") then Some standing.Busy
    else if bytes_eq word (codes "ok") then Some standing.EndedOk
    else if bytes_eq word (codes "failed") then Some standing.Failed
    else if bytes_eq word (codes "canceled") then Some standing.Canceled
    else if bytes_eq word (codes "given-up") then Some standing.GivenUp
    else if bytes_eq (first_of word) (codes "waiting") then
    option_map standing.Waiting (number_in (rest_of word))
    else None

-- A command, and how it stands.
abbrev pub of_standing : List ℕ → Option Order
of_standing bytes =
    number_then (λ c word. option_map (λ s. order.Answer (answer.Stands c s)) (standing_in word))
    bytes

-- The first of some faults that is spelled so.
abbrev pub fault_in : List ℕ → List Fault → Option Fault
fault_in bytes [] = None
fault_in bytes (f ∷ rest) = if bytes_eq bytes (fault_text f) then Some f else fault_in bytes rest

-- All faults.
abbrev pub faults : List Fault
faults =
    fault.Memory ∷ fault.DiskFailed ∷ fault.NotAStore ∷ fault.WrongSize ∷ fault.BadSlot
    ∷ fault.BadImage ∷ fault.BadBatch ∷ fault.BadRecord ∷ fault.BadEvent ∷ fault.NumbersSpent ∷ []

-- A line with this first word, and what comes after its space.
abbrev pub order_by : (first : List ℕ) → (rest : Option (List ℕ)) → Option Order
order_by first rest =
    if bytes_eq first [] then Some (order.Answer answer.End)
    else if bytes_eq first (codes "plan") then of_number (λ n. order.Answer (answer.Plan n)) rest
    else if bytes_eq first (codes "unknown") then
    of_number (λ c. order.Answer (answer.Unknown c)) rest
    else if bytes_eq first (codes "too-much") then
    of_number (λ c. order.Answer (answer.TooMuch c)) rest
    else if bytes_eq first (codes "circle") then Some (order.Answer answer.Circle)
    else if bytes_eq first (codes "member") then
    of_number (λ c. order.Answer (answer.Member c)) rest
    else if bytes_eq first (codes "later") then
    of_number (λ moment. order.Answer (answer.Later moment)) rest
    else if bytes_eq first (codes "stands") then option_and_then of_standing rest
    else if bytes_eq first (codes "bad") then of_number (λ n. order.Answer (answer.Bad n)) rest
    else if bytes_eq first (codes "night") then of_number order.Night rest
    else if bytes_eq first (codes "name") then of_number order.Name rest
    else if bytes_eq first (codes "twice") then of_number order.Twice rest
    else if bytes_eq first (codes "other") then of_number order.Other rest
    else if bytes_eq first (codes "begin") then option_and_then (of_try order.Begin) rest
    else if bytes_eq first (codes "rebound") then option_and_then (of_try order.Rebound) rest
    else if bytes_eq first (codes "stop") then option_and_then (of_text order.Stop) rest
    else if bytes_eq first (codes "error") then option_and_then (of_text order.Error) rest
    else if bytes_eq first (codes "first") then option_and_then (of_text order.First) rest
    else if bytes_eq first (codes "durable") then Some order.Durable
    else if bytes_eq first (codes "over") then Some order.Over
    else if bytes_eq first (codes "full") then Some order.Full
    else None

-- A line of the program, by its first word; or that of a fault.
abbrev pub order_of : List ℕ → Option Order
order_of bytes =
    if bytes_eq (first_of bytes) (codes "fault") then option_map order.Fault (fault_in bytes faults)
    else order_by (first_of bytes) (rest_of bytes)
