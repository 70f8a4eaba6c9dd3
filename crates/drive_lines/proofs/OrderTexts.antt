-- Each line of the program is read back.
use Rattle.std.specs.Prelude.{◌≡◌, ◌++◌, ◌∷◌, ℕ, List, Option, Some, codes}
use Rattle.std.specs.Fmt.{decimal}
use Rattle.std.specs.Option.{option_and_then, option_map}
use Rattle.std.proofs.Common.{arith, refl, sym, ap, ◌∙◌}
use Rattle.night_plan.specs.declared.standings.Standing.{Standing}
use Rattle.night_plan.specs.declared.standings.Standing.TheVariants as standing
use Rattle.run_model.specs.declared.faults.Fault.{Fault}
use Rattle.run_model.specs.declared.faults.Fault.TheVariants as fault
use Rattle.run_model.specs.Faults.{fault_text}
use Rattle.console_lines.specs.Numbers.{number_of}
use Rattle.plan_lines.specs.declared.answers.AnswerLine.{AnswerLine}
use Rattle.plan_lines.specs.declared.answers.AnswerLine.TheVariants as answer
use Rattle.plan_lines.specs.Answers.{answer_text, standing_text}
use Rattle.plan_lines.proofs.Digits.{written}
use Rattle.drive_lines.specs.declared.fields.TryName.{TryName}
use Rattle.drive_lines.specs.declared.orders.Order.{Order}
use Rattle.drive_lines.specs.declared.orders.Order.TheVariants as order
use Rattle.drive_lines.specs.Fields.{FitsTry, IsShort, try_text}
use Rattle.drive_lines.specs.OrderReading.{FitsAnswer, FitsOrder, FitsStanding, number_in}
use Rattle.drive_lines.specs.OrderReading.{number_then, of_number, of_standing, of_try}
use Rattle.drive_lines.specs.OrderReading.{order_of, standing_in, try_in}
use Rattle.drive_lines.specs.Orders.{order_text, task_text}
use Rattle.drive_lines.specs.Spaces.{first_of, rest_of, spaced}
use Rattle.drive_lines.proofs.FieldTexts.{digits_no_space, try_at}
use Rattle.drive_lines.proofs.OnLiterals.{lines_on_literals}
use Rattle.drive_lines.proofs.Spaces.{first_of_after, rest_of_after}

-- ---- the parts of a line

number_back : (make : ℕ → Order) (n : ℕ) → IsShort n
    → of_number make (Some (decimal n)) ≡ Some (make n)
number_back make n h = ap (option_map make) (written n h)

then_back : {A : Type 0} (read : ℕ → List ℕ → Option A) (n : ℕ) (rest : List ℕ) → IsShort n
    → number_then read (spaced (decimal n) rest) ≡ read n rest
then_back read n rest h =
    let bytes = spaced (decimal n) rest in
    let none = digits_no_space n h in
    ap (λ (w : List ℕ). option_and_then (λ (m : ℕ). option_and_then (read m) (rest_of bytes))
    (number_of w)) (first_of_after (decimal n) (Some rest) none)
    ∙ ap (λ (m : Option ℕ). option_and_then (λ (k : ℕ). option_and_then (read k) (rest_of bytes)) m)
    (written n h)
    ∙ ap (option_and_then (read n)) (rest_of_after (decimal n) (Some rest) none)

try_back : (t : TryName) → FitsTry t → try_in (try_text t) ≡ Some t
try_back t fits =
    let bytes = try_text t in
    let more = spaced t.key (decimal t.number) in
    let at = try_at t bytes fits refl in
    let read : List ℕ → List ℕ → Option TryName = λ group rest.
    option_map (λ n. record { group = group; key = first_of rest; number = n })
    (number_in (rest_of rest)) in
    ap (λ (g : List ℕ). option_and_then (read g) (rest_of bytes)) at.group
    ∙ ap (option_and_then (read t.group)) at.rest
    ∙ ap (λ (k : List ℕ). option_map (λ n. record { group = t.group; key = k; number = n })
    (number_in (rest_of more))) at.key
    ∙ ap (λ (r : Option (List ℕ)). option_map (λ n. record t { number = n }) (number_in r))
    at.number
    ∙ ap (option_map (λ n. record t { number = n })) (written t.number (omega (arith, fits.number)))

started_back : (make : ℕ → ℕ → TryName → Order) (c task : ℕ) (t : TryName) → IsShort c
    → IsShort task → FitsTry t → of_try make (task_text c task t) ≡ Some (make c task t)
started_back make c task t h k fits =
    then_back (λ m. number_then (λ n rest. option_map (make m n) (try_in rest))) c
    (spaced (decimal task) (try_text t)) h
    ∙ then_back (λ n rest. option_map (make c n) (try_in rest)) task (try_text t) k
    ∙ ap (option_map (make c task)) (try_back t fits)

-- ---- standings

-- What comes after the space.
standing_word : Standing → List ℕ
standing_word standing.Ready = codes "ready"
standing_word standing.Pending = codes "pending"
standing_word standing.Busy = codes "busy"
standing_word (standing.Waiting moment) = spaced (codes "waiting") (decimal moment)
standing_word standing.EndedOk = codes "ok"
standing_word standing.Failed = codes "failed"
standing_word standing.Canceled = codes "canceled"
standing_word standing.GivenUp = codes "given-up"

after_space : (s : Standing) → standing_text s ≡ 32 ∷ standing_word s
unfolding standing_word
after_space standing.Ready = refl
after_space standing.Pending = refl
after_space standing.Busy = refl
after_space (standing.Waiting moment) = refl
after_space standing.EndedOk = refl
after_space standing.Failed = refl
after_space standing.Canceled = refl
after_space standing.GivenUp = refl

standing_back : (s : Standing) → FitsStanding s → standing_in (standing_word s) ≡ Some s
unfolding standing_word
standing_back standing.Ready h = refl
standing_back standing.Pending h = refl
standing_back standing.Busy h = refl
standing_back (standing.Waiting moment) h = ap (option_map standing.Waiting) (written moment h)
standing_back standing.EndedOk h = refl
standing_back standing.Failed h = refl
standing_back standing.Canceled h = refl
standing_back standing.GivenUp h = refl

stands_back : (c : ℕ) (s : Standing) → IsShort c → FitsStanding s
    → of_standing (decimal c ++ standing_text s) ≡ Some (order.Answer (answer.Stands c s))
stands_back c s h k =
    ap (λ (w : List ℕ). of_standing (decimal c ++ w)) (after_space s)
    ∙ then_back (λ n word. option_map (λ x. order.Answer (answer.Stands n x)) (standing_in word)) c
    (standing_word s) h
    ∙ ap (option_map (λ (x : Standing). order.Answer (answer.Stands c x))) (standing_back s k)

-- ---- lines

answer_back : (a : AnswerLine) → FitsAnswer a → order_of (answer_text a) ≡ Some (order.Answer a)
answer_back (answer.Plan n) h = number_back (λ m. order.Answer (answer.Plan m)) n h
answer_back (answer.Unknown c) h = number_back (λ m. order.Answer (answer.Unknown m)) c h
answer_back (answer.TooMuch c) h = number_back (λ m. order.Answer (answer.TooMuch m)) c h
answer_back answer.Circle h = refl
answer_back (answer.Member c) h = number_back (λ m. order.Answer (answer.Member m)) c h
answer_back (answer.Begin c) h = absurd h
answer_back (answer.Stop c) h = absurd h
answer_back (answer.Later moment) h = number_back (λ m. order.Answer (answer.Later m)) moment h
answer_back (answer.Stands c s) h = stands_back c s h.0 h.1
answer_back (answer.Bad n) h = number_back (λ m. order.Answer (answer.Bad m)) n h
answer_back answer.End h = refl

fault_back : (f : Fault) → order_of (fault_text f) ≡ Some (order.Fault f)
unfolding lines_on_literals
fault_back fault.Memory = refl
fault_back fault.DiskFailed = refl
fault_back fault.NotAStore = refl
fault_back fault.WrongSize = refl
fault_back fault.BadSlot = refl
fault_back fault.BadImage = refl
fault_back fault.BadBatch = refl
fault_back fault.BadRecord = refl
fault_back fault.BadEvent = refl
fault_back fault.NumbersSpent = refl

pub read_back : (o : Order) → FitsOrder o → order_of (order_text o) ≡ Some o
read_back (order.Answer a) h = answer_back a h
read_back (order.Night n) h = number_back order.Night n h
read_back (order.Name g) h = number_back order.Name g h
read_back (order.Twice c) h = number_back order.Twice c h
read_back (order.Other task) h = number_back order.Other task h
read_back (order.Begin c task t) h = started_back order.Begin c task t h.0 h.1 h.2
read_back (order.Rebound c task t) h = started_back order.Rebound c task t h.0 h.1 h.2
read_back (order.Stop task why) h = then_back (λ n w. Some (order.Stop n w)) task why h.0
read_back (order.Error c text) h = then_back (λ n w. Some (order.Error n w)) c text h.0
read_back (order.First g text) h = then_back (λ n w. Some (order.First n w)) g text h.0
read_back order.Durable h = refl
read_back order.Over h = refl
read_back order.Full h = refl
read_back (order.Fault f) h = fault_back f

pub one_order : (a b : Order) → FitsOrder a → FitsOrder b → order_text a ≡ order_text b → a ≡ b
one_order a b h k e =
    let same : Some a ≡ Some b = sym (read_back a h) ∙ ap order_of e ∙ read_back b k in
    cc
