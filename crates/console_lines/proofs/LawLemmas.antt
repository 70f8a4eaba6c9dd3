-- The laws of the definition.
use Rattle.std.specs.Prelude.{◌≡◌, ◌==◌, ◌<◌, ℕ, Bool, true, false, cond, if◌then◌else◌}
use Rattle.std.specs.Prelude.{List, [], ◌∷◌, ◌++◌, length, codes, Option, Some, None, Ok}
use Rattle.std.specs.List.{slice_split, onto_first}
use Rattle.std.specs.Option.{option_map, option_and_then}
use Rattle.std.proofs.Common.{arith, refl, sym, ap, ◌∙◌, append_assoc, append-nil}
use Rattle.std.proofs.lemmas.List.Splits.{length-slice_split}
use Rattle.std.specs.List.{cons_option}
use Rattle.run_model.specs.Session.{Session, session_after, event_of_step, with_event}
use Rattle.run_model.specs.declared.commands.Step.{Step}
use Rattle.run_model.specs.declared.commands.Wish.TheVariants as wish
use Rattle.console_lines.specs.Moments.{moment_of}
use Rattle.console_lines.specs.Numbers.{number_of}
use Rattle.console_lines.specs.LineRequests.{wish_of, wished, deadline_at}
use Rattle.console_lines.specs.Lines.{whole_lines, open_line, lines_of}
use Rattle.console_lines.specs.Words.{words_of, rest_of}
use Rattle.console_lines.specs.LineRequests.{request_of}
use Rattle.console_lines.specs.Script.{after_line, replies, after_lines, closing, script}
use Rattle.console_lines.specs.Script.{step_of, steps_of}
use Rattle.console_lines.specs.Progress.{IsPrefix}
use Rattle.console_lines.proofs.Splits.{whole_lines-append}
use Rattle.console_lines.proofs.Steps.{replies-append}
use Rattle.console_lines.proofs.WordLemmas.{rest_is}

-- The bytes before the first part become its beginning.
put_before : List ℕ → List (List ℕ) → List (List ℕ)
put_before begun [] = begun ∷ []
put_before begun (part ∷ parts) = (begun ++ part) ∷ parts

put_nothing : (parts : List (List ℕ)) → 0 < length parts → put_before [] parts ≡ parts
unfolding put_before
put_nothing [] h = absurd (omega (arith, h))
put_nothing (part ∷ parts) h = refl

put_more :
    (begun : List ℕ) (b : ℕ) (parts : List (List ℕ))
    → put_before (begun ++ b ∷ []) parts ≡ put_before begun (onto_first b parts)
unfolding put_before
put_more begun b [] = refl
put_more begun b (part ∷ parts) = ap (λ x. x ∷ parts) (append_assoc begun (b ∷ []) part)

-- One byte more before the rest of an input.
parts_step :
    (begun : List ℕ) (b : ℕ) (bytes : List ℕ) (parts : List (List ℕ)) (t : Bool)
    → 0 < length parts
    → whole_lines [] bytes ++ open_line [] bytes ∷ [] ≡ put_before [] parts
    → whole_lines (begun ++ b ∷ []) bytes ++ open_line (begun ++ b ∷ []) bytes ∷ []
    ≡ put_before (begun ++ b ∷ []) parts
    → (if t then begun ∷ whole_lines [] bytes else whole_lines (begun ++ b ∷ []) bytes)
    ++ (if t then open_line [] bytes else open_line (begun ++ b ∷ []) bytes) ∷ []
    ≡ put_before begun (cond t ([] ∷ parts) (onto_first b parts))
unfolding put_before
parts_step begun b bytes parts true some ended on =
    ap (λ x. begun ∷ x) (ended ∙ put_nothing parts some)
    ∙ ap (λ x. x ∷ parts) (sym (append-nil begun))
parts_step begun b bytes parts false some ended on = on ∙ put_more begun b parts

has_parts : (bytes : List ℕ) → 0 < length (slice_split (λ b. b == 10) bytes)
has_parts bytes = grind (arith, length-slice_split (λ b. b == 10) bytes)

parts_from :
    (begun bytes : List ℕ)
    → whole_lines begun bytes ++ open_line begun bytes ∷ []
    ≡ put_before begun (slice_split (λ b. b == 10) bytes)
unfolding put_before
parts_from begun [] = ap (λ x. x ∷ []) (sym (append-nil begun))
parts_from begun (b ∷ bytes) =
    parts_step begun b bytes (slice_split (λ b. b == 10) bytes) (b == 10) (has_parts bytes)
    (parts_from [] bytes) (parts_from (begun ++ b ∷ []) bytes)

-- The lines of an input are its parts at each LF.
pub lines_are_parts : (bytes : List ℕ) → lines_of bytes ≡ slice_split (λ b. b == 10) bytes
lines_are_parts bytes =
    parts_from [] bytes ∙ put_nothing (slice_split (λ b. b == 10) bytes) (has_parts bytes)

-- The replies to the lines of a first part come first in the output.
pub replies_stay :
    (s : Session) (first more : List ℕ)
    → IsPrefix (replies s (whole_lines [] first)) (script s (first ++ more))
replies_stay s first more =
    let a = whole_lines [] first in
    let b = whole_lines (open_line [] first) more in
    let c = open_line [] (first ++ more) ∷ [] in
    let lines : lines_of (first ++ more) ≡ a ++ (b ++ c) =
    ap (λ l. l ++ c) (whole_lines-append [] first more) ∙ append_assoc a b c in
    let end = closing (after_lines s (lines_of (first ++ more))) in
    let behind = replies (after_lines s a) (b ++ c) in (
      behind ++ end,
      ap (λ l. replies s l ++ end) lines
          ∙ ap (λ x. x ++ end) (replies-append s a (b ++ c))
          ∙ append_assoc (replies s a) behind end,
    )

-- A step leaves what it leaves as the first of some.
step_first :
    (s : Session) (x : Option Step) (steps : List Step)
    → session_after (with_event s (option_and_then (event_of_step s) x)) steps
    ≡ session_after s (cons_option x steps)
step_first s None steps = refl
step_first s (Some x) steps = refl

-- Lines leave the same session as their steps.
pub lines_are_steps :
    (s : Session) (lines : List (List ℕ))
    → after_lines s lines ≡ session_after s (steps_of lines)
unfolding after_line
lines_are_steps s [] = refl
lines_are_steps s (line ∷ lines) =
    lines_are_steps (after_line s line) lines
    ∙ step_first s (step_of (request_of line)) (steps_of lines)

-- ---- texts

-- The text of a value consists of all bytes after its key.
pub value_text :
    (key text : List ℕ)
    → wish_of (codes "value") (key ∷ words_of text) ≡ Some (wished (wish.Value key text))
value_text key text = ap (λ t. option_map (λ x. wished (wish.Value key x)) t) (rest_is (Some text))

-- The cause of a deadline consists of all bytes after its moment.
pub deadline_cause :
    (word cause : List ℕ) (moment : ℕ)
    → moment_of word ≡ Some (Ok moment)
    → wish_of (codes "deadline") (word ∷ words_of cause)
    ≡ Some (wished (wish.Deadline moment (Some cause)))
deadline_cause word cause moment h =
    ap (λ m. option_map (deadline_at (rest_of (words_of cause))) m) h
    ∙ ap (λ t. Some (wished (wish.Deadline moment t))) (rest_is (Some cause))

-- The cause of a timeout consists of all bytes after its number.
pub timeout_cause :
    (word cause : List ℕ) (seconds : ℕ)
    → number_of word ≡ Some seconds
    → wish_of (codes "timeout") (word ∷ words_of cause)
    ≡ Some (wished (wish.Timeout seconds (Some cause)))
timeout_cause word cause seconds h =
    ap (λ n. option_map (λ x. wished (wish.Timeout x (rest_of (words_of cause)))) n) h
    ∙ ap (λ t. Some (wished (wish.Timeout seconds t))) (rest_is (Some cause))
