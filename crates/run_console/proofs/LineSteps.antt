-- One line: from what it asks for to what is written.
use Rattle.std.specs.Prelude.{◌≡◌, ℕ, true, List, map, Result, Ok, Err, IfErr, OnErr}
use Rattle.std.specs.Prelude.{Option, Some, None, [], ◌∷◌}
use Rattle.std.specs.Option.{option_and_then, option_map_or, option_or}
use Rattle.std.proofs.Common.{ap, sym, subst, refl, arith, ◌∙◌, append-nil}
use Rattle.run_model.specs.declared.answers.Look.{Look}
use Rattle.run_model.specs.declared.answers.Reply.TheVariants as answered
use Rattle.run_model.specs.declared.commands.Step.TheVariants as step
use Rattle.run_model.specs.declared.refusals.Refusal.TheVariants as refusal
use Rattle.run_model.specs.Questions.{look_of}
use Rattle.run_model.specs.State.{State, scope_named}
use Rattle.run_model.specs.Session.{Session}
use Rattle.console_lines.specs.declared.line_requests.LineRequest.{LineRequest}
use Rattle.console_lines.specs.declared.line_replies.LineReply.{LineReply}
use Rattle.console_lines.specs.declared.line_replies.LineReply.TheVariants as printed
use Rattle.console_lines.specs.LineRequests.{request_of}
use Rattle.console_lines.specs.Replies.{reply_line, reply_lines}
use Rattle.console_lines.specs.Script.{closing, reply, replies_to, scope_reply, after_asked}
use Rattle.console_lines.specs.Script.{after_line}
use Rattle.console_lines.specs.Strict.{ends_in_return, rejection_among, rejection_at, rejection_by}
use Rattle.console_lines.specs.declared.rejections.Rejection.{Rejection}
use Rattle.console_lines.proofs.RejectionLemmas.{tallies_stay}
use Rattle.console_lines.specs.Tallies.{tallies_of}
use Rattle.console_lines.specs.declared.line_requests.LineRequest.TheVariants as asked
use Rattle.console_lines.specs.Progress.{kept}
use Rattle.console_lines.proofs.Cuts.{asked_of_kept, ends_kept, rejected_alike}
use Rattle.run_console.specs.SavingLines.{IsSaving, is_tally}

-- What a line asks for was run.
pub line_obeyed : (b c : Session) (line : List ℕ) (a : LineRequest)
    → a ≡ request_of line
    → c ≡ after_asked b a
    → c ≡ after_line b line
unfolding after_line
line_obeyed b c line a read h = h ∙ ap (after_asked b) read

-- What is written for a line's replies.
pub line_replies : (s : Session) (line : List ℕ) (a : LineRequest) (r : List LineReply)
    → a ≡ request_of line
    → r ≡ replies_to s a
    → reply_lines r ≡ reply s line
unfolding reply
line_replies s line a r read h = ap reply_lines (h ∙ ap (replies_to s) read)

-- A tally is asked for.
pub tally_asked : (line : List ℕ) (a : LineRequest)
    → a ≡ request_of line
    → is_tally a ≡ true
    → request_of line ≡ asked.Tally
tally_asked line asked.Tally read h = sym read
tally_asked line asked.Nothing read h = absurd (grind (arith, h))
tally_asked line asked.BadLine read h = absurd (grind (arith, h))
tally_asked line (asked.Refused why) read h = absurd (grind (arith, h))
tally_asked line (asked.Step x) read h = absurd (grind (arith, h))
tally_asked line (asked.Scope name) read h = absurd (grind (arith, h))
tally_asked line (asked.Value scope key) read h = absurd (grind (arith, h))
tally_asked line (asked.Task n) read h = absurd (grind (arith, h))
tally_asked line (asked.Result group) read h = absurd (grind (arith, h))

-- What is written for a tally.
pub line_tally : (s : Session) (line : List ℕ) (a : LineRequest)
    → a ≡ request_of line
    → is_tally a ≡ true
    → reply_lines (map printed.Tally (tallies_of s.state.work.tasks)) ≡ reply s line
line_tally s line a read h =
    line_replies s line asked.Tally (map printed.Tally (tallies_of s.state.work.tasks))
    (sym (tally_asked line a read h)) refl

-- A tally leaves the session as it was.
pub tally_leaves : (b : Session) (line : List ℕ) (a : LineRequest)
    → a ≡ request_of line
    → is_tally a ≡ true
    → b ≡ after_line b line
tally_leaves b line a read h =
    line_obeyed b b line asked.Tally (sym (tally_asked line a read h)) refl

-- A flush is replied to by the closing line.
pub closing_is : (s : Session) (r : List LineReply) → r ≡ replies_to s (asked.Step step.Flush)
    → reply_lines r ≡ closing s
unfolding closing
closing_is s r is =
    ap reply_lines is ∙ append-nil (reply_line (printed.Step (answered.Acked s.state.count)))

-- Why a line is rejected, by its replies, and by bytes that end as it does.
pub line_rejected : (s : Session) (line bytes : List ℕ) (a : LineRequest) (r : List LineReply)
    (why : Option Rejection)
    → a ≡ request_of line
    → r ≡ replies_to s a
    → why ≡ rejection_among r
    → ends_in_return line ≡ ends_in_return bytes
    → rejection_by why bytes ≡ rejection_at s line
unfolding rejection_at
line_rejected s line bytes a r why read h is e =
    rejected_alike why bytes line (sym e)
    ∙ ap (λ x. rejection_by x line) (is ∙ ap rejection_among (h ∙ ap (replies_to s) read))

-- A scope's reply is no bad line.
look_rejected : (look : Option Look) (line : List ℕ)
    → rejection_by (rejection_among (option_map_or (λ x. printed.Scope x) look
    (printed.Refused refusal.NoSuchScope) ∷ [])) line
    ≡ rejection_among
    (option_map_or (λ x. printed.Scope x) look (printed.Refused refusal.NoSuchScope) ∷ [])
look_rejected None line = refl
look_rejected (Some look) line = refl

pub scope_rejected : (p : State) (name line : List ℕ)
    → rejection_by (rejection_among (scope_reply p name ∷ [])) line
    ≡ rejection_among (scope_reply p name ∷ [])
scope_rejected p name line =
    look_rejected (option_and_then (λ s. look_of p s) (scope_named p.tree name)) line

-- A tally isn't rejected.
pub tally_stays : (s : Session) (line : List ℕ) (a : LineRequest)
    → a ≡ request_of line
    → is_tally a ≡ true
    → None ≡ rejection_at s line
tally_stays s line a read tally =
    line_rejected s line line asked.Tally (map printed.Tally (tallies_of s.state.work.tasks)) None
    (sym (tally_asked line a read tally)) refl
    (sym (tallies_stay (tallies_of s.state.work.tasks))) refl

-- The only reply tells why.
pub only_rejection : (why : Option Rejection) → why ≡ option_or why None
only_rejection None = refl
only_rejection (Some why) = refl

-- What is known of an error, where the only fault is known.
pub fault_known : {T E : Type 0} (r : Result T E) (why : E) (P : Type 0) (R : E → Type 0)
    → (P → R why)
    → IfErr r (λ e. e ≡ why)
    → OnErr r P
    → IfErr r R
fault_known (Ok x) why P R then h k = tt
fault_known (Err e) why P R then h k = subst R (sym h) (then k)

-- A line's flush or checkpoint is no tally.
pub saves_no_tally : (line : List ℕ) (a : LineRequest) (X : Type 0)
    → a ≡ request_of line
    → is_tally a ≡ true
    → IsSaving (request_of line)
    → X
saves_no_tally line a X read tally saving =
    absurd (subst IsSaving (tally_asked line a read tally) saving)

-- What is kept of a line asks for what the line does.
pub same_asked : (line begun last : List ℕ) → last ≡ begun → begun ≡ kept line
    → request_of line ≡ request_of last
same_asked line begun last e k = sym (ap request_of (e ∙ k) ∙ asked_of_kept line)

-- And ends with a carriage return where the line does.
pub same_end : (line begun last : List ℕ) → last ≡ begun → begun ≡ kept line
    → ends_in_return line ≡ ends_in_return last
same_end line begun last e k = sym (ap ends_in_return (e ∙ k) ∙ ends_kept line)
