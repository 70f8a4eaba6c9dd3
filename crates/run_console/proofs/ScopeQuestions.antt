-- A line that asks how a scope is.
use Rattle.std.specs.Prelude.{◌≡◌, false, List, ℕ, [], ◌∷◌, ◌++◌, IfSome, Option, Some, None}
use Rattle.std.specs.Prelude.{unwrap_or}
use Rattle.std.specs.Option.{option_and_then, option_map, option_map_or}
use Rattle.std.proofs.Common.{refl, sym, ap, ◌∙◌, append-nil}
use Rattle.std.proofs.lemmas.Option.{none-some}
use Rattle.run_model.specs.declared.answers.Look.{Look}
use Rattle.run_model.specs.declared.refusals.Refusal.TheVariants as refusal
use Rattle.run_model.specs.Questions.{look_of}
use Rattle.run_model.specs.State.{State, scope_named}
use Rattle.run_model.specs.Texts.{IsName, IsText}
use Rattle.run_disk.specs.Disk.{DiskState}
use Rattle.run_session.specs.declared.questions.ScopeStatusRef.{ScopeStatusRef}
use Rattle.run_session.specs.Shown.{ending_of, shown_by}
use Rattle.book_model.specs.Books.{BookView}
use Rattle.console_lines.specs.declared.line_requests.LineRequest.TheVariants as asked
use Rattle.console_lines.specs.declared.line_replies.LineReply.TheVariants as printed
use Rattle.console_lines.specs.LineRequests.{request_of}
use Rattle.console_lines.specs.Replies.{reply_line, reply_lines, scope_text}
use Rattle.console_lines.specs.ScopeLines.{scope_word}
use Rattle.console_lines.specs.Script.{scope_reply}
use Rattle.console_lines.proofs.ScopeLines.{asks_scope}
use Rattle.run_console.specs.ScopeQuestions.{IsAsked}
use Rattle.run_console.specs.RunProgress.{Does}
use Rattle.run_console.proofs.Doing.{does_none, printed_of}

-- It leaves the book, and has one reply.
pub looks : {D : Type 0} (state : D → DiskState)
    (b : BookView D) (p : State) (name : List ℕ)
    → b.journal.broken ≡ false
    → p ≡ b.session.state
    → Does state (asked.Scope name) b b (scope_reply p name ∷ [])
looks state b p name sound same =
    does_none refl refl (λ h. h) sound (printed_of (λ (q : State). scope_reply q name) same refl)

seen : (p : State) (line name : List ℕ) (view : ScopeStatusRef) (o : Option Look)
    → request_of line ≡ asked.Scope name
    → option_and_then (λ s. look_of p s) (scope_named p.tree name) ≡ o
    → Some (shown_by view) ≡ option_map (λ look. (look.done, look.deadline)) o
    → IfSome view.done (λ ending. IsText ending.1.now)
    → IsAsked p line view
seen p line name view None asks there shows text = absurd (none-some _ (sym shows))
seen p line name view (Some look) asks there shows text = record {
  name = name;
  asks = asks;
  look = look;
  there = there;
  shows = ap (λ o. unwrap_or o (shown_by view)) shows;
  text = text;
}

-- What a state shows of a scope that is found by the word after `scope `.
pub looked : (p : State) (line name : List ℕ) (n : ℕ) (r : Option ScopeStatusRef)
    → scope_word line ≡ Some name
    → IsName name
    → scope_named p.tree name ≡ Some n
    → option_map shown_by r ≡ option_map (λ look. (look.done, look.deadline)) (look_of p n)
    → IfSome r (λ view. IfSome view.done (λ ending. IsText ending.1.now))
    → IfSome r (λ view. IsAsked p line view)
looked p line name n None word is there shows text = tt
looked p line name n (Some view) word is there shows text =
    seen p line name view (look_of p n) (asks_scope line name word is)
    (ap (option_and_then (λ s. look_of p s)) there) shows text

-- It is the reply.
pub asked_reply : (p : State) (line : List ℕ) (view : ScopeStatusRef) (it : IsAsked p line view)
    → scope_reply p it.name ≡ printed.Scope it.look
asked_reply p line view it =
    ap (λ o. option_map_or (λ x. printed.Scope x) o (printed.Refused refusal.NoSuchScope)) it.there

-- What is buffered is this reply.
pub view_line : (p : State) (line : List ℕ) (view : ScopeStatusRef) (it : IsAsked p line view)
    → scope_text (option_map ending_of view.done) view.deadline ++ 10 ∷ []
    ≡ reply_lines (scope_reply p it.name ∷ [])
view_line p line view it =
    ap (λ pair. scope_text pair.0 pair.1 ++ 10 ∷ []) it.shows
    ∙ sym (append-nil (reply_line (printed.Scope it.look)))
    ∙ ap (λ r. reply_lines (r ∷ [])) (sym (asked_reply p line view it))
