-- A run over an input with the time before its lines.
use Rattle.std.specs.Prelude.{◌≡◌, ℕ, List, Option}
use Rattle.std.proofs.Common.{ap, subst, ◌∙◌}
use Rattle.book_model.specs.Books.{BookView}
use Rattle.run_console.specs.Timed.{timed_known}
use Rattle.night_program.specs.Timed.{RunsTimed}

-- The input that was run is the given one with the time before its lines.
pub ran_timed : {D : Type 0}
    (Ran : (r0 r1 : Option (List ℕ)) → BookView D → BookView D → Type 0)
    (moments known r0 r1 : Option (List ℕ)) (latest : ℕ) (b c : BookView D)
    → r0 ≡ timed_known latest moments known → latest ≡ b.session.state.tree.clock
    → Ran r0 r1 b c → RunsTimed moments Ran known b c
ran_timed Ran moments known r0 r1 latest b c is clock ran =
    (r1, subst (λ r. Ran r r1 b c) (is ∙ ap (λ k. timed_known k moments known) clock) ran)
