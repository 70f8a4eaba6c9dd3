-- Each advance that is put before a line is to a moment later than the clock of the state that it
-- comes to.
use Rattle.std.specs.Prelude.{◌≡◌, ◌<◌, ℕ, nat_lt, max, true, List, [], ◌∷◌, ◌++◌, ⊤}
use Rattle.run_model.specs.Session.{Session}
use Rattle.console_lines.specs.Script.{after_lines}
use Rattle.run_console.specs.Timed.{advance_to, latest_after}

-- When timed lines are run, beginning with this session, each advance that is put before one of
-- them is to a moment later than the clock at that time.
abbrev pub AreForward : Session → ℕ → (moments : List ℕ) → (lines : List (List ℕ)) → Type 0
AreForward s latest [] lines = ⊤
AreForward s latest (moment ∷ moments) [] = ⊤
AreForward s latest (moment ∷ moments) (line ∷ lines) =
    (nat_lt latest moment ≡ true → s.state.tree.clock < moment)
    × AreForward (after_lines s (advance_to latest moment ++ line ∷ []))
    (latest_after (max latest moment) line) moments lines
