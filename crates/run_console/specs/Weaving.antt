-- What is left to be given of an input, byte by byte. This is for private functions: a public
-- contract speaks of it only as of what a reader has left.
use Rattle.std.specs.Prelude.{ℕ, nat_lt, ◌==◌, max, drop, Bool, true, false, if◌then◌else◌}
use Rattle.std.specs.Prelude.{List, [], ◌∷◌, ◌++◌, Option, Some}
use Rattle.std.specs.Option.{option_map, option_and_then}
use Rattle.console_lines.specs.Progress.{kept}
use Rattle.run_console.specs.declared.timed_inputs.TimedInput.{TimedInput}
use Rattle.run_console.specs.declared.weaves.Weave.{Weave}
use Rattle.run_console.specs.Timed.{advance_line, latest_after}

-- The advance before a line that comes at the next of these moments.
abbrev pub advance_text : ℕ → (moments : List ℕ) → List ℕ
advance_text latest [] = []
advance_text latest (moment ∷ moments) =
    if nat_lt latest moment then advance_line moment ++ 10 ∷ [] else []

-- The latest moment after it.
abbrev pub moved : ℕ → (moments : List ℕ) → ℕ
moved latest [] = latest
moved latest (moment ∷ moments) = max latest moment

-- The bytes that are passed on for these bytes, if a line was begun and its moment was asked for.
abbrev pub woven : ℕ → (moments begun bytes : List ℕ) → List ℕ
woven latest moments begun [] = []
woven latest moments begun (b ∷ bytes) =
    if b == 10 then
    10 ∷ advance_text (latest_after latest begun) moments
    ++ woven (moved (latest_after latest begun) moments) (drop 1 moments) [] bytes
    else b ∷ woven latest moments (kept (begun ++ b ∷ [])) bytes

-- The same, if it is known whether that moment was asked for.
abbrev pub left_of : (is_asked : Bool) → ℕ → (moments begun bytes : List ℕ) → List ℕ
left_of true latest moments begun bytes = woven latest moments begun bytes
left_of false latest moments begun bytes =
    advance_text latest moments ++ woven (moved latest moments) (drop 1 moments) begun bytes

-- The bytes that a weave has to pass on when it takes these bytes: those that are ready, and those
-- that it passes on for them.
abbrev pub left_in : {C : Type 0} → (C → Option (List ℕ)) → Weave C → List ℕ → Option (List ℕ)
left_in moments w bytes =
    option_map (λ reported. w.ready.items ++ left_of w.is_asked w.latest reported w.line.items
    bytes)
    (moments w.clock)

-- The rest of an input; none after its end.
abbrev pub read_on : (is_ended : Bool) → Option (List ℕ) → Option (List ℕ)
read_on true known = Some []
read_on false known = known

-- The bytes that a timed input still has to return.
abbrev pub timed_left : {R C : Type 0} → (R → Option (List ℕ)) → (C → Option (List ℕ))
    → TimedInput R C → Option (List ℕ)
timed_left remaining moments t =
    option_and_then (λ bytes. left_in moments t.weave bytes)
    (read_on t.is_ended (remaining t.input))
