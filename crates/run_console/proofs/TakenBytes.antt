-- What a weave has to give, before a byte is taken and after it.
use Rattle.std.specs.Prelude.{◌≡◌, ◌==◌, ◌<◌, ◌+◌, drop, if◌then◌else◌, Bool, true, false}
use Rattle.std.specs.Prelude.{ℕ, List, [], ◌∷◌, ◌++◌, length, Option, Some, None}
use Rattle.std.specs.Option.{option_map, option_and_then}
use Rattle.std.specs.Io.KnownBytes.{Keeps}
use Rattle.std.proofs.Common.{arith, refl, sym, ap, ◌∙◌, append_assoc, length-append}
use Rattle.std.proofs.lemmas.List.{take_all}
use Rattle.console_lines.specs.declared.lines.TheConstants.{LONGEST_LINE}
use Rattle.console_lines.specs.Progress.{kept}
use Rattle.console_lines.proofs.Splits.{kept_full}
use Rattle.run_console.specs.Timed.{latest_after, timed}
use Rattle.run_console.specs.Weaving.{advance_text, left_of, moved, woven}
use Rattle.run_console.proofs.Woven.{timed_is}

-- What is ready, and what is given of these bytes, where the moments are known.
abbrev pub to_give : (ready : List ℕ) → (is_asked : Bool) → ℕ → (line bytes : List ℕ)
    → Option (List ℕ) → Option (List ℕ)
to_give ready is_asked latest line bytes known =
    option_map (λ reported. ready ++ left_of is_asked latest reported line bytes) known

-- ---- a byte that is no LF

longer : (ends : Bool) (b : ℕ) (lf on : List ℕ) → ends ≡ false
    → (if ends then lf else b ∷ on) ≡ b ∷ on
longer true b lf on h = absurd (grind (arith, h))
longer false b lf on h = refl

-- It is kept of the line, as far as there is room.
pub takes_more : (known : Option (List ℕ)) (ready more line next : List ℕ) (latest b : ℕ)
    (bytes : List ℕ)
    → (b == 10) ≡ false
    → more ≡ ready ++ b ∷ []
    → next ≡ kept (line ++ b ∷ [])
    → Keeps (to_give ready true latest line (b ∷ bytes) known)
    (to_give more true latest next bytes known)
takes_more None ready more line next latest b bytes other e n = tt
takes_more (Some reported) ready more line next latest b bytes other e n =
    let on = woven latest reported (kept (line ++ b ∷ [])) bytes in
    let lf = 10 ∷ (advance_text (latest_after latest line) reported
    ++ woven (moved (latest_after latest line) reported) (drop 1 reported) [] bytes) in
    ap (λ t. t ++ woven latest reported next bytes) e
    ∙ ap (λ l. (ready ++ b ∷ []) ++ woven latest reported l bytes) n
    ∙ append_assoc ready (b ∷ []) on
    ∙ ap (λ t. ready ++ t) (sym (longer (b == 10) b lf on other))

pub kept_short : (line : List ℕ) (b : ℕ)
    → length line < LONGEST_LINE + 1 → line ++ b ∷ [] ≡ kept (line ++ b ∷ [])
kept_short line b h =
    sym (take_all (LONGEST_LINE + 1) (line ++ b ∷ [])
    (omega (arith, length-append line (b ∷ []), h)))

pub kept_long : (line : List ℕ) (b : ℕ)
    → length line ≡ LONGEST_LINE + 1 → line ≡ kept (line ++ b ∷ [])
kept_long line b h =
    kept_full line line b (sym (take_all (LONGEST_LINE + 1) line (omega (arith, h))))
    (omega (arith, h))

-- ---- a timed input before its first byte

pub begins : (known moments : Option (List ℕ)) (ready : List ℕ) (is_asked : Bool)
    (latest : ℕ) (line : List ℕ)
    → ready ≡ []
    → is_asked ≡ false
    → line ≡ []
    → option_and_then (λ bytes. to_give ready is_asked latest line bytes moments) known
    ≡ option_and_then (λ bytes. option_map (λ reported. timed latest reported bytes) moments) known
begins None moments ready is_asked latest line r a l = refl
begins (Some bytes) None ready is_asked latest line r a l = refl
begins (Some bytes) (Some reported) ready is_asked latest line r a l =
    ap (λ t. Some (t ++ left_of is_asked latest reported line bytes)) r
    ∙ ap (λ t. Some (left_of t latest reported line bytes)) a
    ∙ ap (λ t. Some (left_of false latest reported t bytes)) l
    ∙ ap Some (sym (timed_is latest reported bytes))
