-- The examples of strict runs over a newly opened store. The lines after the rejected one have
-- no reply.
use Prim.Native.String.{String}
use Rattle.std.specs.Prelude.{◌≡◌, ℕ, [], ◌∷◌, ◌++◌, codes, Some, None}
use Rattle.run_model.specs.declared.layouts.Layout.TheVariants.{Small}
use Rattle.run_model.specs.Session.{opened}
use Rattle.console_lines.specs.declared.rejections.Rejection.{Rejection}
use Rattle.console_lines.specs.Nights.{Night, shown, replied, typed}
use Rattle.console_lines.specs.Strict.{rejection_in, strict_script}

-- The lines get the expected replies, this is the last line that is written, and no line is
-- rejected.
abbrev pub IsWhole : Night → String → Type 0
IsWhole night last =
    (strict_script (opened Small) (typed night) ≡ replied night ++ shown (codes last))
    × (rejection_in (opened Small) (typed night) ≡ None)

-- The lines get the expected replies, this is the last line that is written, and the line with this
-- number is rejected for this reason.
abbrev pub EndsAt : Night → String → ℕ → Rejection → Type 0
EndsAt night last number why =
    (strict_script (opened Small) (typed night) ≡ replied night ++ shown (codes last))
    × (rejection_in (opened Small) (typed night) ≡ Some (record { number = number; why = why }))

-- The third of five lines is refused.
abbrev pub third_is_refused : Night
third_is_refused =
    ("derive a root cancel", "scope 1")
    ∷ ("cancel a", "ok")
    ∷ ("cancel a", "refused 12 AlreadyDone")
    ∷ ("derive b root cause", "")
    ∷ ("up", "")
    ∷ []

-- The first line is a bad line.
abbrev pub first_is_bad : Night
first_is_bad = ("up", "bad line") ∷ ("derive a root cause", "") ∷ []

-- No line is rejected.
abbrev pub none_is_rejected : Night
none_is_rejected =
    ("derive a root cause", "scope 1")
    ∷ ("flush", "acked 2")
    ∷ ("tally", "")
    ∷ ("cancel a disk", "ok")
    ∷ []

-- A question that is refused is rejected, too. The empty lines before it are counted.
abbrev pub question_is_refused : Night
question_is_refused =
    ("", "")
    ∷ ("scope root", "live; deadline none")
    ∷ ("", "")
    ∷ ("scope a", "refused 1 NoSuchScope")
    ∷ ("derive a root cause", "")
    ∷ []
