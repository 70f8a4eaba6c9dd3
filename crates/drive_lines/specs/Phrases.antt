-- How a line is spelled.
use Rattle.std.specs.Prelude.{◌≡◌, ◌≤◌, ◌||◌, ℕ, Bool, true, false, List, codes, length}
use Rattle.std.specs.Prelude.{map, Option, Some, None}
use Rattle.std.specs.List.{join_with_byte}
use Rattle.std.specs.Str.{bytes_eq}
use Rattle.run_model.specs.Texts.{IsName}
use Rattle.plan_lines.specs.declared.lines.PlanLine.{PlanLine}
use Rattle.plan_lines.specs.declared.lines.PlanLine.TheVariants as line
use Rattle.plan_lines.specs.Lines.{Means, line_tokens}
use Rattle.plan_lines.specs.Tokens.{token_text}
use Rattle.drive_lines.specs.declared.phrases.Phrase.{Phrase}
use Rattle.drive_lines.specs.declared.phrases.Phrase.TheVariants as phrase
use Rattle.drive_lines.specs.declared.words.LineWord.{LineWord}
use Rattle.drive_lines.specs.Fields.{FieldsRead, FitsFields, fields_shape, fields_text}
use Rattle.drive_lines.specs.Spaces.{after, spaced}
use Rattle.drive_lines.specs.Words.{shape_of, word_text}

-- A line as in a plan.
abbrev pub plan_text : PlanLine → List ℕ
plan_text l = join_with_byte 32 (map token_text (line_tokens l))

-- A phrase, without an LF.
abbrev pub phrase_text : Phrase → List ℕ
phrase_text (phrase.Plan l) = plan_text l
phrase_text (phrase.Named l name) = spaced (plan_text l) name
phrase_text (phrase.Own w f) = after (word_text w) (fields_text f)

-- Whether a line is as in a plan.
abbrev pub is_kept : PlanLine → Bool
is_kept (line.Pool size) = true
is_kept (line.Need need) = true
is_kept (line.Take t) = true
is_kept (line.Now moment) = true
is_kept (line.Size p size) = true
is_kept line.Standings = true
is_kept _ = false

-- Whether a line is as in a plan, with a name after it.
abbrev pub has_name : PlanLine → Bool
has_name (line.Group g) = true
has_name (line.Command o) = true
has_name _ = false

-- A line of a plan is one that can be spelled, a name is one, and the fields of a word have its
-- shape, and are within their bounds.
abbrev pub FitsPhrase : Phrase → Type 0
FitsPhrase (phrase.Plan l) = (is_kept l ≡ true) × Means (plan_text l) l
FitsPhrase (phrase.Named l name) = (has_name l ≡ true) × Means (plan_text l) l × IsName name
FitsPhrase (phrase.Own w f) = FitsFields f × (fields_shape f ≡ shape_of w)

-- A line of at most 255 bytes is spelled like this.
pub record Spells (p : Phrase) (bytes : List ℕ) : Type 0 where
  pub short : length bytes ≤ 255
  pub fits : FitsPhrase p
  pub text : phrase_text p ≡ bytes

-- ---- for private functions: no public contract cites what follows

-- A line with this first word has a name at its end.
abbrev pub takes_name : List ℕ → Bool
takes_name word = bytes_eq word (codes "group") || bytes_eq word (codes "command")

-- This is the phrase of a group or a command that is spelled so, or there is none.
abbrev pub IsNamedRead : List ℕ → Option Phrase → Type 0
IsNamedRead bytes None = (l : PlanLine) (name : List ℕ) → FitsPhrase (phrase.Named l name)
    → spaced (plan_text l) name ≡ bytes → ⊥
IsNamedRead bytes (Some (phrase.Named l name)) =
    FitsPhrase (phrase.Named l name) × (spaced (plan_text l) name ≡ bytes)
IsNamedRead bytes (Some p) = ⊥

-- This is the phrase of this word whose fields are spelled so, or there is none.
abbrev pub IsOwnRead : LineWord → Option (List ℕ) → Option Phrase → Type 0
IsOwnRead w left None = FieldsRead (shape_of w) left None
IsOwnRead w left (Some (phrase.Own v f)) = (v ≡ w) × FieldsRead (shape_of w) left (Some f)
IsOwnRead w left (Some p) = ⊥

-- This is the line of a plan that is spelled so and stays as it is, or there is none.
abbrev pub IsPlanRead : List ℕ → Option Phrase → Type 0
IsPlanRead bytes None = (l : PlanLine) → FitsPhrase (phrase.Plan l) → plan_text l ≡ bytes → ⊥
IsPlanRead bytes (Some (phrase.Plan l)) = FitsPhrase (phrase.Plan l) × (plan_text l ≡ bytes)
IsPlanRead bytes (Some p) = ⊥
