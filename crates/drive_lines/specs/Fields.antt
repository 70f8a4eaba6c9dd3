-- The fields of a line, after its first word.
use Rattle.std.specs.Prelude.{◌≡◌, ◌<◌, ◌^◌, ℕ, List, codes, Option, Some, None}
use Rattle.std.specs.Fmt.{decimal}
use Rattle.run_model.specs.declared.tasks.Outcome.{Outcome}
use Rattle.run_model.specs.declared.tasks.Outcome.TheVariants as outcome
use Rattle.run_model.specs.Texts.{IsName, IsText}
use Rattle.drive_lines.specs.declared.fields.Fields.{Fields}
use Rattle.drive_lines.specs.declared.fields.Fields.TheVariants as fields
use Rattle.drive_lines.specs.declared.fields.TryName.{TryName}
use Rattle.drive_lines.specs.declared.words.Shape.{Shape}
use Rattle.drive_lines.specs.declared.words.Shape.TheVariants as shape
use Rattle.drive_lines.specs.Spaces.{spaced}

-- How a try ended.
abbrev pub outcome_text : Outcome → List ℕ
outcome_text outcome.Success = codes "ok"
outcome_text (outcome.Failure why) = spaced (codes "error") why

-- A try: its group, its key and its number.
abbrev pub try_text : TryName → List ℕ
try_text t = spaced t.group (spaced t.key (decimal t.number))

-- What follows the first word and its space.
abbrev pub fields_text : Fields → Option (List ℕ)
fields_text fields.Alone = None
fields_text (fields.Number n) = Some (decimal n)
fields_text (fields.NumberText n text) = Some (spaced (decimal n) text)
fields_text (fields.Ended n o) = Some (spaced (decimal n) (outcome_text o))
fields_text (fields.Lives t) = Some (try_text t)

-- The shape of some fields.
abbrev pub fields_shape : Fields → Shape
fields_shape fields.Alone = shape.Alone
fields_shape (fields.Number n) = shape.Number
fields_shape (fields.NumberText n text) = shape.NumberText
fields_shape (fields.Ended n o) = shape.Ended
fields_shape (fields.Lives t) = shape.Lives

-- A number has at most 12 digits.
abbrev pub IsShort : ℕ → Type 0
IsShort n = n < 10 ^ 12

-- An error is a text.
abbrev pub FitsOutcome : Outcome → Type 0
FitsOutcome outcome.Success = Unit {0}
FitsOutcome (outcome.Failure why) = IsText why

-- A group and a key are names, and the number has two bytes.
pub record FitsTry (t : TryName) : Type 0 where
  pub group : IsName t.group
  pub key : IsName t.key
  pub number : t.number < 2 ^ 16

-- Each number has at most 12 digits, each text is one, and so is each name.
abbrev pub FitsFields : Fields → Type 0
FitsFields fields.Alone = Unit {0}
FitsFields (fields.Number n) = IsShort n
FitsFields (fields.NumberText n text) = IsShort n × IsText text
FitsFields (fields.Ended n o) = IsShort n × FitsOutcome o
FitsFields (fields.Lives t) = FitsTry t

-- ---- for private functions: no public contract cites what follows

-- These are the fields of this shape that are spelled so, or no fields are.
abbrev pub FieldsRead : Shape → Option (List ℕ) → Option Fields → Type 0
FieldsRead s left None =
    (f : Fields) → FitsFields f → fields_shape f ≡ s → fields_text f ≡ left → ⊥
FieldsRead s left (Some f) = FitsFields f × (fields_shape f ≡ s) × (fields_text f ≡ left)
