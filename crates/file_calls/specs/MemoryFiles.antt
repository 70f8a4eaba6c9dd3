-- A file in memory, as contracts see it.
use Rattle.std.specs.Prelude.{ℕ, List, get_or}
use Rattle.file_calls.specs.declared.places.Place.{Place}
use Rattle.file_calls.specs.declared.places.Place.TheVariants.{Durable}
use Rattle.file_calls.specs.declared.moments.Moment.{Moment}
use Rattle.file_calls.specs.OpenFiles.{FileState}

-- The state of a file with these bytes, of whose first places this is known, and of its end. The
-- other places are durable.
abbrev pub memory_state : List ℕ → List Place → Place → FileState
memory_state bytes places end = record {
  now = bytes;
  place = λ i. get_or places i Durable;
  end = end;
}

-- The state of a file at a moment.
abbrev pub state_at : Moment → FileState
state_at moment = memory_state moment.bytes.value.items moment.places.value.items moment.end
