-- Events whose fields fit into an image.
use Rattle.std.specs.Prelude.{Bool, true, List, IsTrue}
use Rattle.std.specs.List.{list_all}
use Rattle.run_model.specs.Event.{Event}
use Rattle.run_model.specs.Event as event
use Rattle.run_model.specs.Records.{is_recorded}

-- Each field of the event is in range. A restart has none.
abbrev pub has_ranges : Event → Bool
has_ranges event.Restart = true
has_ranges other = is_recorded other

-- The fields of each of these events are in range.
abbrev pub HaveRanges : List Event → Type 0
HaveRanges events = IsTrue (list_all has_ranges events)
