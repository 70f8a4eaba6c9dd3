use Rattle.scope_tree.proofs.HistoryImages.{first_ranged, event_ranged, run_ranged}
use Rattle.scope_tree.proofs.histories.fields_stay_in_range.Goals as goal

pub returns : goal.returns
returns c = record { first = first_ranged; events = event_ranged; runs = run_ranged }
