use Rattle.file_calls.proofs.PlaceLemmas.{same_by_places}
use Rattle.file_calls.proofs.laws.a_file_at_rest_survives_a_crash.Goals as goal

pub returns : goal.returns
returns c s x rest may = same_by_places x s.now (λ i. may.bytes i (rest.place i))
