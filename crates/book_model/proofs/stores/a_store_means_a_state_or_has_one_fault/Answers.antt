use Rattle.book_model.proofs.OpeningLemmas.{any_open, unspent}
use Rattle.book_model.proofs.Storing.{one_fault, opens_one, stores_not_both}
use Rattle.book_model.proofs.Totality.{any_bytes}
use Rattle.book_model.proofs.stores.a_store_means_a_state_or_has_one_fault.Goals as goal

pub returns : goal.returns
returns c = record {
  not_both = stores_not_both;
  one_fault = one_fault;
  one_for_opening = opens_one;
  either = any_bytes;
  either_for_opening = any_open;
  unspent = unspent;
}
