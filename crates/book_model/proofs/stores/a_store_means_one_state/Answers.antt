use Rattle.book_model.proofs.Storing.{stores_layout, stores_one, stores_rules}
use Rattle.model_laws.proofs.Reaches.{reaches_down}
use Rattle.book_model.proofs.stores.a_store_means_one_state.Goals as goal

pub returns : goal.returns
returns c = record {
  one = stores_one;
  rules = stores_rules;
  layout = stores_layout;
  done = λ bytes p stores. reaches_down p (stores_rules bytes p stores);
}
