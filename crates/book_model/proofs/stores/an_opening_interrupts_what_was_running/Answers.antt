use Rattle.book_model.proofs.PrefixLemmas.{opened_endings, opened_rules}
use Rattle.model_laws.proofs.Reaches.{reaches_down}
use Rattle.model_laws.proofs.Interrupts.{restarted}
use Rattle.book_model.specs.Stores as stores
use Rattle.book_model.proofs.stores.an_opening_interrupts_what_was_running.Goals as goal

pub returns : goal.returns
returns c = record {
  restart = λ bytes p is. restarted p;
  rules = opened_rules;
  done = λ bytes p is. reaches_down (stores.restarted p) (opened_rules bytes p is);
  endings = opened_endings;
}
