use Rattle.night_words.proofs.TakenLemmas.{demo_without}
use Rattle.night_words.proofs.laws.demo_stands_alone.Goals as goal

pub returns : goal.returns
returns c = demo_without
