use Rattle.book_model.proofs.PrefixLemmas.{night_kept}
use Rattle.book_model.proofs.prefixes.a_crash_leaves_a_kept_session.Goals as goal

pub returns : goal.returns
returns c = night_kept
