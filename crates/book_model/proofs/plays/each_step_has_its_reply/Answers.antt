use Rattle.book_model.proofs.Playing.{plays_count, plays_one}
use Rattle.book_model.proofs.plays.each_step_has_its_reply.Goals as goal

pub returns-clause-count : goal.returns-clause-count
returns-clause-count c b end steps answers p = plays_count b steps answers end p

pub returns-clause-one_end : goal.returns-clause-one_end
returns-clause-one_end c b end other steps answers p q = plays_one b steps answers end other p q
