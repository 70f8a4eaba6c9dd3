use Rattle.store_words.proofs.stores.show.Goals as goal

pub returns-in-Whole-clause-cut : goal.returns-in-Whole-clause-cut
returns-in-Whole-clause-cut g c = rw c.in-Whole.is c.inspect.ensures.cut

pub returns-in-Tasks-clause-whole : goal.returns-in-Tasks-clause-whole
returns-in-Tasks-clause-whole g c = rw c.in-Tasks.is c.list_tasks.ensures.whole

pub returns-in-Tasks-clause-cut : goal.returns-in-Tasks-clause-cut
returns-in-Tasks-clause-cut g c = rw c.in-Tasks.is c.list_tasks.ensures.cut

pub returns-in-Json-clause-whole : goal.returns-in-Json-clause-whole
returns-in-Json-clause-whole g c = rw c.in-Json.is c.print_json.ensures.whole

pub returns-in-Json-clause-cut : goal.returns-in-Json-clause-cut
returns-in-Json-clause-cut g c = rw c.in-Json.is c.print_json.ensures.cut

pub returns-in-Tree-clause-whole : goal.returns-in-Tree-clause-whole
returns-in-Tree-clause-whole g c = rw c.in-Tree.is c.print_tree.ensures.whole

pub returns-in-Tree-clause-cut : goal.returns-in-Tree-clause-cut
returns-in-Tree-clause-cut g c = rw c.in-Tree.is c.print_tree.ensures.cut

pub returns-in-Summary-clause-cut : goal.returns-in-Summary-clause-cut
returns-in-Summary-clause-cut g c = rw c.in-Summary.is c.print_summary.ensures.cut
