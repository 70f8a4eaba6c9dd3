use Rattle.std.proofs.Common.{arith, rules}
use Rattle.scope_tree.proofs.TreeReads.{no_moment, too_many, no_tree, tree_read}
use Rattle.scope_tree.proofs.tree_rows.read_after_root.Goals as goal

pub returns-in_err-clock-clause-none : goal.returns-in_err-clock-clause-none
returns-in_err-clock-clause-none g c =
    let none = no_moment c.args.layout c.args.head.now c.args.bytes.now c.in_err-clock.ensures in
    search (rules, none)

pub returns-then-most_scopes-head-clause-none : goal.returns-then-most_scopes-head-clause-none
returns-then-most_scopes-head-clause-none g c =
    too_many c.args.layout c.args.head.now c.args.bytes.now
    (omega (arith, c.if-most_scopes-head.true, c.most_scopes.ensures.value))

pub returns-in_err-rest-clause-none : goal.returns-in_err-rest-clause-none
returns-in_err-rest-clause-none g c =
    let none = no_tree c.args.layout c.args.head.now c.args.rows.now.rows c.args.bytes.now
    c.requires.root c.in_err-rest.ensures.none in
    search (rules, none)

pub returns-clause-read : goal.returns-clause-read
returns-clause-read g c =
    tree_read c.args.layout c.args.head.now c.in_ok-clock.clock c.args.rows.now.rows
    c.read_more.new.rows.rows c.args.bytes.now c.in_ok-rest.rest.now c.requires.root
    (omega (arith, c.if-most_scopes-head.false, c.most_scopes.ensures.value))
    c.in_ok-clock.ensures.0 c.in_ok-clock.ensures.1 c.in_ok-rest.ensures.read
