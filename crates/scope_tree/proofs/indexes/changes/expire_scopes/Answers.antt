use Rattle.scope_tree.proofs.Expiring.{passing_starts, passing_known, passing_struck}
use Rattle.scope_tree.proofs.Expiring.{passing_goes_on, all_passed}
use Rattle.scope_tree.proofs.indexes.changes.expire_scopes.Goals as goal

pub loop-s-init : goal.loop-s-init
loop-s-init g c =
    passing_starts c.args.scopes.now c.args.links.now.keys c.args.marks.now c.args.due.now.items
    c.args.event c.args.clock c.requires.kept c.requires.waiting c.requires.later

pub end_scope-requires-clause-known : goal.end_scope-requires-clause-known
end_scope-requires-clause-known g c =
    passing_known c.args.scopes.now c.loop-s.scopes c.args.links.now.keys c.loop-s.marks
    c.loop-s.due.items c.pop_passed.new.due.items c.args.event c.args.clock c.in-Some.s
    c.in-Some.hit c.loop-s.invariant c.in-Some.ensures.0 c.in-Some.ensures.1

pub end_scope-requires-clause-struck : goal.end_scope-requires-clause-struck
end_scope-requires-clause-struck g c =
    passing_struck c.args.scopes.now c.loop-s.scopes c.args.links.now.keys c.loop-s.marks
    c.loop-s.due.items c.pop_passed.new.due.items c.args.event c.args.clock c.in-Some.s
    c.in-Some.hit c.loop-s.invariant c.in-Some.ensures.0 c.in-Some.ensures.1

pub loop-s-preserved : goal.loop-s-preserved
loop-s-preserved g c =
    passing_goes_on c.args.scopes.now c.loop-s.scopes c.args.links.now.keys c.loop-s.marks
    c.loop-s.due.items c.pop_passed.new.due.items c.args.event c.args.clock c.in-Some.s
    c.in-Some.hit c.loop-s.invariant c.in-Some.ensures.0 c.in-Some.ensures.1
    c.end_scope.new.scopes c.end_scope.new.marks c.end_scope.ensures.rows
    c.end_scope.ensures.kept

pub returns-clause-rows : goal.returns-clause-rows
returns-clause-rows g c =
    all_passed c.args.scopes.now c.loop-s.scopes c.args.links.now.keys c.loop-s.marks
    c.loop-s.due.items c.args.event c.args.clock c.loop-s.invariant c.in_default.ensures.1
