use Rattle.std.proofs.Common.{◌≡◌, ◌∷◌, ◌∙◌, ℕ, List, Option, IfSome, subst, sym}
use Rattle.state_views.specs.Branches.{nodes_of}
use Rattle.state_views.specs.Walks.{AreRising, IsAt, drawn_from, drawn_next}
use Rattle.state_views.proofs.StateTrees.{nodes_rise}
use Rattle.state_views.proofs.Drawing.{IsDrawnTo, drawn_first, drawn_more}
use Rattle.state_views.proofs.trees.add_nodes.Goals as goal

pub loop-next-init : goal.loop-next-init
loop-next-init g c =
    drawn_first c.args.no_tasks c.args.state.now c.new-above.result.items c.args.sheet.now
    (g.W.Write.contents c.args.output.now) c.count-rules.ensures.rules c.new-above.ensures

pub next_node-next-requires-clause-rising : goal.next_node-next-requires-clause-rising
next_node-next-requires-clause-rising g c =
    let P : List ℕ → Type 0 = λ ps. AreRising ps in
    subst P (sym (c.as_slice-parents.ensures.value ∙ c.push_parents.ensures))
    (nodes_rise c.args.no_tasks c.args.state.now c.count-rules.ensures.rules)

pub loop-next-preserved : goal.loop-next-preserved
loop-next-preserved g c =
    let b = c.args.no_tasks in
    let s = c.args.state.now in
    let n = c.in-Some.node in
    let next = c.next_node-next.result in
    let a = c.loop-next.above.items in
    let other = c.next_node-next.new.above.items in
    let P : Option ℕ → Type 0 = λ m. IsDrawnTo b s m a c.args.sheet.now c.loop-next.sheet
    (g.W.Write.contents c.args.output.now) (g.W.Write.contents c.loop-next.output) in
    let same : c.as_slice-parents.result.now ≡ nodes_of b s =
    c.as_slice-parents.ensures.value ∙ c.push_parents.ensures in
    let Q : List ℕ → Type 0 = λ ps. drawn_from ps n ≡ n ∷ drawn_next ps next in
    let R : List ℕ → Type 0 = λ ps. IfSome next (λ m. IsAt ps m other) in
    drawn_more b s n next a other (subst P c.in-Some.is c.loop-next.invariant) c.add_node.ensures
    (subst Q same c.next_node-next.ensures.next) (subst R same c.next_node-next.ensures.at)
