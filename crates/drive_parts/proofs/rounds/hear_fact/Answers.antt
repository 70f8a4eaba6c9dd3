use Rattle.std.proofs.Common.{◌≡◌, arith, length}
use Rattle.drive_parts.proofs.Rounding.{hears_fact, hears_none}
use Rattle.drive_parts.proofs.rounds.hear_fact.Goals as goal

pub returns-in_default : goal.returns-in_default
returns-in_default c = λ old tasks xs are.
    let plan = c.args.growth.plan.plan in
    let groups : c.len.result ≡ length plan.groups.items =
    omega (arith, c.len.ensures, plan.groups.ok) in
    let commands : c.len-2.result ≡ length plan.commands.items =
    omega (arith, c.len-2.ensures, plan.commands.ok) in
    let pools : c.len-3.result ≡ length plan.pools.items =
    omega (arith, c.len-3.ensures, plan.pools.ok) in
    hears_none old tasks xs c.args.growth c.args.heard c.args.living are c.len.result
    c.len-2.result c.len-3.result groups commands pools c.deref.result.now
    c.deref.ensures.value c.args.report (c.in_default.ensures xs are.heard)

pub returns : goal.returns
returns c = λ old tasks xs are.
    let plan = c.args.growth.plan.plan in
    let groups : c.len.result ≡ length plan.groups.items =
    omega (arith, c.len.ensures, plan.groups.ok) in
    let commands : c.len-2.result ≡ length plan.commands.items =
    omega (arith, c.len-2.ensures, plan.commands.ok) in
    let pools : c.len-3.result ≡ length plan.pools.items =
    omega (arith, c.len-3.ensures, plan.pools.ok) in
    let reads = c.in-Some.ensures xs are.heard in
    hears_fact old tasks xs c.args.growth c.args.heard c.args.living are c.len.result
    c.len-2.result c.len-3.result groups commands pools c.deref.result.now
    c.deref.ensures.value c.args.report c.in-Some.fact c.note.new.heard reads.0 reads.1
    c.in_ok-note.ensures
