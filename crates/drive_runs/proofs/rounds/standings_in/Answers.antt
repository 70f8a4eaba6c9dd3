use Rattle.std.proofs.Common.{◌∙◌}
use Rattle.night_plan.specs.Nights.{night}
use Rattle.night_drive.specs.PlanTurns.{night_in}
use Rattle.night_drive.proofs.Playing.{seen_is_shown}
use Rattle.drive_runs.proofs.Apart.{sitting_distinct}
use Rattle.drive_runs.proofs.Finishing.{standings_shown}
use Rattle.drive_runs.proofs.rounds.standings_in.Goals as goal

pub returns : goal.returns
returns g c =
    let s = c.args.sitting.now in
    standings_shown (night s.plan c.in_ok-facts.facts)
    (night_in c.args.state.now s.kept.ends s.plan s.names) c.get.result
    c.args.state.now.tree.clock c.in_ok-all.all.items
    (seen_is_shown c.args.state.now s.kept.ends s.plan s.names c.in_ok-facts.facts s.named
    c.in_ok-facts.ensures) (c.get.ensures.value ∙ c.clock.ensures) c.in_ok-all.ensures.sized
    c.in_ok-all.ensures.each

pub seen_with-requires-clause-distinct : goal.seen_with-requires-clause-distinct
seen_with-requires-clause-distinct g c =
    sitting_distinct c.args.sitting.now
