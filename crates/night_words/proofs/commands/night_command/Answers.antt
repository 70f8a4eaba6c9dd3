use Rattle.std.proofs.Common.{refl}
use Rattle.night_words.proofs.commands.night_command.Goals as goal

pub returns : goal.returns
returns c =
    let demo = c.with_command-demo.ensures _ _ refl c.night_alone.ensures c.demo_command.ensures in
    let format = c.with_command-format.ensures _ _ refl demo c.format_command.ensures in
    let script = c.with_command-script.ensures _ _ refl format c.script_command.ensures in
    let inspect = c.with_command-inspect.ensures _ _ refl script c.inspect_command.ensures in
    let migrate = c.with_command-migrate.ensures _ _ refl inspect c.migrate_command.ensures in
    let crew = c.with_command-crew.ensures _ _ refl migrate c.crew_command.ensures in
    let renew = c.with_command-renew.ensures _ _ refl crew c.renew_command.ensures in
    let plan = c.with_command-plan.ensures _ _ refl renew c.plan_command.ensures in
    c.with_command.ensures _ _ refl plan c.drive_command.ensures
