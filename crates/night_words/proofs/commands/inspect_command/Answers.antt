use Rattle.night_words.proofs.commands.inspect_command.Goals as goal

pub returns : goal.returns
returns c =
    let tasks = c.with_flag-tasks.ensures _ c.store_command-store.ensures in
    let phase = c.with_value-phase.ensures _ tasks in
    let group = c.with_value-group.ensures _ phase in
    let json = c.with_flag-json.ensures _ group in
    let tree = c.with_flag-tree.ensures _ json in
    c.with_flag.ensures _ (c.with_flag-no_tasks.ensures _ tree)
