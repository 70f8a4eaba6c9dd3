use Rattle.std.proofs.Common.{true, false, sym, ◌∙◌}
use Rattle.task_group.proofs.WorkLoops.{HasGroups, HasTasks, no_groups, no_room}
use Rattle.task_group.proofs.WorkLoops.{no_tasks, room_is, settled, unsettled}
use Rattle.task_group.proofs.groups.Groups.read_work.Goals as goal

pub returns-then-not-has_room-clause-none : goal.returns-then-not-has_room-clause-none
returns-then-not-has_room-clause-none g c =
    let start = c.args.self.now in
    let head = c.args.head.now in
    let bytes = c.args.bytes.now in
    no_room start head bytes c.requires
    (room_is start head bytes c.requires c.layout.result c.has_room.result false
    c.layout.ensures c.has_room.ensures c.if-not-has_room.true)

pub returns-in_default-clause-none : goal.returns-in_default-clause-none
returns-in_default-clause-none g c =
    let start = c.args.self.now in
    let head = c.args.head.now in
    let bytes = c.args.bytes.now in
    let new = c.requires in
    let few = room_is start head bytes new c.layout.result c.has_room.result true
    c.layout.ensures c.has_room.ensures c.if-not-has_room.false in
    no_groups start head bytes new few c.in_default.ensures.none

pub returns-in_default-read_tasks-clause-none : goal.returns-in_default-read_tasks-clause-none
returns-in_default-read_tasks-clause-none g c =
    let start = c.args.self.now in
    let head = c.args.head.now in
    let bytes = c.args.bytes.now in
    let new = c.requires in
    let few = room_is start head bytes new c.layout.result c.has_room.result true
    c.layout.ensures c.has_room.ensures c.if-not-has_room.false in
    let w = c.read_groups.new.self in
    let rest = c.in-Some.rest.now in
    let has : HasGroups start head bytes new w rest = record {
      read = c.in-Some.ensures.read;
      layout = c.in-Some.ensures.layout;
      tasks = c.in-Some.ensures.tasks;
    } in
    no_tasks start head bytes new w rest few has c.in_default-read_tasks.ensures.none

pub returns-then-not-are_settled-clause-none : goal.returns-then-not-are_settled-clause-none
returns-then-not-are_settled-clause-none g c =
    let start = c.args.self.now in
    let head = c.args.head.now in
    let bytes = c.args.bytes.now in
    let new = c.requires in
    let few = room_is start head bytes new c.layout.result c.has_room.result true
    c.layout.ensures c.has_room.ensures c.if-not-has_room.false in
    let w = c.read_groups.new.self in
    let rest = c.in-Some.rest.now in
    let has : HasGroups start head bytes new w rest = record {
      read = c.in-Some.ensures.read;
      layout = c.in-Some.ensures.layout;
      tasks = c.in-Some.ensures.tasks;
    } in
    let v = c.read_tasks.new.self in
    let behind = c.in-Some-read_tasks.rest.now in
    let more : HasTasks start head bytes new w v rest behind = record {
      read = c.in-Some-read_tasks.ensures.read;
      layout = c.in-Some-read_tasks.ensures.layout;
      groups = c.in-Some-read_tasks.ensures.groups;
    } in
    unsettled start head bytes new w v rest behind few has more
    (sym c.are_settled.ensures ∙ c.if-not-are_settled.true)

pub returns-clause-read : goal.returns-clause-read
returns-clause-read g c =
    let start = c.args.self.now in
    let head = c.args.head.now in
    let bytes = c.args.bytes.now in
    let new = c.requires in
    let few = room_is start head bytes new c.layout.result c.has_room.result true
    c.layout.ensures c.has_room.ensures c.if-not-has_room.false in
    let w = c.read_groups.new.self in
    let rest = c.in-Some.rest.now in
    let has : HasGroups start head bytes new w rest = record {
      read = c.in-Some.ensures.read;
      layout = c.in-Some.ensures.layout;
      tasks = c.in-Some.ensures.tasks;
    } in
    let v = c.read_tasks.new.self in
    let behind = c.in-Some-read_tasks.rest.now in
    let more : HasTasks start head bytes new w v rest behind = record {
      read = c.in-Some-read_tasks.ensures.read;
      layout = c.in-Some-read_tasks.ensures.layout;
      groups = c.in-Some-read_tasks.ensures.groups;
    } in
    settled start head bytes new w v rest behind few has more
    (sym c.are_settled.ensures ∙ c.if-not-are_settled.false)
