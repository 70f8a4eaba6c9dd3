use Rattle.std.proofs.Common.{ap, ◌∙◌, arith}
use Rattle.std.specs.Option.{option_copied}
use Rattle.run_model.specs.Allowed.{has_kind}
use Rattle.run_model.specs.Scopes.{is_group_kind}
use Rattle.scope_tree.proofs.Events.{earlier_is_alike, has_kind-after_cancel}
use Rattle.session_tests.proofs.runners.Runner.hit_groups.Goals as goal

pub hit_group-requires-clause-later : goal.hit_group-requires-clause-later
hit_group-requires-clause-later g c =
    earlier_is_alike c.args.self.now.tree.scopes c.in_ok-event.event _
    (λ s hit has. omega (arith, c.args.self.now.earlier s hit has, c.in_ok-event.ensures))

pub hit_group-requires-2-clause-group : goal.hit_group-requires-2-clause-group
hit_group-requires-2-clause-group g c =
    ap (λ t. has_kind is_group_kind t c.args.b) c.hit_group.ensures.tree
    ∙ has_kind-after_cancel is_group_kind c.args.self.now.tree c.in_ok-event.event c.args.a c.args.b
    (option_copied c.bytes-error.result)
    ∙ c.is_group-else-not-is_group.ensures c.if-not-is_group-2.false
