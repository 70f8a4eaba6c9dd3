use Rattle.std.proofs.Common.{List, false, inl, inr, length, subst, sym, ◌+◌, ◌≤◌, ◌∙◌, ◌≡◌}
use Rattle.drive_steps.specs.declared.cancels.CommandCancel.{CommandCancel}
use Rattle.drive_steps.specs.declared.cancels.GroupCancel.{GroupCancel}
use Rattle.drive_steps.specs.Cancels.{AreTaken}
use Rattle.drive_runs.specs.Records.{are_numbered}
use Rattle.drive_runs.proofs.Recording.{AreOfCommands, AreOfGroups, numbered, of_plan}
use Rattle.drive_runs.proofs.records.steps_of.Goals as goal

pub taken_cancels-requires : goal.taken_cancels-requires
taken_cancels-requires g c =
    let s = c.args.sitting.now in
    let is = of_plan c.args.state.now s c.args.heard.now
    (sym c.is_of_plan.ensures ∙ c.if-not-is_of_plan.false) in
    record {
      named = s.named;
      within = subst (λ (l : List CommandCancel). AreOfCommands (length s.plan.commands.items) l)
          (sym c.as_slice-cancels.ensures.value) is.cancels;
    }

pub record_of-requires : goal.record_of-requires
record_of-requires g c =
    let s = c.args.sitting.now in
    let p = c.args.state.now in
    let is = of_plan p s c.args.heard.now
    (sym c.is_of_plan.ensures ∙ c.if-not-is_of_plan.false) in
    let same = c.as_slice.ensures.value ∙ sym c.as_slice-2.ensures.value in
    let all = numbered p s c.as_slice.result.now
    (sym c.are_numbered.ensures ∙ c.if-not-are_numbered.false) in
    record {
      named = s.named;
      housed = is.housed;
      within = subst (λ (l : List CommandCancel). AreOfCommands (length s.plan.commands.items) l)
          same all.0;
      of_plan = subst (λ (l : List GroupCancel). AreOfGroups (length s.names.groups.items) l)
          (sym c.as_slice-groups.ensures.value) is.groups;
      room = subst (λ (l : List CommandCancel). length p.work.tasks + length l ≤ 65535) same
          all.1;
    }

pub returns-then-not-is_of_plan : goal.returns-then-not-is_of_plan
returns-then-not-is_of_plan g c = inl (sym c.is_of_plan.ensures ∙ c.if-not-is_of_plan.true)

pub returns-then-not-are_numbered : goal.returns-then-not-are_numbered
returns-then-not-are_numbered g c =
    let s = c.args.sitting.now in
    let p = c.args.state.now in
    let taken : List CommandCancel = c.in_ok-taken.taken.items in
    inr (
      taken,
      subst (λ (l : List CommandCancel). AreTaken p s.names s.plan.commands.items c.args.ends.now
          l taken) c.as_slice-cancels.ensures.value c.in_ok-taken.ensures,
      subst (λ (l : List CommandCancel). are_numbered p s l ≡ false) c.as_slice.ensures.value
          (sym c.are_numbered.ensures ∙ c.if-not-are_numbered.true),
    )
