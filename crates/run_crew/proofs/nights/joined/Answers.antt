use Rattle.run_model.proofs.Common.{arith, common_steps}
use Rattle.std.proofs.Common.{subst, sym, ap, append_assoc, ◌≡◌, ◌∙◌, ◌++◌, ◌∷◌, []}
use Rattle.std.proofs.lemmas.List.Elements.{All-head, All-rest, All-same}
use Rattle.std.specs.List.{AllZip}
use Rattle.std.specs.declared.thread.PromisedHandle.{PromisedHandle}
use Rattle.run_crew.specs.declared.workers.ShiftOf.{ShiftOf}
use Rattle.run_crew.specs.declared.workers.WorkerEnd.{WorkerEnd}
use Rattle.run_crew.specs.Courses.{IsAnswered, IsOfShift}
use Rattle.run_crew.proofs.Rooms.{all_left, all_there, has_room, one_more}
use Rattle.run_crew.proofs.Zipping.{zip_all, zip_none, zip_push}
use Rattle.run_crew.proofs.nights.joined.Goals as goal

pub loop-handle-init : goal.loop-handle-init
loop-handle-init g c =
    let H : Type 0 = PromisedHandle (WorkerEnd g.row.S.Denot g.row.F.Denot)
    (ShiftOf g.row.T.Denot g.row.G.Denot g.row.J.Denot) in
    let P : H → Type 0 = λ h. h.promise.gate.now ≡ c.args.gate.now in
    let R : H → WorkerEnd g.row.S.Denot g.row.F.Denot → Type 0 =
    λ h end. IsOfShift (IsAnswered g.T.CountedPlace.starts g.T.Place.holds g.T.Place.flushes
    g.T.Place.reports g.T.CountedPlace.finishes (g.G.Gate.lets c.args.gate.now)
    (g.G.Gate.reported c.args.gate.now)) g.J.Job.answers g.J.Job.turns h.promise.jobs.value.items
    end.notes end.own.starts in
    let gives = c.into_iter-handle-iterator.ensures.into_iter_gives in
    let r = all_left _ _ _ _ _ c.requires.room c.requires.empty gives.1 c.requires.few in (
      r.0,
      r.1,
      All-same P _ _ gives.0 c.requires.gate,
      [],
      gives.0,
      zip_none R c.args.shifts.items _ c.requires.empty c.args.shifts.ok.0,
    )

pub push_reserved-requires : goal.push_reserved-requires
push_reserved-requires g c =
    let i = c.loop-handle.invariant in
    has_room _ _ _ _ _ c.in-Some.ensures.steps.1 (i.0, i.1)

pub loop-handle-preserved : goal.loop-handle-preserved
loop-handle-preserved g c =
    let H : Type 0 = PromisedHandle (WorkerEnd g.row.S.Denot g.row.F.Denot)
    (ShiftOf g.row.T.Denot g.row.G.Denot g.row.J.Denot) in
    let P : H → Type 0 = λ h. h.promise.gate.now ≡ c.args.gate.now in
    let R : H → WorkerEnd g.row.S.Denot g.row.F.Denot → Type 0 =
    λ h end. IsOfShift (IsAnswered g.T.CountedPlace.starts g.T.Place.holds g.T.Place.flushes
    g.T.Place.reports g.T.CountedPlace.finishes (g.G.Gate.lets c.args.gate.now)
    (g.G.Gate.reported c.args.gate.now)) g.J.Job.answers g.J.Job.turns h.promise.jobs.value.items
    end.notes end.own.starts in
    let i = c.loop-handle.invariant in
    let handle = c.in-Some.handle in
    let steps = c.in-Some.ensures.steps in
    let pushed = c.push_reserved.ensures in
    let r = one_more _ _ _ _ _ _ _ pushed.capacity pushed.len steps.1 (i.0, i.1) in
    let first : P handle = All-head P _ _ (All-same P _ _ (sym steps.0) i.2) in
    let kept : R handle c.join.result =
    subst (λ gate. IsOfShift (IsAnswered g.T.CountedPlace.starts g.T.Place.holds g.T.Place.flushes
    g.T.Place.reports g.T.CountedPlace.finishes (g.G.Gate.lets gate) (g.G.Gate.reported gate))
    g.J.Job.answers g.J.Job.turns handle.promise.jobs.value.items c.join.result.notes
    c.join.result.own.starts) first c.join.ensures in (
      r.0,
      r.1,
      All-rest P _ _ _ steps.0 i.2,
      i.3 ++ handle ∷ [],
      append_assoc i.3 (handle ∷ []) _ ∙ (ap (λ l. i.3 ++ l) (sym steps.0) ∙ i.4),
      subst (λ l. AllZip R (i.3 ++ handle ∷ []) l) (sym pushed.items)
          (zip_push R i.3 _ handle c.join.result i.5 kept),
    )

pub returns-clause-len : goal.returns-clause-len
returns-clause-len g c =
    all_there _ _ _ _ c.len.ensures c.if-len-count.false c.loop-handle.invariant.0

pub returns-clause-shifts : goal.returns-clause-shifts
returns-clause-shifts g c =
    zip_all _ c.loop-handle.invariant.3 _ _ _ c.loop-handle.invariant.4
    (grind (arith, common_steps)) c.loop-handle.invariant.5
