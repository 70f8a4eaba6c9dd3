use Rattle.run_model.proofs.Common.{common_steps}
use Rattle.std.proofs.Common.{Global, Vec, ap, arith, inl, inr, subst, sym, ◌∙◌, ◌≡◌, map}
use Rattle.std.proofs.Common.{vec_capacity, vec_len}
use Rattle.std.proofs.lemmas.List.Elements.{All-push, All-same}
use Rattle.std.specs.declared.thread.PromisedHandle.{PromisedHandle}
use Rattle.run_crew.specs.declared.workers.ShiftOf.{ShiftOf}
use Rattle.run_crew.specs.declared.workers.WorkerEnd.{WorkerEnd}
use Rattle.run_crew.specs.Courses.{IsAnswered, IsOfShift}
use Rattle.run_crew.proofs.Rooms.{all_left, at_most, has_room, none_left, one_more, one_refused}
use Rattle.run_crew.proofs.Zipping.{takes_all, takes_done, takes_one}
use Rattle.run_crew.proofs.nights.start_each.Goals as goal
use Rattle.run_crew.proofs.nights.start_each.Goals.{in-Ok, in-Err}

pub loop-worker-init : goal.loop-worker-init
loop-worker-init g c =
    let H : Type 0 = PromisedHandle (WorkerEnd g.row.S.Denot g.row.F.Denot)
    (ShiftOf g.row.T.Denot g.row.G.Denot g.row.J.Denot) in
    let P : H → Type 0 = λ h. h.promise.gate.now ≡ c.args.gate.now in
    let gives = c.into_iter-worker-iterator.ensures.into_iter_gives in
    let r = all_left _ _ _ _ _ c.requires.room c.requires.empty gives.1 (omega arith) in (
      r.0,
      r.1,
      none_left P c.args.handles.now.items _ c.requires.empty c.args.handles.now.ok.0,
      inr (takes_all (λ h. h.promise.jobs.value) c.args.handles.now.items _ _ _ c.requires.empty
          c.args.handles.now.ok.0 (ap (λ l. map (λ worker. worker.jobs) l) gives.0)),
    )

pub loop-worker-preserved : goal.loop-worker-preserved
loop-worker-preserved g c =
    let H : Type 0 = PromisedHandle (WorkerEnd g.row.S.Denot g.row.F.Denot)
    (ShiftOf g.row.T.Denot g.row.G.Denot g.row.J.Denot) in
    let P : H → Type 0 = λ h. h.promise.gate.now ≡ c.args.gate.now in
    let i = c.loop-worker.invariant in
    let steps = c.in-Some.ensures.steps in
    elim c.match-spawn_with.branch [
      | in-Ok w ↦
          let len = ap (λ v. vec_len v) w.handles-is ∙ w.push_reserved.ensures.len in
          let items = ap (λ v. v.items) w.handles-is ∙ w.push_reserved.ensures.items in
          let r = one_more _ _ _ _ _ _ _
          (ap (λ v. vec_capacity v) w.handles-is ∙ w.push_reserved.ensures.capacity)
          len steps.1 (i.0, i.1) in (
            r.0,
            r.1,
            All-same P _ _ items (All-push P _ _ i.2 (ap (λ p. p.gate.now) w.in-Ok.ensures.ok)),
            takes_one (λ h. h.promise.jobs.value) (λ worker. worker.jobs) _ _ _ _ _ _ _ _ _ _ _ _
                len steps.1 items steps.0
                (ap (λ p. p.jobs.value) w.in-Ok.ensures.ok ∙ c.of.ensures) i.3,
          )
      | in-Err w ↦
          let r = one_refused _ _ _ _ _ _ _ (ap (λ v. vec_capacity v) w.handles-is)
          (ap (λ v. vec_len v) w.handles-is) steps.1 (i.0, i.1) in (
            r.0,
            r.1,
            All-same P _ _ (ap (λ v. v.items) w.handles-is) i.2,
            inl (omega (arith, i.0, steps.1, ap (λ v. vec_len v) w.handles-is)),
          )
    ]

pub push_reserved-requires : goal.push_reserved-requires
push_reserved-requires g c =
    let i = c.loop-worker.invariant in
    has_room _ _ _ _ _ c.in-Some.ensures.steps.1 (i.0, i.1)

pub spawn_with-requires-clause-keeps : goal.spawn_with-requires-clause-keeps
spawn_with-requires-clause-keeps g c =
    λ lifetimes outlives end post. subst (λ (jobs : Vec g.row.J.Denot Global). IsOfShift
    (IsAnswered g.T.CountedPlace.starts g.T.Place.holds g.T.Place.flushes g.T.Place.reports
    g.T.CountedPlace.finishes (g.G.Gate.lets c.args.gate.now) (g.G.Gate.reported c.args.gate.now))
    g.J.Job.answers g.J.Job.turns jobs.items end.notes end.own.starts) (sym c.of.ensures) post

pub returns-clause-few : goal.returns-clause-few
returns-clause-few g c =
    let i = c.loop-worker.invariant in
    at_most _ _ _ _ (i.0, i.1)

pub returns-clause-gate : goal.returns-clause-gate
returns-clause-gate g c = c.loop-worker.invariant.2

pub returns-clause-jobs : goal.returns-clause-jobs
returns-clause-jobs g c =
    takes_done (λ h. h.promise.jobs.value) (λ worker. worker.jobs) _ _ _ _ _ _
    c.loop-worker.invariant.3 (grind (arith, common_steps))
