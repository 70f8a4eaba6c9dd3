use Rattle.std.proofs.Common.{List, ap, length, refl, subst, sym, ◌<◌, ◌∙◌, ◌++◌, map, ℕ}
use Rattle.std.specs.List.{All, filter_map}
use Rattle.drive_steps.specs.declared.cancels.CommandCancel.{CommandCancel}
use Rattle.drive_steps.specs.declared.reported.Begun.{Begun}
use Rattle.drive_steps.specs.declared.stops.Stop.{Stop}
use Rattle.drive_steps.specs.Stops.{AreStops}
use Rattle.drive_runs.specs.declared.living.Living.{Living}
use Rattle.drive_runs.specs.Living.{all_asked, cancels_of, unasked}
use Rattle.drive_runs.specs.Stops.{stop_line}
use Rattle.drive_runs.proofs.Apart.{sitting_distinct}
use Rattle.drive_runs.proofs.Stopping.{cancels_below, live_asked, tries_below}
use Rattle.drive_runs.proofs.stops.push_stops.Goals as goal

pub stops-requires : goal.stops-requires
stops-requires g c =
    let s = c.args.sitting.now in
    let count : ℕ = length s.plan.commands.items in
    record {
      named = s.named;
      distinct = sitting_distinct s;
      within = subst (λ (l : List CommandCancel). All (λ (x : CommandCancel). x.command < count) l)
          (sym (c.as_slice-3.ensures.value ∙ c.in_ok-canceled.ensures
          ∙ ap cancels_of c.as_slice.ensures.value))
          (cancels_below count s.kept.living.items c.requires);
      of_plan = subst (λ (l : List Begun). All (λ (x : Begun). x.command < count) l)
          (sym (c.as_slice-4.ensures.value ∙ c.in_ok-tries.ensures
          ∙ ap (filter_map unasked) c.as_slice-2.ensures.value))
          (tries_below count s.kept.living.items c.requires);
    }

pub returns-clause-adds : goal.returns-clause-adds
returns-clause-adds g c =
    let s = c.args.sitting.now in
    let p = c.args.state.now in
    let all : List Stop = c.in_ok-all.all.items in
    let living : List Living = s.kept.living.items in
    record {
      stops = all;
      due = record {
        those = subst (λ (l : List CommandCancel). AreStops p s.kept.ends s.plan s.names l
            (filter_map unasked living) all)
            (c.as_slice-3.ensures.value ∙ c.in_ok-canceled.ensures
            ∙ ap cancels_of c.as_slice.ensures.value)
            (subst (λ (l : List Begun). AreStops p s.kept.ends s.plan s.names
            c.as_slice-3.result.now l all)
            (c.as_slice-4.ensures.value ∙ c.in_ok-tries.ensures
            ∙ ap (filter_map unasked) c.as_slice-2.ensures.value) c.in_ok-all.ensures);
        after = c.in_ok-living.ensures
            ∙ ap (λ (l : List Stop). all_asked l c.as_slice-6.result.now)
            c.as_slice-7.ensures.value
            ∙ ap (λ (l : List Living). all_asked all l) c.as_slice-6.ensures.value;
      };
      lines = c.in_ok-push_lines.ensures
          ∙ ap (λ (l : List Stop). c.args.orders.now.items ++ map stop_line l)
          c.as_slice-5.ensures.value;
    }

pub returns-clause-living : goal.returns-clause-living
returns-clause-living g c =
    let s = c.args.sitting.now in
    record {
      same = record { plan = refl; names = refl; untils = refl; all = refl; night = refl };
      sizes = refl;
      ends = refl;
      living = live_asked c.as_slice-7.result.now s.kept.living.items
          c.in_ok-living.living.items
          (c.in_ok-living.ensures
          ∙ ap (λ (l : List Living). all_asked c.as_slice-7.result.now l)
          c.as_slice-6.ensures.value);
    }
