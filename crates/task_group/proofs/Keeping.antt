-- Each call keeps the counters, lists, queue and flags in agreement with the rows.
use Rattle.run_model.proofs.Common.{◌≡◌, ◌+◌, ◌-◌, ◌<◌, ◌≤◌, ◌++◌, ◌∷◌, [], ℕ, Bool, true, false}
use Rattle.run_model.proofs.Common.{List, length, Option, Some, slice_get, refl, sym, ap, ◌∙◌}
use Rattle.run_model.proofs.Common.{arith, slice_set, IfSome, option_map_or, slice_get_within}
use Rattle.run_model.proofs.Common.{most_tasks, is_running, after_wait, admits, unfinished_in}
use Rattle.run_model.proofs.Common.{at_row, has_stage, row_there}
use Rattle.run_model.specs.declared.bounds.TheConstants.{MOST_GROUPS}
use Rattle.run_model.specs.declared.groups.Group.{Group}
use Rattle.run_model.specs.declared.tasks.Stage.TheVariants as stage
use Rattle.run_model.specs.declared.tasks.Task.{Task}
use Rattle.task_group.specs.declared.counts.GroupCounts.{GroupCounts}
use Rattle.task_group.specs.Admitting.{AdmitsOldest}
use Rattle.task_group.specs.Flags.{flags_after}
use Rattle.task_group.specs.Kept.{Kept, entered, linked, left, no_counts}
use Rattle.task_group.specs.Sound.{AreKept}
use Rattle.task_group.proofs.Words.{Work, End, finished, group_of, limited, made, stage_after}
use Rattle.task_group.proofs.Words.{started, submitted}
use Rattle.task_group.specs.Trees.{with_flag}
use Rattle.task_group.proofs.Admitting.{end_admits}
use Rattle.task_group.proofs.Flaggings.{flagged_pushed, flagged_staged, running_less, running_more}
use Rattle.task_group.proofs.Flaggings.{running_pushed, ended_rests, fresh_rests}
use Rattle.task_group.proofs.Leaves.{start_kept, end_kept}
use Rattle.task_group.proofs.Limits.{limit_kept, limit_stays}
use Rattle.task_group.proofs.Makes.{make_kept, made_stays}
use Rattle.task_group.proofs.Moves.{go_kept}
use Rattle.task_group.proofs.Queued.{queued_same, queued_go, queued_start, queued_end}
use Rattle.task_group.proofs.Rooms.{its_end, lets_in}
use Rattle.task_group.proofs.Starts.{Starts, finish_sound, groups_length}
use Rattle.task_group.proofs.Waits.{wait_kept, wait_stays}

pub make_keeps : (w : Work) (row : Group) (counts : List GroupCounts) (next : List (Option ℕ))
    (ready : List Bool) (count : ℕ) (flags : List Bool) → length w.groups < MOST_GROUPS
    → AreKept w counts next ready count flags
    → AreKept (made row w) (counts ++ no_counts ∷ []) next ready count flags
make_keeps w row counts next ready count flags room k = record {
  seated = make_kept w row counts next room k.seated;
  queued =
      queued_same w (made row w) ready refl (λ m. (made_stays w row k.seated.sound m).ready)
      k.queued;
  running = k.running;
  flagged = k.flagged;
}

pub limit_keeps : (w : Work) (g : ℕ) (limit : Option ℕ) (counts : List GroupCounts)
    (next : List (Option ℕ)) (ready : List Bool) (count : ℕ) (flags : List Bool)
    → unfinished_in g w.tasks ≡ 0 → AreKept w counts next ready count flags
    → AreKept (limited g limit w) counts next ready count flags
limit_keeps w g limit counts next ready count flags idle k = record {
  seated = limit_kept w g limit counts next idle k.seated;
  queued =
      queued_same w (limited g limit w) ready refl (λ m. (limit_stays w g limit idle m).ready)
      k.queued;
  running = k.running;
  flagged = k.flagged;
}

pub wait_keeps : (w : Work) (g : ℕ) (counts : List GroupCounts) (next : List (Option ℕ))
    (ready : List Bool) (count : ℕ) (flags : List Bool) → AreKept w counts next ready count flags
    → AreKept (after_wait g w) counts next ready count flags
wait_keeps w g counts next ready count flags k = record {
  seated = wait_kept w g counts next k.seated;
  queued = queued_same w (after_wait g w) ready refl (λ m. (wait_stays w g m).ready) k.queued;
  running = k.running;
  flagged = k.flagged;
}

pub go_keeps : (w : Work) (g : ℕ) (job argument : List ℕ) (tried : Option ℕ)
    (counts : List GroupCounts)
    (next : List (Option ℕ)) (ready : List Bool) (count : ℕ) (flags : List Bool) (s : GroupCounts)
    (row : Group) (b : Bool) → AreKept w counts next ready count flags
    → slice_get counts g ≡ Some s → slice_get w.groups g ≡ Some row
    → length w.tasks < most_tasks w.layout → IfSome tried (λ m. m < length w.tasks)
    → b ≡ admits row.limit s.unfinished
    → AreKept (submitted g job argument tried w)
    (at_row (entered b (length w.tasks)) g counts)
    (linked b s.first s.last (length w.tasks) next) (slice_set ready (length w.tasks) b) count
    (flags_after tried flags)
go_keeps w g job argument tried counts next ready count flags s row b k here at room known e =
    let lets = lets_in w g s row b (k.seated.right g s here) at e in
    record {
      seated =
          go_kept w g job argument tried counts next s here k.seated
          (slice_get_within w.groups g row at) room b lets;
      queued = queued_go w g job argument tried ready b room lets k.queued;
      running = k.running ∙ sym (running_pushed w.tasks g job argument tried);
      flagged = flagged_pushed w.tasks flags g job argument tried known k.flagged;
    }

pub start_keeps : (w : Work) (n : ℕ) (t : Task) (counts : List GroupCounts) (next : List (Option ℕ))
    (ready : List Bool) (count : ℕ) (flags : List Bool) → Starts w n t → n < length ready
    → AreKept w counts next ready count flags
    → AreKept (started n w) counts next (slice_set ready n false) (count + 1) flags
start_keeps w n t counts next ready count flags s less k = record {
  seated = start_kept w n t counts next s k.seated;
  queued = queued_start w n t ready s less k.queued;
  running =
      ap (λ c. c + 1) k.running
      ∙ sym (running_more stage.Running n w.tasks t s.found (fresh_rests t.stage s.fresh) refl);
  flagged = flagged_staged stage.Running n w.tasks flags k.flagged;
}

pub runs_now : (w : Work) (n : ℕ) (t : Task) → has_stage is_running w n ≡ true
    → slice_get w.tasks n ≡ Some t → is_running t.stage ≡ true
runs_now w n t run found =
    sym (ap (λ o. option_map_or (λ task. is_running task.stage) o false) found) ∙ run

-- One task less is running.
pub end_less : (w : Work) (n : ℕ) (o : End) (t : Task) (counts : List GroupCounts)
    (next : List (Option ℕ)) (ready : List Bool) (count : ℕ) (flags : List Bool)
    → AreKept w counts next ready count flags → has_stage is_running w n ≡ true
    → slice_get w.tasks n ≡ Some t → 1 ≤ count
end_less w n o t counts next ready count flags k run found =
    let less = running_less o.stage n w.tasks t found (runs_now w n t run found)
    (ended_rests o.stage o.done) in
    let was = k.running in
    omega arith

pub end_keeps : (w : Work) (n : ℕ) (o : End) (t : Task) (counts : List GroupCounts)
    (next : List (Option ℕ)) (ready : List Bool) (count : ℕ) (flags : List Bool) (r : Option ℕ)
    → AreKept w counts next ready count flags → has_stage is_running w n ≡ true
    → slice_get w.tasks n ≡ Some t
    → ((s : GroupCounts) → slice_get counts t.group ≡ Some s → r ≡ s.first)
    → AreKept (finished n o w) (at_row (left next) t.group counts) next (with_flag r ready)
    (count - 1) flags
end_keeps w n o t counts next ready count flags r k run found first =
    let e = its_end w n o t k.seated.sound run found in
    let known : t.group < length counts =
    (let g = k.seated.sound.grouped n t found in let size = k.seated.as_groups in omega arith) in
    let s = row_there counts t.group known in
    let right = k.seated.right t.group s.0 s.1 in
    let less = running_less o.stage n w.tasks t found (runs_now w n t run found)
    (ended_rests o.stage o.done) in
    record {
      seated =
          end_kept w (finished n o w) n t (stage_after o) e
          (finish_sound w n o run k.seated.sound) (groups_length (group_of w n) o w.groups) s.0
          counts next s.1 k.seated;
      queued =
          queued_end w (finished n o w) n t (stage_after o) s.0 ready e refl right
          (let size = k.queued.size in let few = k.seated.sound.few_tasks in omega arith) r
          (sym (first s.0 s.1)) k.queued;
      running = (let was = k.running in omega (arith, less, was));
      flagged = flagged_staged o.stage n w.tasks flags k.flagged;
    }

pub end_admits_oldest : (w : Work) (n : ℕ) (o : End) (t : Task) (counts : List GroupCounts)
    (next : List (Option ℕ)) → Kept w counts next → has_stage is_running w n ≡ true
    → slice_get w.tasks n ≡ Some t → AdmitsOldest w n (finished n o w)
end_admits_oldest w n o t counts next kept run found =
    let known : t.group < length counts =
    (let g = kept.sound.grouped n t found in let size = kept.as_groups in omega arith) in
    let s = row_there counts t.group known in
    end_admits w (finished n o w) n t (stage_after o) s.0 (its_end w n o t kept.sound run found)
    (kept.right t.group s.0 s.1)
