-- The tallies of some tasks, and those with one more task.
use Rattle.std.specs.Prelude.{◌≡◌, ◌<◌, ◌≤◌, ℕ, ◌+◌, Bool, true, false, ◌&&◌, ◌||◌, cond, List, []}
use Rattle.std.specs.Prelude.{◌∷◌, ◌++◌, map, length, filter, Some, None, unwrap_or}
use Rattle.std.specs.Str.{bytes_eq}
use Rattle.std.proofs.Common.{refl, sym, ap, ◌∙◌, subst, arith, zero, suc, take, slice_get}
use Rattle.std.proofs.Common.{add-one, append-nil, append_assoc}
use Rattle.std.proofs.lemmas.List.Sums.{count_by-le-length, fold-append, length-filter}
use Rattle.run_model.specs.declared.tasks.Phase.{Phase}
use Rattle.run_model.specs.declared.tasks.Phase.TheVariants as phase
use Rattle.run_model.specs.declared.tasks.Stage.{Stage}
use Rattle.run_model.specs.declared.tasks.Stage.TheVariants as stage
use Rattle.run_model.specs.declared.tasks.Task.{Task}
use Rattle.run_model.specs.Tasks.{is_interrupted, phase_by}
use Rattle.console_lines.specs.declared.tallies.TaskCounts.{TaskCounts}
use Rattle.console_lines.specs.declared.tallies.JobTally.{JobTally}
use Rattle.console_lines.specs.Tallies.{counts_of, is_failure, is_success, jobs_of, tallies_of}
use Rattle.console_lines.specs.Tallies.{tasks_at}
use Rattle.console_lines.specs.Replies.{reply_line, reply_lines}
use Rattle.console_lines.specs.declared.line_replies.LineReply.TheVariants as printed
use Rattle.indexmap.specs.IndexMap.{insert_entry}
use Rattle.std.specs.Map.{lookup}
use Rattle.console_lines.specs.declared.job_keys.JobKey.{JobKey}
use Rattle.console_lines.specs.Counted.{MOST, counted_at, no_tasks, one_more, raised, shown}
use Rattle.console_lines.specs.Counted.{with_tally}
use Rattle.console_lines.proofs.JobLists.{AreDistinct, among_without, distinct, is_among, jobs_more}
use Rattle.console_lines.proofs.JobLists.{same, self_same, turned, with_job, without}

-- ---- what is counted of a job

-- Any task.
abbrev any : Stage → Bool
any stage = true

-- A number, with one more if it is so.
abbrev plus : Bool → ℕ → ℕ
plus true n = n + 1
plus false n = n

plus_if : (t : Bool) (n : ℕ) → n + cond t 1 0 ≡ plus t n
plus_if true n = refl
plus_if false n = omega arith

-- One task more.
at_more : (test : Stage → Bool) (job : List ℕ) (task : Task) (xs : List Task) (t : Bool)
    → (bytes_eq job task.job && test task.stage) ≡ t
    → tasks_at test job (xs ++ task ∷ []) ≡ plus t (tasks_at test job xs)
at_more test job task xs t h =
    let p : Task → Bool = λ x. bytes_eq job x.job && test x.stage in
    fold-append (λ n x. n + cond (p x) 1 0) 0 xs (task ∷ [])
    ∙ ap (λ b. tasks_at test job xs + cond b 1 0) h
    ∙ plus_if t _

-- It is of another job.
at_other : (test : Stage → Bool) (job : List ℕ) (task : Task) (xs : List Task)
    → bytes_eq job task.job ≡ false
    → tasks_at test job (xs ++ task ∷ []) ≡ tasks_at test job xs
at_other test job task xs h =
    at_more test job task xs false (ap (λ b. b && test task.stage) h)

-- It is of this job.
at_same : (test : Stage → Bool) (job : List ℕ) (task : Task) (xs : List Task) (s : Stage)
    → bytes_eq job task.job ≡ true
    → task.stage ≡ s
    → tasks_at test job (xs ++ task ∷ []) ≡ plus (test s) (tasks_at test job xs)
at_same test job task xs s h e =
    at_more test job task xs (test s) (ap (λ b. b && test task.stage) h ∙ ap test e)

-- ---- the counts of a job

abbrev counts : ℕ → ℕ → ℕ → ℕ → TaskCounts
counts t s f i = record { total = t; success = s; failure = f; interrupted = i }

counts_are : {t t' s s' f f' i i' : ℕ}
    → t ≡ t' → s ≡ s' → f ≡ f' → i ≡ i' → counts t s f i ≡ counts t' s' f' i'
counts_are {t} {t'} {s} {s'} {f} {f'} {i} {i'} ht hs hf hi =
    ap (λ n. counts n s f i) ht ∙ ap (λ n. counts t' n f i) hs ∙ ap (λ n. counts t' s' n i) hf
    ∙ ap (λ n. counts t' s' f' n) hi

-- None of the counts is the greatest yet.
pub record HasRoom (counts : TaskCounts) : Type 0 where
  pub total : counts.total < MOST
  pub success : counts.success < MOST
  pub failure : counts.failure < MOST
  pub interrupted : counts.interrupted < MOST

-- The counts with one more task, if none is the greatest yet.
abbrev plus_one : Phase → TaskCounts → TaskCounts
plus_one phase.Success c = record c { total = c.total + 1; success = c.success + 1 }
plus_one (phase.Failure error) c = record c { total = c.total + 1; failure = c.failure + 1 }
plus_one phase.Interrupted c = record c { total = c.total + 1; interrupted = c.interrupted + 1 }
plus_one _ c = record c { total = c.total + 1 }

raised_by_one : (n : ℕ) → n < MOST → raised n ≡ n + 1
raised_by_one n h = omega (arith, h)

-- If no count is the greatest yet, each can be raised.
in_room : (p : Phase) (c : TaskCounts) → HasRoom c → one_more p c ≡ plus_one p c
in_room phase.Held c h = counts_are (raised_by_one _ h.total) refl refl refl
in_room phase.Ready c h = counts_are (raised_by_one _ h.total) refl refl refl
in_room phase.Running c h = counts_are (raised_by_one _ h.total) refl refl refl
in_room phase.Success c h =
    counts_are (raised_by_one _ h.total) (raised_by_one _ h.success) refl refl
in_room (phase.Failure error) c h =
    counts_are (raised_by_one _ h.total) refl (raised_by_one _ h.failure) refl
in_room phase.Interrupted c h =
    counts_are (raised_by_one _ h.total) refl refl (raised_by_one _ h.interrupted)

counts_other : (xs : List Task) (task : Task) (job : List ℕ)
    → bytes_eq job task.job ≡ false
    → counts_of (xs ++ task ∷ []) job ≡ counts_of xs job
counts_other xs task job h =
    counts_are (at_other any job task xs h) (at_other is_success job task xs h)
    (at_other is_failure job task xs h) (at_other is_interrupted job task xs h)

counts_same : (xs : List Task) (task : Task) (job : List ℕ) (s : Stage)
    → bytes_eq job task.job ≡ true
    → task.stage ≡ s
    → counts_of (xs ++ task ∷ []) job
    ≡ counts (tasks_at any job xs + 1) (plus (is_success s) (tasks_at is_success job xs))
    (plus (is_failure s) (tasks_at is_failure job xs))
    (plus (is_interrupted s) (tasks_at is_interrupted job xs))
counts_same xs task job s h e =
    counts_are (at_same any job task xs s h e) (at_same is_success job task xs s h e)
    (at_same is_failure job task xs s h e) (at_same is_interrupted job task xs s h e)

counts_by : (xs : List Task) (task : Task) (job : List ℕ) (admitted : Bool) (s : Stage)
    → bytes_eq job task.job ≡ true
    → task.stage ≡ s
    → counts_of (xs ++ task ∷ []) job ≡ plus_one (phase_by admitted s) (counts_of xs job)
counts_by xs task job true stage.Fresh h e = counts_same xs task job stage.Fresh h e
counts_by xs task job false stage.Fresh h e = counts_same xs task job stage.Fresh h e
counts_by xs task job admitted stage.Running h e = counts_same xs task job stage.Running h e
counts_by xs task job admitted stage.Success h e = counts_same xs task job stage.Success h e
counts_by xs task job admitted (stage.Failure error) h e =
    counts_same xs task job (stage.Failure error) h e
counts_by xs task job admitted stage.Interrupted h e =
    counts_same xs task job stage.Interrupted h e

-- The counts of fewer tasks than the greatest count can be raised.
pub counts_fit : (xs : List Task) (job : List ℕ) → length xs < MOST → HasRoom (counts_of xs job)
counts_fit xs job few =
    let most : (test : Stage → Bool) → tasks_at test job xs ≤ length xs =
    λ test. count_by-le-length (λ task. bytes_eq job task.job && test task.stage) xs in
    record {
      total = omega (arith, few, most any);
      success = omega (arith, few, most is_success);
      failure = omega (arith, few, most is_failure);
      interrupted = omega (arith, few, most is_interrupted);
    }

-- ---- a job that no task has

not_first : (s t : Bool) → (s || t) ≡ false → (s ≡ false) × (t ≡ false)
not_first false t h = (refl, h)
not_first true t h = absurd (grind (arith, h))

none_left : (test : Stage → Bool) (job : List ℕ) (xs : List Task)
    → is_among job (jobs_of xs) ≡ false
    → filter (λ x. bytes_eq job x.job && test x.stage) xs ≡ []
none_left test job [] h = refl
none_left test job (x ∷ xs) h =
    let apart = not_first (bytes_eq job x.job) (is_among job (without x.job (jobs_of xs))) h in
    let rest = sym (among_without x.job job (jobs_of xs) apart.0) ∙ apart.1 in
    let left = filter (λ x. bytes_eq job x.job && test x.stage) xs in
    ap (λ b. cond (b && test x.stage) (x ∷ left) left) apart.0 ∙ none_left test job xs rest

-- No task of it is counted.
none_at : (test : Stage → Bool) (job : List ℕ) (xs : List Task)
    → is_among job (jobs_of xs) ≡ false
    → tasks_at test job xs ≡ 0
none_at test job xs h =
    let p : Task → Bool = λ x. bytes_eq job x.job && test x.stage in
    sym (length-filter p xs) ∙ ap length (none_left test job xs h)

none_of : (job : List ℕ) (xs : List Task)
    → is_among job (jobs_of xs) ≡ false
    → counts_of xs job ≡ no_tasks
none_of job xs h =
    counts_are (none_at any job xs h) (none_at is_success job xs h) (none_at is_failure job xs h)
    (none_at is_interrupted job xs h)

-- ---- the tallies of some jobs

abbrev tally : (List ℕ → TaskCounts) → List ℕ → JobTally
tally c job = record { job = job; counts = c job }

abbrev tallied : (List ℕ → TaskCounts) → List (List ℕ) → List JobTally
tallied c jobs = map (tally c) jobs

counted_by : (c : List ℕ → TaskCounts) (job j : List ℕ) (jobs : List (List ℕ)) (s t : Bool)
    → bytes_eq job j ≡ s
    → is_among job jobs ≡ t
    → counted_at job (tallied c jobs) ≡ cond t (Some (c job)) None
    → counted_at job (tallied c (j ∷ jobs)) ≡ cond (s || t) (Some (c job)) None
counted_by c job j jobs true t h e rest =
    ap (λ b. cond b (Some (c j)) (counted_at job (tallied c jobs))) h
    ∙ ap (λ x. Some (c x)) (sym (same job j h))
counted_by c job j jobs false t h e rest =
    ap (λ b. cond b (Some (c j)) (counted_at job (tallied c jobs))) h ∙ rest

-- What is counted of a job among them.
counted_reported : (c : List ℕ → TaskCounts) (job : List ℕ) (jobs : List (List ℕ)) (t : Bool)
    → is_among job jobs ≡ t
    → counted_at job (tallied c jobs) ≡ cond t (Some (c job)) None
counted_reported c job [] t h = ap (λ b. cond b (Some (c job)) None) h
counted_reported c job (j ∷ jobs) t h =
    counted_by c job j jobs (bytes_eq job j) (is_among job jobs) refl refl
    (counted_reported c job jobs (is_among job jobs) refl)
    ∙ ap (λ b. cond b (Some (c job)) None) h

reported_alike : (c d : List ℕ → TaskCounts) (job : List ℕ) (jobs : List (List ℕ))
    → ((j : List ℕ) → bytes_eq job j ≡ false → d j ≡ c j)
    → is_among job jobs ≡ false
    → tallied c jobs ≡ tallied d jobs
reported_alike c d job [] other h = refl
reported_alike c d job (j ∷ jobs) other h =
    let apart = not_first (bytes_eq job j) (is_among job jobs) h in
    ap (λ n. record { job = j; counts = n } ∷ tallied c jobs) (sym (other j apart.0))
    ∙ ap (λ x. tally d j ∷ x) (reported_alike c d job jobs other apart.1)

either_after : (t : Bool) (j : List ℕ) (xs ys : List (List ℕ))
    → cond t (j ∷ xs) (j ∷ ys) ≡ j ∷ cond t xs ys
either_after true j xs ys = refl
either_after false j xs ys = refl

behind : (job j : List ℕ) (jobs : List (List ℕ))
    → bytes_eq job j ≡ false
    → with_job (j ∷ jobs) job ≡ j ∷ with_job jobs job
behind job j jobs h =
    ap (λ b. cond (b || is_among job jobs) (j ∷ jobs) (j ∷ (jobs ++ job ∷ []))) h
    ∙ either_after (is_among job jobs) j jobs (jobs ++ job ∷ [])

with_by : (c d : List ℕ → TaskCounts) (job j : List ℕ) (jobs : List (List ℕ)) (t : Bool)
    → bytes_eq job j ≡ t
    → ((j : List ℕ) → bytes_eq job j ≡ false → d j ≡ c j)
    → is_among j jobs ≡ false
    → with_tally job (d job) (tallied c jobs) ≡ tallied d (with_job jobs job)
    → with_tally job (d job) (tallied c (j ∷ jobs)) ≡ tallied d (with_job (j ∷ jobs) job)
with_by c d job j jobs true h other new rest =
    let here = same job j h in
    let absent : is_among job jobs ≡ false = ap (λ x. is_among x jobs) here ∙ new in
    ap (λ b. cond b (record { job = j; counts = d job } ∷ tallied c jobs)
    (tally c j ∷ with_tally job (d job) (tallied c jobs))) h
    ∙ ap (λ x. record { job = j; counts = d x } ∷ tallied c jobs) here
    ∙ ap (λ x. tally d j ∷ x) (reported_alike c d job jobs other absent)
    ∙ sym (ap (λ b. tallied d (cond (b || is_among job jobs) (j ∷ jobs)
    (j ∷ (jobs ++ job ∷ [])))) h)
with_by c d job j jobs false h other new rest =
    ap (λ b. cond b (record { job = j; counts = d job } ∷ tallied c jobs)
    (tally c j ∷ with_tally job (d job) (tallied c jobs))) h
    ∙ ap (λ x. tally c j ∷ x) rest
    ∙ ap (λ n. record { job = j; counts = n } ∷ tallied d (with_job jobs job)) (sym (other j h))
    ∙ sym (ap (tallied d) (behind job j jobs h))

-- What is counted of one job changes, or goes last.
with_reported : (c d : List ℕ → TaskCounts) (job : List ℕ) (jobs : List (List ℕ))
    → ((j : List ℕ) → bytes_eq job j ≡ false → d j ≡ c j)
    → AreDistinct jobs
    → with_tally job (d job) (tallied c jobs) ≡ tallied d (with_job jobs job)
with_reported c d job [] other h = refl
with_reported c d job (j ∷ jobs) other h =
    with_by c d job j jobs (bytes_eq job j) refl other h.0 (with_reported c d job jobs other h.1)

-- ---- one task more

-- The counts of a job so far.
pub so_far : (xs : List Task) (job : List ℕ) (t : Bool)
    → is_among job (jobs_of xs) ≡ t
    → unwrap_or (counted_at job (tallies_of xs)) no_tasks ≡ counts_of xs job
so_far xs job true h =
    ap (λ o. unwrap_or o no_tasks) (counted_reported (counts_of xs) job (jobs_of xs) true h)
so_far xs job false h =
    ap (λ o. unwrap_or o no_tasks) (counted_reported (counts_of xs) job (jobs_of xs) false h)
    ∙ sym (none_of job xs h)

-- The tallies with one more task.
pub tallies_more : (xs : List Task) (task : Task) (admitted : Bool)
    → with_tally task.job
    (plus_one (phase_by admitted task.stage)
    (unwrap_or (counted_at task.job (tallies_of xs)) no_tasks))
    (tallies_of xs)
    ≡ tallies_of (xs ++ task ∷ [])
tallies_more xs task admitted =
    let job = task.job in
    let c = counts_of xs in
    let d = counts_of (xs ++ task ∷ []) in
    let counted : plus_one (phase_by admitted task.stage)
    (unwrap_or (counted_at job (tallies_of xs)) no_tasks) ≡ d job =
    ap (plus_one (phase_by admitted task.stage)) (so_far xs job (is_among job (jobs_of xs)) refl)
    ∙ sym (counts_by xs task job admitted task.stage (self_same job) refl) in
    ap (λ n. with_tally job n (tallies_of xs)) counted
    ∙ with_reported c d job (jobs_of xs) (λ j h. counts_other xs task j (turned job j false h))
    (distinct xs)
    ∙ ap (tallied d) (sym (jobs_more xs task))

-- The counts of a job, and its counts with one more task.
pub one_counted :
    (xs : List Task) (task : Task) (admitted : Bool) (tallies : List JobTally) (job : List ℕ)
    (phase : Phase) (old new : TaskCounts)
    → tallies ≡ tallies_of xs
    → length xs < MOST
    → task.job ≡ job
    → phase_by admitted task.stage ≡ phase
    → old ≡ unwrap_or (counted_at job tallies) no_tasks
    → new ≡ one_more phase old
    → with_tally job new tallies ≡ tallies_of (xs ++ task ∷ [])
one_counted xs task admitted tallies job phase old new before few same_job same_phase was now =
    let A : List JobTally → Type 0 = λ t. old ≡ unwrap_or (counted_at job t) no_tasks in
    let B : List ℕ → Type 0 = λ j. old ≡ unwrap_or (counted_at j (tallies_of xs)) no_tasks in
    let here = subst B (sym same_job) (subst A before was) in
    let counted : old ≡ counts_of xs task.job =
    here ∙ so_far xs task.job (is_among task.job (jobs_of xs)) refl in
    let room : HasRoom old = subst HasRoom (sym counted) (counts_fit xs task.job few) in
    ap (λ t. with_tally job new t) before
    ∙ ap (λ j. with_tally j new (tallies_of xs)) (sym same_job)
    ∙ ap (λ n. with_tally task.job n (tallies_of xs)) (now ∙ in_room phase old room)
    ∙ ap (λ p. with_tally task.job (plus_one p old) (tallies_of xs)) (sym same_phase)
    ∙ ap (λ n. with_tally task.job (plus_one (phase_by admitted task.stage) n) (tallies_of xs)) here
    ∙ tallies_more xs task admitted

-- ---- the table

-- The keys of two entries are the same.
abbrev pub same_job : JobKey → JobKey → Bool
same_job a b = bytes_eq a.name b.name

-- The counts of a job that the table returns.
pub looked_up : (entries : List (JobKey × TaskCounts)) (job : List ℕ)
    → lookup (λ k. bytes_eq job k.name) entries ≡ counted_at job (map shown entries)
looked_up [] job = refl
looked_up (e ∷ entries) job =
    ap (λ o. cond (bytes_eq job e.0.name) (Some e.1) o) (looked_up entries job)

put_by : (key : JobKey) (counts : TaskCounts) (e : JobKey × TaskCounts)
    (entries : List (JobKey × TaskCounts)) (t : Bool)
    → bytes_eq key.name e.0.name ≡ t
    → map shown (insert_entry same_job entries key counts)
    ≡ with_tally key.name counts (map shown entries)
    → map shown (insert_entry same_job (e ∷ entries) key counts)
    ≡ with_tally key.name counts (map shown (e ∷ entries))
put_by key counts e entries true h rest =
    ap (λ b. map shown (cond b ((e.0, counts) ∷ entries)
    (e ∷ insert_entry same_job entries key counts))) h
    ∙ sym (ap (λ b. cond b (shown (e.0, counts) ∷ map shown entries)
    (shown e ∷ with_tally key.name counts (map shown entries))) h)
put_by key counts e entries false h rest =
    ap (λ b. map shown (cond b ((e.0, counts) ∷ entries)
    (e ∷ insert_entry same_job entries key counts))) h
    ∙ ap (λ x. shown e ∷ x) rest
    ∙ sym (ap (λ b. cond b (shown (e.0, counts) ∷ map shown entries)
    (shown e ∷ with_tally key.name counts (map shown entries))) h)

-- The tallies after the entry of a job was put into the table.
pub put_in : (entries : List (JobKey × TaskCounts)) (key : JobKey) (counts : TaskCounts)
    → map shown (insert_entry same_job entries key counts)
    ≡ with_tally key.name counts (map shown entries)
put_in [] key counts = refl
put_in (e ∷ entries) key counts =
    put_by key counts e entries (bytes_eq key.name e.0.name) refl (put_in entries key counts)

-- ---- the lines

lines_next : (tallies : List JobTally) (i : ℕ) (tally : JobTally)
    → slice_get tallies i ≡ Some tally
    → reply_lines (map printed.Tally (take (suc i) tallies))
    ≡ reply_lines (map printed.Tally (take i tallies)) ++ reply_line (printed.Tally tally)
lines_next [] i tally h = absurd (grind (arith, h))
lines_next (x ∷ xs) zero tally h =
    append-nil (reply_line (printed.Tally x))
    ∙ ap (λ o. reply_line (printed.Tally (unwrap_or o x))) h
lines_next (x ∷ xs) (suc i) tally h =
    ap (λ text. reply_line (printed.Tally x) ++ text) (lines_next xs i tally h)
    ∙ sym (append_assoc (reply_line (printed.Tally x)) (reply_lines (map printed.Tally (take i xs)))
    (reply_line (printed.Tally tally)))

-- The lines of the first tallies, and those with one more tally.
pub lines_more : (tallies : List JobTally) (i : ℕ) (tally : JobTally)
    → slice_get tallies i ≡ Some tally
    → reply_lines (map printed.Tally (take (i + 1) tallies))
    ≡ reply_lines (map printed.Tally (take i tallies)) ++ reply_line (printed.Tally tally)
lines_more tallies i tally h =
    ap (λ n. reply_lines (map printed.Tally (take n tallies))) (add-one i)
    ∙ lines_next tallies i tally h
