-- The jobs of some tasks, and those with one more task.
use Rattle.std.specs.Prelude.{◌≡◌, ℕ, Bool, true, false, not, ◌||◌, cond, if◌then◌else◌}
use Rattle.std.specs.Prelude.{List, [], ◌∷◌, ◌++◌, filter}
use Rattle.std.specs.List.{list_any}
use Rattle.std.specs.Str.{bytes_eq}
use Rattle.std.proofs.Common.{refl, sym, ap, ◌∙◌, subst, arith}
use Rattle.std.proofs.lemmas.Grind.{common_steps}
use Rattle.std.proofs.lemmas.Slice.Eq.{bytes_eq-Decides}
use Rattle.run_model.specs.declared.tasks.Task.{Task}
use Rattle.console_lines.specs.Tallies.{jobs_of}

-- Whether a job is among these.
abbrev pub is_among : List ℕ → List (List ℕ) → Bool
is_among job jobs = list_any (bytes_eq job) jobs

-- A job goes after these, unless it is among them.
abbrev pub with_job : List (List ℕ) → List ℕ → List (List ℕ)
with_job jobs job = if is_among job jobs then jobs else jobs ++ job ∷ []

-- These jobs but one.
abbrev pub without : List ℕ → List (List ℕ) → List (List ℕ)
without job jobs = filter (λ j. not (bytes_eq job j)) jobs

pub same : (a b : List ℕ) → bytes_eq a b ≡ true → a ≡ b
same a b h = (bytes_eq-Decides a b).0 h

pub self_same : (a : List ℕ) → bytes_eq a a ≡ true
self_same a = (bytes_eq-Decides a a).1 refl

-- Comparing two names in the other order gives the same result.
pub turned : (a b : List ℕ) (t : Bool) → bytes_eq a b ≡ t → bytes_eq b a ≡ t
turned a b true h = (bytes_eq-Decides b a).1 (sym (same a b h))
turned a b false h = by (bytes_eq b a) refl
  where
    by : (t : Bool) → bytes_eq b a ≡ t → bytes_eq b a ≡ false
    by false e = e
    by true e = absurd (grind (arith, h, bytes_eq-Decides a b, same b a e))

-- ---- jobs without one

-- One byte list first.
without_step : (a j : List ℕ) (jobs : List (List ℕ)) (t : Bool)
    → bytes_eq a j ≡ t
    → without a (j ∷ jobs) ≡ cond t (without a jobs) (j ∷ without a jobs)
without_step a j jobs true h = ap (λ b. cond (not b) (j ∷ without a jobs) (without a jobs)) h
without_step a j jobs false h = ap (λ b. cond (not b) (j ∷ without a jobs) (without a jobs)) h

among_step : (k j : List ℕ) (jobs : List (List ℕ)) (t : Bool)
    → bytes_eq k j ≡ t
    → is_among k (j ∷ jobs) ≡ cond t true (is_among k jobs)
among_step k j jobs true h = ap (λ b. b || is_among k jobs) h
among_step k j jobs false h = ap (λ b. b || is_among k jobs) h

among_by : (a k j : List ℕ) (jobs : List (List ℕ)) (t : Bool)
    → bytes_eq a j ≡ t
    → bytes_eq k a ≡ false
    → is_among k (without a jobs) ≡ is_among k jobs
    → is_among k (without a (j ∷ jobs)) ≡ is_among k (j ∷ jobs)
among_by a k j jobs true e h rest =
    ap (is_among k) (without_step a j jobs true e) ∙ rest
    ∙ sym (among_step k j jobs false (ap (bytes_eq k) (sym (same a j e)) ∙ h))
among_by a k j jobs false e h rest =
    ap (is_among k) (without_step a j jobs false e) ∙ ap (λ b. bytes_eq k j || b) rest

-- Every other job stays in the list.
pub among_without : (a k : List ℕ) (jobs : List (List ℕ))
    → bytes_eq k a ≡ false
    → is_among k (without a jobs) ≡ is_among k jobs
among_without a k [] h = refl
among_without a k (j ∷ jobs) h =
    among_by a k j jobs (bytes_eq a j) refl h (among_without a k jobs h)

none_by : (a j : List ℕ) (jobs : List (List ℕ)) (t : Bool)
    → bytes_eq a j ≡ t
    → is_among a (without a jobs) ≡ false
    → is_among a (without a (j ∷ jobs)) ≡ false
none_by a j jobs true e rest = ap (is_among a) (without_step a j jobs true e) ∙ rest
none_by a j jobs false e rest =
    ap (is_among a) (without_step a j jobs false e)
    ∙ among_step a j (without a jobs) false e ∙ rest

-- The job itself isn't in the list.
pub none_without : (a : List ℕ) (jobs : List (List ℕ)) → is_among a (without a jobs) ≡ false
none_without a [] = refl
none_without a (j ∷ jobs) = none_by a j jobs (bytes_eq a j) refl (none_without a jobs)

-- ---- each job once

-- No job is there twice.
abbrev pub AreDistinct : List (List ℕ) → Type 0
AreDistinct [] = Unit {0}
AreDistinct (job ∷ jobs) = (is_among job jobs ≡ false) × AreDistinct jobs

distinct_by : (a j : List ℕ) (jobs : List (List ℕ)) (t : Bool)
    → bytes_eq a j ≡ t
    → is_among j jobs ≡ false
    → AreDistinct (without a jobs)
    → AreDistinct (without a (j ∷ jobs))
distinct_by a j jobs true e new rest = subst AreDistinct (sym (without_step a j jobs true e)) rest
distinct_by a j jobs false e new rest =
    subst AreDistinct (sym (without_step a j jobs false e))
    (among_without a j jobs (turned a j false e) ∙ new, rest)

distinct_without : (a : List ℕ) (jobs : List (List ℕ))
    → AreDistinct jobs
    → AreDistinct (without a jobs)
distinct_without a [] h = tt
distinct_without a (j ∷ jobs) h =
    distinct_by a j jobs (bytes_eq a j) refl h.0 (distinct_without a jobs h.1)

-- Each job of these tasks is in the list once.
pub distinct : (tasks : List Task) → AreDistinct (jobs_of tasks)
distinct [] = tt
distinct (task ∷ tasks) = (
  none_without task.job (jobs_of tasks),
  distinct_without task.job (jobs_of tasks) (distinct tasks),
)

-- ---- one task more

with_step : (jobs : List (List ℕ)) (job : List ℕ) (t : Bool)
    → is_among job jobs ≡ t
    → with_job jobs job ≡ cond t jobs (jobs ++ job ∷ [])
with_step jobs job t h = ap (λ b. cond b jobs (jobs ++ job ∷ [])) h

without_after : (a k : List ℕ) (jobs : List (List ℕ)) (t : Bool)
    → bytes_eq a k ≡ t
    → without a (jobs ++ k ∷ []) ≡ cond t (without a jobs) (without a jobs ++ k ∷ [])
without_after a k jobs true h = grind (arith, common_steps, h)
without_after a k jobs false h = grind (arith, common_steps, h)

after_by : (a k : List ℕ) (jobs : List (List ℕ)) (s t : Bool)
    → bytes_eq k a ≡ s
    → is_among k jobs ≡ t
    → a ∷ without a (with_job jobs k) ≡ with_job (a ∷ without a jobs) k
after_by a k jobs true true h e =
    ap (λ x. a ∷ without a x) (with_step jobs k true e)
    ∙ sym (with_step (a ∷ without a jobs) k true (among_step k a (without a jobs) true h))
after_by a k jobs true false h e =
    ap (λ x. a ∷ without a x) (with_step jobs k false e)
    ∙ ap (λ x. a ∷ x) (without_after a k jobs true (turned k a true h))
    ∙ sym (with_step (a ∷ without a jobs) k true (among_step k a (without a jobs) true h))
after_by a k jobs false true h e =
    ap (λ x. a ∷ without a x) (with_step jobs k true e)
    ∙ sym (with_step (a ∷ without a jobs) k true
    (among_step k a (without a jobs) false h ∙ among_without a k jobs h ∙ e))
after_by a k jobs false false h e =
    ap (λ x. a ∷ without a x) (with_step jobs k false e)
    ∙ ap (λ x. a ∷ x) (without_after a k jobs false (turned k a false h))
    ∙ sym (with_step (a ∷ without a jobs) k false
    (among_step k a (without a jobs) false h ∙ among_without a k jobs h ∙ e))

-- The job of the last task comes after those of the others.
pub jobs_more : (tasks : List Task) (task : Task)
    → jobs_of (tasks ++ task ∷ []) ≡ with_job (jobs_of tasks) task.job
jobs_more [] task = refl
jobs_more (x ∷ xs) task =
    ap (λ jobs. x.job ∷ without x.job jobs) (jobs_more xs task)
    ∙ after_by x.job task.job (jobs_of xs) (bytes_eq task.job x.job)
    (is_among task.job (jobs_of xs)) refl refl
