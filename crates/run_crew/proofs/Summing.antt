-- The shifts of all workers, and the number of tasks that they have started together.
use Rattle.std.proofs.Common.{◌≡◌, ℕ, ◌+◌, ◌-◌, List, [], ◌∷◌, Bool, arith, map, refl, subst}
use Rattle.std.proofs.Common.{sym}
use Rattle.std.proofs.lemmas.List.Sums.{sum_by-cons}
use Rattle.std.specs.List.{AllZip}
use Rattle.std.specs.Prelude.{sum_by}
use Rattle.run_model.specs.declared.answers.TaskInfo.{TaskInfo}
use Rattle.run_crew.specs.declared.jobs.Turn.{Turn}
use Rattle.run_crew.specs.declared.notes.Note.{Note}
use Rattle.run_crew.specs.Courses.{Call, IsOfShift}
use Rattle.run_crew.specs.Nights.{AreShifts}

-- The starts that were counted meanwhile.
counted_since : (before given after sum : ℕ) → after ≡ given + sum → given ≡ before
    → sum ≡ after - before
counted_since before given after sum more same = omega (arith, more, same)

module _ {J L : Type 0} (Answered : Call → Type 0) (answers : J → List ℕ → Bool → Type 0)
    (turns : J → TaskInfo → ℕ → Bool → Turn → J → Type 0) (items : L → List J) where
  -- What each worker leaves are its notes and the number of tasks that it has started.
  pub shifts_of_zip : {W E : Type 0} (list : W → L) (notes : E → List Note) (starts : E → ℕ)
      (workers : List W) (ends : List E)
      → AllZip (λ w e. IsOfShift Answered answers turns (items (list w)) (notes e) (starts e))
      workers ends
      → AreShifts Answered answers turns items (map list workers) (map notes ends)
      (sum_by starts ends)
  shifts_of_zip list notes starts [] [] zip = refl
  shifts_of_zip list notes starts [] (e ∷ ends) zip = absurd zip
  shifts_of_zip list notes starts (w ∷ workers) [] zip = absurd zip
  shifts_of_zip list notes starts (w ∷ workers) (e ∷ ends) zip = (
    starts e,
    sum_by starts ends,
    sum_by-cons starts e ends,
    zip.0,
    shifts_of_zip list notes starts workers ends zip.1,
  )

  pub shifts_for : (jobs : List L) (lists : List (List Note)) (n m : ℕ) → n ≡ m
      → AreShifts Answered answers turns items jobs lists n
      → AreShifts Answered answers turns items jobs lists m
  shifts_for jobs lists n m same are =
      subst (λ k. AreShifts Answered answers turns items jobs lists k) same are

  -- The same of lists that were made of these, and of counts before and after.
  pub shifts_of_maps : {W E : Type 0} (list : W → L) (notes : E → List Note) (starts : E → ℕ)
      (workers : List W) (ends : List E) (jobs : List L) (lists : List (List Note))
      (before given after : ℕ)
      → AllZip (λ w e. IsOfShift Answered answers turns (items (list w)) (notes e) (starts e))
      workers ends
      → map list workers ≡ jobs → lists ≡ map notes ends → after ≡ given + sum_by starts ends
      → given ≡ before → AreShifts Answered answers turns items jobs lists (after - before)
  shifts_of_maps list notes starts workers ends jobs lists before given after zip of noted more
      same =
      let sum : ℕ = sum_by starts ends in
      shifts_for jobs lists sum (after - before) (counted_since before given after sum more same)
      (subst (λ l. AreShifts Answered answers turns items l lists sum) of
      (subst (λ l. AreShifts Answered answers turns items (map list workers) l sum) (sym noted)
      (shifts_of_zip list notes starts workers ends zip)))

-- The same if none were counted before, and all of them are in the history.
pub counted_all : (before after starts : ℕ) → before ≡ 0 → starts ≡ after
    → after - before ≡ starts
counted_all before after starts none settled = omega (arith, none, settled)
