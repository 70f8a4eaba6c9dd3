-- Kept rows that have been written so far: the loop visits the old rows, and the written rows are
-- the first of the new ones.
use Rattle.run_model.proofs.Common.{◌≡◌, ◌≤◌, ◌+◌, ◌*◌, ℕ, Bool, true, false, List, length, Some}
use Rattle.run_model.proofs.Common.{slice_get, sym, subst, arith, flat_map}
use Rattle.run_model.proofs.Common.{AllByRecursion, IsTrue, length-map, get_or_from_slice_get}
use Rattle.run_model.proofs.Common.{slice_get_within}
use Rattle.row_view.specs.Writing.{put_at}
use Rattle.state_renewal.specs.Marks.{is_flagged, rows_left}
use Rattle.state_renewal.specs.Renewed.{kept, new_number}
use Rattle.state_renewal.proofs.Numbering.{number_gone, number_kept}
use Rattle.state_renewal.proofs.Numbers.{are_restated, length-kept, number_up}
use Rattle.task_group.proofs.PutLoops.{PutSoFar, put_first, put_next, put_done, row_room}

module _ {X : Type 0} (write : X → List ℕ) (ok : X → Bool) (size : ℕ) (flags : List Bool)
    (renumber : X → X) (rows : List X) where
  -- Of the first n rows those that are kept were put, each told anew; `e` is the place after them.
  pub record LeftSoFar (n at e : ℕ) (old new : List ℕ) : Type 0 where
    pub put : PutSoFar write ok size (rows_left flags renumber rows)
        (new_number (is_flagged flags) n) at e old new

  pub left_first : (at : ℕ) (old : List ℕ) → LeftSoFar 0 at at old old
  left_first at old =
      record { put = put_first write ok size (rows_left flags renumber rows) at old }

  pub left_same : (n at e f : ℕ) (old new newer : List ℕ) → LeftSoFar n at e old new
      → is_flagged flags n ≡ false → f ≡ e → newer ≡ new → LeftSoFar (n + 1) at f old newer
  left_same n at e f old new newer so is end same = record {
    put =
        subst (λ k. PutSoFar write ok size (rows_left flags renumber rows) k at f old newer)
        (sym (number_gone (is_flagged flags) n is))
        (subst (λ m. PutSoFar write ok size (rows_left flags renumber rows)
        (new_number (is_flagged flags) n) at m old newer) (sym end)
        (subst (λ b. PutSoFar write ok size (rows_left flags renumber rows)
        (new_number (is_flagged flags) n) at e old b) (sym same) so.put));
  }

  -- The row that comes next among the new ones.
  comes_next : (n : ℕ) (row : X) → slice_get rows n ≡ Some row → is_flagged flags n ≡ true
      → slice_get (rows_left flags renumber rows) (new_number (is_flagged flags) n)
      ≡ Some (renumber row)
  comes_next n row found is = (are_restated (is_flagged flags) renumber rows).forth n row found is

  pub left_room : (n at e : ℕ) (old new : List ℕ) (row : X) → LeftSoFar n at e old new
      → slice_get rows n ≡ Some row → is_flagged flags n ≡ true
      → length (write (renumber row)) ≤ size
      → at + size * length (rows_left flags renumber rows) ≤ length old
      → e + length (write (renumber row)) ≤ length new
  left_room n at e old new row so found is short room =
      let next = comes_next n row found is in
      let k = new_number (is_flagged flags) n in
      row_room write ok size (rows_left flags renumber rows) k at e
      (length (write (renumber row))) old new
      (renumber row) so.put (slice_get_within (rows_left flags renumber rows) k (renumber row) next)
      (sym (get_or_from_slice_get (rows_left flags renumber rows) k (renumber row)
      (renumber row) next)) short
      room

  pub left_next : (n at e f : ℕ) (old new newer : List ℕ) (row : X) → LeftSoFar n at e old new
      → slice_get rows n ≡ Some row → is_flagged flags n ≡ true → IsTrue (ok (renumber row))
      → length (write (renumber row)) ≤ size → f ≡ e + length (write (renumber row))
      → newer ≡ put_at new e (write (renumber row))
      → at + size * length (rows_left flags renumber rows) ≤ length old
      → length newer ≡ length new → LeftSoFar (n + 1) at f old newer
  left_next n at e f old new newer row so found is fits short end written room long =
      let next = comes_next n row found is in
      let k = new_number (is_flagged flags) n in
      record {
        put =
            subst (λ m. PutSoFar write ok size (rows_left flags renumber rows) m at f old newer)
            (sym (number_kept (is_flagged flags) n is))
            (put_next write ok size (rows_left flags renumber rows) k at e f old new newer
            (renumber row)
            so.put (slice_get_within (rows_left flags renumber rows) k (renumber row) next)
            (sym (get_or_from_slice_get (rows_left flags renumber rows) k (renumber row)
            (renumber row) next))
            fits short end written room long);
      }

  pub left_done : (n at e : ℕ) (old new : List ℕ) → LeftSoFar n at e old new → length rows ≤ n
      → (e ≡ at + length (flat_map write (rows_left flags renumber rows)))
      × (new ≡ put_at old at (flat_map write (rows_left flags renumber rows)))
      × AllByRecursion (λ row. IsTrue (ok row)) (rows_left flags renumber rows)
      × (e ≤ at + size * length (rows_left flags renumber rows))
  left_done n at e old new so all =
      let k = new_number (is_flagged flags) n in
      let same = length-map (kept (is_flagged flags) rows) renumber in
      let many = length-kept (is_flagged flags) rows in
      let most = number_up (is_flagged flags) (length rows) n all in
      put_done write ok size (rows_left flags renumber rows) k at e old new so.put
      (omega (arith, same, many, most))
