-- The rows that have been written so far, one after another, each of at most this many bytes.
use Rattle.run_model.proofs.Common.{◌≡◌, ◌<◌, ◌≤◌, ℕ, zero, suc, ◌+◌, ◌*◌, List, [], ◌∷◌, ◌++◌}
use Rattle.run_model.proofs.Common.{length, take, Bool, get_or, refl, sym, ap, ◌∙◌, subst, arith}
use Rattle.run_model.proofs.Common.{length-append, add-one, IsTrue, flat_map, AllByRecursion}
use Rattle.run_model.proofs.Common.{flat_map-append, append-nil, take_all}
use Rattle.std.proofs.Math.Nat.{mul-le-mul_left}
use Rattle.std.proofs.Math.Seq.{take-suc}
use Rattle.row_view.specs.Writing.{put_at}
use Rattle.row_view.proofs.Joins.{put_then, put_nothing}

taken_few : {X : Type 0} (n : ℕ) (rows : List X) → length (take n rows) ≤ length rows
taken_few zero rows = omega arith
taken_few (suc n) [] = omega arith
taken_few (suc n) (row ∷ rows) = let few = taken_few n rows in omega arith

module _ {X : Type 0} (write : X → List ℕ) (kept : X → Bool) (size : ℕ) where
  abbrev pub AreAllKept : List X → Type 0
  AreAllKept rows = AllByRecursion (λ row. IsTrue (kept row)) rows

  -- The first k rows were put, and `e` is the place after them.
  pub record PutSoFar (rows : List X) (k at e : ℕ) (old new : List ℕ) : Type 0 where
    pub place : e ≡ at + length (flat_map write (take k rows))
    pub written : new ≡ put_at old at (flat_map write (take k rows))
    pub most : length (flat_map write (take k rows)) ≤ size * length (take k rows)
    pub all_kept : AreAllKept (take k rows)
    pub same : length new ≡ length old

  pub put_first : (rows : List X) (at : ℕ) (old : List ℕ) → PutSoFar rows 0 at at old old
  put_first rows at old = record {
    place = omega arith;
    written = put_nothing old at;
    most = omega arith;
    all_kept = tt;
    same = refl;
  }

  kept_push : (rows : List X) (row : X) → AreAllKept rows → IsTrue (kept row)
      → AreAllKept (rows ++ row ∷ [])
  kept_push [] row all ok = (ok, tt)
  kept_push (r ∷ rows) row all ok = (all.0, kept_push rows row all.1 ok)

  bytes_push : (rows : List X) (row : X)
      → flat_map write (rows ++ row ∷ []) ≡ flat_map write rows ++ write row
  bytes_push rows row =
      flat_map-append write rows (row ∷ [])
      ∙ ap (λ l. flat_map write rows ++ l) (append-nil (write row))

  one_more : (rows : List X) (k : ℕ) (row : X) → k < length rows → row ≡ get_or rows k row
      → take (k + 1) rows ≡ take k rows ++ row ∷ []
  one_more rows k row less is =
      ap (λ m. take m rows) (add-one k) ∙ take-suc rows k row less
      ∙ ap (λ r. take k rows ++ r ∷ []) (sym is)

  -- There is room for another row.
  room_for : (rows : List X) (k : ℕ) (row : X) → k < length rows → row ≡ get_or rows k row
      → size * length (take k rows) + size ≤ size * length rows
  room_for rows k row less is =
      let more : length (take (k + 1) rows) ≡ length (take k rows) + 1 =
      ap (λ r. length r) (one_more rows k row less is)
      ∙ length-append (take k rows) (row ∷ []) in
      let few : length (take (k + 1) rows) ≤ length rows = taken_few (k + 1) rows in
      let most : size * (length (take k rows) + 1) ≤ size * length rows =
      mul-le-mul_left size (omega (arith, more, few)) in
      omega (arith, most)

  pub row_room : (rows : List X) (k at e n : ℕ) (old new : List ℕ) (row : X)
      → PutSoFar rows k at e old new → k < length rows → row ≡ get_or rows k row → n ≤ size
      → at + size * length rows ≤ length old → e + n ≤ length new
  row_room rows k at e n old new row so less is short room =
      let most = so.most in
      let place = so.place in
      let same = so.same in
      let there = room_for rows k row less is in
      omega arith

  pub put_next : (rows : List X) (k at e f : ℕ) (old new newer : List ℕ) (row : X)
      → PutSoFar rows k at e old new → k < length rows → row ≡ get_or rows k row
      → IsTrue (kept row) → length (write row) ≤ size
      → f ≡ e + length (write row) → newer ≡ put_at new e (write row)
      → at + size * length rows ≤ length old → length newer ≡ length new
      → PutSoFar rows (k + 1) at f old newer
  put_next rows k at e f old new newer row so less is ok short end written room long =
      let more = one_more rows k row less is in
      let bytes : flat_map write (take (k + 1) rows) ≡ flat_map write (take k rows) ++ write row =
      ap (flat_map write) more ∙ bytes_push (take k rows) row in
      let grown : length (flat_map write (take (k + 1) rows))
      ≡ length (flat_map write (take k rows)) + length (write row) =
      ap (λ b. length b) bytes ∙ length-append (flat_map write (take k rows)) (write row) in
      let longer : length (take (k + 1) rows) ≡ length (take k rows) + 1 =
      ap (λ r. length r) more ∙ length-append (take k rows) (row ∷ []) in
      let there = room_for rows k row less is in
      let most = so.most in
      let place = so.place in
      record {
        place = omega arith;
        written =
            written ∙ ap (λ o. put_at o e (write row)) so.written
            ∙ put_then old at e (flat_map write (take k rows)) (write row) so.place (omega arith)
            ∙ ap (put_at old at) (sym bytes);
        most = rw longer (omega (arith, grown, most, short));
        all_kept = subst AreAllKept (sym more) (kept_push (take k rows) row so.all_kept ok);
        same = long ∙ so.same;
      }

  pub put_done : (rows : List X) (k at e : ℕ) (old new : List ℕ)
      → PutSoFar rows k at e old new → length rows ≤ k
      → (e ≡ at + length (flat_map write rows)) × (new ≡ put_at old at (flat_map write rows))
      × AreAllKept rows × (e ≤ at + size * length rows)
  put_done rows k at e old new so all =
      let whole = take_all k rows all in
      let most : length (flat_map write rows) ≤ size * length rows =
      subst (λ r. length (flat_map write r) ≤ size * length r) whole so.most in
      let place : e ≡ at + length (flat_map write rows) =
      so.place ∙ ap (λ r. at + length (flat_map write r)) whole in (
        place,
        so.written ∙ ap (λ r. put_at old at (flat_map write r)) whole,
        subst AreAllKept whole so.all_kept,
        omega (arith, place, most),
      )

-- Rows of two kinds, the second after the first.
pub put_both : {X Y : Type 0} (write : X → List ℕ) (behind : Y → List ℕ) (xs lent : List X)
    (ys lent_too : List Y) (old mid new : List ℕ) (at e : ℕ) → lent ≡ xs → lent_too ≡ ys
    → mid ≡ put_at old at (flat_map write lent) → e ≡ at + length (flat_map write lent)
    → e ≤ length old → new ≡ put_at mid e (flat_map behind lent_too)
    → new ≡ put_at old at (flat_map write xs ++ flat_map behind ys)
put_both write behind xs lent ys lent_too old mid new at e same same_too first place room second =
    let bytes = ap (flat_map write) same in
    let end : e ≡ at + length (flat_map write xs) = place ∙ ap (λ b. at + length b) bytes in
    second
    ∙ ap (put_at mid e) (ap (flat_map behind) same_too)
    ∙ ap (λ o. put_at o e (flat_map behind ys)) (first ∙ ap (put_at old at) bytes)
    ∙ put_then old at e (flat_map write xs) (flat_map behind ys) end (omega (arith, room, end))

pub put_end : (first second : List ℕ) (at mid end : ℕ) → mid ≡ at + length first
    → end ≡ mid + length second → end ≡ at + length (first ++ second)
put_end first second at mid end is then = omega (arith, length-append first second)
