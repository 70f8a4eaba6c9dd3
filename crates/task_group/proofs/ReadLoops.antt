-- The rows that have been read so far, and those that are still to be read.
use Rattle.std.proofs.Common.{◌≡◌, ◌<◌, ◌≤◌, ℕ, suc, ◌+◌, ◌-◌, Bool, true, false, List, [], ◌∷◌}
use Rattle.std.proofs.Common.{◌++◌, length, Some, None, refl, sym, ap, ◌∙◌, arith, length-append}
use Rattle.row_view.specs.Fields.{Reader}
use Rattle.row_view.specs.WorkRows.{more_at}

module _ {X : Type 0} (read : Reader X) (test : List X → X → Bool) where
  pub record ReadSoFar (many n : ℕ) (first rows : List X) (bytes rest : List ℕ) : Type 0 where
    pub goes_on : more_at read test (many - n) rows rest ≡ more_at read test many first bytes
    pub counted : length rows ≡ length first + n

  one_left : (many n : ℕ) → n < many → many - n ≡ suc (many - (n + 1))
  one_left many n less = omega arith

  pub read_first : (many : ℕ) (first : List X) (bytes : List ℕ)
      → ReadSoFar many 0 first first bytes bytes
  read_first many first bytes =
      let all : many - 0 ≡ many = omega arith in
      record {
        goes_on = ap (λ m. more_at read test m first bytes) all;
        counted = omega arith;
      }

  pub read_next : (many n : ℕ) (first rows : List X) (bytes rest behind : List ℕ) (row : X)
      → ReadSoFar many n first rows bytes rest → n < many → read rest ≡ Some (row, behind)
      → test rows row ≡ true → ReadSoFar many (n + 1) first (rows ++ row ∷ []) bytes behind
  read_next many n first rows bytes rest behind row so less is can =
      let step : more_at read test (suc (many - (n + 1))) rows rest
      ≡ more_at read test (many - (n + 1)) (rows ++ row ∷ []) behind = rw (is, can) in
      let counted = so.counted in
      record {
        goes_on =
            sym step ∙ ap (λ m. more_at read test m rows rest) (sym (one_left many n less))
            ∙ so.goes_on;
        counted = omega (arith, length-append rows (row ∷ []));
      }

  pub read_stray_row : (many n : ℕ) (first rows : List X) (bytes rest behind : List ℕ) (row : X)
      → ReadSoFar many n first rows bytes rest → n < many → read rest ≡ Some (row, behind)
      → test rows row ≡ false → more_at read test many first bytes ≡ None
  read_stray_row many n first rows bytes rest behind row so less is can =
      let step : more_at read test (suc (many - (n + 1))) rows rest ≡ None = rw (is, can) in
      sym so.goes_on ∙ ap (λ m. more_at read test m rows rest) (one_left many n less) ∙ step

  pub read_no_row : (many n : ℕ) (first rows : List X) (bytes rest : List ℕ)
      → ReadSoFar many n first rows bytes rest → n < many → read rest ≡ None
      → more_at read test many first bytes ≡ None
  read_no_row many n first rows bytes rest so less none =
      let step : more_at read test (suc (many - (n + 1))) rows rest ≡ None = rw none refl in
      sym so.goes_on ∙ ap (λ m. more_at read test m rows rest) (one_left many n less) ∙ step

  pub read_all : (many n : ℕ) (first rows : List X) (bytes rest : List ℕ)
      → ReadSoFar many n first rows bytes rest → many ≤ n
      → more_at read test many first bytes ≡ Some (rows, rest)
  read_all many n first rows bytes rest so all =
      let none : many - n ≡ 0 = omega arith in
      sym so.goes_on ∙ ap (λ m. more_at read test m rows rest) none

  -- There is room for one row more, where there was for all.
  pub read_room : (most many n : ℕ) (first rows : List X) (bytes rest : List ℕ)
      → ReadSoFar many n first rows bytes rest → n < many → length first + many ≤ most
      → length rows < most
  read_room most many n first rows bytes rest so less room =
      let counted = so.counted in
      omega (arith, counted, less, room)
