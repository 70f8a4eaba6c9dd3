-- The sizes of pools.
use Rattle.std.specs.Prelude.{◌≡◌, ◌<◌, ◌==◌, ◌+◌, ◌++◌, ◌∷◌, ℕ, Bool, cond, true, false, List, []}
use Rattle.std.specs.Prelude.{Some, find, length, ltb, reverse, slice_get, slice_index}
use Rattle.std.specs.Prelude.{take}
use Rattle.std.specs.Prelude.{unwrap_or}
use Rattle.std.specs.Option.{option_map_or}
use Rattle.std.proofs.Common.{ap, arith, get_or, length-append, refl, subst, sym, ◌∙◌}
use Rattle.std.proofs.lemmas.Bool.{ltb-false, ltb-true}
use Rattle.std.proofs.lemmas.List.{get_or_append_left, reverse-append, take_more}
use Rattle.std.proofs.Math.Seq.{get_or-append_seam}
use Rattle.drive_parts.specs.declared.heard.PoolSize.{PoolSize}
use Rattle.drive_runs.specs.Sittings.{size_now}

-- ---- one pool

-- The last reports come first.
found_more : (reported : List PoolSize) (i pool known : ℕ) (d : PoolSize) → i < length reported
    → size_now (take (i + 1) reported) pool known
    ≡ option_map_or (λ (new : PoolSize). new.size)
    (cond ((get_or reported i d).pool == pool) (Some (get_or reported i d))
    (find (λ (new : PoolSize). new.pool == pool) (reverse (take i reported)))) known
found_more reported i pool known d less =
    ap (λ (l : List PoolSize). option_map_or (λ (new : PoolSize). new.size)
    (find (λ (new : PoolSize). new.pool == pool) l) known)
    (ap (λ (l : List PoolSize). reverse l) (take_more reported i d less)
    ∙ reverse-append (take i reported) (get_or reported i d ∷ []))

pub size_more : (reported : List PoolSize) (i pool known : ℕ) (d : PoolSize)
    → i < length reported → ((get_or reported i d).pool == pool) ≡ true
    → size_now (take (i + 1) reported) pool known ≡ (get_or reported i d).size
size_more reported i pool known d less is =
    found_more reported i pool known d less
    ∙ ap (λ (b : Bool). option_map_or (λ (new : PoolSize). new.size)
    (cond b (Some (get_or reported i d))
    (find (λ (new : PoolSize). new.pool == pool) (reverse (take i reported)))) known) is

pub size_same : (reported : List PoolSize) (i pool known : ℕ) (d : PoolSize)
    → i < length reported → ((get_or reported i d).pool == pool) ≡ false
    → size_now (take (i + 1) reported) pool known ≡ size_now (take i reported) pool known
size_same reported i pool known d less is =
    found_more reported i pool known d less
    ∙ ap (λ (b : Bool). option_map_or (λ (new : PoolSize). new.size)
    (cond b (Some (get_or reported i d))
    (find (λ (new : PoolSize). new.pool == pool) (reverse (take i reported)))) known) is

-- ---- all pools

-- These are the sizes of the first pools.
pub record AreFirst (old : List ℕ) (reported : List PoolSize) (pools sizes : List ℕ) (p : ℕ)
    : Type 0 where
  pub sized : length sizes ≡ p
  pub each : (q : ℕ) → q < p → slice_index sizes q
      ≡ size_now reported q (unwrap_or (slice_get old q) (slice_index pools q))

pub sizes_more : (old : List ℕ) (reported : List PoolSize) (pools sizes : List ℕ) (p size : ℕ)
    → AreFirst old reported pools sizes p
    → size ≡ size_now reported p (unwrap_or (slice_get old p) (slice_index pools p))
    → AreFirst old reported pools (sizes ++ size ∷ []) (p + 1)
sizes_more old reported pools sizes p size are is = record {
  sized = length-append sizes (size ∷ []) ∙ ap (λ (n : ℕ). n + 1) are.sized;
  each = λ q less. by_case q less (ltb q p) refl;
}
  where
    by_case : (q : ℕ) → q < p + 1 → (b : Bool) → ltb q p ≡ b
        → slice_index (sizes ++ size ∷ []) q
        ≡ size_now reported q (unwrap_or (slice_get old q) (slice_index pools q))
    by_case q less true below =
        get_or_append_left sizes (size ∷ []) 0 q
        (subst (λ (n : ℕ). q < n) (sym are.sized) (ltb-true q p below))
        ∙ are.each q (ltb-true q p below)
    by_case q less false above =
        let same : q ≡ length sizes = omega (arith, less, ltb-false q p above, are.sized) in
        let at : q ≡ p = same ∙ are.sized in
        ap (λ (n : ℕ). slice_index (sizes ++ size ∷ []) n) same
        ∙ get_or-append_seam sizes size [] 0 ∙ is
        ∙ ap (λ (n : ℕ). size_now reported n (unwrap_or (slice_get old n) (slice_index pools n)))
        (sym at)
