-- A box of a job does what the job in it does.
use Rattle.std.proofs.Common.{◌≡◌, refl, subst, sym}
use Rattle.std.specs.declared.dyn_box.DynBox.{DynBox}

module _ {X Z : Type 0} {F : X → Type 0} (b : DynBox X Z F) where
  pub boxed : (P : (k : X) → F k → Type 0) (k : X) (v : F k)
      → ◌≡◌ {A = (i : X) × F i} (k, v) (b.vtable, b.value) → P k v → P b.vtable b.value
  boxed P k v same is =
      let Q : ((i : X) × F i) → Type 0 = λ p. P p.0 p.1 in
      subst Q same is

  pub boxed_step : (T : (k : X) → F k → F k → Type 0) (k : X) (v n : F k)
      → ◌≡◌ {A = (i : X) × F i} (k, v) (b.vtable, b.value) → T k v n
      → (y : F b.vtable) × T b.vtable b.value y
      × (◌≡◌ {A = DynBox X Z F} (record { ptr = b.ptr; vtable = k; alloc = b.alloc; value = n })
      (record { ptr = b.ptr; vtable = b.vtable; alloc = b.alloc; value = y }))
  boxed_step T k v n same is =
      let Q : ((i : X) × F i) → Type 0 = λ p. (m : F p.0) → T p.0 p.1 m
      → (y : F b.vtable) × T b.vtable b.value y
      × (◌≡◌ {A = DynBox X Z F} (record { ptr = b.ptr; vtable = p.0; alloc = b.alloc; value = m })
      (record { ptr = b.ptr; vtable = b.vtable; alloc = b.alloc; value = y })) in
      subst Q (sym same) (λ m is. (m, is, refl)) n is
