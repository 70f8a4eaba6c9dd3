-- The flags of needed scopes, raised to the scopes above them, are the flags of kept scopes.
use Rattle.run_model.proofs.Common.{◌≡◌, ◌<◌, ◌≤◌, ◌+◌, ◌&&◌, ◌||◌, ℕ, zero, suc, Bool, List}
use Rattle.run_model.proofs.Common.{length, not, refl, ap, ◌∙◌, arith, list_any, range_with_len}
use Rattle.run_model.proofs.Common.{line, is_done, State}
use Rattle.model_laws.specs.Hits.{is_on}
use Rattle.state_renewal.specs.Marks.{AreFlags, is_flagged, is_above_flagged}
use Rattle.state_renewal.specs.Renewed.{hosts_unwaited, is_needed, keeps_scope}

-- Two tests that agree on some numbers find alike among these.
any_alike : (f g : ℕ → Bool) (a n : ℕ) → ((t : ℕ) → a ≤ t → t < a + n → f t ≡ g t)
    → list_any f (range_with_len a n) ≡ list_any g (range_with_len a n)
any_alike f g a zero same = refl
any_alike f g a (suc n) same =
    ap (λ b. b || list_any f (range_with_len (a + 1) n)) (same a (omega arith) (omega arith))
    ∙ ap (λ b. g a || b)
    (any_alike f g (a + 1) n (λ t low high. same t (omega (arith, low)) (omega (arith, high))))

pub needed_raised : (p : State) (live hosting : List Bool)
    → AreFlags (λ s. not (is_done p.tree.scopes s)) (length p.tree.scopes) live
    → ((s : ℕ) → is_flagged hosting s ≡ (is_flagged live s || hosts_unwaited p.work s)) → (s : ℕ)
    → is_above_flagged p.tree.scopes hosting s ≡ keeps_scope p s
needed_raised p live hosting so says s =
    any_alike (λ t. is_flagged hosting t && is_on s (line p.tree.scopes t))
    (λ t. is_needed p t && is_on s (line p.tree.scopes t)) 0 (length p.tree.scopes)
    (λ t low high.
    ap (λ b. b && is_on s (line p.tree.scopes t))
    (says t ∙ ap (λ b. b || hosts_unwaited p.work t) (so.say t (omega (arith, high)))))
