-- A new top of a night, and the base that comes with it: in the first night the top is the base,
-- and later the scope with the number of the night is.
use Rattle.std.proofs.Common.{◌≡◌, ℕ, Bool, true, false, cond, List, [], ◌∷◌, ◌++◌, Option}
use Rattle.std.proofs.Common.{Some, None, nat_le, codes, refl, sym, subst}
use Rattle.std.proofs.lemmas.Bool.{and_parts}
use Rattle.std.specs.Fmt.{decimal}
use Rattle.run_model.specs.declared.commands.Step.{Step}
use Rattle.run_model.specs.declared.commands.Wish.TheVariants as wish
use Rattle.run_model.specs.Session.{Session, after_step, reply_of_step, session_after}
use Rattle.run_model.specs.State.{State}
use Rattle.drive_nights.specs.declared.names.Role.TheVariants as role
use Rattle.drive_nights.specs.declared.untils.Until.{Until}
use Rattle.drive_nights.specs.Effects.{AreTaken, is_taken}
use Rattle.drive_nights.specs.Names.{role_name}
use Rattle.drive_nights.specs.Nights.{night_text}
use Rattle.drive_nights.specs.Openings.{new_base, new_top, top_steps}
use Rattle.drive_nights.specs.Rooms.{derive, scope_steps}
use Rattle.drive_nights.proofs.Taking.{steps_join, taken_join}

-- The steps of the top itself.
abbrev pub top_first : State → ℕ → Option Until → List Step
top_first p n all = scope_steps (new_top p n) (codes "root") all

-- The name of the scope with the number, and the step that makes it.
abbrev pub round_of : State → ℕ → List ℕ
round_of p n = role_name (new_top p n) role.Round

abbrev pub top_number : State → ℕ → Step
top_number p n =
    derive (round_of p n) (new_top p n) (wish.Value (codes "night") (decimal n))

-- What holds after the steps of a top: it holds in the first night after those of the top itself,
-- and in a later one after the number, too.
pub top_by : (X : Session → List ℕ → Option (List ℕ) → Type 0) (p : State) (t : Session) (n : ℕ)
    (all : Option Until) → AreTaken t (top_steps p n all)
    → (nat_le n 1 ≡ true → AreTaken t (top_first p n all)
    → X (session_after t (top_first p n all)) (new_top p n) None)
    → (nat_le n 1 ≡ false → AreTaken t (top_first p n all)
    → is_taken (reply_of_step (session_after t (top_first p n all)) (top_number p n)) ≡ true
    → X (after_step (session_after t (top_first p n all)) (top_number p n)) (round_of p n)
    (Some (decimal n)))
    → X (session_after t (top_steps p n all)) (new_base p n) (night_text n)
top_by X p t n all taken one two = by_number (nat_le n 1) refl taken
  where
    by_number : (b : Bool) → nat_le n 1 ≡ b
        → AreTaken t (top_first p n all
        ++ cond b [] (derive (cond b (new_top p n) (round_of p n)) (new_top p n)
        (wish.Value (codes "night") (decimal n)) ∷ []))
        → X (session_after t (top_first p n all
        ++ cond b [] (derive (cond b (new_top p n) (round_of p n)) (new_top p n)
        (wish.Value (codes "night") (decimal n)) ∷ []))) (cond b (new_top p n) (round_of p n))
        (cond b None (Some (decimal n)))
    by_number true is taken =
        let parts = taken_join (top_first p n all) [] t taken in
        subst (λ (x : Session). X x (new_top p n) None) (sym (steps_join (top_first p n all) [] t))
        (one is parts.0)
    by_number false is taken =
        let parts = taken_join (top_first p n all) (top_number p n ∷ []) t taken in
        let last = and_parts (is_taken (reply_of_step (session_after t (top_first p n all))
        (top_number p n))) true parts.1 in
        subst (λ (x : Session). X x (round_of p n) (Some (decimal n)))
        (sym (steps_join (top_first p n all) (top_number p n ∷ []) t)) (two is parts.0 last.0)
