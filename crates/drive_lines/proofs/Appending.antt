-- The parts of a line are appended one after another.
use Rattle.std.specs.Prelude.{◌≡◌, ◌++◌, ◌∷◌, ℕ, List, []}
use Rattle.std.proofs.Common.{sym, ap, ◌∙◌, append_assoc}
use Rattle.drive_lines.specs.Spaces.{spaced}

-- A part, and what comes after it.
then : (old part new rest : List ℕ) → new ≡ old ++ part → new ++ rest ≡ old ++ (part ++ rest)
then old part new rest is =
    ap (λ (l : List ℕ). l ++ rest) is ∙ append_assoc old part rest

-- An LF after the last part is one after all parts.
last : (first rest : List ℕ) → (spaced first rest) ++ 10 ∷ [] ≡ spaced first (rest ++ 10 ∷ [])
last first rest = append_assoc first (32 ∷ rest) (10 ∷ [])

pub appended_try : (o0 o1 o2 o3 o4 o5 o6 o7 word a b g k n : List ℕ) → o1 ≡ o0 ++ word
    → o2 ≡ o1 ++ 32 ∷ a → o3 ≡ o2 ++ 32 ∷ b → o4 ≡ o3 ++ 32 ∷ g → o5 ≡ o4 ++ 32 ∷ k
    → o6 ≡ o5 ++ 32 ∷ n → o7 ≡ o6 ++ 10 ∷ []
    → o7 ≡ o0 ++ (spaced word (spaced a (spaced b (spaced g (spaced k n)))) ++ 10 ∷ [])
appended_try o0 o1 o2 o3 o4 o5 o6 o7 word a b g k n e1 e2 e3 e4 e5 e6 e7 =
    let end : List ℕ = 10 ∷ [] in
    let x6 = n ++ end in
    let x5 = spaced k x6 in
    let x4 = spaced g x5 in
    let x3 = spaced b x4 in
    let x2 = spaced a x3 in
    let inner : spaced word (spaced a (spaced b (spaced g (spaced k n)))) ++ end ≡ spaced word x2 =
    last word (spaced a (spaced b (spaced g (spaced k n))))
    ∙ ap (spaced word) (last a (spaced b (spaced g (spaced k n)))
    ∙ ap (spaced a) (last b (spaced g (spaced k n))
    ∙ ap (spaced b) (last g (spaced k n) ∙ ap (spaced g) (last k n)))) in
    e7 ∙ then o5 (32 ∷ n) o6 end e6 ∙ then o4 (32 ∷ k) o5 (32 ∷ x6) e5
    ∙ then o3 (32 ∷ g) o4 (32 ∷ x5) e4 ∙ then o2 (32 ∷ b) o3 (32 ∷ x4) e3
    ∙ then o1 (32 ∷ a) o2 (32 ∷ x3) e2 ∙ then o0 word o1 (32 ∷ x2) e1
    ∙ ap (λ (l : List ℕ). o0 ++ l) (sym inner)

pub appended_text : (o0 o1 o2 o3 o4 word n text : List ℕ) → o1 ≡ o0 ++ word → o2 ≡ o1 ++ 32 ∷ n
    → o3 ≡ o2 ++ 32 ∷ text → o4 ≡ o3 ++ 10 ∷ []
    → o4 ≡ o0 ++ (spaced word (spaced n text) ++ 10 ∷ [])
appended_text o0 o1 o2 o3 o4 word n text e1 e2 e3 e4 =
    let end : List ℕ = 10 ∷ [] in
    let x3 = text ++ end in
    let x2 = spaced n x3 in
    let inner : spaced word (spaced n text) ++ end ≡ spaced word x2 =
    last word (spaced n text) ∙ ap (spaced word) (last n text) in
    e4 ∙ then o2 (32 ∷ text) o3 end e3 ∙ then o1 (32 ∷ n) o2 (32 ∷ x3) e2
    ∙ then o0 word o1 (32 ∷ x2) e1
    ∙ ap (λ (l : List ℕ). o0 ++ l) (sym inner)
