-- A line that asks for the state of a scope.
use Rattle.std.specs.Prelude.{◌≡◌, ◌≤◌, ◌==◌, ℕ, true, false, List, [], ◌∷◌, ◌++◌, Some}
use Rattle.std.specs.Prelude.{length, take, drop, position, codes}
use Rattle.std.specs.List.{list_all}
use Rattle.std.specs.Str.{bytes_eq}
use Rattle.std.proofs.Common.{arith, sym, ap, ◌∙◌}
use Rattle.std.proofs.lemmas.Bool.Decides.{nat_tests}
use Rattle.std.proofs.lemmas.Grind.{common_steps}
use Rattle.std.proofs.lemmas.List.{take-append-drop, take_all}
use Rattle.std.proofs.lemmas.List.Splits.{slice_split_none}
use Rattle.std.proofs.lemmas.List.Sums.{AllPass-from_list_all}
use Rattle.std.proofs.lemmas.Slice.Eq.{bytes_eq-Decides}
use Rattle.run_model.specs.Texts.{IsName, is_name, is_name_byte}
use Rattle.console_lines.specs.declared.line_requests.LineRequest.TheVariants as asked
use Rattle.console_lines.specs.LineRequests.{asked_by, request_of}
use Rattle.console_lines.specs.ScopeLines.{scope_word}
use Rattle.console_lines.specs.Words.{words_of}
use Rattle.console_lines.proofs.WordLemmas.{words_at_space}

no_space : (b : ℕ) → is_name_byte b ≡ true → (b == 32) ≡ false
no_space b h = grind (arith, nat_tests, common_steps)

name_is_word : (name : List ℕ) → IsName name → words_of name ≡ name ∷ []
name_is_word name h =
    let all : list_all is_name_byte name ≡ true = grind (arith, common_steps) in
    let pass = AllPass-from_list_all is_name_byte name all in
    slice_split_none (λ b. b == 32) name (λ k d lt. no_space _ (pass k d lt))

name_is_short : (name : List ℕ) → IsName name → length name ≤ 32
name_is_short name h = grind (arith, nat_tests, common_steps)

space_after : (name : List ℕ)
    → position (λ b. b == 32) (codes "scope " ++ name) ≡ Some 5
space_after name = grind (arith, nat_tests, common_steps)

-- A line of `scope ` and a name is these two words.
two_words : (name : List ℕ) → IsName name
    → words_of (codes "scope " ++ name) ≡ codes "scope" ∷ name ∷ []
two_words name h =
    words_at_space (codes "scope " ++ name) 5 (space_after name)
    ∙ ap (λ rest. codes "scope" ∷ words_of rest) (take_all _ name (omega arith))
    ∙ ap (λ rest. codes "scope" ∷ rest) (name_is_word name h)

asks_name : (name : List ℕ) → is_name name ≡ true
    → asked_by (codes "scope" ∷ name ∷ []) ≡ Some (asked.Scope name)
asks_name name h = grind (arith, common_steps)

asks : (name : List ℕ) → IsName name → request_of (codes "scope " ++ name) ≡ asked.Scope name
asks name h =
    let short = name_is_short name h in
    let words = two_words name h in
    let named : is_name name ≡ true = grind (arith, common_steps) in
    let by = asks_name name named in
    grind (arith, nat_tests, common_steps)

begins : (line name : List ℕ) → scope_word line ≡ Some name → line ≡ codes "scope " ++ name
begins line name e =
    let prefix : bytes_eq (take 6 line) (codes "scope ") ≡ true = grind (arith, common_steps) in
    let rest : drop 6 line ≡ name = grind (arith, common_steps) in
    let same = (bytes_eq-Decides (take 6 line) (codes "scope ")).0 prefix in
    sym (take-append-drop 6 line) ∙ ap (λ xs. xs ++ drop 6 line) same
    ∙ ap (λ xs. codes "scope " ++ xs) rest

-- The line asks for the state of the scope whose name comes after `scope `.
pub asks_scope : (line name : List ℕ) → scope_word line ≡ Some name → IsName name
    → request_of line ≡ asked.Scope name
asks_scope line name e h = ap request_of (begins line name e) ∙ asks name h
