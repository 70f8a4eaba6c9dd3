-- A name is a text.
use Rattle.std.specs.Prelude.{◌≡◌, ℕ, true, List, [], ◌∷◌}
use Rattle.std.specs.List.{list_all}
use Rattle.std.proofs.Common.{arith, refl}
use Rattle.std.proofs.lemmas.Bool.Decides.{nat_tests}
use Rattle.std.proofs.lemmas.Grind.{common_steps}
use Rattle.run_model.specs.Texts.{IsName, IsText, is_name_byte, is_text_byte}

byte_is_text : (b : ℕ) → is_name_byte b ≡ true → is_text_byte b ≡ true
byte_is_text b h = grind (arith, nat_tests, common_steps)

bytes_are_text : (bytes : List ℕ) → list_all is_name_byte bytes ≡ true
    → list_all is_text_byte bytes ≡ true
bytes_are_text [] h = refl
bytes_are_text (b ∷ bytes) h =
    let first : is_name_byte b ≡ true = grind (arith, common_steps) in
    let more : list_all is_name_byte bytes ≡ true = grind (arith, common_steps) in
    let one = byte_is_text b first in
    let rest = bytes_are_text bytes more in
    grind (arith, common_steps)

pub name_is_text : (bytes : List ℕ) → IsName bytes → IsText bytes
name_is_text bytes h =
    let all : list_all is_name_byte bytes ≡ true = grind (arith, common_steps) in
    let texts = bytes_are_text bytes all in
    grind (arith, nat_tests, common_steps)
