-- The bytes of names and texts are ASCII, so they are read as a `str`.
use Rattle.std.specs.Prelude.{◌≡◌, ℕ, ◌<◌, Bool, true, List, [], ◌∷◌, Result, Ok, Err}
use Rattle.std.specs.List.{All, list_all}
use Rattle.std.specs.Result.{IsOk, MatchResult}
use Rattle.std.specs.Str.{IsAscii, IsUtf8}
use Rattle.std.proofs.Common.{arith, refl}
use Rattle.std.proofs.lemmas.Bool.Decides.{nat_tests}
use Rattle.std.proofs.lemmas.Grind.{common_steps}
use Rattle.std.proofs.lemmas.List.Elements.{All-nil, All-cons}
use Rattle.std.proofs.lemmas.Str.{IsUtf8-from_ascii}
use Rattle.std.proofs.lemmas.Str.Ascii.{IsAscii-from_all}
use Rattle.run_model.specs.Texts.{is_text_byte, is_name_byte, IsName, IsText}

all_below : (test : ℕ → Bool) → ((b : ℕ) → test b ≡ true → b < 128) → (bytes : List ℕ)
    → list_all test bytes ≡ true → All (λ b. b < 128) bytes
all_below test below [] h = All-nil _
all_below test below (b ∷ bytes) h =
    let first : test b ≡ true = grind (arith, common_steps) in
    let more : list_all test bytes ≡ true = grind (arith, common_steps) in
    All-cons (λ n. n < 128) b bytes (below b first) (all_below test below bytes more)

text_below : (b : ℕ) → is_text_byte b ≡ true → b < 128
text_below b h = grind (arith, nat_tests, common_steps)

name_below : (b : ℕ) → is_name_byte b ≡ true → b < 128
name_below b h = grind (arith, nat_tests, common_steps)

-- Bytes, each of which is a text byte, are ASCII.
pub text_bytes_are_ascii : (bytes : List ℕ) → list_all is_text_byte bytes ≡ true → IsAscii bytes
text_bytes_are_ascii bytes h = IsAscii-from_all bytes (all_below is_text_byte text_below bytes h)

-- The bytes of a text are ASCII.
pub text_is_ascii : (bytes : List ℕ) → IsText bytes → IsAscii bytes
text_is_ascii bytes h =
    let all : list_all is_text_byte bytes ≡ true = grind (arith, common_steps) in
    text_bytes_are_ascii bytes all

-- The bytes of a name are ASCII.
pub name_is_ascii : (bytes : List ℕ) → IsName bytes → IsAscii bytes
name_is_ascii bytes h =
    let all : list_all is_name_byte bytes ≡ true = grind (arith, common_steps) in
    IsAscii-from_all bytes (all_below is_name_byte name_below bytes all)

-- A reader that fails only if bytes aren't UTF-8 doesn't fail for ASCII.
pub ascii_is_read : {X E : Type 0} (P : X → Type 0) (Q : E → Type 0) (bytes : List ℕ)
    (r : Result X E) → MatchResult r P (λ e. ¬ (IsUtf8 bytes) × Q e) → IsAscii bytes → IsOk r
ascii_is_read P Q bytes (Ok text) reported ascii = refl
ascii_is_read P Q bytes (Err why) reported ascii = absurd
    (reported.0 (IsUtf8-from_ascii bytes ascii))
