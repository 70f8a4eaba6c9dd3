-- What a text and a name are, as tests of their bytes.
use Rattle.std.specs.Prelude.{ℕ, nat_le, ◌==◌, Bool, ◌&&◌, ◌||◌, List, length, IsTrue}
use Rattle.std.specs.List.{list_all}
use Rattle.run_model.specs.declared.bounds.TheConstants.{NAME_LEN, TEXT_LEN}

-- A text byte is a printable ASCII byte, from the space to the tilde.
abbrev pub is_text_byte : ℕ → Bool
is_text_byte b = nat_le 32 b && nat_le b 126

-- A name byte is a lower-case letter, a digit, a hyphen or an underscore.
abbrev pub is_name_byte : ℕ → Bool
is_name_byte b = (nat_le 97 b && nat_le b 122) || (nat_le 48 b && nat_le b 57) || b == 45 || b == 95

-- A text is 1 to 64 text bytes.
abbrev pub is_text : List ℕ → Bool
is_text bytes =
    nat_le 1 (length bytes) && nat_le (length bytes) TEXT_LEN && list_all is_text_byte bytes

-- A name is 1 to 32 name bytes.
abbrev pub is_name : List ℕ → Bool
is_name bytes =
    nat_le 1 (length bytes) && nat_le (length bytes) NAME_LEN && list_all is_name_byte bytes

-- These bytes are a text.
abbrev pub IsText : List ℕ → Type 0
IsText bytes = IsTrue (is_text bytes)

-- These bytes are a name.
abbrev pub IsName : List ℕ → Type 0
IsName bytes = IsTrue (is_name bytes)
