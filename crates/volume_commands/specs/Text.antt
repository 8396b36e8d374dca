-- How the bytes of names and records are printed (own choice).
use Rattle.std.specs.Prelude.{ℕ, Bool, ◌&&◌, ◌==◌, ◌/◌, ◌%◌, nat_le, List, [], ◌∷◌, codes, slice_index, if◌then◌else◌}
use Rattle.std.specs.List.{flat_map}

abbrev pub backslash : ℕ
backslash = 92

-- from 20 to 7e
abbrev pub is_visible : ℕ → Bool
is_visible byte = nat_le 0x20 byte && nat_le byte 0x7e

abbrev pub hexadecimal_digit : ℕ → ℕ
hexadecimal_digit value = slice_index (codes "0123456789abcdef") value

-- `\x` and two digits
abbrev pub hexadecimal_text : ℕ → List ℕ
hexadecimal_text byte = backslash ∷ 120 ∷ hexadecimal_digit (byte / 16) ∷ hexadecimal_digit (byte % 16) ∷ []

-- A visible byte is itself, and a backslash is doubled.
abbrev pub byte_text : ℕ → List ℕ
byte_text byte =
    if byte == backslash then backslash ∷ backslash ∷ [] else
    if is_visible byte then byte ∷ [] else hexadecimal_text byte

abbrev pub bytes_text : List ℕ → List ℕ
bytes_text bytes = flat_map byte_text bytes

abbrev pub line_feed : ℕ
line_feed = 10
