-- How numbers, texts and tables are spelled in an image (own choice).
use Rattle.std.specs.Prelude.{ℕ, ◌<◌, ◌^◌, ◌/◌, ◌%◌, Bool, true, false, List, ◌++◌, length, slice_index}
use Rattle.std.specs.List.{flat_map, AllByRecursion}
use Rattle.byteorder.specs.Endian.{big_bytes}

-- each is a byte
abbrev pub IsBytes : List ℕ → Type 0
IsBytes bytes = (i : ℕ) → slice_index bytes i < 256

-- a count, an address or an index: eight bytes, the highest first
unfoldable pub count_bytes : ℕ → List ℕ
count_bytes n = big_bytes 8 n

-- a number of a table's entry, a line, a length or an offset: four bytes, the highest first
unfoldable pub short_bytes : ℕ → List ℕ
short_bytes n = big_bytes 4 n

-- a number of 16 bits: two bytes, the highest first
unfoldable pub small_bytes : ℕ → List ℕ
small_bytes n = big_bytes 2 n

-- a number of 128 bits: its high half and its low half, of eight bytes each, the highest first
unfoldable pub wide_bytes : ℕ → List ℕ
wide_bytes n = count_bytes (n / 2 ^ 64) ++ count_bytes (n % 2 ^ 64)

-- whether something is so: 1 or 0
abbrev pub flag_byte : Bool → ℕ
flag_byte true = 1
flag_byte false = 0

-- a table: its count, and that many entries
abbrev pub table_bytes : {A : Type 0} → (A → List ℕ) → List A → List ℕ
table_bytes entry entries = count_bytes (length entries) ++ flat_map entry entries

-- a text: its length, and its bytes
abbrev pub text_bytes : List ℕ → List ℕ
text_bytes bytes = count_bytes (length bytes) ++ bytes

-- a number that a byte holds
abbrev pub IsByte : ℕ → Type 0
IsByte n = n < 2 ^ 8

-- a number that two bytes hold
abbrev pub IsSmall : ℕ → Type 0
IsSmall n = n < 2 ^ 16

-- a number that eight bytes hold
abbrev pub IsCount : ℕ → Type 0
IsCount n = n < 2 ^ 64

-- a number that four bytes hold
abbrev pub FitsFourBytes : ℕ → Type 0
FitsFourBytes n = n < 2 ^ 32

-- a number that sixteen bytes hold
abbrev pub IsWide : ℕ → Type 0
IsWide n = n < 2 ^ 128

-- what is spelled whatever it is
abbrev pub IsAny : {A : Type 0} → A → Type 0
IsAny x = Unit {0}

-- a text's length fits its bytes
abbrev pub IsText : List ℕ → Type 0
IsText bytes = IsCount (length bytes)

-- a table's count fits its bytes, and so does each of its entries
abbrev pub AreSpelled : {A : Type 0} → (A → Type 0) → List A → Type 0
AreSpelled fits xs = IsCount (length xs) × AllByRecursion fits xs
