-- Reading numbers, texts and tables from the first byte on, up to the first fault.
use Rattle.std.specs.Prelude.{ℕ, zero, suc, ◌+◌, ◌*◌, ◌^◌, Bool, true, false, List, [], ◌∷◌, length, take, drop, Option, None, Some, Result, Ok, Err, nat_lt, ◌==◌, if◌then◌else◌}
use Rattle.byteorder.specs.Endian.{big_number}
use Rattle.data_image.specs.declared.fault.ImageFault.{ImageFault}
use Rattle.data_image.specs.declared.fault.ImageFault.TheVariants as faults

-- What was read, and the bytes after it.
abbrev pub ReadResult : Type 0 → Type 0
ReadResult A = Result (A × List ℕ) ImageFault

infixl 10 ◌>>=◌
abbrev pub ◌>>=◌ : {A B : Type 0} → Result A ImageFault → (A → Result B ImageFault) → Result B ImageFault
(Ok x) >>= f = f x
(Err e) >>= f = Err e

-- what there is, or the fault of a value that isn't possible
abbrev pub or_value : {A : Type 0} → Option A → Result A ImageFault
or_value None = Err faults.Value
or_value (Some x) = Ok x

-- a number of n bytes
abbrev pub number_at : ℕ → List ℕ → ReadResult ℕ
number_at n bytes = if nat_lt (length bytes) n then Err faults.Length else Ok (big_number n bytes, drop n bytes)

unfoldable pub count_at : List ℕ → ReadResult ℕ
count_at bytes = number_at 8 bytes

unfoldable pub short_at : List ℕ → ReadResult ℕ
short_at bytes = number_at 4 bytes

unfoldable pub small_at : List ℕ → ReadResult ℕ
small_at bytes = number_at 2 bytes

unfoldable pub wide_at : List ℕ → ReadResult ℕ
wide_at bytes = do
  high ← count_at bytes
  low ← count_at high.1
  Ok (high.0 * 2 ^ 64 + low.0, low.1)

unfoldable pub byte_at : List ℕ → ReadResult ℕ
byte_at [] = Err faults.Length
byte_at (byte ∷ bytes) = Ok (byte, bytes)

-- what a byte tells
unfoldable pub told_at : {A : Type 0} → (ℕ → Option A) → List ℕ → ReadResult A
told_at told bytes = do
  byte ← byte_at bytes
  x ← or_value (told byte.0)
  Ok (x, byte.1)

unfoldable pub flag_of : ℕ → Option Bool
flag_of byte = if byte == 0 then Some false else if byte == 1 then Some true else None

-- so many entries
unfoldable pub entries_at : {A : Type 0} → (List ℕ → ReadResult A) → ℕ → List ℕ → ReadResult (List A)
entries_at entry zero bytes = Ok ([], bytes)
entries_at entry (suc count) bytes = do
  first ← entry bytes
  others ← entries_at entry count first.1
  Ok (first.0 ∷ others.0, others.1)

unfoldable pub table_at : {A : Type 0} → (List ℕ → ReadResult A) → List ℕ → ReadResult (List A)
table_at entry bytes = do
  count ← count_at bytes
  entries_at entry count.0 count.1

unfoldable pub text_at : List ℕ → ReadResult (List ℕ)
text_at bytes = do
  count ← count_at bytes
  if nat_lt (length count.1) count.0 then Err faults.Length else Ok (take count.0 count.1, drop count.0 count.1)
