-- What a slice of bytes has is bytes.
use Rattle.std.proofs.Common.{ℕ, suc, List, [], ◌∷◌, get_or, Fits, w8, arith}
use Rattle.std.specs.List.{All, AllByRecursion}
use Rattle.std.proofs.lemmas.List.Elements.{All-from_recursion}
use Rattle.records.specs.Files.{IsByte}

pub bytes_by : (bytes : List ℕ) → ((i : ℕ) → Fits w8 (get_or bytes i 0)) → AllByRecursion IsByte bytes
bytes_by [] fits = tt
bytes_by (byte ∷ bytes) fits = (let here = fits 0 in omega (arith, here), bytes_by bytes (λ i. fits (suc i)))

pub all_bytes : (bytes : List ℕ) → ((i : ℕ) → Fits w8 (get_or bytes i 0)) → All IsByte bytes
all_bytes bytes fits = All-from_recursion IsByte bytes (bytes_by bytes fits)
