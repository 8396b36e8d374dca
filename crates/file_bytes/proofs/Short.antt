-- Files with short records alone.
use Rattle.std.proofs.Common.{◌≡◌, Bool, true, false, not, ◌&&◌, List, [], ◌∷◌, refl}
use Rattle.std.specs.List.{list_all}
use Rattle.records.specs.Spec.{is_long}
use Rattle.records.specs.Stores.{spec_of}
use Rattle.records.specs.Files.{AreShort}
use Rattle.file_bytes.specs.Stored.{files_of}
use Rattle.file_bytes.specs.declared.stored.StoredFile.{StoredFile}

one_short : (long rest : Bool) → (not long && rest) ≡ true → (long ≡ false) × (rest ≡ true)
one_short true rest is = absurd cc
one_short false rest is = (refl, is)

with_short : (long rest : Bool) → long ≡ false → rest ≡ true → (not long && rest) ≡ true
with_short true rest short is = absurd cc
with_short false rest short is = is

pub all_short : (files : List StoredFile) → list_all (λ file. not (is_long (spec_of file.spec))) files ≡ true
    → AreShort (files_of files)
all_short [] is = tt
all_short (file ∷ files) is =
    let parts = one_short (is_long (spec_of file.spec))
    (list_all (λ (file : StoredFile). not (is_long (spec_of file.spec))) files) is in
    (parts.0, all_short files parts.1)

pub short_all : (files : List StoredFile) → AreShort (files_of files)
    → list_all (λ file. not (is_long (spec_of file.spec))) files ≡ true
short_all [] short = refl
short_all (file ∷ files) short = with_short (is_long (spec_of file.spec))
    (list_all (λ (file : StoredFile). not (is_long (spec_of file.spec))) files) short.0 (short_all files short.1)
