-- Worked examples.
use Rattle.std.proofs.Common.{◌≡◌, ℕ, List, [], ◌∷◌, ◌++◌, codes, replicate, refl}
use Rattle.std.specs.Fmt.{digits}
use Rattle.records.specs.declared.file_spec.Organization.TheVariants.{Indexed}
use Rattle.records.specs.Spec.{Spec}
use Rattle.records.specs.Rows.{Row}
use Rattle.records.specs.Files.{NamedFile}
use Rattle.volume_commands.specs.Text.{backslash, line_feed, bytes_text}
use Rattle.volume_commands.specs.Listing.{listing}
use Rattle.volume_commands.specs.Dump.{dump_text}

abbrev row : List ℕ → Row
row bytes = record { number = 0; bytes = bytes; arrivals = [] }

abbrev spec : Spec
spec = record { organization = Indexed (record { offset = 0; length = 6 }); record_length = 80; alternates = [] }

abbrev sales : NamedFile
sales = record {
  name = codes "SALES";
  file = record { spec = spec; rows = row (replicate 80 49) ∷ row (replicate 80 50) ∷ []; next_arrival = 3 };
}

two_rows : listing (sales ∷ []) ≡ codes "SALES indexed 80 2" ++ line_feed ∷ []
unfolding digits
two_rows = refl

no_files : listing [] ≡ []
no_files = refl

-- A, B, a backslash and a zero
record_of_four :
    dump_text (row (0x41 ∷ 0x42 ∷ 0x5c ∷ 0x00 ∷ []) ∷ [])
    ≡ codes "AB" ++ backslash ∷ backslash ∷ backslash ∷ codes "x00" ++ line_feed ∷ []
record_of_four = refl

-- the first and the last visible byte, and those next to them
edges_of_visible : bytes_text (0x1f ∷ 0x20 ∷ 0x7e ∷ 0x7f ∷ []) ≡ backslash ∷ codes "x1f ~" ++ backslash ∷ codes "x7f"
edges_of_visible = refl

lower_case : bytes_text (0xab ∷ 0xff ∷ []) ≡ backslash ∷ codes "xab" ++ backslash ∷ codes "xff"
lower_case = refl
