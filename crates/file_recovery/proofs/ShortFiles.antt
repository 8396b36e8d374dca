-- Files of the same entries of a catalog have records of one length.
use Rattle.std.proofs.Common.{◌≡◌, ◌∙◌, ℕ, List, [], ◌∷◌, length, take, sym, ap}
use Rattle.std.specs.Prelude.{map}
use Rattle.std.specs.List.{All, AllByRecursion}
use Rattle.std.proofs.lemmas.List.Elements.{All-head, All-tail}
use Rattle.btree.specs.Entries.{Entry}
use Rattle.records.specs.Spec.{is_long}
use Rattle.records.specs.Files.{IsNamed, AreShort}
use Rattle.file_bytes.proofs.Descriptions.{one_spec}
use Rattle.volume_format.specs.Volume.{FileTrees, IsKept, listing_of, catalog_entry}
use Rattle.volume_format.proofs.Listings.{spec_read}
use Rattle.file_recovery.proofs.FirstMark.{listing_first}

same_spec : (mark : ℕ) (one two : FileTrees) → IsNamed one.named → IsNamed two.named
    → length one.alternates ≡ length one.named.file.spec.alternates
    → length two.alternates ≡ length two.named.file.spec.alternates → catalog_entry mark one ≡ catalog_entry mark two
    → one.named.file.spec ≡ two.named.file.spec
same_spec mark one two named named_too count count_too same =
    let bytes = sym (listing_first mark one named count) ∙ ap (λ (e : Entry). take 83 e.value) same
    ∙ listing_first mark two named_too count_too in
    one_spec one.named.file.spec two.named.file.spec named.file.spec named_too.file.spec
    (sym (spec_read (listing_of one) named.file.spec) ∙ ap (take 43) bytes
    ∙ spec_read (listing_of two) named_too.file.spec)

pub short_as : (mark generation : ℕ) (ones twos : List FileTrees) → All (IsKept generation) ones
    → All (IsKept generation) twos → AllByRecursion IsNamed (map (λ (k : FileTrees). k.named) ones)
    → AllByRecursion IsNamed (map (λ (k : FileTrees). k.named) twos)
    → map (catalog_entry mark) ones ≡ map (catalog_entry mark) twos
    → AreShort (map (λ (k : FileTrees). k.named) ones) → AreShort (map (λ (k : FileTrees). k.named) twos)
short_as mark generation [] [] is is_too named named_too same short = tt
short_as mark generation [] (two ∷ twos) is is_too named named_too same short = absurd cc
short_as mark generation (one ∷ ones) [] is is_too named named_too same short = tt
short_as mark generation (one ∷ ones) (two ∷ twos) is is_too named named_too same short =
    let head : catalog_entry mark one ≡ catalog_entry mark two = cc in
    let tail : map (catalog_entry mark) ones ≡ map (catalog_entry mark) twos = cc in
    let own = All-head (IsKept generation) one ones is in
    let own_too = All-head (IsKept generation) two twos is_too in
    let spec = same_spec mark one two named.0 named_too.0 own.count own_too.count head in (
      ap is_long (sym spec) ∙ short.0,
      short_as mark generation ones twos (All-tail (IsKept generation) one ones is)
          (All-tail (IsKept generation) two twos is_too) named.1 named_too.1 tail short.1,
    )
