-- Bytes that are put after others.
use Rattle.std.proofs.Common.{◌≡◌, ◌<◌, ◌+◌, ℕ, List, [], ◌∷◌, ◌++◌, length, take, map, get_or, append_assoc}
use Rattle.std.proofs.Common.{sym, ◌∙◌, ap}
use Rattle.std.specs.List.{flat_map}
use Rattle.std.proofs.lemmas.List.{take_more, flat_map_more}
use Rattle.byteorder.specs.Endian.{big_bytes}
use Rattle.records.specs.Stores.{spec_of}
use Rattle.file_bytes.specs.Description.{padded_name, spec_bytes}
use Rattle.file_bytes.specs.Rows.{row_bytes}
use Rattle.file_bytes.specs.Stored.{row_of, named_of}
use Rattle.file_bytes.specs.declared.stored.StoredFile.{StoredFile}
use Rattle.half_store.specs.Spelled.{no_pages, file_bytes}
use Rattle.half_store.proofs.Parts.{length_rows}

-- bytes of one item more
pub one_more : {A : Type 0} (f : A → List ℕ) (items : List A) (k : ℕ) (item : A) (old out new : List ℕ) → k < length
    items → item ≡ get_or items k item → out ≡ old ++ flat_map f (take k items) → new ≡ out ++ f item
    → new ≡ old ++ flat_map f (take (k + 1) items)
one_more f items k item old out new lt here before after =
    after ∙ ap (λ (l : List ℕ). l ++ f item) before ∙ flat_map_more f old (take k items) item
    ∙ ap (λ one. old ++ flat_map f (take k items ++ one ∷ [])) here
    ∙ ap (λ l. old ++ flat_map f l) (sym (take_more items k item lt))

-- bytes of one part more
pub part_more : (old done part out new : List ℕ) → out ≡ old ++ done → new ≡ out ++ part → new ≡ old ++ (done ++ part)
part_more old done part out new before after =
    after ∙ ap (λ (l : List ℕ). l ++ part) before ∙ append_assoc old done part

-- and those of a file, in its parts
pub file_pushed : (file : StoredFile) (out one two three four five : List ℕ)
    → one ≡ out ++ padded_name file.spec.name.items → two ≡ one ++ spec_bytes (spec_of file.spec)
    → three ≡ two ++ no_pages → four ≡ three ++ big_bytes 8 file.next_arrival
    → five ≡ four ++ big_bytes 8 (length file.rows.items)
    → five ++ flat_map (row_bytes file.spec.organization) (map row_of file.rows.items)
    ≡ out ++ file_bytes (named_of file)
file_pushed file out one two three four five named described zeros next counted =
    let head : List ℕ = padded_name file.spec.name.items ++ spec_bytes (spec_of file.spec) in
    let done : List ℕ = head ++ no_pages ++ big_bytes 8 file.next_arrival in
    let rows : List ℕ = flat_map (row_bytes file.spec.organization) (map row_of file.rows.items) in
    let count : List ℕ = big_bytes 8 (length (map row_of file.rows.items)) in
    let all : five ≡ out ++ (done ++ count) = part_more out done count four five
    (part_more out (head ++ no_pages) (big_bytes 8 file.next_arrival) three four
    (part_more out head no_pages two three (part_more out _ _ one two named described) zeros) next)
    (counted ∙ ap (λ (n : ℕ). four ++ big_bytes 8 n) (sym (length_rows file.rows.items))) in
    ap (λ (l : List ℕ). l ++ rows) all ∙ append_assoc out (done ++ count) rows
