-- An image holds at most one list of files.
use Rattle.std.proofs.Common.{◌≡◌, ◌≤◌, ◌<◌, ◌^◌, ◌++◌, ℕ, List, [], ◌∷◌, length, refl, sym, ap, subst, ◌∙◌, arith}
use Rattle.std.specs.Prelude.{map, take, drop}
use Rattle.std.specs.List.{All, AllByRecursion, flat_map}
use Rattle.std.proofs.lemmas.List.{length-map}
use Rattle.std.proofs.lemmas.List.Elements.{All-head, All-tail}
use Rattle.station.specs.Disk.{Sector}
use Rattle.byteorder.specs.Endian.{big_number}
use Rattle.pages.specs.Image.{Map}
use Rattle.pages.proofs.One.{one_map}
use Rattle.pages.proofs.Bounds.{map_bounds}
use Rattle.btree.specs.Entries.{Entry, entries_of}
use Rattle.btree.proofs.One.{one_tree}
use Rattle.records.specs.declared.key.KeyOfReference.TheVariants.{Prime}
use Rattle.records.specs.Spec.{Spec}
use Rattle.records.specs.Rows.{Row}
use Rattle.records.specs.Files.{NamedFile, Files, IsNamed}
use Rattle.volume_format.specs.Catalog.{listing_bytes, catalog_layout}
use Rattle.volume_format.specs.Trees.{entry_under, layout_under}
use Rattle.volume_format.specs.Chained.{chained_bytes}
use Rattle.volume_format.specs.Forest.{TreeLevels, IsTreeIn}
use Rattle.volume_format.specs.Volume.{FileTrees, IsKept, MapHolds, Holds, trees_of, listing_of, catalog_entry}
use Rattle.volume_format.proofs.Forests.{all_right}
use Rattle.volume_format.proofs.OneTree.{one_planted}
use Rattle.file_bytes.proofs.Descriptions.{one_name, one_spec}
use Rattle.volume_format.proofs.Listings.{spec_read, prime_read, next_read_most, long}
use Rattle.volume_format.proofs.Values.{reads_back}
use Rattle.volume_format.proofs.Roots.{root_small}
use Rattle.volume_format.proofs.Once.{one_rows_most}

named_with : List ℕ → Spec → List Row → ℕ → NamedFile
named_with name spec rows next = record { name = name; file = record { spec = spec; rows = rows; next_arrival = next } }

counted : (kept : FileTrees) → length kept.alternates ≡ length kept.named.file.spec.alternates
    → length (listing_of kept).alternates ≡ length kept.named.file.spec.alternates
counted kept count = length-map kept.alternates (λ (tree : TreeLevels). tree.tree.root) ∙ count

-- two files that one map keeps under one entry of the catalog
same_named : (m : Map) (one two : FileTrees) → m.generation ≤ 2 ^ 63 → length m.pages ≤ 2 ^ 20 → IsKept m.generation one
    → IsKept m.generation two → IsTreeIn m.pages one.prime → IsTreeIn m.pages two.prime → IsNamed one.named
    → IsNamed two.named →
    catalog_entry m.mark one ≡ catalog_entry m.mark two → one.named ≡ two.named
unfolding named_with
same_named m one two few small is is_too grows grows_too named named_too same =
    let name : one.named.name ≡ two.named.name =
    one_name one.named.name two.named.name named.name named_too.name (ap (λ (e : Entry). e.key) same) in
    let bytes : listing_bytes (listing_of one) ≡ listing_bytes (listing_of two) =
    sym (reads_back m.mark (listing_bytes (listing_of one)) (length one.named.file.rows)
    (long (listing_of one) named.file.spec (counted one is.count))).head
    ∙ ap (λ (e : Entry). take 83 e.value) same
    ∙ (reads_back m.mark (listing_bytes (listing_of two)) (length two.named.file.rows)
    (long (listing_of two) named_too.file.spec (counted two is_too.count))).head in
    let low = is.arrivals in
    let low_too = is_too.arrivals in
    let s : Spec = one.named.file.spec in
    let t : Spec = two.named.file.spec in
    let spec : s ≡ t =
    one_spec s t named.file.spec named_too.file.spec (sym (spec_read (listing_of one) named.file.spec)
    ∙ ap (take 43) bytes ∙ spec_read (listing_of two) named_too.file.spec) in
    let root : one.prime.tree.root ≡ two.prime.tree.root =
    sym (prime_read (listing_of one) named.file.spec (root_small m.pages one.prime small grows))
    ∙ ap (λ (b : List ℕ). big_number 4 (drop 43 b)) bytes
    ∙ prime_read (listing_of two) named_too.file.spec (root_small m.pages two.prime small grows_too) in
    let next : one.named.file.next_arrival ≡ two.named.file.next_arrival =
    sym (next_read_most (listing_of one) named.file.spec (counted one is.count) (omega arith))
    ∙ ap (λ (b : List ℕ). big_number 8 (drop 75 b)) bytes
    ∙ next_read_most (listing_of two) named_too.file.spec (counted two is_too.count) (omega arith) in
    let layout : one.prime.tree.layout ≡ two.prime.tree.layout =
    is.layout ∙ ap (λ (x : Spec). layout_under x Prime) spec ∙ sym is_too.layout in
    let form : one.prime.record_bytes ≡ two.prime.record_bytes =
    is.form ∙ ap chained_bytes spec ∙ sym is_too.form in
    let listed : map (entry_under s Prime) one.named.file.rows ≡ map (entry_under s Prime) two.named.file.rows =
    sym is.rows
    ∙ ap (λ (t : TreeLevels). t.entries)
    (one_planted m.pages one.prime two.prime small grows grows_too layout root form)
    ∙ is_too.rows ∙ ap (λ (x : Spec). map (entry_under x Prime) two.named.file.rows) (sym spec) in
    let rows : one.named.file.rows ≡ two.named.file.rows = one_rows_most one.named.file two.named.file named.file
    named_too.file (sym spec) (omega arith) (omega arith) listed in
    ap (λ n. named_with n s one.named.file.rows one.named.file.next_arrival) name
    ∙ ap (λ x. named_with two.named.name x one.named.file.rows one.named.file.next_arrival) spec
    ∙ ap (λ r. named_with two.named.name t r one.named.file.next_arrival) rows
    ∙ ap (named_with two.named.name t two.named.file.rows) next

same_list : (m : Map) (ones twos : List FileTrees) → m.generation ≤ 2 ^ 63 → length m.pages ≤ 2 ^ 20
    → All (IsKept m.generation) ones → All (IsKept m.generation) twos →
    All (IsTreeIn m.pages) (flat_map trees_of ones) → All (IsTreeIn m.pages) (flat_map trees_of twos)
    → AllByRecursion IsNamed (map (λ (k : FileTrees). k.named) ones)
    → AllByRecursion IsNamed (map (λ (k : FileTrees). k.named) twos) →
    map (catalog_entry m.mark) ones ≡ map (catalog_entry m.mark) twos
    → map (λ (k : FileTrees). k.named) ones ≡ map (λ (k : FileTrees). k.named) twos
same_list m [] [] few small is is_too grow grow_too named named_too same = refl
same_list m [] (two ∷ twos) few small is is_too grow grow_too named named_too same = cc
same_list m (one ∷ ones) [] few small is is_too grow grow_too named named_too same = cc
same_list m (one ∷ ones) (two ∷ twos) few small is is_too grow grow_too named named_too same =
    let head : catalog_entry m.mark one ≡ catalog_entry m.mark two = cc in
    let tail : map (catalog_entry m.mark) ones ≡ map (catalog_entry m.mark) twos = cc in
    let first = same_named m one two few small (All-head (IsKept m.generation) one ones is)
    (All-head (IsKept m.generation) two twos is_too)
    (All-head (IsTreeIn m.pages) one.prime (one.alternates ++ flat_map trees_of ones) grow) (All-head (IsTreeIn m.pages)
    two.prime (two.alternates ++ flat_map trees_of twos) grow_too) named.0 named_too.0 head in
    let rest = same_list m ones twos few small (All-tail (IsKept m.generation) one ones is)
    (All-tail (IsKept m.generation) two twos is_too)
    (all_right (IsTreeIn m.pages) (trees_of one) (flat_map trees_of ones) grow)
    (all_right (IsTreeIn m.pages) (trees_of two) (flat_map trees_of twos) grow_too) named.1 named_too.1 tail in
    ap (λ (n : NamedFile). n ∷ map (λ (k : FileTrees). k.named) ones) first ∙ ap (λ (l : Files). two.named ∷ l) rest

pub one_in_map_most : (m : Map) (one two : Files) → m.generation ≤ 2 ^ 63 → length m.pages ≤ 2 ^ 20 → MapHolds m one
    → MapHolds m two → one ≡ two
one_in_map_most m one two few small first second =
    let P : Files → Type 0 = λ files. AllByRecursion IsNamed files in
    let catalog = All-head (IsTreeIn m.pages) _ _ first.keeps.forest.grow in
    let catalog_too = All-head (IsTreeIn m.pages) _ _ second.keeps.forest.grow in
    let levels =
    one_tree (catalog_layout m.mark) m.pages m.catalog first.keeps.catalog second.keeps.catalog small catalog.stands
    catalog_too.stands in
    let entries : map (catalog_entry m.mark) first.kept ≡ map (catalog_entry m.mark) second.kept =
    sym first.keeps.listed ∙ ap (entries_of (catalog_layout m.mark)) levels ∙ second.keeps.listed in
    sym first.named
    ∙ same_list m first.kept second.kept few small first.keeps.each second.keeps.each
    (All-tail (IsTreeIn m.pages) _ _ first.keeps.forest.grow) (All-tail (IsTreeIn m.pages) _ _ second.keeps.forest.grow)
    (subst P (sym first.named) first.are.each) (subst P (sym second.named) second.are.each) entries
    ∙ second.named

pub one_in_map : (m : Map) (one two : Files) → m.generation < 2 ^ 63 → length m.pages ≤ 2 ^ 20 → MapHolds m one
    → MapHolds m two → one ≡ two
one_in_map m one two few small first second = one_in_map_most m one two (omega arith) small first second

pub one_files : (image : List Sector) (one two : Files) → Holds image one → Holds image two → one ≡ two
one_files image one two first second =
    let same : second.0 ≡ first.0 = one_map image second.0 first.0 second.1 first.1 in
    let bounds = map_bounds image first.0 first.1 in
    let small = bounds.1 in
    one_in_map first.0 one two bounds.0 (omega (arith, small)) first.2
    (subst (λ (m : Map). MapHolds m two) same second.2)
