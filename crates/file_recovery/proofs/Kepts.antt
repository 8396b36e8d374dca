-- A file with its trees, by its entry in the catalog without the number of rows.
use Rattle.std.proofs.Common.{◌≡◌, ◌≤◌, ◌<◌, ◌^◌, ⊎_elim, ℕ, Bool, zero, suc, List, [], ◌∷◌, length, take, drop, refl}
use Rattle.std.proofs.Common.{sym, ap, subst, ◌∙◌, arith}
use Rattle.std.specs.Prelude.{map, Option, slice_index_or}
use Rattle.std.specs.List.{All, AllByRecursion}
use Rattle.std.proofs.lemmas.List.{length-map, length-append, get_or-map, get_or_append_left, get_or_push, same_lists}
use Rattle.std.proofs.lemmas.Bool.{cases_lt}
use Rattle.std.proofs.lemmas.List.Elements.{All-head, All-tail, All-from_recursion}
use Rattle.byteorder.specs.Endian.{big_number}
use Rattle.station.specs.Disk.{Sector}
use Rattle.btree_pages.specs.declared.row_layout.RowLayout.{RowLayout}
use Rattle.btree.specs.Entries.{Entry, entries_of}
use Rattle.btree_check.specs.Walks.{Marks}
use Rattle.chains.specs.Rows.{HasChain, chains_of, unrolled_entry}
use Rattle.records.specs.declared.key.KeyOfReference.TheVariants.{Prime}
use Rattle.records.specs.Spec.{Spec}
use Rattle.records.specs.Rows.{Row}
use Rattle.records.specs.Files.{File, NamedFile, IsRow, IsNamed}
use Rattle.records.specs.Laws.{RowsAscend}
use Rattle.volume_format.specs.Catalog.{Listing, IsListing, listing_bytes}
use Rattle.volume_format.specs.Chained.{chained_bytes, form_of}
use Rattle.file_bytes.specs.Description.{padded_name}
use Rattle.volume_format.specs.Forest.{TreeLevels, IsTreeIn, pages_under, pages_within}
use Rattle.volume_format.specs.Trees.{entry_under, layout_under}
use Rattle.volume_format.specs.Volume.{FileTrees, IsKept, no_tree, trees_of, listing_of}
use Rattle.volume_format.proofs.Listings.{spec_read, prime_read, root_read, next_read}
use Rattle.file_bytes.proofs.Descriptions.{one_name, one_spec}
use Rattle.volume_format.proofs.Once.{one_rows_most}
use Rattle.volume_format.proofs.Roots.{root_small}
use Rattle.file_recovery.specs.Found.{root_at, HasIndex, AreIndexes, FindsIndexes}
use Rattle.file_recovery.specs.Kept.{IsCatalogFile, FindsFile}
use Rattle.file_recovery.specs.Read.{roots_in, listing_in}
use Rattle.file_recovery.specs.Rows.{IsSized, form_under}
use Rattle.file_recovery.proofs.Headings.{IsHeading}
use Rattle.btree_check.proofs.Marking.{marks_append}
use Rattle.volume_format.proofs.OneTree.{one_planted}

-- the rows of a file have the lengths that its spec tells
pub rows_sized : (spec : Spec) (next : ℕ) (rows : List Row) → AllByRecursion (IsRow spec next) rows
    → All (IsSized spec) rows
rows_sized spec next rows are = λ k d low. let is =
    All-from_recursion (IsRow spec next) rows are k d low in (is.long, is.arrivals)

-- what the catalog says of a file whose trees are in the map
listing_fits : (pages : List (Option Sector)) (generation : ℕ) (kept : FileTrees) → length pages ≤ 2 ^ 20
    → generation < 2 ^ 63 → IsKept generation kept → IsNamed kept.named → All (IsTreeIn pages) (trees_of kept)
    → IsListing (listing_of kept)
listing_fits pages generation kept small few is named grow =
    let arrivals = is.arrivals in
    let grows : All (IsTreeIn pages) kept.alternates = All-tail (IsTreeIn pages) kept.prime kept.alternates grow in
    record {
      spec = named.file.spec;
      prime = root_small pages kept.prime small (All-head (IsTreeIn pages) kept.prime kept.alternates grow);
      alternates = λ k d low.
          let many = length-map kept.alternates (λ (tree : TreeLevels). tree.tree.root) in
          let within : k < length kept.alternates = omega (arith, low, many) in
          let own : TreeLevels = slice_index_or kept.alternates k no_tree in
          subst (λ (n : ℕ). n < 2 ^ 32)
          (sym (get_or-map (λ (tree : TreeLevels). tree.tree.root) kept.alternates k no_tree d within))
          (root_small pages own small (grows k no_tree within));
      count = length-map kept.alternates (λ (tree : TreeLevels). tree.tree.root) ∙ is.count;
      next_arrival = omega (arith, arrivals, few);
    }

roots_long : (k : ℕ) (value : List ℕ) → length (roots_in k value) ≡ k
roots_long zero value = refl
roots_long (suc k) value =
    let was = roots_long k value in
    let more = length-append (roots_in k value) (root_at value k ∷ []) in
    omega (arith, was, more)

-- a root at its place
roots_at : (n k : ℕ) (value : List ℕ) (d : ℕ) → k < n → slice_index_or (roots_in n value) k d ≡ root_at value k
roots_at zero k value d low = absurd (omega (arith, low))
roots_at (suc n) k value d low =
    let long = roots_long n value in
    ⊎_elim
    (λ (less : k < n). get_or_append_left (roots_in n value) (root_at value n ∷ []) d k (omega (arith, less, long))
    ∙ roots_at n k value d less)
    (λ (least : n ≤ k). let same : n ≡ k =
    omega (arith, least, low) in subst (λ (j : ℕ). slice_index_or (roots_in (suc n) value) j d ≡ root_at value j)
    same (get_or_push (roots_in n value) (root_at value n) d n long))
    (cases_lt k n)

-- trees with these roots
roots_are : (trees : List TreeLevels) (n : ℕ) (value : List ℕ)
    → length trees ≡ n → ((i : ℕ) → i < n → (slice_index_or trees i no_tree).tree.root ≡ root_at value i)
    → map (λ (tree : TreeLevels). tree.tree.root) trees ≡ roots_in n value
roots_are trees n value many rooted =
    let long = length-map trees (λ (tree : TreeLevels). tree.tree.root) in
    let short = roots_long n value in
    same_lists (map (λ (tree : TreeLevels). tree.tree.root) trees) (roots_in n value) (omega (arith, many, long, short))
    (λ k d low.
    let within : k < length trees = omega (arith, low, long) in
    let below : k < n = omega (arith, within, many) in
    get_or-map (λ (tree : TreeLevels). tree.tree.root) trees k no_tree d within ∙ rooted k below
    ∙ sym (roots_at n k value d below))

entry_with : List ℕ → List ℕ → Entry
entry_with key value = record { key = key; value = value }

listing_with : Spec → ℕ → List ℕ → ℕ → Listing
listing_with spec prime alternates next =
    record { spec = spec; prime = prime; alternates = alternates; next_arrival = next }

-- what was read is a file with its trees
module _ (pages : List (Option Sector)) (generation : ℕ) (entry : Entry) (name : List ℕ) (spec : Spec) (rows : List Row)
    (next : ℕ) (prime : TreeLevels) (old mid new : List Bool) where
  pub finds_file : IsHeading generation entry name spec next → prime.tree.layout ≡ layout_under spec Prime
      → prime.tree.root ≡ big_number 4 (drop 43 entry.value) → prime.record_bytes ≡ chained_bytes spec
      → IsTreeIn pages prime → Marks old (pages_under prime) mid → prime.entries ≡ map (entry_under spec Prime) rows
      → AllByRecursion (IsRow spec next) rows → RowsAscend spec.organization rows
      → FindsIndexes pages spec rows entry.value (length spec.alternates) mid new →
      FindsFile 0 pages generation entry
      (record { name = name; file = record { spec = spec; rows = rows; next_arrival = next } }) old new
  unfolding listing_with entry_with
  finds_file heading layout root form grows marks listed are ascend indexes =
      let one : NamedFile = record { name = name; file = record { spec = spec; rows = rows; next_arrival = next } } in
      let kept : FileTrees = record { named = one; prime = prime; alternates = indexes.trees } in
      let roots = roots_are indexes.trees (length spec.alternates) entry.value indexes.are.many indexes.are.rooted in
      let listing : listing_of kept ≡ listing_in spec entry.value =
      ap (λ n. listing_with spec n (map (λ (tree : TreeLevels). tree.tree.root) indexes.trees) next) root
      ∙ ap (λ l. listing_with spec (big_number 4 (drop 43 entry.value)) l next) roots
      ∙ ap (listing_with spec (big_number 4 (drop 43 entry.value)) (roots_in (length spec.alternates) entry.value))
      heading.next_is in
      record {
        kept = kept;
        found = record {
          is = record {
            layout = layout;
            form = form;
            rows = listed;
            count = indexes.are.many;
            indexes = λ i low. let has = indexes.are.each i low in record {
              layout = has.layout;
              whole = has.whole;
              pairs = has.pairs;
            };
            arrivals = heading.few;
          };
          named = record {
            name = heading.name_is;
            file = record { spec = heading.spec_is; next = heading.some; ascend = ascend; rows = are };
          };
          grow = λ k d low. grow_at k d low;
          listed = ap (λ k. entry_with k (listing_bytes (listing_of kept))) (sym heading.key_is)
              ∙ ap (entry_with entry.key) (ap listing_bytes listing ∙ sym heading.value_is);
        };
        is = refl;
        marks = marks_append old mid new (pages_under prime) (pages_within indexes.trees) marks indexes.marks;
      }
    where
      grow_at : (k : ℕ) (d : TreeLevels) → k < length (prime ∷ indexes.trees)
          → IsTreeIn pages (slice_index_or (prime ∷ indexes.trees) k d)
      grow_at zero d low = grows
      grow_at (suc k) d low = indexes.are.grow k d (omega (arith, low))

-- a file with its trees that the entry tells of is what is read
module _ (pages : List (Option Sector)) (generation : ℕ) (entry : Entry) (kept : FileTrees) (small : length pages
    ≤ 2 ^ 20) (few : generation < 2 ^ 63) (found : IsCatalogFile 0 pages generation entry kept) where
  pub own_listing : IsListing (listing_of kept)
  own_listing = listing_fits pages generation kept small few found.is found.named found.grow

  pub own_prime : IsTreeIn pages kept.prime
  own_prime = All-head (IsTreeIn pages) kept.prime kept.alternates found.grow

  pub own_key : entry.key ≡ padded_name kept.named.name
  own_key = sym (ap (λ (e : Entry). e.key) found.listed)

  pub own_value : entry.value ≡ listing_bytes (listing_of kept)
  own_value = sym (ap (λ (e : Entry). e.value) found.listed)

  pub own_next : kept.named.file.next_arrival ≡ big_number 8 (drop 75 entry.value)
  own_next = sym (ap (λ (v : List ℕ). big_number 8 (drop 75 v)) own_value
      ∙ next_read (listing_of kept) own_listing.spec own_listing.count own_listing.next_arrival)

  pub own_root : kept.prime.tree.root ≡ big_number 4 (drop 43 entry.value)
  own_root = sym (ap (λ (v : List ℕ). big_number 4 (drop 43 v)) own_value
      ∙ prime_read (listing_of kept) own_listing.spec own_listing.prime)

  pub own_roots : (i : ℕ) → i < length kept.alternates
      → (slice_index_or kept.alternates i no_tree).tree.root ≡ root_at entry.value i
  own_roots i low =
      let many = length-map kept.alternates (λ (tree : TreeLevels). tree.tree.root) in
      sym
      (ap (λ (v : List ℕ). root_at v i) own_value
      ∙ root_read (listing_of kept) i own_listing.spec own_listing.alternates (omega (arith, low, many))
      ∙ get_or-map (λ (tree : TreeLevels). tree.tree.root) kept.alternates i no_tree 0 low)

  module _ (name : List ℕ) (spec : Spec) (next : ℕ) (heading : IsHeading generation entry name spec next) where
    pub same_name : kept.named.name ≡ name
    same_name = one_name kept.named.name name found.named.name heading.name_is (sym own_key ∙ heading.key_is)

    pub same_spec : kept.named.file.spec ≡ spec
    same_spec =
        one_spec kept.named.file.spec spec found.named.file.spec heading.spec_is
        (sym (spec_read (listing_of kept) found.named.file.spec) ∙ ap (take 43) (sym own_value ∙ heading.value_is)
        ∙ spec_read (listing_in spec entry.value) heading.spec_is)

    pub same_next : next ≡ kept.named.file.next_arrival
    same_next = heading.next_is ∙ sym own_next

    pub prime_layout_is : kept.prime.tree.layout ≡ layout_under spec Prime
    prime_layout_is = found.is.layout ∙ ap (λ (s : Spec). layout_under s Prime) same_spec

    pub own_rows : AllByRecursion (IsRow spec next) kept.named.file.rows
    own_rows =
        subst (λ (n : ℕ). AllByRecursion (IsRow spec n) kept.named.file.rows) (sym same_next)
        (subst (λ (s : Spec). AllByRecursion (IsRow s kept.named.file.next_arrival) kept.named.file.rows) same_spec
        found.named.file.rows)

    pub own_entries : kept.prime.entries ≡ map (entry_under spec Prime) kept.named.file.rows
    own_entries = found.is.rows ∙ ap (λ (s : Spec). map (entry_under s Prime) kept.named.file.rows) same_spec

    pub own_form : kept.prime.record_bytes ≡ chained_bytes spec
    own_form = found.is.form ∙ ap chained_bytes same_spec

    -- the entries on the pages, in the words of the entry
    module _ (layout : RowLayout) (layout_is : layout ≡ layout_under spec Prime) where
      stored : entries_of kept.prime.tree.layout kept.prime.levels ≡ entries_of layout kept.prime.levels
      stored = ap (λ (l : RowLayout). entries_of l kept.prime.levels) (prime_layout_is ∙ sym layout_is)

      pub own_chains : kept.prime.chains ≡ chains_of (form_under spec) pages (entries_of layout kept.prime.levels)
      own_chains = own_prime.chains_are
          ∙ ap (λ (n : ℕ). chains_of (form_of n) pages (entries_of kept.prime.tree.layout kept.prime.levels)) own_form
          ∙ ap (chains_of (form_under spec) pages) stored

      pub own_stand : All (HasChain (form_under spec) pages) (entries_of layout kept.prime.levels)
      own_stand = subst (λ (l : List Entry). All (HasChain (form_under spec) pages) l) stored
          (subst (λ (n : ℕ).
          All (HasChain (form_of n) pages) (entries_of kept.prime.tree.layout kept.prime.levels)) own_form
          own_prime.chained.stand)

      pub own_seen : map (unrolled_entry (form_under spec) pages) (entries_of layout kept.prime.levels)
          ≡ map (entry_under spec Prime) kept.named.file.rows
      own_seen = sym (own_prime.entries_are
          ∙ ap (λ (n : ℕ).
          map (unrolled_entry (form_of n) pages) (entries_of kept.prime.tree.layout kept.prime.levels)) own_form
          ∙ ap (map (unrolled_entry (form_under spec) pages)) stored) ∙ own_entries

    pub same_prime : (prime : TreeLevels) → prime.tree.layout ≡ layout_under spec Prime
        → prime.tree.root ≡ big_number 4 (drop 43 entry.value) → prime.record_bytes ≡ chained_bytes spec
        → IsTreeIn pages prime → prime ≡ kept.prime
    same_prime prime layout root form grows =
        one_planted pages prime kept.prime small grows own_prime (layout ∙ sym prime_layout_is) (root ∙ sym own_root)
        (form ∙ sym own_form)

    pub same_rows : (prime : TreeLevels) (rows : List Row) → prime ≡ kept.prime
        → prime.entries ≡ map (entry_under spec Prime) rows → AllByRecursion (IsRow spec next) rows
        → RowsAscend spec.organization rows → rows ≡ kept.named.file.rows
    same_rows prime rows same listed are ascend =
        let file : File = record { spec = spec; rows = rows; next_arrival = next } in
        let low = found.is.arrivals in
        let equal = same_next in
        one_rows_most file kept.named.file
        (record { spec = heading.spec_is; next = heading.some; ascend = ascend; rows = are }) found.named.file same_spec
        (omega (arith, low, few, equal)) (omega (arith, low, few))
        (sym listed ∙ ap (λ (t : TreeLevels). t.entries) same ∙ own_entries)

    pub own_indexes : (rows : List Row) → rows ≡ kept.named.file.rows
        → AreIndexes pages spec rows entry.value (length spec.alternates) kept.alternates
    own_indexes rows same =
        let many : length kept.alternates ≡ length spec.alternates =
        found.is.count ∙ ap (λ (s : Spec). length s.alternates) same_spec in
        let count = found.is.count in
        record {
          many = many;
          each = λ i low.
              let has = found.is.indexes i (omega (arith, low, many, count)) in
              subst (λ (r : List Row). HasIndex spec r i (slice_index_or kept.alternates i no_tree)) (sym same)
              (subst (λ (s : Spec). HasIndex s kept.named.file.rows i (slice_index_or kept.alternates i no_tree))
              same_spec (record { layout = has.layout; whole = has.whole; pairs = has.pairs }));
          rooted = λ i low. own_roots i (omega (arith, low, many));
          grow = All-tail (IsTreeIn pages) kept.prime kept.alternates found.grow;
        }
