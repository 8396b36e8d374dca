-- One entry of the catalog tells of one list of trees. It is seen without its number of rows.
use Rattle.std.proofs.Common.{◌≡◌, ◌≤◌, ◌<◌, ◌+◌, ◌*◌, ◌^◌, ℕ, List, ◌∷◌, length, take, drop, sym, ap, ◌∙◌, arith}
use Rattle.std.specs.Prelude.{map, Option, slice_index_or}
use Rattle.std.specs.List.{All}
use Rattle.std.proofs.lemmas.List.{length-map, get_or-map, get_or_default, same_lists}
use Rattle.std.proofs.lemmas.List.Elements.{All-head, All-tail, All-map}
use Rattle.byteorder.specs.Endian.{big_number}
use Rattle.station.specs.Disk.{Sector}
use Rattle.btree.specs.Entries.{Entry}
use Rattle.records.specs.declared.key.KeyOfReference.TheVariants.{Prime, Alternate}
use Rattle.records.specs.Spec.{Spec}
use Rattle.volume_format.specs.Catalog.{listing_bytes}
use Rattle.volume_format.specs.Chained.{chained_bytes}
use Rattle.volume_format.specs.Forest.{TreeLevels, IsTreeIn}
use Rattle.volume_format.specs.Trees.{layout_under}
use Rattle.volume_format.specs.Volume.{FileTrees, no_tree, trees_of, listing_of}
use Rattle.volume_format.proofs.Listings.{spec_read, prime_read, root_read}
use Rattle.volume_format.proofs.Roots.{root_small}
use Rattle.file_bytes.proofs.Descriptions.{one_spec}
use Rattle.file_recovery.specs.Kept.{IsCatalogFile}
use Rattle.volume_format.proofs.OneTree.{one_planted}

module _ (pages : List (Option Sector)) (generation : ℕ) (entry : Entry) (small : length pages ≤ 2 ^ 20) where
  -- the root of an alternate key's tree is the one that the entry names
  root_named : (kept : FileTrees) (i : ℕ)
      → IsCatalogFile 0 pages generation entry kept → i < length kept.alternates → big_number 4
      (drop (47 + 4 * i) (listing_bytes (listing_of kept))) ≡ (slice_index_or kept.alternates i no_tree).tree.root
  root_named kept i found low =
      let grow : All (IsTreeIn pages) kept.alternates =
      All-tail (IsTreeIn pages) kept.prime kept.alternates found.grow in
      let lows : All (λ (page : ℕ). page < 2 ^ 32) (map (λ (tree : TreeLevels). tree.tree.root) kept.alternates) =
      All-map (λ (page : ℕ). page < 2 ^ 32) (λ (tree : TreeLevels). tree.tree.root) kept.alternates
      (λ k d within. root_small pages (slice_index_or kept.alternates k d) small (grow k d within)) in
      let many = length-map kept.alternates (λ (tree : TreeLevels). tree.tree.root) in
      root_read (listing_of kept) i found.named.file.spec lows (omega (arith, low, many))
      ∙ get_or-map (λ (tree : TreeLevels). tree.tree.root) kept.alternates i no_tree 0 low

  module _ (one two : FileTrees) (found : IsCatalogFile 0 pages generation entry one)
      (found_too : IsCatalogFile 0 pages generation entry two) where
    same_bytes : listing_bytes (listing_of one) ≡ listing_bytes (listing_of two)
    same_bytes = ap (λ (e : Entry). e.value) (found.listed ∙ sym found_too.listed)

    same_spec : one.named.file.spec ≡ two.named.file.spec
    same_spec =
        one_spec one.named.file.spec two.named.file.spec found.named.file.spec found_too.named.file.spec
        (sym (spec_read (listing_of one) found.named.file.spec) ∙ ap (take 43) same_bytes
        ∙ spec_read (listing_of two) found_too.named.file.spec)

    same_prime : one.prime ≡ two.prime
    same_prime =
        let grows = All-head (IsTreeIn pages) one.prime one.alternates found.grow in
        let grows_too = All-head (IsTreeIn pages) two.prime two.alternates found_too.grow in
        let root : one.prime.tree.root ≡ two.prime.tree.root =
        sym (prime_read (listing_of one) found.named.file.spec (root_small pages one.prime small grows))
        ∙ ap (λ (b : List ℕ). big_number 4 (drop 43 b)) same_bytes
        ∙ prime_read (listing_of two) found_too.named.file.spec (root_small pages two.prime small grows_too) in
        one_planted pages one.prime two.prime small grows grows_too
        (found.is.layout ∙ ap (λ (s : Spec). layout_under s Prime) same_spec ∙ sym found_too.is.layout) root
        (found.is.form ∙ ap chained_bytes same_spec ∙ sym found_too.is.form)

    same_many : length one.alternates ≡ length two.alternates
    same_many = found.is.count ∙ ap (λ (s : Spec). length s.alternates) same_spec ∙ sym found_too.is.count

    same_alternate : (i : ℕ) → i < length one.alternates
        → slice_index_or one.alternates i no_tree ≡ slice_index_or two.alternates i no_tree
    same_alternate i low =
        let count = found.is.count in
        let count_too = found_too.is.count in
        let many = same_many in
        let low_too : i < length two.alternates = omega (arith, low, many) in
        let is = found.is.indexes i (omega (arith, low, count)) in
        let is_too = found_too.is.indexes i (omega (arith, low_too, count_too)) in
        let root = sym (root_named one i found low) ∙ ap (λ (b : List ℕ). big_number 4 (drop (47 + 4 * i) b)) same_bytes
        ∙ root_named two i found_too low_too in
        one_planted pages (slice_index_or one.alternates i no_tree) (slice_index_or two.alternates i no_tree) small
        (All-tail (IsTreeIn pages) one.prime one.alternates found.grow i no_tree low)
        (All-tail (IsTreeIn pages) two.prime two.alternates found_too.grow i no_tree low_too)
        (is.layout ∙ ap (λ (s : Spec). layout_under s (Alternate i)) same_spec ∙ sym is_too.layout) root
        (is.whole ∙ sym is_too.whole)

    same_alternates : one.alternates ≡ two.alternates
    same_alternates =
        let many = same_many in
        same_lists one.alternates two.alternates many
        (λ k d low.
        get_or_default one.alternates k d no_tree low ∙ same_alternate k low
        ∙ get_or_default two.alternates k no_tree d (omega (arith, low, many)))

    pub one_list_of_trees : trees_of one ≡ trees_of two
    one_list_of_trees = ap (λ (tree : TreeLevels). tree ∷ one.alternates) same_prime
        ∙ ap (λ (l : List TreeLevels). two.prime ∷ l) same_alternates
