-- A tree without chains: its entries have their records themselves.
use Rattle.std.proofs.Common.{◌≡◌, ◌++◌, ℕ, List, [], ◌∷◌, length, map, refl, sym, ap, subst, ◌∙◌}
use Rattle.std.specs.Prelude.{Contains, Option}
use Rattle.std.specs.List.{All}
use Rattle.std.proofs.lemmas.List.{length-map}
use Rattle.std.proofs.lemmas.List.Elements.{All-nil, All-cons}
use Rattle.station.specs.Disk.{Sector}
use Rattle.btree.specs.Tree.{TreeNode, IsTreeOrEmpty, pages_of}
use Rattle.btree.specs.Moves.{Once}
use Rattle.btree.specs.Entries.{Entry, entries_of}
use Rattle.btree.specs.Laws.{keys_listed}
use Rattle.btree.specs.Rooted.{RootedTree}
use Rattle.btree.proofs.Runs.{in_none, once_append}
use Rattle.btree.proofs.Stays.{pages_once, holds_there}
use Rattle.chains.specs.Rows.{RowForm, HasChain, chains_of, unrolled_entry}
use Rattle.chains.proofs.Rows.{keys_kept}
use Rattle.volume_format.specs.Chained.{form_of}
use Rattle.volume_format.specs.Forest.{TreeLevels, IsTreeIn, tree_levels, stored_entries, pages_under}
use Rattle.volume_format.proofs.OneTree.{same_fields}

-- such entries have no chains, and are seen as they are
no_chains : (pages : List (Option Sector)) (entries : List Entry) → chains_of (form_of 0) pages entries ≡ []
no_chains pages [] = refl
no_chains pages (entry ∷ more) = no_chains pages more

seen_whole : (pages : List (Option Sector)) (entries : List Entry)
    → map (unrolled_entry (form_of 0) pages) entries ≡ entries
seen_whole pages [] = refl
seen_whole pages (entry ∷ more) = ap (λ (l : List Entry). entry ∷ l) (seen_whole pages more)

stand_whole : (pages : List (Option Sector)) (entries : List Entry) → All (HasChain (form_of 0) pages) entries
stand_whole pages [] = All-nil (HasChain (form_of 0) pages)
stand_whole pages (entry ∷ more) = All-cons (HasChain (form_of 0) pages) entry more refl (stand_whole pages more)

-- a tree of btree is one without chains
pub whole_grows : (pages : List (Option Sector)) (tree : RootedTree) (levels : List (List TreeNode))
    → IsTreeOrEmpty tree.layout pages tree.root levels → IsTreeIn pages (tree_levels tree levels)
whole_grows pages tree levels stands =
    let entries = entries_of tree.layout levels in
    let none = no_chains pages entries in
    record {
      stands = stands;
      chained = record {
        stand = stand_whole pages entries;
        once = once_append (pages_of levels) (chains_of (form_of 0) pages entries)
            (pages_once tree.layout pages tree.root levels stands) (subst Once (sym none) tt)
            (λ page has chained. in_none page (subst (λ (l : List ℕ). Contains l page) none chained));
        there = λ page has free. holds_there tree.layout pages tree.root levels page stands has free;
      };
      chains_are = sym none;
      entries_are = sym (seen_whole pages entries);
    }

-- what a tree without chains is seen as, and its pages
pub whole_entries : (pages : List (Option Sector)) (planted : TreeLevels) → IsTreeIn pages planted
    → planted.record_bytes ≡ 0 → planted.entries ≡ stored_entries planted
whole_entries pages planted grows whole =
    grows.entries_are ∙ ap (λ (n : ℕ). map (unrolled_entry (form_of n) pages) (stored_entries planted)) whole
    ∙ seen_whole pages (stored_entries planted)

whole_chains : (pages : List (Option Sector)) (planted : TreeLevels) → IsTreeIn pages planted
    → planted.record_bytes ≡ 0 → planted.chains ≡ []
whole_chains pages planted grows whole =
    grows.chains_are ∙ ap (λ (n : ℕ). chains_of (form_of n) pages (stored_entries planted)) whole
    ∙ no_chains pages (stored_entries planted)

pub whole_pages : (pages : List (Option Sector)) (planted : TreeLevels) → IsTreeIn pages planted
    → planted.record_bytes ≡ 0 → pages_under planted ≡ pages_of planted.levels
whole_pages pages planted grows whole =
    ap (λ (l : List ℕ). l ++ pages_of planted.levels) (whole_chains pages planted grows whole)

pub whole_is : (pages : List (Option Sector)) (planted : TreeLevels) → IsTreeIn pages planted
    → planted.record_bytes ≡ 0 → planted ≡ tree_levels planted.tree planted.levels
whole_is pages planted grows whole = same_fields planted (tree_levels planted.tree planted.levels) refl refl whole
    (whole_chains pages planted grows whole) (whole_entries pages planted grows whole)

-- the entries of a tree, with chains or without, have the keys of its pages, and are as many
keys_as : (form : RowForm) (pages : List (Option Sector)) (entries : List Entry)
    → keys_listed (map (unrolled_entry form pages) entries) ≡ keys_listed entries
keys_as form pages [] = refl
keys_as form pages (entry ∷ more) =
    ap (λ (k : List ℕ). k ∷ keys_listed (map (unrolled_entry form pages) more)) (keys_kept form pages entry)
    ∙ ap (λ (l : List (List ℕ)). entry.key ∷ l) (keys_as form pages more)

pub same_keys : (pages : List (Option Sector)) (planted : TreeLevels) → IsTreeIn pages planted
    → keys_listed planted.entries ≡ keys_listed (stored_entries planted)
same_keys pages planted grows =
    ap keys_listed grows.entries_are ∙ keys_as (form_of planted.record_bytes) pages (stored_entries planted)

pub same_count : (pages : List (Option Sector)) (planted : TreeLevels) → IsTreeIn pages planted
    → length planted.entries ≡ length (stored_entries planted)
same_count pages planted grows = ap (λ (l : List Entry). length l) grows.entries_are
    ∙ length-map (stored_entries planted) (unrolled_entry (form_of planted.record_bytes) pages)
