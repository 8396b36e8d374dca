-- The tree of rows that was found, with the chains of its records.
use Rattle.std.proofs.Common.{◌≡◌, ◌<◌, ◌++◌, ℕ, Bool, true, false, List, map, refl, sym, subst}
use Rattle.std.specs.Prelude.{Option, slice_index_or}
use Rattle.std.proofs.lemmas.List.Elements.{All-append}
use Rattle.station.specs.Disk.{Sector}
use Rattle.btree_pages.specs.Keys.{Ascend}
use Rattle.btree.specs.Entries.{Entry, entries_of}
use Rattle.btree.specs.Laws.{keys_listed}
use Rattle.btree.specs.Rooted.{RootedTree}
use Rattle.btree.specs.Tree.{TreeNode, IsTreeOrEmpty, pages_of}
use Rattle.btree.proofs.Stays.{holds_there}
use Rattle.btree.proofs.There.{tree_ascends}
use Rattle.btree_check.specs.Walks.{IsUnmarked, CanMark, Marks}
use Rattle.btree_check.proofs.Marking.{marks_append}
use Rattle.chains.specs.Rows.{chains_of, unrolled_entry}
use Rattle.records.specs.declared.key.KeyOfReference.TheVariants.{Prime}
use Rattle.records.specs.Rows.{Row}
use Rattle.records.specs.Spec.{Spec}
use Rattle.volume_format.specs.Chained.{chained_bytes}
use Rattle.volume_format.specs.Forest.{TreeLevels, IsTreeIn, pages_under}
use Rattle.volume_format.specs.Trees.{entry_under}
use Rattle.volume_format.proofs.Forests.{all_left, all_right, swapped, once_swapped}
use Rattle.volume_format.proofs.Whole.{same_keys}
use Rattle.file_recovery.specs.Rows.{form_under, FindsRows}

-- two lists of pages may be marked in either order
pub can_swapped : (seen : List Bool) (one two : List ℕ) → CanMark seen (one ++ two) → CanMark seen (two ++ one)
can_swapped seen one two can = record {
  some = All-append (λ page. 0 < page) two one (all_right (λ page. 0 < page) one two can.some)
      (all_left (λ page. 0 < page) one two can.some);
  unmarked = All-append (IsUnmarked seen) two one (all_right (IsUnmarked seen) one two can.unmarked)
      (all_left (IsUnmarked seen) one two can.unmarked);
  once = once_swapped one two can.once;
}

pub marks_swapped : (old new : List Bool) (one two : List ℕ) → Marks old (one ++ two) new → Marks old (two ++ one) new
marks_swapped old new one two marks =
    let P : ℕ → Type 0 = λ page. slice_index_or new page false ≡ true in
    record {
      can = can_swapped old one two marks.can;
      count = marks.count;
      marked = All-append P two one (all_right P one two marks.marked) (all_left P one two marks.marked);
      others = λ page out. marks.others page (λ has. out (swapped one two page has));
    }

-- a tree of rows in this map
abbrev pub planted_rows : Spec → List (Option Sector) → RootedTree → List (List TreeNode) → TreeLevels
planted_rows spec pages tree levels = record {
  tree = tree;
  levels = levels;
  record_bytes = chained_bytes spec;
  chains = chains_of (form_under spec) pages (entries_of tree.layout levels);
  entries = map (unrolled_entry (form_under spec) pages) (entries_of tree.layout levels);
}

-- a tree and its rows were found, and exactly their pages were marked
pub record FindsRowTree (spec : Spec) (pages : List (Option Sector)) (tree : RootedTree) (levels : List (List TreeNode))
    (rows : List Row) (old mid new : List Bool) : Type 0 where
  pub stands : IsTreeOrEmpty tree.layout pages tree.root levels
  pub marks : Marks old (pages_of levels) mid
  pub listed : FindsRows spec pages (entries_of tree.layout levels) rows mid new

module _ (spec : Spec) (pages : List (Option Sector)) (tree : RootedTree) (levels : List (List TreeNode))
    (rows : List Row) (old mid new : List Bool) (found : FindsRowTree spec pages tree levels rows old mid new) where
  marks_both : Marks old (pages_of levels ++ (planted_rows spec pages tree levels).chains) new
  marks_both = marks_append old mid new (pages_of levels) (planted_rows spec pages tree levels).chains found.marks
      found.listed.marks

  pub planted_marks : Marks old (pages_under (planted_rows spec pages tree levels)) new
  planted_marks = marks_swapped old new (pages_of levels) (planted_rows spec pages tree levels).chains marks_both

  pub planted_grows : IsTreeIn pages (planted_rows spec pages tree levels)
  planted_grows = record {
    stands = found.stands;
    chained = record {
      stand = found.listed.stand;
      once = marks_both.can.once;
      there = λ page has free. holds_there tree.layout pages tree.root levels page found.stands has free;
    };
    chains_are = refl;
    entries_are = refl;
  }

  pub rows_up : Ascend (keys_listed (map (entry_under spec Prime) rows))
  rows_up =
      subst (λ (l : List Entry). Ascend (keys_listed l)) found.listed.are
      (subst Ascend (sym (same_keys pages (planted_rows spec pages tree levels) planted_grows))
      (tree_ascends tree.layout pages tree.root levels found.stands))
