-- Where INSPECT keeps its rules, its inspection has its texts within those that are taken.
use Rattle.std.proofs.Common.{◌≡◌, ℕ, ◌≤◌, List, [], Some, arith}
use Rattle.std.specs.Prelude.{slice_get}
use Rattle.source_tree.specs.declared.inspect_statement.InspectStatement.{InspectStatement}
use Rattle.source_tree.specs.Places.{LocatedItem}
use Rattle.source_tree.specs.InspectRules.{inspect_rules}
use Rattle.source_tree.specs.InspectLayout.{all_tallied}
use Rattle.source_tree.proofs.InspectKept.{inspection_within}
use Rattle.data_instructions.specs.Tables.{IsInspection}
use Rattle.statement_codegen.specs.InspectCode.{inspection_entry}
use Rattle.statement_codegen.proofs.InspectLists.{total_counts, so_many}

-- each item has a byte or more
abbrev pub AreSized : List LocatedItem → Type 0
AreSized items = (n : ℕ) (one : LocatedItem) → slice_get items n ≡ Some one → 1 ≤ one.item.length

module _ (items : List LocatedItem) (sized : AreSized items) where
  pub is_inspection : (one : InspectStatement) → inspect_rules items one ≡ []
      → IsInspection (inspection_entry items one)
  is_inspection one e =
      let within = inspection_within items sized one e in
      record {
        tallying = within.tallying;
        replacing = within.replacing;
        counters = omega (arith, total_counts one.tallying, so_many items 0 (all_tallied items one));
      }
