-- A full page gives rows to a new one, and both are written.
use Rattle.std.proofs.Common.{◌≡◌, ◌≤◌, ◌<◌, ◌++◌, ◌∷◌, [], ℕ, List, length, set, ap, ◌∙◌}
use Rattle.std.specs.Prelude.{Option, Some, None, slice_index_or}
use Rattle.std.specs.List.{insert}
use Rattle.station.specs.Disk.{Sector}
use Rattle.btree_pages.specs.Node.{Node, node_in}
use Rattle.btree_pages.specs.RowLayouts.{rest_length}
use Rattle.btree.specs.Changes.{CanTake}
use Rattle.btree.specs.Moves.{ReplacesNodes}
use Rattle.btree.specs.Nodes.{SameNode}
use Rattle.btree.specs.Propagates.{node_with}
use Rattle.btree.specs.Tree.{fewest}
use Rattle.btree.proofs.Writes.{is_low, spells_left, spells_right, write_two}

pub puts_two : (old allocated edited after : List (Option Sector)) (page new place : ℕ)
    (zeros lower upper key rest : List ℕ) (node left right : Node)
    → CanTake old page node → allocated ≡ set old new (Some zeros) → edited ≡ set allocated page (Some lower)
    → after ≡ set edited new (Some upper) → new < length old → 0 < new → slice_index_or old new None ≡ None
    → left.rows ++ right.rows ≡ insert node.rows place (key ++ rest) → length key ≡ node.layout.key_length
    → length rest ≡ rest_length node.layout node.kind
    → SameNode node left → fewest node.kind ≤ length left.rows → node_in left.layout lower ≡ Some left
    → SameNode node right → fewest node.kind ≤ length right.rows → node_in right.layout upper ≡ Some right
    → ReplacesNodes node.layout node.kind old (node_with page node.rows ∷ []) after
    (node_with page left.rows ∷ node_with new right.rows ∷ [])
puts_two old allocated edited after page new place zeros lower upper key rest node left right can first second third
    low some none rows key_is rest_is left_same left_enough left_reads right_same right_enough right_reads =
    write_two node.layout node.kind old after page new lower upper node.rows left.rows right.rows
    (record {
      zeros = zeros;
      is = third ∙ ap (λ (l : List (Option Sector)). set l new (Some upper))
          (second ∙ ap (λ (l : List (Option Sector)). set l page (Some lower)) first);
      page_low = is_low old page can.is_in;
      new_low = low;
      some = some;
      there = can.is_in;
      none = none;
    })
    (spells_left old page node left right place key rest lower can rows key_is rest_is left_same left_enough left_reads)
    (spells_right old page node left right place key rest upper can rows key_is rest_is right_same right_enough
    right_reads)
