-- An entry comes to a leaf after its first row, and the tree has one entry more.
use Rattle.std.proofs.Common.{◌≡◌, ℕ, List, [], ◌∷◌, ◌++◌, length, refl, sym, ◌∙◌, ap, subst}
use Rattle.std.specs.Prelude.{Option, Some, None}
use Rattle.std.specs.List.{insert}
use Rattle.std.proofs.lemmas.List.{append-nil}
use Rattle.station.specs.Disk.{Sector}
use Rattle.btree_pages.specs.declared.row_layout.RowLayout.{RowLayout}
use Rattle.btree_pages.specs.declared.row_layout.Kind.{Kind}
use Rattle.btree_pages.specs.declared.row_layout.Kind.TheVariants.{Leaf}
use Rattle.btree_pages.specs.RowLayouts.{rest_length}
use Rattle.btree_pages.specs.Node.{Node, node_in}
use Rattle.btree_pages.specs.Edits.{node_with_row}
use Rattle.btree.specs.declared.split_result.SplitResult.{SplitResult}
use Rattle.btree.specs.Tree.{TreeNode, IsTree, node_at, node_on, rows_of}
use Rattle.btree.specs.Path.{PathStep, EndsAt}
use Rattle.btree.specs.Steps.{LeadsTo}
use Rattle.btree.specs.Moves.{ReplacesNodes}
use Rattle.btree.specs.Propagates.{node_with, run_of}
use Rattle.btree.specs.Changes.{CanTake, InsertsIntoLeaf, Inserts}
use Rattle.btree.specs.Entering.{EntersOn}
use Rattle.btree.proofs.Descents.{rows_read}
use Rattle.btree.proofs.Searches.{FindsGap}
use Rattle.btree.proofs.Writes.{write_one, is_low, spells_inserted}
use Rattle.btree.proofs.Upward.{propagates_still}
use Rattle.btree.proofs.Settling.{settle_same}
use Rattle.btree.proofs.Entering.{LeafPut, leaf_put, enters_with, tells_none}
use Rattle.btree.proofs.Inserting.{came}

module _ (layout : RowLayout) (before after : List (Option Sector)) (page : ℕ) (key value : List ℕ)
    (on : EntersOn layout page key value before after) where
  abbrev node : Node
  node = on.enters.node

  abbrev place : ℕ
  place = on.enters.place

  abbrev made : Node
  made = node_with_row node place (key ++ value)

  -- the page without a new neighbour
  abbrev alone : SplitResult
  alone = record { page = page; left = made; right = None }

  seen : node_at layout before page ≡ Some node
  seen = ap (node_on layout) on.at ∙ on.enters.read

  rows_are : rows_of (run_of alone) ≡ insert node.rows place (key ++ value)
  rows_are = append-nil (insert node.rows place (key ++ value))

  row_put : length key ≡ layout.key_length → length value ≡ layout.value_length → CanTake before page node
      → ReplacesNodes node.layout node.kind before (node_with page node.rows ∷ []) after (run_of alone)
  row_put key_is value_is can =
      let key_in : length key ≡ node.layout.key_length =
      subst (λ (f : RowLayout). length key ≡ f.key_length) (sym on.enters.layout_is) key_is in
      let value_in : length value ≡ rest_length node.layout node.kind =
      subst (λ (k : Kind). length value ≡ rest_length node.layout k) (sym on.enters.kind_is)
      (subst (λ (f : RowLayout). length value ≡ f.value_length) (sym on.enters.layout_is) value_is) in
      let spelled : node_in made.layout on.new ≡ Some made =
      subst (λ (f : RowLayout). node_in f on.new ≡ Some made) (sym on.enters.layout_is) on.enters.spelled in
      write_one node.layout node.kind before after page on.new node.rows made.rows on.is (is_low before page can.is_in)
      (spells_inserted before page node made place key value on.new can refl on.enters.low key_in value_in spelled)

  leaf_is : length key ≡ layout.key_length → length value ≡ layout.value_length
      → LeafPut layout before after page node.rows place (key ++ value) alone
  leaf_is key_is value_is = leaf_put layout before after page node place (key ++ value) alone on.enters.layout_is
      on.enters.kind_is (row_put key_is value_is) rows_are refl

  pub came_in_place : (root : ℕ) (levels : List (List TreeNode)) (steps : List PathStep) (right : Option (List ℕ))
      → length key ≡ layout.key_length → length value ≡ layout.value_length
      → IsTree layout before root levels → LeadsTo layout before key levels steps page right
      → Inserts layout before levels after key value (Some root)
  came_in_place root levels steps right key_is value_is tree leads =
      let same : leads.rows ≡ node.rows =
      rows_read layout before Leaf (node_with page leads.rows) page node refl leads.stands seen in
      let ends = subst (λ (rows : List (List ℕ)). EndsAt layout key levels steps page rows right) same leads.ends in
      let enters : InsertsIntoLeaf layout root before after steps page node.rows right place key value root =
      enters_with layout before after after after root root steps page node.rows right place key value None None alone
      key_is (leaf_is key_is value_is)
      (tells_none layout page node.rows place (key ++ value) alone refl rows_are (on.enters.some, refl))
      (propagates_still layout after steps) (settle_same layout root after) in
      came layout before after root levels steps page node.rows right place key value root tree ends on.enters.low
      (subst (λ (f : RowLayout). FindsGap f key node.rows place) on.enters.layout_is on.enters.around) enters
