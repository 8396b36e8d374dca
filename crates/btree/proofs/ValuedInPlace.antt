-- An entry gets another value in its leaf, and the tree has it.
use Rattle.std.proofs.Common.{◌≡◌, ℕ, List, [], ◌∷◌, ◌++◌, length, set, refl, sym, ◌∙◌, ap, subst}
use Rattle.std.specs.Prelude.{Option, Some, IsSome, slice_index_or}
use Rattle.station.specs.Disk.{Sector}
use Rattle.btree_pages.specs.declared.row_layout.RowLayout.{RowLayout}
use Rattle.btree_pages.specs.declared.row_layout.Kind.{Kind}
use Rattle.btree_pages.specs.declared.row_layout.Kind.TheVariants.{Leaf}
use Rattle.btree_pages.specs.RowLayouts.{rest_length}
use Rattle.btree_pages.specs.Keys.{key_of}
use Rattle.btree_pages.specs.Node.{Node, node_in}
use Rattle.btree_pages.specs.Edits.{with_rest}
use Rattle.btree.specs.Tree.{TreeNode, IsTree, node_at, node_on}
use Rattle.btree.specs.Entries.{entries_of, entry_with, with_value}
use Rattle.btree.specs.Path.{PathStep, EndsAt}
use Rattle.btree.specs.Steps.{LeadsTo}
use Rattle.btree.specs.Moves.{ReplacesNodes}
use Rattle.btree.specs.Propagates.{node_with}
use Rattle.btree.specs.Changes.{CanStand, Becomes}
use Rattle.btree.specs.Entering.{SetsOn}
use Rattle.btree.proofs.Descents.{rows_read}
use Rattle.btree.proofs.Writes.{write_one, is_low, spells_node}
use Rattle.btree.proofs.Revalued.{rest_stands}
use Rattle.btree.proofs.Valued.{end_valued}

module _ (layout : RowLayout) (before after : List (Option Sector)) (page : ℕ) (key value : List ℕ)
    (on : SetsOn layout page key value before after) where
  abbrev node : Node
  node = on.sets.node

  abbrev place : ℕ
  place = on.sets.place

  abbrev made : Node
  made = with_rest node place value

  seen : node_at layout before page ≡ Some node
  seen = ap (node_on layout) on.at ∙ on.sets.read

  rest_put : length value ≡ layout.value_length → CanStand before page node
      → ReplacesNodes node.layout node.kind before (node_with page node.rows ∷ []) after
      (node_with page (set node.rows place (key_of node.layout (slice_index_or node.rows place []) ++ value)) ∷ [])
  rest_put value_is can =
      let value_in : length value ≡ rest_length node.layout node.kind =
      subst (λ (k : Kind). length value ≡ rest_length node.layout k) (sym on.sets.kind_is)
      (subst (λ (f : RowLayout). length value ≡ f.value_length) (sym on.sets.layout_is) value_is) in
      let spelled : node_in made.layout on.new ≡ Some made =
      subst (λ (f : RowLayout). node_in f on.new ≡ Some made) (sym on.sets.layout_is) on.sets.spelled in
      let stands = rest_stands before page node place value on.sets.low value_in can in
      write_one node.layout node.kind before after page on.new node.rows made.rows on.is (is_low before page can.is_in)
      (spells_node node made on.new (record { layout = refl; kind = refl }) spelled stands.lengths stands.enough)

  pub valued_in_place : (root : ℕ) (levels : List (List TreeNode)) (steps : List PathStep) (right : Option (List ℕ))
      → length value ≡ layout.value_length
      → IsTree layout before root levels → LeadsTo layout before key levels steps page right
      → IsSome (entry_with (entries_of layout levels) key) × Becomes layout before levels after root
      (with_value (entries_of layout levels) (record { key = key; value = value }))
  valued_in_place root levels steps right value_is tree leads =
      let same : leads.rows ≡ node.rows =
      rows_read layout before Leaf (node_with page leads.rows) page node refl leads.stands seen in
      let ends = subst (λ (rows : List (List ℕ)). EndsAt layout key levels steps page rows right) same leads.ends in
      end_valued layout before after root levels steps page node right place key value tree ends on.sets.layout_is
      on.sets.kind_is on.sets.low on.sets.here on.sets.around (rest_put value_is)
