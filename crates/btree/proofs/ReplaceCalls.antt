-- Another value for an entry, by the calls that put it there.
use Rattle.std.proofs.Common.{◌≡◌, ◌≢◌, ◌≤◌, ◌<◌, ◌++◌, ℕ, List, [], ◌∷◌, length, sym, subst}
use Rattle.std.specs.Prelude.{slice_index_or, slice_set, Option, None, IsSome}
use Rattle.station.specs.Calls.{OnlyReads}
use Rattle.station.specs.Disk.{Disk, Sector}
use Rattle.station.specs.declared.device.Device.{Ghosts as Devices}
use Rattle.pages.specs.Pages.{Agrees, IsUnchanged}
use Rattle.pages.specs.declared.page_map.PageMap.{PageMap}
use Rattle.btree_pages.specs.declared.row_layout.RowLayout.{RowLayout}
use Rattle.btree_pages.specs.declared.row_layout.Kind.TheVariants.{Leaf}
use Rattle.btree_pages.specs.Keys.{key_of}
use Rattle.btree_pages.specs.Node.{Node}
use Rattle.btree.specs.Calls.{IfAgrees, OnPages, OnTree, OnTreeChange, pages_on}
use Rattle.btree.specs.Changes.{pages_of_map, Becomes, CanStand, IsIn}
use Rattle.btree.specs.Entering.{SetsOn}
use Rattle.btree.specs.Entries.{entries_of, entry_with, with_value}
use Rattle.btree.specs.Moves.{ReplacesNodes}
use Rattle.btree.specs.Path.{PathStep, EndsAt}
use Rattle.btree.specs.Propagates.{node_with}
use Rattle.btree.specs.Puts.{NeverIn, PutsRest}
use Rattle.btree.specs.Rooted.{RootedTree}
use Rattle.btree.specs.Steps.{LeadsTo}
use Rattle.btree.specs.Tree.{TreeNode, IsTree, IsTreeOrEmpty}
use Rattle.btree.proofs.Entering.{end_stands, end_in}
use Rattle.btree.proofs.Frames.{holds_tree}
use Rattle.btree.proofs.ReadMaps.{change_before, pages_same}
use Rattle.btree.proofs.Searches.{leaf_among, got_none, FindsAt, FindsGap}
use Rattle.btree.proofs.Valued.{end_valued}
use Rattle.btree.proofs.ValuedInPlace.{valued_in_place}

-- The entry of the key is there, and has the value then.
abbrev pub ReplacesEntry : RowLayout → ℕ → List ℕ → List ℕ → List (Option Sector) → List (List TreeNode)
    → List (Option Sector) → Type 0
ReplacesEntry layout root key value before levels after = IsSome (entry_with (entries_of layout levels) key)
    × Becomes layout before levels after root (with_value (entries_of layout levels)
    (record { key = key; value = value }))

-- A map that equals an unchanged one is unchanged.
pub unchanged_equal : (old now new : PageMap) → IsUnchanged old now → new ≡ now → IsUnchanged old new
unchanged_equal old now new unchanged same = subst (λ (p : PageMap). IsUnchanged old p) (sym same) unchanged

-- A layout and a root's page are those of a tree that has entries.
pub record AreOf (tree : RootedTree) (layout : RowLayout) (top : ℕ) : Type 0 where
  pub layout_is : layout ≡ tree.layout
  pub top_is : top ≡ tree.root
  pub some : top ≢ 0

tree_of : (tree : RootedTree) (layout : RowLayout) (top : ℕ) (pages : List (Option Sector))
    (levels : List (List TreeNode)) → AreOf tree layout top → IsTreeOrEmpty tree.layout pages tree.root levels
    → IsTree layout pages top levels
tree_of tree layout top pages levels are holds =
    holds_tree layout pages top levels (subst (λ (f : RowLayout). IsTreeOrEmpty f pages top levels) (sym are.layout_is)
    (subst (λ (r : ℕ). IsTreeOrEmpty tree.layout pages r levels) (sym are.top_is) holds)) are.some

claimed_of : (tree : RootedTree) (layout : RowLayout) (top : ℕ) (P : RowLayout → ℕ → Type 0) → AreOf tree layout top
    → P layout top → P tree.layout tree.root
claimed_of tree layout top P are claim =
    subst (λ (r : ℕ). P tree.layout r) are.top_is (subst (λ (f : RowLayout). P f top) are.layout_is claim)

module _ {D : Type 0} (device : Devices D) (tree : RootedTree) (layout : RowLayout) (top : ℕ) (key : List ℕ) where
  -- A descent from the root ends at a page with these rows.
  abbrev pub DescendsTo : PageMap → D → List PathStep → ℕ → List (List ℕ) → Option (List ℕ) → Type 0
  DescendsTo old a steps page rows right = OnPages device old a (λ p. (levels : List (List TreeNode))
      → IsTree layout p top levels → EndsAt layout key levels steps page rows right)

  -- The value is put into the row of the key, in the leaf that a descent read.
  pub replaced_by : (old now new : PageMap) (a : D) (value : List ℕ) (steps : List PathStep) (page : ℕ) (node : Node)
      (right : Option (List ℕ)) (place : ℕ) → AreOf tree layout top → IsUnchanged old now
      → DescendsTo old a steps page node.rows right
      → (node.layout ≡ layout) × (node.kind ≡ Leaf) × (length node.rows ≤ 4080)
      → (place < length node.rows) × (key_of node.layout (slice_index_or node.rows place []) ≡ key)
      → FindsAt node.layout key node.rows place → PutsRest now new page node place value
      → OnTreeChange device tree.layout tree.root old new a (ReplacesEntry tree.layout tree.root key value)
  replaced_by old now new a value steps page node right place are unchanged way shape found finds puts =
      λ honest agreed levels holds.
      let image = (device.state a).disk.present in
      let before = pages_on device old a in
      let held = tree_of tree layout top before levels are holds in
      claimed_of tree layout top (λ f r. ReplacesEntry f r key value before levels (pages_on device new a)) are
      (end_valued layout before (pages_on device new a) top levels steps page node right place key value held
      (way honest agreed levels held) shape.0 shape.1 found.0 found.1 finds
      (subst (λ (p : List (Option Sector)). CanStand p page node
      → ReplacesNodes node.layout node.kind p (node_with page node.rows ∷ []) (pages_on device new a)
      (node_with page (slice_set node.rows place (key_of node.layout (slice_index_or node.rows place []) ++ value))
      ∷ []))
      (pages_same old now image unchanged) (puts image)))

  -- A descent ends on a page of the map.
  pub never_unput : (old now : PageMap) (a : D) (steps : List PathStep) (page : ℕ) (rows : List (List ℕ))
      (right : Option (List ℕ)) (told : Type 0) → AreOf tree layout top → IsUnchanged old now
      → DescendsTo old a steps page rows right → NeverIn now page told → told
      → OnPages device old a (λ p. (levels : List (List TreeNode)) → IsTreeOrEmpty tree.layout p tree.root levels → ⊥)
  never_unput old now a steps page rows right told are unchanged way never is = λ honest agreed levels holds.
      let image = (device.state a).disk.present in
      let before = pages_on device old a in
      let held = tree_of tree layout top before levels are holds in
      let end = end_stands layout key before top levels steps page rows right held (way honest agreed levels held) in
      never is image end.some (subst (λ (p : List (Option Sector)). IsIn p page)
      (sym (pages_same old now image unchanged)) (end_in layout before page rows end))

  -- The leaf has no row of the key.
  pub none_by : (old : PageMap) (a : D) (steps : List PathStep) (page : ℕ) (node : Node) (right : Option (List ℕ))
      (place : ℕ) → AreOf tree layout top → DescendsTo old a steps page node.rows right → node.layout ≡ layout
      → place ≤ length node.rows → FindsGap node.layout key node.rows place
      → OnTree device tree.layout tree.root old a (λ levels. entry_with (entries_of tree.layout levels) key ≡ None)
  none_by old a steps page node right place are way layout_is low finds = λ honest agreed levels holds.
      let before = pages_on device old a in
      let held = tree_of tree layout top before levels are holds in
      let leaf =
      leaf_among layout before top key levels steps page node.rows right held (way honest agreed levels held) in
      subst (λ (f : RowLayout). entry_with (entries_of f levels) key ≡ None) are.layout_is
      (sym (got_none layout key levels node.rows right place leaf low
      (subst (λ (f : RowLayout). FindsGap f key node.rows place) layout_is finds)))

  -- The value is put into the row of the key on its page in memory.
  pub replaced_in_place : (A : Type 0) (old now new : PageMap) (a b : D) (value : List ℕ) (steps : List PathStep)
      (page : ℕ) (right : Option (List ℕ)) → AreOf tree layout top → length value ≡ tree.layout.value_length
      → IsUnchanged old now → OnlyReads device A a b → IfAgrees device old a (Agrees now (device.state b).disk)
      → OnPages device old a (λ p. (levels : List (List TreeNode)) → IsTree layout p top levels
      → LeadsTo layout p key levels steps page right)
      → ((disk : Disk) → Agrees now disk
      → SetsOn layout page key value (pages_of_map now disk.present) (pages_of_map new disk.present))
      → OnTreeChange device tree.layout tree.root old new a (ReplacesEntry tree.layout tree.root key value)
  replaced_in_place A old now new a b value steps page right are long unchanged only agrees way sets =
      λ honest agreed levels holds.
      let before = pages_on device old a in
      let held = tree_of tree layout top before levels are holds in
      claimed_of tree layout top (λ f r. ReplacesEntry f r key value before levels (pages_on device new a)) are
      (valued_in_place layout before (pages_on device new a) page key value
      (change_before device A old now new a b (SetsOn layout page key value) unchanged only agrees
      (λ h g. sets (device.state b).disk g) honest agreed) top levels steps right
      (subst (λ (f : RowLayout). length value ≡ f.value_length) (sym are.layout_is) long) held
      (way honest agreed levels held))
