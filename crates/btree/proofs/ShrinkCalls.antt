-- What the page at a step becomes, by the call that made it so.
use Rattle.std.proofs.Common.{◌≡◌, ◌<◌, ◌≤◌, ◌+◌, ◌++◌, ℕ, arith, length, List, [], ◌∷◌, take, drop, sym, subst}
use Rattle.std.specs.Prelude.{Option, Result, Some, IfOk, slice_index_or}
use Rattle.std.proofs.lemmas.Result.{IfOk-weaker}
use Rattle.byteorder.specs.Endian.{big_bytes}
use Rattle.station.specs.Calls.{OnlyReads}
use Rattle.station.specs.Disk.{Sector}
use Rattle.station.specs.declared.device.Device.{Ghosts as Devices}
use Rattle.pages.specs.Pages.{Agrees, IsUnchanged}
use Rattle.pages.specs.declared.page_map.PageMap.{PageMap}
use Rattle.pages.specs.declared.error.PagesError.{PagesError}
use Rattle.btree_pages.specs.declared.row_layout.RowLayout.{RowLayout}
use Rattle.btree_pages.specs.declared.row_layout.Kind.TheVariants.{Inner}
use Rattle.btree_pages.specs.Keys.{rest_of}
use Rattle.btree_pages.specs.Node.{Node}
use Rattle.btree.specs.declared.removal_outcome.Child.{Child}
use Rattle.btree.specs.declared.removal_outcome.RemovalOutcome.{RemovalOutcome}
use Rattle.btree.specs.declared.removal_outcome.RemovalOutcome.TheVariants.{Renamed, Gone, Underfull}
use Rattle.btree.specs.Calls.{IfAgrees, OnPages, OnChange, pages_on}
use Rattle.btree.specs.Changes.{CanStand}
use Rattle.btree.specs.Outcomes.{IsRemovalResult, IsPair, spare}
use Rattle.btree.specs.Path.{PathStep}
use Rattle.btree.specs.Propagates.{node_with}
use Rattle.btree.specs.Puts.{RenamesRow, LosesRow}
use Rattle.btree.specs.Shrinks.{ShrinksBy, ShrinksOn, NeverShrinksOn}
use Rattle.btree.specs.Tree.{TreeNode, node_at, row_of}
use Rattle.btree.proofs.Downward.{Rebalances, renamed_on, gone_on, lone_on, never_rebalanced}
use Rattle.btree.proofs.Passing.{pages_before}
use Rattle.btree.proofs.ReadMaps.{change_at, change_before, pages_same}

-- How many pages a step leaves, by what the call on its page leaves.
pub leaves_then : (result : Result RemovalOutcome PagesError) (new now most more : ℕ) → now + more ≤ most
    → IfOk result (λ up. new + spare up ≤ now + more) → IfOk result (λ up. new + spare up ≤ most)
leaves_then result new now most more few left = IfOk-weaker result (λ up. new + spare up ≤ now + more)
    (λ up. new + spare up ≤ most) (λ up less. omega (arith, few, less)) left

-- A step leads to no child that has a neighbour.
abbrev pub NeverPairs : RowLayout → PathStep → Child → Node → List (Option Sector) → Type 0
NeverPairs layout step child node pages = (left right : TreeNode) → node.kind ≡ Inner → step.place < length node.rows
    → 0 < step.page → 0 < left.page → 0 < right.page
    → IsPair layout child.node.kind pages step.page node.rows step.place child.page left right → ⊥

module _ {D : Type 0} (device : Devices D) where
  -- The row of a child gets the child's least key.
  pub renamed_by : (old now new : PageMap) (a : D) (layout : RowLayout) (step : PathStep) (below : RemovalOutcome)
      (child : Child) (node : Node) (result : Result RemovalOutcome PagesError) → IsUnchanged old now
      → node.layout ≡ layout → OnPages device old a (λ p. node_at layout p step.page ≡ Some node)
      → below ≡ Renamed child → IfOk result (RenamesRow now new step node child)
      → OnChange device old new a (λ p q. IfOk result (ShrinksOn layout step p q below))
  renamed_by old now new a layout step below child node result unchanged layout_is read is renames = λ honest agreed.
      let before = pages_on device old a in
      let after = pages_on device new a in
      let rows = take step.place node.rows
      ++ (row_of node.layout (node_with child.page child.node.rows) ∷ drop (step.place + 1) node.rows) in
      IfOk-weaker result (RenamesRow now new step node child) _ (λ up fares.
      subst (λ (b : RemovalOutcome). ShrinksOn layout step before after b up) (sym is)
      (renamed_on layout before after step child up node
      (record { layout_is = layout_is; read = read honest agreed })
      (subst (λ (p : List (Option Sector)). CanStand p step.page node
      → rest_of node.layout (slice_index_or node.rows step.place []) ≡ big_bytes 4 child.page
      → IsRemovalResult node.layout Inner p after step.page node.rows rows up)
      (pages_same old now (device.state a).disk.present unchanged) (fares (device.state a).disk.present)))) renames

  -- The row of a child that is gone leaves the page.
  pub gone_by : (old now new : PageMap) (a : D) (layout : RowLayout) (step : PathStep) (below : RemovalOutcome)
      (node : Node) (result : Result RemovalOutcome PagesError) → IsUnchanged old now → node.layout ≡ layout
      → OnPages device old a (λ p. node_at layout p step.page ≡ Some node) → below ≡ Gone
      → IfOk result (LosesRow Inner now new step.page node step.place)
      → OnChange device old new a (λ p q. IfOk result (ShrinksOn layout step p q below))
  gone_by old now new a layout step below node result unchanged layout_is read is loses = λ honest agreed.
      let before = pages_on device old a in
      let after = pages_on device new a in
      let rows = take step.place node.rows ++ drop (step.place + 1) node.rows in
      IfOk-weaker result (LosesRow Inner now new step.page node step.place) _ (λ up fares.
      subst (λ (b : RemovalOutcome). ShrinksOn layout step before after b up) (sym is)
      (gone_on layout before after step up node (record { layout_is = layout_is; read = read honest agreed })
      (subst (λ (p : List (Option Sector)). CanStand p step.page node
      → IsRemovalResult node.layout Inner p after step.page node.rows rows up)
      (pages_same old now (device.state a).disk.present unchanged) (fares (device.state a).disk.present)))) loses

  -- A child with too few rows is joined with its neighbour.
  pub joined_by : (A : Type 0) (old now new : PageMap) (a b : D) (layout : RowLayout) (step : PathStep)
      (below : RemovalOutcome) (child : Child) (node : Node) (result : Result RemovalOutcome PagesError)
      → IsUnchanged old now → OnlyReads device A a b → IfAgrees device old a (Agrees now (device.state b).disk)
      → node.layout ≡ layout → OnPages device old a (λ p. node_at layout p step.page ≡ Some node)
      → below ≡ Underfull child
      → OnChange device now new b (λ p q. IfOk result (λ up. Rebalances layout p q step child node up))
      → OnChange device old new a (λ p q. IfOk result (ShrinksOn layout step p q below))
  joined_by A old now new a b layout step below child node result unchanged only agrees layout_is read is rebalances =
      λ honest agreed.
      let before = pages_on device old a in
      let after = pages_on device new a in
      IfOk-weaker result (Rebalances layout before after step child node) _ (λ up joins.
      subst (λ (o : RemovalOutcome). ShrinksOn layout step before after o up) (sym is)
      (lone_on layout before after step child up node (record { layout_is = layout_is; read = read honest agreed })
      joins)) (change_before device A old now new a b
      (λ p q. IfOk result (Rebalances layout p q step child node)) unchanged only agrees rebalances honest agreed)

  -- If it has none, no levels shrink by this step.
  pub never_joined_by : (A : Type 0) (old now : PageMap) (a b : D) (layout : RowLayout) (step : PathStep)
      (below : RemovalOutcome) (child : Child) (node : Node) → IsUnchanged old now → OnlyReads device A a b
      → IfAgrees device old a (Agrees now (device.state b).disk) → node.layout ≡ layout
      → OnPages device old a (λ p. node_at layout p step.page ≡ Some node) → below ≡ Underfull child
      → OnPages device now b (NeverPairs layout step child node)
      → OnPages device old a (λ p. NeverShrinksOn layout step p below)
  never_joined_by A old now a b layout step below child node unchanged only agrees layout_is read is never =
      λ honest agreed.
      subst (λ (o : RemovalOutcome). NeverShrinksOn layout step (pages_on device old a) o) (sym is)
      (never_rebalanced layout (pages_on device old a) step child node
      (record { layout_is = layout_is; read = read honest agreed })
      (pages_before device A old now a b (NeverPairs layout step child node) unchanged only agrees never honest agreed))

  -- Levels shrink by one step more.
  pub shrinks_more : (A : Type 0) (old now new : PageMap) (a b : D) (layout : RowLayout) (step : PathStep)
      (path rest : List PathStep) (from below : RemovalOutcome) (result : Result RemovalOutcome PagesError)
      → OnlyReads device A a b → IfAgrees device old a (Agrees now (device.state b).disk) → path ≡ step ∷ rest
      → OnChange device old now a (λ p q. ShrinksBy layout rest p q from below)
      → OnChange device now new b (λ p q. IfOk result (ShrinksOn layout step p q below))
      → OnChange device old new a (λ p q. IfOk result (ShrinksBy layout path p q from))
  shrinks_more A old now new a b layout step path rest from below result only agrees path_is shrinks more =
      λ honest agreed.
      IfOk-weaker result (ShrinksOn layout step (pages_on device now a) (pages_on device new a) below) _ (λ up on.
      subst (λ (steps : List PathStep).
      ShrinksBy layout steps (pages_on device old a) (pages_on device new a) from up) (sym path_is)
      (on rest (pages_on device old a) from (shrinks honest agreed)))
      (change_at device A old now new a b (λ p q. IfOk result (ShrinksOn layout step p q below)) only agrees more
      honest agreed)
