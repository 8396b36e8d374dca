-- What the steps of a way told, with the way and the answers under other names.
use Rattle.std.proofs.Common.{◌≡◌, ◌<◌, ◌∷◌, List, [], length, sym, subst}
use Rattle.std.specs.Prelude.{Option, Some, slice_index_or}
use Rattle.byteorder.specs.Endian.{big_bytes}
use Rattle.station.specs.Disk.{Sector}
use Rattle.btree_pages.specs.declared.row_layout.RowLayout.{RowLayout}
use Rattle.btree_pages.specs.declared.row_layout.Kind.{Kind}
use Rattle.btree_pages.specs.declared.row_layout.Kind.TheVariants.{Inner}
use Rattle.btree_pages.specs.Keys.{rest_of}
use Rattle.btree_pages.specs.Node.{Node}
use Rattle.btree.specs.declared.path_step.PathStep.{PathStep}
use Rattle.btree.specs.declared.split_result.SplitResult.{SplitResult}
use Rattle.btree.specs.Changes.{CanStand, IsIn, NeverPropagates, PropagatesBy, UpdatesParent}
use Rattle.btree.specs.Propagates.{run_of}
use Rattle.btree.specs.Tree.{TreeNode, IsOnPage}
use Rattle.btree.proofs.Upward.{ReadNode, never_read, never_updated, propagates_more}

-- with another name for the way and for what the leaf became
pub same_way : (layout : RowLayout) (way steps : List PathStep) (before after : List (Option Sector))
    (split leaf : SplitResult) (up : Option SplitResult) → way ≡ steps → split ≡ leaf
    → PropagatesBy layout way before after (Some split) up → PropagatesBy layout steps before after (Some leaf) up
same_way layout way steps before after split leaf up is same propagates =
    subst (λ (s : SplitResult). PropagatesBy layout steps before after (Some s) up) same
    (subst (λ (path : List PathStep). PropagatesBy layout path before after (Some split) up) is propagates)

pub never_way : (layout : RowLayout) (way steps : List PathStep) (before : List (Option Sector))
    (split leaf : SplitResult) → way ≡ steps → split ≡ leaf → NeverPropagates layout way before (Some split)
    → NeverPropagates layout steps before (Some leaf)
never_way layout way steps before split leaf is same never =
    subst (λ (s : SplitResult). NeverPropagates layout steps before (Some s)) same
    (subst (λ (path : List PathStep). NeverPropagates layout path before (Some split)) is never)

-- the page of the first step is read and updated
pub more_way : (layout : RowLayout) (way : List PathStep) (before two seen three : List (Option Sector))
    (step : PathStep) (steps : List PathStep) (from lower : Option SplitResult) (told : SplitResult)
    (up : Option SplitResult) (node : Node) → way ≡ step ∷ steps → lower ≡ Some told
    → PropagatesBy layout steps before two from lower → ReadNode layout two step node → seen ≡ two
    → (CanStand seen step.page node → rest_of node.layout (slice_index_or node.rows step.place []) ≡ big_bytes 4
    told.page → UpdatesParent node.layout seen three step.page node.rows step.place (run_of told) up)
    → PropagatesBy layout way before three from up
more_way layout way before two seen three step steps from lower told up node is some propagates read still updates =
    subst (λ (path : List PathStep). PropagatesBy layout path before three from up) (sym is)
    (propagates_more layout before two three step steps from told up node
    (subst (λ (l : Option SplitResult). PropagatesBy layout steps before two from l) some propagates) read
    (subst (λ (pages : List (Option Sector)). CanStand pages step.page node
    → rest_of node.layout (slice_index_or node.rows step.place []) ≡ big_bytes 4 told.page
    → UpdatesParent node.layout pages three step.page node.rows step.place (run_of told) up) still updates))

-- it is none of a tree
pub never_read_way : (layout : RowLayout) (way : List PathStep) (before two : List (Option Sector)) (step : PathStep)
    (steps : List PathStep) (from lower : Option SplitResult) (told : SplitResult) → way ≡ step ∷ steps
    → lower ≡ Some told → PropagatesBy layout steps before two from lower
    → ((kind : Kind) (node : TreeNode) → node.page ≡ step.page → IsOnPage layout two kind node → ⊥)
    → NeverPropagates layout way before from
never_read_way layout way before two step steps from lower told is some propagates none =
    subst (λ (path : List PathStep). NeverPropagates layout path before from) (sym is)
    (never_read layout before two step steps from told
    (subst (λ (l : Option SplitResult). PropagatesBy layout steps before two from l) some propagates) none)

-- the step leads on from no such page
pub never_updated_way : (layout : RowLayout) (way : List PathStep) (before two seen : List (Option Sector))
    (step : PathStep) (steps : List PathStep) (from lower : Option SplitResult) (told : SplitResult) (node : Node)
    → way ≡ step ∷ steps → lower ≡ Some told → PropagatesBy layout steps before two from lower
    → ReadNode layout two step node → seen ≡ two
    → (node.kind ≡ Inner → step.place < length node.rows → 0 < step.page → IsIn seen step.page → ⊥)
    → NeverPropagates layout way before from
never_updated_way layout way before two seen step steps from lower told node is some propagates read still none =
    subst (λ (path : List PathStep). NeverPropagates layout path before from) (sym is)
    (never_updated layout before two step steps from told node
    (subst (λ (l : Option SplitResult). PropagatesBy layout steps before two from l) some propagates) read
    (λ inner low high there.
    none inner low high (subst (λ (pages : List (Option Sector)). IsIn pages step.page) (sym still) there)))
