-- One step of a key's way.
use Rattle.std.proofs.Common.{◌≡◌, ℕ, List, [], ◌∷◌, ◌++◌, sym, ap, subst, ◌∙◌}
use Rattle.std.specs.Prelude.{slice_index_or, Option, Some, None, Result, Ok, Err, IfOk}
use Rattle.station.specs.Calls.{OnlyReads}
use Rattle.station.specs.Disk.{Sector}
use Rattle.station.specs.declared.device.Device.{Ghosts as Devices}
use Rattle.pages.specs.Pages.{Agrees, IsUnchanged}
use Rattle.pages.specs.declared.page_map.PageMap.{PageMap}
use Rattle.btree_pages.specs.declared.row_layout.RowLayout.{RowLayout}
use Rattle.btree.specs.declared.child.Child.{Child}
use Rattle.btree.specs.Tree.{TreeNode, IsTree, node_on}
use Rattle.btree.specs.Calls.{IfAgrees, OnPages}
use Rattle.btree.specs.Path.{PathStep, EndsAt}
use Rattle.btree.specs.Steps.{StepsToChild, StepsIn, StepsAt, LeadsTo}
use Rattle.btree.proofs.Descents.{Along, step_read, ends_at}
use Rattle.btree.proofs.Entering.{end_stands}
use Rattle.btree.proofs.Passing.{pages_before}

-- what an answer is, is something else too
pub if_ok : {T E : Type 0} (P Q : T → Type 0) (result : Result T E) → ((x : T) → P x → Q x) → IfOk result P
    → IfOk result Q
if_ok P Q (Ok x) to is = to x is
if_ok P Q (Err e) to is = tt

-- what a page's bytes lead to, the page does
pub step_there : (layout : RowLayout) (pages : List (Option Sector)) (page : ℕ) (bytes : Sector) (key : List ℕ)
    (old new : Option (List ℕ)) (child : Option Child) → slice_index_or pages page None ≡ Some bytes
    → StepsIn layout bytes key old new child → StepsAt layout pages page key old new child
step_there layout pages page bytes key old new child is step = record {
  node = step.node;
  read = ap (node_on layout) is ∙ step.read;
  layout_is = step.layout_is;
  steps = step.steps;
}

pub step_on : (layout : RowLayout) (pages : List (Option Sector)) (levels : List (List TreeNode)) (key : List ℕ)
    (steps : List PathStep) (page : ℕ) (old new : Option (List ℕ)) (child : Child)
    → Along layout pages levels key steps page old → StepsAt layout pages page key old new (Some child)
    → Along layout pages levels key (steps ++ record { page = page; place = child.place } ∷ []) child.page new
step_on layout pages levels key steps page old new child along at =
    let goes : StepsToChild at.node key old new child = at.steps in
    subst (λ (next : ℕ).
    Along layout pages levels key (steps ++ record { page = page; place = child.place } ∷ []) next new) (sym goes.page)
    (step_read layout at.node.layout pages levels key steps page old new at.node child.place at.layout_is along at.read
    goes.inner goes.chosen (record { within = goes.within; beyond = goes.beyond }))

pub step_ends : (layout : RowLayout) (pages : List (Option Sector)) (root : ℕ) (levels : List (List TreeNode))
    (key : List ℕ) (steps : List PathStep) (page : ℕ) (old new : Option (List ℕ))
    → IsTree layout pages root levels → Along layout pages levels key steps page old
    → StepsAt layout pages page key old new None → LeadsTo layout pages key levels steps page new
step_ends layout pages root levels key steps page old new tree along at =
    let is = at.steps in
    let ends : EndsAt layout key levels steps page at.node.rows new =
    subst (λ (right : Option (List ℕ)). EndsAt layout key levels steps page at.node.rows right) (sym is.1)
    (ends_at layout pages levels key steps page old at.node along at.read is.0) in
    record {
      rows = at.node.rows;
      stands = (end_stands layout key pages root levels steps page at.node.rows new tree ends).stands;
      ends = ends;
    }

-- where a page leads to after a call that only reads, it led to before it
pub stepped_before : {D : Type 0} (device : Devices D) (before now : PageMap) (a b : D) (layout : RowLayout) (page : ℕ)
    (key : List ℕ) (old new : Option (List ℕ)) (was child : Option Child) → IsUnchanged before now
    → OnlyReads device ⊥ a b → IfAgrees device before a (Agrees now (device.state b).disk) → was ≡ child
    → OnPages device now b (λ p. StepsAt layout p page key old new was)
    → OnPages device before a (λ p. StepsAt layout p page key old new child)
stepped_before device before now a b layout page key old new was child unchanged only agrees is steps =
    pages_before device ⊥ before now a b (λ p. StepsAt layout p page key old new child) unchanged only agrees
    (subst (λ (c : Option Child). OnPages device now b (λ p. StepsAt layout p page key old new c)) is steps)
