use Rattle.std.proofs.Common.{◌≡◌, ◌++◌, ◌∷◌, Err, ℕ, List, refl, sym, ap, ◌∙◌}
use Rattle.std.specs.Prelude.{Option}
use Rattle.station.specs.Disk.{Sector}
use Rattle.pages.specs.declared.error.PagesError.TheVariants as pages
use Rattle.btree.specs.Calls.{pages_on}
use Rattle.btree.specs.Rooted.{RootedTree}
use Rattle.records.specs.declared.fault.StoreFault.TheVariants.{Damaged}
use Rattle.records.specs.declared.key.KeyOfReference.TheVariants.{Prime}
use Rattle.records.specs.Spec.{Spec}
use Rattle.row_trees.specs.RowTree.{ChainedTree, IsRowTreeAmong}
use Rattle.volume_format.specs.Chained.{chained_bytes}
use Rattle.volume_format.specs.Forest.{TreeLevels, IsForest}
use Rattle.volume_format.specs.Trees.{layout_under}
use Rattle.volume_format.proofs.Faults.{damaged_back}
use Rattle.alternate_keys.specs.Listed.{root_in}
use Rattle.alternate_keys.proofs.Faults.{refused_by_call}
use Rattle.alternate_keys.proofs.Keeping.{same_tree}
use Rattle.alternate_keys.proofs.clearing.clear_rows.Goals as goal

-- the tree stands among the others
stands : (spec : Spec) (value : List ℕ) (before : List (Option Sector)) (left right : List TreeLevels)
    (tree : TreeLevels) (rows : ChainedTree)
    → tree.tree ≡ record { layout = layout_under spec Prime; root = root_in Prime value }
    → tree.record_bytes ≡ chained_bytes spec → IsForest before (left ++ tree ∷ right)
    → (rows.tree.layout ≡ layout_under spec Prime) × (rows.tree.root ≡ root_in Prime value)
    × (rows.record_bytes ≡ chained_bytes spec) → IsRowTreeAmong before left right rows tree.entries
stands spec value before left right tree rows is form forest told =
    let own : RootedTree = record { layout = layout_under spec Prime; root = root_in Prime value } in
    record {
      planted = tree;
      tree_is = is ∙ sym (same_tree rows.tree own told.0 told.1);
      form_is = form ∙ sym told.2;
      forest = forest;
      listed = refl;
    }

pub returns-in_err-rows-clause-damaged : goal.returns-in_err-rows-clause-damaged
returns-in_err-rows-clause-damaged g c = λ honest agrees l tree left right spec says within is form forest refused.
    c.stored_row_tree.ensures.damaged l spec says
    (refused_by_call c.in_err-rows.was c.from_residual.ensures.1 refused)

pub returns-in-Ok-clause-cleared : goal.returns-in-Ok-clause-cleared
returns-in-Ok-clause-cleared g c = λ honest agrees l tree left right spec says within is form forest.
    c.in-Ok.ensures.cleared honest agrees left right tree.entries
    (stands l.spec c.args.value.now (pages_on g.D.Device c.args.pages.now c.args.device.now) left right tree
    c.in_ok-rows.rows is form forest (c.in_ok-rows.ensures.tree l spec says))

pub returns-in-Err-clause-damaged : goal.returns-in-Err-clause-damaged
returns-in-Err-clause-damaged g c = λ honest agrees l tree left right spec says within is form forest refused.
    let told : c.to_fault.result ≡ Damaged = cc in
    let fault : c.in-Err.error ≡ pages.Damaged = damaged_back c.in-Err.error (sym c.to_fault.ensures ∙ told) in
    c.in-Err.ensures.damaged honest agrees left right tree.entries
    (stands l.spec c.args.value.now (pages_on g.D.Device c.args.pages.now c.args.device.now) left right tree
    c.in_ok-rows.rows is form forest (c.in_ok-rows.ensures.tree l spec says)) (ap Err fault)
