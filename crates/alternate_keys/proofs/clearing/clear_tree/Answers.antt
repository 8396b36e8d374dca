use Rattle.std.proofs.Common.{◌≡◌, Err, List, sym, ap, ◌∙◌}
use Rattle.std.specs.Prelude.{Option}
use Rattle.station.specs.Disk.{Sector}
use Rattle.pages.specs.Pages.{map_now}
use Rattle.btree.specs.Rooted.{RootedTree}
use Rattle.records.specs.declared.fault.StoreFault.TheVariants.{Damaged}
use Rattle.records.specs.declared.key.KeyOfReference.TheVariants.{Alternate}
use Rattle.volume_format.specs.Trees.{layout_under}
use Rattle.alternate_keys.specs.Listed.{root_in}
use Rattle.alternate_keys.proofs.Keeping.{same_tree}
use Rattle.alternate_keys.proofs.WholeTrees.{whole_forest}
use Rattle.alternate_keys.proofs.clearing.clear_tree.Goals as goal

pub returns-in_err-tree-clause-damaged : goal.returns-in_err-tree-clause-damaged
returns-in_err-tree-clause-damaged g c = λ honest agrees l tree left right spec says within is form forest refused.
    let from = rw refused at c.from_residual.ensures.1 in
    let fault : c.in_err-tree.field-0.0 ≡ Damaged = sym from in
    c.stored_tree.ensures.damaged l spec says within (c.in_err-tree.was ∙ ap Err fault)

pub returns-clause-cleared : goal.returns-clause-cleared
returns-clause-cleared g c = λ honest agrees l tree left right spec says within is form forest.
    let before : List (Option Sector) =
    (map_now c.args.pages.now (g.D.Device.state c.args.device.now).disk.present).pages in
    let told = c.in_ok-tree.ensures.tree l spec says within in
    let own : RootedTree =
    record {
      layout = layout_under l.spec (Alternate c.args.key);
      root = root_in (Alternate c.args.key)
          c.args.value.now;
    } in
    let same : tree.tree ≡ c.in_ok-tree.tree = is ∙ sym (same_tree c.in_ok-tree.tree own told.0 told.1) in
    c.clear_among.ensures.cleared honest agrees left right tree.levels
    (whole_forest before left right tree c.in_ok-tree.tree form same forest)

pub returns-clause-damaged : goal.returns-clause-damaged
returns-clause-damaged g c = λ honest agrees l tree left right spec says within is form forest refused.
    let before : List (Option Sector) =
    (map_now c.args.pages.now (g.D.Device.state c.args.device.now).disk.present).pages in
    let told = c.in_ok-tree.ensures.tree l spec says within in
    let own : RootedTree =
    record {
      layout = layout_under l.spec (Alternate c.args.key);
      root = root_in (Alternate c.args.key)
          c.args.value.now;
    } in
    let same : tree.tree ≡ c.in_ok-tree.tree = is ∙ sym (same_tree c.in_ok-tree.tree own told.0 told.1) in
    c.clear_among.ensures.damaged honest agrees left right tree.levels
    (whole_forest before left right tree c.in_ok-tree.tree form same forest)
    refused
