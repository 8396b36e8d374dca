use Rattle.std.proofs.Common.{◌≡◌, inl, [], Err, List, refl, sym, ap, ◌∙◌}
use Rattle.std.specs.Prelude.{Option}
use Rattle.station.specs.Disk.{Sector}
use Rattle.pages.specs.Pages.{map_now}
use Rattle.pages.specs.declared.error.PagesError.TheVariants as pages
use Rattle.btree.specs.Rooted.{RootedTree}
use Rattle.records.specs.declared.fault.StoreFault.TheVariants.{Damaged}
use Rattle.volume_format.specs.Forest.{TreeLevels, tree_levels}
use Rattle.volume_format.proofs.Forests.{forest_moves}
use Rattle.volume_format.proofs.Whole.{whole_grows}
use Rattle.alternate_keys.proofs.WholeTrees.{grows_among}
use Rattle.alternate_keys.proofs.Empties.{forest_without}
use Rattle.volume_format.proofs.Faults.{damaged_back}
use Rattle.alternate_keys.proofs.clearing.clear_among.Goals as goal

pub returns-in-Ok-clause-cleared : goal.returns-in-Ok-clause-cleared
returns-in-Ok-clause-cleared g c = λ honest agrees left right levels forest.
    let image = (g.D.Device.state c.args.device.now).disk.present in
    let before : List (Option Sector) = (map_now c.args.pages.now image).pages in
    let after : List (Option Sector) = (map_now c.clear.new.pages image).pages in
    let old : TreeLevels = tree_levels c.args.tree.now levels in
    let none : RootedTree = record { layout = c.args.tree.now.layout; root = 0 } in
    let holds = (grows_among before left right old forest).stands in
    let moves = c.in-Ok.ensures.cleared honest agrees levels holds in
    forest_without after left right (tree_levels none [])
    (forest_moves before after left right old (tree_levels none []) forest moves
    (whole_grows after none [] (inl (refl, refl)))) refl

pub returns-in-Err-clause-damaged : goal.returns-in-Err-clause-damaged
returns-in-Err-clause-damaged g c = λ honest agrees left right levels forest is.
    let before : List (Option Sector) =
    (map_now c.args.pages.now (g.D.Device.state c.args.device.now).disk.present).pages in
    let old : TreeLevels = tree_levels c.args.tree.now levels in
    let holds = (grows_among before left right old forest).stands in
    let told : c.to_fault.result ≡ Damaged = cc in
    let fault : c.in-Err.error ≡ pages.Damaged = damaged_back c.in-Err.error (sym c.to_fault.ensures ∙ told) in
    c.in-Err.ensures.damaged honest agrees (ap Err fault) levels holds
