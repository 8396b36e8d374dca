use Rattle.std.proofs.lemmas.Result.{err_from_is_err_and}
use Rattle.source_tree.specs.LookUp.{items_named}
use Rattle.declarations.specs.Named.{items_in}
use Rattle.declarations.proofs.Shown.{shows, shows_none}
use Rattle.declarations.proofs.declarations.Declarations.item_shown.Goals as goal

pub returns-in_err-found : goal.returns-in_err-found
returns-in_err-found c =
    let p = err_from_is_err_and c.from_residual.result c.from_residual.ensures.1 in
    let one = c.args.one.now in
    rw (p.1, p.2) (shows_none one.item.name.place one.part (items_named (items_in c.args.self.now) one.item)
    c.in_err-found.field-0.0 c.in_err-found.ensures)

pub returns : goal.returns
returns c =
    let one = c.args.one.now in
    shows one.item.name.place one.part (items_named (items_in c.args.self.now) one.item) c.in_ok-found.found.now
    c.item_seen.result c.in_ok-found.ensures c.item_seen.ensures
