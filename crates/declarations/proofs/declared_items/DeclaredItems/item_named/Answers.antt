use Rattle.std.proofs.lemmas.Result.{err_from_is_err_and}
use Rattle.declarations.specs.Found.{items_of}
use Rattle.declarations.proofs.LookedUp.{place_within, placed_is}
use Rattle.declarations.proofs.declared_items.DeclaredItems.item_named.Goals as goal

pub item_number-requires : goal.item_number-requires
item_number-requires c = c.requires.table

pub placed_at-requires : goal.placed_at-requires
placed_at-requires c =
    let items = items_of c.args.self.now in
    let one = c.in_ok-number.ensures items c.requires.calls in
    place_within items c.in_ok-number.number one.0 one.2 c.args.self.now.layout.items c.requires.items

pub returns-in_err-number : goal.returns-in_err-number
returns-in_err-number c =
    let p = err_from_is_err_and c.from_residual.result c.from_residual.ensures.1 in
    rw (p.1, p.2) (c.in_err-number.ensures (items_of c.args.self.now) c.requires.calls)

pub returns : goal.returns
returns c =
    let items = items_of c.args.self.now in
    let one = c.in_ok-number.ensures items c.requires.calls in (
      one.0,
      one.1,
      placed_is items c.in_ok-number.number one.0 one.2 c.args.self.now.layout.items
          c.placed_at.result.now c.requires.items c.placed_at.ensures,
    )
