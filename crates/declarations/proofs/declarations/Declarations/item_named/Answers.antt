use Rattle.std.proofs.lemmas.Result.{err_from_is_err_and}
use Rattle.declarations.specs.Named.{items_in}
use Rattle.declarations.proofs.LookedUp.{place_within, placed_is}
use Rattle.declarations.proofs.declarations.Declarations.item_named.Goals as goal

pub item_number-requires : goal.item_number-requires
item_number-requires c = c.args.self.now.declared.table

pub placed_at-requires : goal.placed_at-requires
placed_at-requires c =
    let all = c.args.self.now in
    let items = items_in all in
    let one = c.in_ok-number.ensures items all.declared.calls in
    place_within items c.in_ok-number.number one.0 one.2 all.layout.items all.declared.items

pub returns-in_err-number : goal.returns-in_err-number
returns-in_err-number c =
    let all = c.args.self.now in
    let p = err_from_is_err_and c.from_residual.result c.from_residual.ensures.1 in
    rw (p.1, p.2) (c.in_err-number.ensures (items_in all) all.declared.calls)

pub returns : goal.returns
returns c =
    let all = c.args.self.now in
    let items = items_in all in
    let one = c.in_ok-number.ensures items all.declared.calls in (
      one.0,
      one.1,
      placed_is items c.in_ok-number.number one.0 one.2 all.layout.items c.placed_at.result.now
          all.declared.items c.placed_at.ensures,
    )
