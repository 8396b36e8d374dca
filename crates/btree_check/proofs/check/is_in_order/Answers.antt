use Rattle.std.proofs.Common.{◌≡◌, ◌+◌, sym, ap, ◌∙◌, rules}
use Rattle.std.specs.Prelude.{slice_index_or}
use Rattle.std.proofs.lemmas.List.{get_or_read}
use Rattle.btree_check.specs.declared.separator.Separator.{Separator}
use Rattle.btree.proofs.Order.{Up}
use Rattle.btree_check.proofs.Walking.{last_precedes}
use Rattle.btree_check.proofs.check.is_in_order.Goals as goal

pub returns-in-Less-clause-below : goal.returns-in-Less-clause-below
returns-in-Less-clause-below c = λ _ none low.
    let leaf = c.args.leaf.now in
    let up : Up leaf.layout leaf.rows = search rules in
    let separator = c.index-separators-place.result in
    let next : separator ≡ slice_index_or c.args.separators.now (c.args.place + 1) none =
    get_or_read c.args.separators.now (c.args.place + 1) separator low c.index-separators-place.is none in
    last_precedes leaf.layout leaf.rows c.count.result c.key.result.now c.bytes.result.now
    (slice_index_or c.args.separators.now (c.args.place + 1) none).key c.count.ensures.rows c.requires up
    c.key.ensures.key
    (c.bytes.ensures ∙ ap (λ (n : Separator). n.key) (sym c.index-separators-place.is ∙ next)) (sym c.in-Less.ensures)
