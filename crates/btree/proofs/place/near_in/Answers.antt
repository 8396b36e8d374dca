use Rattle.std.proofs.Common.{◌≡◌, ◌<◌, refl, sym, subst, rules}
use Rattle.btree_pages.specs.declared.row_layout.RowLayout.{RowLayout}
use Rattle.btree_pages.specs.declared.row_layout.Kind.TheVariants.{Leaf, Inner}
use Rattle.btree.specs.Entries.{HasLengths}
use Rattle.btree.proofs.Nearby.{none_in, next_in, inner_no_leaf, spells_leaf}
use Rattle.btree.proofs.Passing.{never_true}
use Rattle.btree.proofs.place.near_in.Goals as goal

pub returns-in-Err-clause-next : goal.returns-in-Err-clause-next
returns-in-Err-clause-next c = λ rows read some up. absurd (c.in-Err.ensures.damaged Leaf rows read some)

pub returns-then-not-is_past_first-clause-next : goal.returns-then-not-is_past_first-clause-next
returns-then-not-is_past_first-clause-next c =
    let place = c.place_after-place.result in
    none_in c.args.layout c.args.bytes.now c.args.key.now c.args.entry.now c.in-Ok.node place c.in-Ok.ensures.node
    c.place_after-place.ensures (λ some low. never_true c.if-not-is_past_first.true
    (c.is_past_first.ensures.1 (some, subst (λ n. place < n) (sym c.count.ensures.rows) low)))

pub returns-clause-next : goal.returns-clause-next
returns-clause-next c =
    let place = c.place_after-place.result in
    let within = c.is_past_first.ensures.0 c.if-not-is_past_first.false in
    next_in c.args.layout c.args.bytes.now c.args.key.now c.take_row.new.self c.in-Ok.node place c.in-Ok.ensures.node
    c.place_after-place.ensures within.0 (subst (λ n. place < n) c.count.ensures.rows within.1) c.take_row.ensures.is

pub returns-in-Err-clause-leaf : goal.returns-in-Err-clause-leaf
returns-in-Err-clause-leaf c = λ is. never_true refl is

pub returns-in-Err-clause-lengths : goal.returns-in-Err-clause-lengths
returns-in-Err-clause-lengths c = λ is. never_true refl is

pub returns-then-eq-clause-leaf : goal.returns-then-eq-clause-leaf
returns-then-eq-clause-leaf c = λ is. never_true refl is

pub returns-then-eq-clause-lengths : goal.returns-then-eq-clause-lengths
returns-then-eq-clause-lengths c = λ is. never_true refl is

pub returns-then-not-is_past_first-clause-leaf : goal.returns-then-not-is_past_first-clause-leaf
returns-then-not-is_past_first-clause-leaf c = λ is. never_true refl is

pub returns-then-not-is_past_first-clause-lengths : goal.returns-then-not-is_past_first-clause-lengths
returns-then-not-is_past_first-clause-lengths c = λ is. never_true refl is

pub returns-then-eq-clause-next : goal.returns-then-eq-clause-next
returns-then-eq-clause-next c = λ rows read some up.
    let inner : c.in-Ok.node.kind ≡ Inner = search rules in
    absurd (inner_no_leaf c.args.layout c.args.bytes.now c.in-Ok.node rows c.in-Ok.ensures.node inner read)

pub returns-clause-leaf : goal.returns-clause-leaf
returns-clause-leaf c = λ is.
    let leaf : c.in-Ok.node.kind ≡ Leaf = search rules in
    spells_leaf c.args.layout c.args.bytes.now c.in-Ok.node c.in-Ok.ensures.node c.in-Ok.ensures.shape.0 leaf

pub returns-clause-lengths : goal.returns-clause-lengths
returns-clause-lengths c = λ is. subst (λ (l : RowLayout). HasLengths l c.take_row.new.self)
    c.in-Ok.ensures.shape.0 c.take_row.ensures.lengths
