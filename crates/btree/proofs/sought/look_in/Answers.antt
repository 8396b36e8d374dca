use Rattle.std.proofs.Common.{◌≡◌, ◌≤◌, ◌<◌, ◌∙◌, ap, sym, subst, length, rules, arith}
use Rattle.std.specs.Prelude.{Some, Err, OnErr}
use Rattle.pages.specs.declared.error.PagesError.TheVariants.{Damaged}
use Rattle.btree_pages.specs.declared.row_layout.RowLayout.{RowLayout}
use Rattle.btree_pages.specs.declared.row_layout.Kind.TheVariants.{Inner, Leaf}
use Rattle.btree.specs.Entries.{Entry, HasLengths}
use Rattle.btree.proofs.Answering.{below_not_here, entry_there, first_at_end, missing_not_here}
use Rattle.btree.proofs.Levels.{least_is_enough}
use Rattle.btree.proofs.Passing.{passed, still_error, never_ok, if_refused}
use Rattle.btree.proofs.sought.look_in.Goals as goal

pub returns-in_err-node-clause-damaged : goal.returns-in_err-node-clause-damaged
returns-in_err-node-clause-damaged c = λ is. c.in_err-node.ensures.damaged

pub returns-in_err-node-clause-cause : goal.returns-in_err-node-clause-cause
returns-in_err-node-clause-cause c = passed c.from_residual.result c.in_err-node.field-0.0 c.from_residual.ensures.1
    (λ r. OnErr r (r ≡ Err Damaged)) (still_error c.in_err-node.ensures.cause)

pub returns-clause-damaged : goal.returns-clause-damaged
returns-clause-damaged c = λ is. never_ok is

pub returns-in_err-node-clause-look : goal.returns-in_err-node-clause-look
returns-in_err-node-clause-look c =
    if_refused c.from_residual.result c.in_err-node.field-0.0 c.from_residual.ensures.1 _

pub returns-in_err-node-clause-lengths : goal.returns-in_err-node-clause-lengths
returns-in_err-node-clause-lengths c =
    if_refused c.from_residual.result c.in_err-node.field-0.0 c.from_residual.ensures.1 _

pub returns-then-eq-clause-look : goal.returns-then-eq-clause-look
returns-then-eq-clause-look c =
    let inner : c.in_ok-node.node.kind ≡ Inner = search rules in
    record {
      node = c.in_ok-node.node;
      read = c.in_ok-node.ensures.node;
      layout_is = c.in_ok-node.ensures.shape.0;
      inner = inner;
      place = c.child_place-place.result;
      chosen = c.child_place-place.ensures.chosen;
      child_is = c.child-page.ensures;
    }

pub child_place-place-requires : goal.child_place-place-requires
child_place-place-requires c =
    omega (arith, least_is_enough c.in_ok-node.node.kind, c.in_ok-node.ensures.shape.1)

pub returns-then-eq-clause-lengths : goal.returns-then-eq-clause-lengths
returns-then-eq-clause-lengths c = λ is. below_not_here is

pub returns-then-eq-clause-damaged : goal.returns-then-eq-clause-damaged
returns-then-eq-clause-damaged c = λ is. never_ok is

pub returns-then-place-count-clause-look : goal.returns-then-place-count-clause-look
returns-then-place-count-clause-look c =
    let node = c.in_ok-node.node in
    let leaf : c.in_ok-node.node.kind ≡ Leaf = search rules in
    let place = c.sought_place-place.result in
    let low : place < length node.rows = omega (arith, c.count.ensures.rows, c.if-place-count.true) in
    record {
      node = node;
      read = c.in_ok-node.ensures.node;
      layout_is = c.in_ok-node.ensures.shape.0;
      leaf = leaf;
      entry_is = λ up. ap (λ (e : Entry). Some e) c.take_row.ensures.is
          ∙ entry_there node.layout node.rows place low ∙ sym (c.sought_place-place.ensures up);
    }

pub returns-then-place-count-clause-lengths : goal.returns-then-place-count-clause-lengths
returns-then-place-count-clause-lengths c = λ is. subst (λ (l : RowLayout). HasLengths l c.take_row.new.self)
    c.in_ok-node.ensures.shape.0 c.take_row.ensures.lengths

pub returns-then-place-count-clause-damaged : goal.returns-then-place-count-clause-damaged
returns-then-place-count-clause-damaged c = λ is. never_ok is

pub returns-clause-look : goal.returns-clause-look
returns-clause-look c =
    let node = c.in_ok-node.node in
    let leaf : c.in_ok-node.node.kind ≡ Leaf = search rules in
    let place = c.sought_place-place.result in
    let high : length node.rows ≤ place = omega (arith, c.count.ensures.rows, c.if-place-count.false) in
    record {
      node = node;
      read = c.in_ok-node.ensures.node;
      layout_is = c.in_ok-node.ensures.shape.0;
      leaf = leaf;
      entry_is = λ up. sym (c.sought_place-place.ensures up ∙ first_at_end node.layout node.rows place high);
    }

pub returns-clause-lengths : goal.returns-clause-lengths
returns-clause-lengths c = λ is. missing_not_here is
