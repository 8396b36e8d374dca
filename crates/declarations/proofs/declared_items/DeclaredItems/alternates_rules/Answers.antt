use Rattle.std.proofs.lemmas.Result.{err_from_is_err_and}
use Rattle.entry_rules.specs.Checks.{broken_of}
use Rattle.declarations.specs.Found.{items_of}
use Rattle.declarations.specs.Selecting.{described_of}
use Rattle.declarations.proofs.SelectFaults.{alternate_first, alternate_next}
use Rattle.declarations.proofs.declared_items.DeclaredItems.alternates_rules.Goals as goal

pub returns-in_err-offset : goal.returns-in_err-offset
returns-in_err-offset c =
    let p = err_from_is_err_and c.from_residual.result c.from_residual.ensures.1 in
    rw (p.1, p.2) (alternate_first (items_of c.args.self.now) (described_of c.args.there) c.loop-one.before.items _
    c.args.all.now c.loop-one.one-index c.one-item.result _ (broken_of c.in_err-offset.field-0.0) c.loop-one-test.true
    c.loop-one.invariant c.one-item.is c.deref.ensures.value c.in_err-offset.ensures.rules)

pub loop-one-preserved : goal.loop-one-preserved
loop-one-preserved c = alternate_next (items_of c.args.self.now) (described_of c.args.there) c.loop-one.before.items _
    c.insert.new.self.items c.in_ok-offset.offset c.args.all.now c.loop-one.one-index c.one-item.result _
    c.loop-one-test.true c.loop-one.invariant c.one-item.is c.deref.ensures.value c.in_ok-offset.ensures.rules
    c.in_ok-offset.ensures.offset c.in_ok-insert.ensures.items
