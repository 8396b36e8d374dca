use Rattle.std.specs.Prelude.{IfErr, Err}
use Rattle.std.proofs.Common.{◌≡◌, ◌↔◌, true, sym, ◌∙◌}
use Rattle.station.specs.Calls.{OnlyReads}
use Rattle.pages.specs.Pages.{is_spent}
use Rattle.pages.specs.declared.error.PagesError.TheVariants.{Device, Spent}
use Rattle.btree.specs.Reading.{IsReadRefusal}
use Rattle.btree.proofs.Passing.{passed, never_ok, still_error, damaged_not_device, damaged_not_spent}
use Rattle.btree.proofs.Passing.{reads_where}
use Rattle.btree.proofs.node.read_kind.Goals as goal

pub returns-in_err-node-clause-damaged : goal.returns-in_err-node-clause-damaged
returns-in_err-node-clause-damaged g c = λ honest agrees is node page stands.
    let told = rw is at c.from_residual.ensures.1 in
    c.in_err-node.ensures.damaged honest agrees (cc told) c.args.kind node page stands

pub returns-in_err-node-clause-only : goal.returns-in_err-node-clause-only
returns-in_err-node-clause-only g c = passed c.from_residual.result c.in_err-node.field-0.0 c.from_residual.ensures.1
    (λ r. OnlyReads g.D.Device (r ≡ Err Device) c.args.device.now c.read_node.new.device)
    (reads_where g.D.Device _ _ _ _ (λ is. still_error is) c.in_err-node.ensures.only)

pub returns-then-ne-clause-only : goal.returns-then-ne-clause-only
returns-then-ne-clause-only g c = reads_where g.D.Device _ _ _ _ (λ is. damaged_not_device is) c.read_node.ensures.only

pub returns-clause-only : goal.returns-clause-only
returns-clause-only g c = reads_where g.D.Device _ _ _ _ (λ is. never_ok is) c.read_node.ensures.only

pub returns-in_err-node-clause-spent : goal.returns-in_err-node-clause-spent
returns-in_err-node-clause-spent g c = passed c.from_residual.result c.in_err-node.field-0.0 c.from_residual.ensures.1
    (λ r. (r ≡ Err Spent) ↔ (is_spent c.args.pages.now ≡ true))
    (λ is. c.in_err-node.ensures.spent.0 (still_error is), λ was. still_error (c.in_err-node.ensures.spent.1 was))

pub returns-then-ne-clause-spent : goal.returns-then-ne-clause-spent
returns-then-ne-clause-spent g c =
    (λ is. damaged_not_spent is, λ was. never_ok (sym c.in_ok-node.was ∙ c.read_node.ensures.spent.1 was))

pub returns-clause-spent : goal.returns-clause-spent
returns-clause-spent g c = (λ is. never_ok is, λ was. never_ok (sym c.in_ok-node.was ∙ c.read_node.ensures.spent.1 was))

pub returns-in_err-node-clause-cause : goal.returns-in_err-node-clause-cause
returns-in_err-node-clause-cause g c = passed c.from_residual.result c.in_err-node.field-0.0 c.from_residual.ensures.1
    (λ r. IfErr r IsReadRefusal)
    (c.in_err-node.ensures.cause)
