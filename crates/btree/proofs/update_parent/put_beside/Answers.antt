use Rattle.std.proofs.Common.{arith}
use Rattle.std.specs.Prelude.{Err, IfErr, ◌↔◌}
use Rattle.std.proofs.Common.{◌≡◌, true}
use Rattle.pages.specs.Pages.{is_spent}
use Rattle.pages.specs.declared.error.PagesError.TheVariants.{Spent}
use Rattle.btree.specs.Refusals.{IsWriteRefusal}
use Rattle.btree.proofs.Passing.{passed, never_ok, still_error, if_refused}
use Rattle.btree.proofs.update_parent.put_beside.Goals as goal

pub returns-clause-pages : goal.returns-clause-pages
returns-clause-pages c = λ image can. c.in_ok-split.ensures.pages image
    (record { is_in = can.is_in; lengths = can.lengths; enough = omega (arith, can.enough) })

pub returns-in_err-split-clause-full : goal.returns-in_err-split-clause-full
returns-in_err-split-clause-full c = λ is.
    let told = rw is at c.from_residual.ensures.1 in
    c.in_err-split.ensures.full (cc told)

pub returns-in_err-split-clause-rows : goal.returns-in_err-split-clause-rows
returns-in_err-split-clause-rows c =
    if_refused c.from_residual.result c.in_err-split.field-0.0 c.from_residual.ensures.1 _

pub returns-in_err-split-clause-pages : goal.returns-in_err-split-clause-pages
returns-in_err-split-clause-pages c =
    if_refused c.from_residual.result c.in_err-split.field-0.0 c.from_residual.ensures.1 _

pub returns-in_err-split-clause-split : goal.returns-in_err-split-clause-split
returns-in_err-split-clause-split c =
    if_refused c.from_residual.result c.in_err-split.field-0.0 c.from_residual.ensures.1 _

pub returns-in_err-split-clause-cause : goal.returns-in_err-split-clause-cause
returns-in_err-split-clause-cause c = passed c.from_residual.result c.in_err-split.field-0.0 c.from_residual.ensures.1
    (λ r. IfErr r IsWriteRefusal)
    c.in_err-split.ensures.cause

pub returns-in_err-split-clause-spent : goal.returns-in_err-split-clause-spent
returns-in_err-split-clause-spent c =
    let told = c.in_err-split.ensures.spent in
    passed c.from_residual.result c.in_err-split.field-0.0 c.from_residual.ensures.1
    (λ r. (r ≡ Err Spent) ↔ (is_spent c.args.pages.now ≡ true))
    (λ is. told.0 (still_error is), λ was. still_error (told.1 was))

pub returns-clause-full : goal.returns-clause-full
returns-clause-full c = λ is. never_ok is

pub returns-clause-spent : goal.returns-clause-spent
returns-clause-spent c = (λ is. never_ok is, λ was. never_ok (c.in_ok-split.ensures.spent.1 was))
