use Rattle.std.proofs.Common.{arith}
use Rattle.btree.specs.Changes.{pages_of_map}
use Rattle.btree.proofs.Writes.{is_low}
use Rattle.std.proofs.Common.{◌≡◌, true, length}
use Rattle.std.specs.Prelude.{Err, IfErr}
use Rattle.pages.specs.Pages.{is_spent, changed_pages_of, filled_of}
use Rattle.pages.specs.declared.error.PagesError.TheVariants.{Damaged, Spent}
use Rattle.btree.specs.Refusals.{IsParentRefusal}
use Rattle.btree.proofs.Clearing.{keeps_still}
use Rattle.btree.proofs.Passing.{passed, never_ok, still_error, if_refused, few_more, damaged_not_full}
use Rattle.btree.proofs.Passing.{damaged_not_spent, write_is_parent, write_not_damaged}
use Rattle.btree.proofs.propagate_split.update_parent_at.Goals as goal

pub returns-then-page_count-step-clause-damaged : goal.returns-then-page_count-step-clause-damaged
returns-then-page_count-step-clause-damaged c = λ is image inner low some is_in.
    omega (
      arith,
      is_low (pages_of_map c.args.pages.now image) c.args.step.page is_in,
      c.page_count.ensures.pages image,
      c.page_count.ensures.count,
      c.if-page_count-step.true,
    )

pub returns-in_err-up-clause-full : goal.returns-in_err-up-clause-full
returns-in_err-up-clause-full c = λ is.
    let told = rw is at c.from_residual.ensures.1 in
    c.in_err-up.ensures.full (cc told)

pub returns-then-ne-clause-changed_pages : goal.returns-then-ne-clause-changed_pages
returns-then-ne-clause-changed_pages c = few_more (length (changed_pages_of c.args.pages.now)) 2

pub returns-then-ne-clause-filled : goal.returns-then-ne-clause-filled
returns-then-ne-clause-filled c = few_more (filled_of c.args.pages.now) 2

pub returns-then-ne-clause-keeps : goal.returns-then-ne-clause-keeps
returns-then-ne-clause-keeps c = keeps_still c.args.pages.now

pub returns-then-ne-clause-full : goal.returns-then-ne-clause-full
returns-then-ne-clause-full c = λ is. damaged_not_full is

pub returns-then-ne-clause-spent : goal.returns-then-ne-clause-spent
returns-then-ne-clause-spent c = λ is. damaged_not_spent is

pub returns-then-count-step-clause-changed_pages : goal.returns-then-count-step-clause-changed_pages
returns-then-count-step-clause-changed_pages c = few_more (length (changed_pages_of c.args.pages.now)) 2

pub returns-then-count-step-clause-filled : goal.returns-then-count-step-clause-filled
returns-then-count-step-clause-filled c = few_more (filled_of c.args.pages.now) 2

pub returns-then-count-step-clause-keeps : goal.returns-then-count-step-clause-keeps
returns-then-count-step-clause-keeps c = keeps_still c.args.pages.now

pub returns-then-count-step-clause-full : goal.returns-then-count-step-clause-full
returns-then-count-step-clause-full c = λ is. damaged_not_full is

pub returns-then-count-step-clause-spent : goal.returns-then-count-step-clause-spent
returns-then-count-step-clause-spent c = λ is. damaged_not_spent is

pub returns-then-step-eq0-clause-changed_pages : goal.returns-then-step-eq0-clause-changed_pages
returns-then-step-eq0-clause-changed_pages c = few_more (length (changed_pages_of c.args.pages.now)) 2

pub returns-then-step-eq0-clause-filled : goal.returns-then-step-eq0-clause-filled
returns-then-step-eq0-clause-filled c = few_more (filled_of c.args.pages.now) 2

pub returns-then-step-eq0-clause-keeps : goal.returns-then-step-eq0-clause-keeps
returns-then-step-eq0-clause-keeps c = keeps_still c.args.pages.now

pub returns-then-step-eq0-clause-full : goal.returns-then-step-eq0-clause-full
returns-then-step-eq0-clause-full c = λ is. damaged_not_full is

pub returns-then-step-eq0-clause-spent : goal.returns-then-step-eq0-clause-spent
returns-then-step-eq0-clause-spent c = λ is. damaged_not_spent is

pub returns-then-page_count-step-clause-changed_pages : goal.returns-then-page_count-step-clause-changed_pages
returns-then-page_count-step-clause-changed_pages c = few_more (length (changed_pages_of c.args.pages.now)) 2

pub returns-then-page_count-step-clause-filled : goal.returns-then-page_count-step-clause-filled
returns-then-page_count-step-clause-filled c = few_more (filled_of c.args.pages.now) 2

pub returns-then-page_count-step-clause-keeps : goal.returns-then-page_count-step-clause-keeps
returns-then-page_count-step-clause-keeps c = keeps_still c.args.pages.now

pub returns-then-page_count-step-clause-full : goal.returns-then-page_count-step-clause-full
returns-then-page_count-step-clause-full c = λ is. damaged_not_full is

pub returns-then-page_count-step-clause-spent : goal.returns-then-page_count-step-clause-spent
returns-then-page_count-step-clause-spent c = λ is. damaged_not_spent is

pub returns-in_err-up-clause-pages : goal.returns-in_err-up-clause-pages
returns-in_err-up-clause-pages c =
    if_refused c.from_residual.result c.in_err-up.field-0.0 c.from_residual.ensures.1 _

pub returns-in_err-up-clause-keys : goal.returns-in_err-up-clause-keys
returns-in_err-up-clause-keys c =
    if_refused c.from_residual.result c.in_err-up.field-0.0 c.from_residual.ensures.1 _

pub returns-in_err-up-clause-damaged : goal.returns-in_err-up-clause-damaged
returns-in_err-up-clause-damaged c = λ is image inner low some is_in.
    passed c.from_residual.result c.in_err-up.field-0.0 c.from_residual.ensures.1 (λ r. r ≡ Err Damaged → ⊥)
    (λ damaged. write_not_damaged c.in_err-up.field-0.0 c.in_err-up.ensures.cause damaged) is

pub returns-in_err-up-clause-cause : goal.returns-in_err-up-clause-cause
returns-in_err-up-clause-cause c = passed c.from_residual.result c.in_err-up.field-0.0 c.from_residual.ensures.1
    (λ r. IfErr r IsParentRefusal)
    (write_is_parent c.in_err-up.field-0.0 c.in_err-up.ensures.cause)

pub returns-in_err-up-clause-spent : goal.returns-in_err-up-clause-spent
returns-in_err-up-clause-spent c = passed c.from_residual.result c.in_err-up.field-0.0 c.from_residual.ensures.1
    (λ r. r ≡ Err Spent → is_spent c.args.pages.now ≡ true) (λ is. c.in_err-up.ensures.spent.0 (still_error is))

pub returns-clause-damaged : goal.returns-clause-damaged
returns-clause-damaged c = λ is image inner low some is_in. never_ok is

pub returns-clause-full : goal.returns-clause-full
returns-clause-full c = λ is. never_ok is

pub returns-clause-spent : goal.returns-clause-spent
returns-clause-spent c = λ is. never_ok is
