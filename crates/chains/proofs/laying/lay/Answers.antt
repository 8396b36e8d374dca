use Rattle.std.proofs.Common.{◌≡◌, ◌≢◌, ◌<◌, ◌-◌, true, length, sym, ◌∙◌, arith}
use Rattle.std.specs.Prelude.{◌↔◌, Err}
use Rattle.pages.specs.Pages.{is_spent}
use Rattle.pages.specs.declared.error.PagesError.TheVariants.{Spent}
use Rattle.btree.specs.Changes.{pages_of_map}
use Rattle.btree.specs.Results.{FullIfUsed}
use Rattle.btree.specs.Refusals.{IsWriteRefusal}
use Rattle.std.specs.Prelude.{IfErr}
use Rattle.btree.proofs.Passing.{passed, never_ok, still_error}
use Rattle.btree.proofs.Clearing.{keeps_still, keeps_on}
use Rattle.chains.specs.Chain.{pages_for}
use Rattle.chains.proofs.Loops.{lays_start, lays_step, lays_end}
use Rattle.chains.proofs.Refusing.{some_pages, never_was}
use Rattle.chains.proofs.laying.lay.Goals as goal

pub parts-init : goal.parts-init
parts-init c =
    let count = c.page_count-place.ensures in
    record {
      within = omega (arith, count);
      laid = λ image. lays_start (pages_of_map c.args.pages.now image) c.args.bytes.now c.page_count-place.result count;
      changed_pages = omega (arith, count);
      filled = omega (arith, count);
      keeps = keeps_still c.args.pages.now;
      unspent = λ low. absurd (omega (arith, count, low));
    }

pub parts-preserved : goal.parts-preserved
parts-preserved c =
    let loop = c.parts in
    let put = c.put_link.ensures in
    record {
      within = omega (arith, loop.invariant.within);
      laid = λ image. lays_step _ _ _ c.args.bytes.now _ loop.place (loop.place - 1) c.in_ok-page.page loop.next
          (omega (arith, c.parts-test.true)) (loop.invariant.laid image) c.part_of.ensures
          (c.in_ok-page.ensures.pages image);
      changed_pages = omega (arith, loop.invariant.changed_pages, c.parts-test.true, put.changed_pages);
      filled = omega (arith, loop.invariant.filled, c.parts-test.true, put.filled);
      keeps = keeps_on c.args.pages.now loop.pages c.put_link.new.pages loop.invariant.keeps put.keeps;
      unspent = λ low. never_was c.in_ok-page.was loop.invariant.keeps.committed.spent put.spent;
    }

pub returns-in_err-page-clause-changed_pages : goal.returns-in_err-page-clause-changed_pages
returns-in_err-page-clause-changed_pages c =
    let few = c.parts.invariant.changed_pages in
    let some = c.parts-test.true in
    let changed = c.put_link.ensures.changed_pages in
    omega (arith, few, some, changed)

pub returns-in_err-page-clause-filled : goal.returns-in_err-page-clause-filled
returns-in_err-page-clause-filled c =
    let few = c.parts.invariant.filled in
    let some = c.parts-test.true in
    let filled = c.put_link.ensures.filled in
    omega (arith, few, some, filled)

pub returns-in_err-page-clause-keeps : goal.returns-in_err-page-clause-keeps
returns-in_err-page-clause-keeps c = keeps_on c.args.pages.now c.parts.pages c.put_link.new.pages
    c.parts.invariant.keeps c.put_link.ensures.keeps

pub returns-in_err-page-clause-full : goal.returns-in_err-page-clause-full
returns-in_err-page-clause-full c = passed c.from_residual.result c.in_err-page.field-0.0 c.from_residual.ensures.1
    (λ r. FullIfUsed c.put_link.new.pages r) (λ is. c.in_err-page.ensures.full (still_error is))

pub returns-in_err-page-clause-spent : goal.returns-in_err-page-clause-spent
returns-in_err-page-clause-spent c =
    let same = c.parts.invariant.keeps.committed.spent in
    passed c.from_residual.result c.in_err-page.field-0.0 c.from_residual.ensures.1
    (λ r. (r ≡ Err Spent) ↔ ((is_spent c.args.pages.now ≡ true) × (length c.args.bytes.now ≢ 0))) (
      λ is. (
        sym same ∙ c.in_err-page.ensures.spent.0 (still_error is),
        some_pages (length c.args.bytes.now) c.parts.place c.parts-test.true c.parts.invariant.within,
      ),
      λ was. still_error (c.in_err-page.ensures.spent.1 (same ∙ was.0)),
    )

pub returns-in_err-page-clause-cause : goal.returns-in_err-page-clause-cause
returns-in_err-page-clause-cause c = passed c.from_residual.result c.in_err-page.field-0.0 c.from_residual.ensures.1
    (λ r. IfErr r IsWriteRefusal) c.in_err-page.ensures.cause

pub returns-clause-laid : goal.returns-clause-laid
returns-clause-laid c = λ image.
    let none = c.parts-test.false in
    lays_end (pages_of_map c.args.pages.now image) (pages_of_map c.parts.pages image) c.args.bytes.now c.parts.place
    c.parts.next (omega arith) (c.parts.invariant.laid image)

pub returns-clause-changed_pages : goal.returns-clause-changed_pages
returns-clause-changed_pages c = let few = c.parts.invariant.changed_pages in omega (arith, few)

pub returns-clause-filled : goal.returns-clause-filled
returns-clause-filled c = let few = c.parts.invariant.filled in omega (arith, few)

pub returns-clause-spent : goal.returns-clause-spent
returns-clause-spent c = (
  λ is. never_ok is,
  λ was.
      let none = c.parts-test.false in
      let some = was.1 in
      let low : c.parts.place < pages_for (length c.args.bytes.now) = omega arith in
      let never = c.parts.invariant.unspent low in
      let is = was.0 in
      absurd (cc (never, is)),
)
