use Rattle.std.proofs.Common.{◌≡◌, true, false, sym, ◌∙◌, arith}
use Rattle.pages.specs.Pages.{map_now}
use Rattle.file_recovery.proofs.Strays.{covered_none, covered_more, covered_all}
use Rattle.file_recovery.proofs.coverage.are_covered.Goals as goal

pub loop-page-init : goal.loop-page-init
loop-page-init c = λ image. covered_none (map_now c.args.pages.now image).pages c.args.seen.now

pub loop-page-preserved : goal.loop-page-preserved
loop-page-preserved c = λ image.
    covered_more (map_now c.args.pages.now image).pages c.args.seen.now c.loop-page.page (c.loop-page.invariant image)
    (c.is_stray.ensures.no c.if-is_stray.false image)

pub returns-then-is_stray-clause-no : goal.returns-then-is_stray-clause-no
returns-then-is_stray-clause-no c = λ is image covered.
    let stray = c.is_stray.ensures.yes c.if-is_stray.true image in
    let clash : true ≡ false = sym (covered c.loop-page.page stray.0) ∙ stray.1 in
    cc

pub returns-clause-yes : goal.returns-clause-yes
returns-clause-yes c = λ is image.
    let pages = (map_now c.args.pages.now image).pages in
    let many = c.page_count-count.ensures.pages image in
    let counted = c.page_count-count.ensures.count in
    let few = c.page_count-count.ensures.few c.requires.unspent in
    let test = c.loop-page-test.false in
    covered_all pages c.args.seen.now c.loop-page.page (omega (arith, many, counted, few, test))
    (c.loop-page.invariant image)
