use Rattle.std.proofs.Common.{◌≡◌, ◌≤◌, ◌^◌, length, refl, sym, ◌∙◌, arith}
use Rattle.std.specs.Prelude.{false}
use Rattle.pages.specs.Pages.{IsPage, is_spent, page_count}
use Rattle.pages.specs.declared.error.PagesError.TheVariants.{Spent}
use Rattle.btree_pages.specs.declared.row_layout.Kind.TheVariants.{Inner}
use Rattle.btree.specs.Changes.{pages_of_map}
use Rattle.btree.proofs.Frames.{false_unless, ok_or_err}
use Rattle.btree.proofs.TreeNodes.{few_pages}
use Rattle.btree.proofs.Lessening.{has_room, write_none, true_or_false}
use Rattle.btree.proofs.Collapsing.{page_named}
use Rattle.std.specs.Prelude.{Err, IfErr}
use Rattle.std.proofs.Common.{true}
use Rattle.pages.specs.Pages.{changed_pages_of}
use Rattle.pages.specs.declared.error.PagesError.TheVariants.{Damaged}
use Rattle.btree.specs.Refusals.{IsRestRefusal}
use Rattle.btree.proofs.ChangedPages.{changes_count}
use Rattle.btree.proofs.Clearing.{keeps_still}
use Rattle.btree.proofs.Passing.{passed, never_ok, still_error, if_refused, on_refused, damaged_not_spent}
use Rattle.btree.proofs.Passing.{edit_is_put, put_is_rest, put_not_damaged}
use Rattle.btree.proofs.remove.collapse_root.Goals as goal

pub returns-then-not-is_page-clause-damaged : goal.returns-then-not-is_page-clause-damaged
returns-then-not-is_page-clause-damaged c =
    λ is image some is_in. true_or_false (c.is_page.ensures.is.1 (has_room (pages_of_map c.args.pages.now image)
    (page_count c.args.pages.now) c.args.lone.page (c.is_page.ensures.count image) some is_in)) c.if-not-is_page.true

pub returns-clause-gives : goal.returns-clause-gives
returns-clause-gives c = λ image.
    let before = pages_of_map c.args.pages.now image in
    let after = pages_of_map c.release.new.self image in
    let page : IsPage c.args.pages.now c.args.lone.page = c.is_page.ensures.is.0 c.if-not-is_page.false in
    let count : length before ≡ page_count c.args.pages.now = c.is_page.ensures.count image in
    let unspent : is_spent c.args.pages.now ≡ false = false_unless (is_spent c.args.pages.now)
    (λ spent. ok_or_err c.in_ok-release.field-0 Spent (sym c.in_ok-release.was ∙ c.release.ensures.spent.1 spent)) in
    let few : length before ≤ 2 ^ 20 = few_pages before (page_count c.args.pages.now) (page_count c.args.pages.now)
    count refl (c.is_page.ensures.few unspent) in
    record {
      leaves = λ layout rows. write_none layout Inner before after c.args.lone.page rows
          (c.in_ok-release.ensures.map image) (omega (arith, page.1, count));
      names = λ page is_in is. c.child.ensures ∙ page_named before page _ few is_in is;
    }

pub returns-then-not-is_page-clause-keeps : goal.returns-then-not-is_page-clause-keeps
returns-then-not-is_page-clause-keeps c = keeps_still c.args.pages.now

pub returns-then-not-is_page-clause-spent : goal.returns-then-not-is_page-clause-spent
returns-then-not-is_page-clause-spent c = λ is. damaged_not_spent is

pub returns-in_err-release-clause-gives : goal.returns-in_err-release-clause-gives
returns-in_err-release-clause-gives c =
    if_refused c.from_residual.result c.in_err-release.field-0.0 c.from_residual.ensures.1 _

pub returns-in_err-release-clause-changed_pages : goal.returns-in_err-release-clause-changed_pages
returns-in_err-release-clause-changed_pages c =
    on_refused c.from_residual.result c.in_err-release.field-0.0 c.from_residual.ensures.1 _

pub returns-in_err-release-clause-filled : goal.returns-in_err-release-clause-filled
returns-in_err-release-clause-filled c =
    on_refused c.from_residual.result c.in_err-release.field-0.0 c.from_residual.ensures.1 _

pub returns-in_err-release-clause-damaged : goal.returns-in_err-release-clause-damaged
returns-in_err-release-clause-damaged c = λ is image some is_in.
    let e = c.in_err-release.field-0.0 in
    passed c.from_residual.result e c.from_residual.ensures.1 (λ r. r ≡ Err Damaged → ⊥)
    (λ damaged. put_not_damaged e (edit_is_put e c.in_err-release.ensures.cause) damaged) is

pub returns-in_err-release-clause-spent : goal.returns-in_err-release-clause-spent
returns-in_err-release-clause-spent c =
    passed c.from_residual.result c.in_err-release.field-0.0 c.from_residual.ensures.1
    (λ r. r ≡ Err Spent → is_spent c.args.pages.now ≡ true)
    (λ is. c.in_err-release.ensures.spent.0 (still_error is))

pub returns-in_err-release-clause-cause : goal.returns-in_err-release-clause-cause
returns-in_err-release-clause-cause c =
    let e = c.in_err-release.field-0.0 in
    passed c.from_residual.result e c.from_residual.ensures.1 (λ r. IfErr r IsRestRefusal)
    (put_is_rest e (edit_is_put e c.in_err-release.ensures.cause))

pub returns-clause-changed_pages : goal.returns-clause-changed_pages
returns-clause-changed_pages c = changes_count (changed_pages_of c.args.pages.now) c.args.lone.page
    (changed_pages_of c.release.new.self) c.in_ok-release.ensures.changes_page

pub returns-clause-filled : goal.returns-clause-filled
returns-clause-filled c = omega (arith, c.release.ensures.filled)

pub returns-clause-damaged : goal.returns-clause-damaged
returns-clause-damaged c = λ is image some is_in. never_ok is

pub returns-clause-spent : goal.returns-clause-spent
returns-clause-spent c = λ is. never_ok is
