use Rattle.std.proofs.Common.{List, length, set, ◌∙◌, ap, arith, replicate, refl}
use Rattle.std.specs.Prelude.{Option, Some}
use Rattle.station.specs.Disk.{Sector}
use Rattle.pages.specs.Pages.{changed_pages_of}
use Rattle.btree.specs.Changes.{pages_of_map}
use Rattle.btree.proofs.Writes.{write_new, spells_node}
use Rattle.btree.proofs.ChangedPages.{changes_count, changes_again, changes_has}
use Rattle.btree.proofs.Refused.{each_used}
use Rattle.std.proofs.Common.{◌≡◌, ◌↔◌, true, sym}
use Rattle.std.specs.Prelude.{Err, IfErr}
use Rattle.pages.specs.Pages.{is_spent, HasEachPage}
use Rattle.pages.specs.declared.error.PagesError.TheVariants.{Full, Spent}
use Rattle.btree.specs.Refusals.{IsWriteRefusal}
use Rattle.btree.proofs.Clearing.{keeps_on}
use Rattle.btree.proofs.Passing.{passed, never_ok, still_error, if_refused, allocate_is_write, edit_is_write}
use Rattle.btree.proofs.Passing.{edit_not_full, few_equal, same_after, page_stays}
use Rattle.btree.proofs.put_new.put_new.Goals as goal

pub returns-clause-pages : goal.returns-clause-pages
returns-clause-pages c = λ image lengths enough.
    let node = c.args.node.now in
    let old = pages_of_map c.args.pages.now image in
    write_new node.layout node.kind old (pages_of_map c.edit.new.self image) c.in_ok-page.page (replicate 4096 0)
    c.bytes-spelled.result node.rows
    (c.in_ok-edit.ensures.map image ∙ ap (λ (l : List (Option Sector)).
    set l c.in_ok-page.page (Some c.bytes-spelled.result)) (c.in_ok-page.ensures.map image))
    (omega (arith, c.in_ok-page.ensures.page.1, c.page_count-page_count.ensures.pages image))
    c.in_ok-page.ensures.page.0 (c.in_ok-page.ensures.unused image)
    (spells_node node node c.bytes-spelled.result (record { layout = refl; kind = refl }) c.bytes-spelled.ensures.reads
    lengths enough)

pub returns-clause-changed_pages : goal.returns-clause-changed_pages
returns-clause-changed_pages c =
    let one = changes_count (changed_pages_of c.args.pages.now) c.in_ok-page.page (changed_pages_of c.allocate.new.self)
    c.in_ok-page.ensures.changes_page in
    let has = changes_has (changed_pages_of c.args.pages.now) c.in_ok-page.page (changed_pages_of c.allocate.new.self)
    c.in_ok-page.ensures.changes_page in
    let two = ap length (changes_again (changed_pages_of c.allocate.new.self) c.in_ok-page.page
    (changed_pages_of c.edit.new.self) has c.in_ok-edit.ensures.changes_page) in
    omega (arith, one, two)

pub returns-in_err-page-clause-full : goal.returns-in_err-page-clause-full
returns-in_err-page-clause-full c = λ is.
    let told = rw is at c.from_residual.ensures.1 in
    each_used c.args.pages.now c.allocate.new.self c.allocate.result (cc told) c.allocate.ensures.full
    c.allocate.ensures.same c.allocate.ensures.spent

pub returns-clause-filled : goal.returns-clause-filled
returns-clause-filled c =
    omega (arith, c.allocate.ensures.filled, c.in_ok-edit.ensures.fills.again c.in_ok-page.ensures.fills.here)

pub edit-requires : goal.edit-requires
edit-requires c = record {
  page = page_stays c.args.pages.now c.allocate.new.self c.in_ok-page.page c.allocate.ensures.keeps.committed
      c.in_ok-page.ensures.page;
}

pub returns-clause-keeps : goal.returns-clause-keeps
returns-clause-keeps c =
    keeps_on c.args.pages.now c.allocate.new.self c.edit.new.self c.allocate.ensures.keeps c.edit.ensures.keeps

pub returns-clause-full : goal.returns-clause-full
returns-clause-full c = λ is. never_ok is

pub returns-clause-spent : goal.returns-clause-spent
returns-clause-spent c = (λ is. never_ok is, λ was. never_ok (c.in_ok-page.ensures.spent.1 was))

pub returns-in_err-page-clause-some : goal.returns-in_err-page-clause-some
returns-in_err-page-clause-some c =
    if_refused c.from_residual.result c.in_err-page.field-0.0 c.from_residual.ensures.1 _

pub returns-in_err-page-clause-pages : goal.returns-in_err-page-clause-pages
returns-in_err-page-clause-pages c =
    if_refused c.from_residual.result c.in_err-page.field-0.0 c.from_residual.ensures.1 _

pub returns-in_err-page-clause-changed_pages : goal.returns-in_err-page-clause-changed_pages
returns-in_err-page-clause-changed_pages c = few_equal (changed_pages_of c.args.pages.now)
    (changed_pages_of c.allocate.new.self) 1 c.in_err-page.ensures.unchanged

pub returns-in_err-page-clause-cause : goal.returns-in_err-page-clause-cause
returns-in_err-page-clause-cause c = passed c.from_residual.result c.in_err-page.field-0.0 c.from_residual.ensures.1
    (λ r. IfErr r IsWriteRefusal)
    (allocate_is_write c.in_err-page.field-0.0 c.in_err-page.ensures.cause)

pub returns-in_err-page-clause-spent : goal.returns-in_err-page-clause-spent
returns-in_err-page-clause-spent c = passed c.from_residual.result c.in_err-page.field-0.0 c.from_residual.ensures.1
    (λ r. (r ≡ Err Spent) ↔ (is_spent c.args.pages.now ≡ true))
    (λ is. c.in_err-page.ensures.spent.0 (still_error is), λ was. still_error (c.in_err-page.ensures.spent.1 was))

pub returns-in_err-edit-clause-some : goal.returns-in_err-edit-clause-some
returns-in_err-edit-clause-some c =
    if_refused c.from_residual-in_err-edit.result c.in_err-edit.field-0.0 c.from_residual-in_err-edit.ensures.1 _

pub returns-in_err-edit-clause-pages : goal.returns-in_err-edit-clause-pages
returns-in_err-edit-clause-pages c =
    if_refused c.from_residual-in_err-edit.result c.in_err-edit.field-0.0 c.from_residual-in_err-edit.ensures.1 _

pub returns-in_err-edit-clause-changed_pages : goal.returns-in_err-edit-clause-changed_pages
returns-in_err-edit-clause-changed_pages c = same_after (changed_pages_of c.args.pages.now)
    (changed_pages_of c.allocate.new.self) (changed_pages_of c.edit.new.self) 1
    (changes_count (changed_pages_of c.args.pages.now) c.in_ok-page.page (changed_pages_of c.allocate.new.self)
    c.in_ok-page.ensures.changes_page) c.in_err-edit.ensures.unchanged

pub returns-in_err-edit-clause-filled : goal.returns-in_err-edit-clause-filled
returns-in_err-edit-clause-filled c = omega (arith, c.in_err-edit.ensures.unfilled, c.allocate.ensures.filled)

pub returns-in_err-edit-clause-keeps : goal.returns-in_err-edit-clause-keeps
returns-in_err-edit-clause-keeps c =
    keeps_on c.args.pages.now c.allocate.new.self c.edit.new.self c.allocate.ensures.keeps c.edit.ensures.keeps

pub returns-in_err-edit-clause-cause : goal.returns-in_err-edit-clause-cause
returns-in_err-edit-clause-cause c =
    passed c.from_residual-in_err-edit.result c.in_err-edit.field-0.0 c.from_residual-in_err-edit.ensures.1
    (λ r. IfErr r IsWriteRefusal)
    (edit_is_write c.in_err-edit.field-0.0 c.in_err-edit.ensures.cause)

pub returns-in_err-edit-clause-full : goal.returns-in_err-edit-clause-full
returns-in_err-edit-clause-full c =
    passed c.from_residual-in_err-edit.result c.in_err-edit.field-0.0 c.from_residual-in_err-edit.ensures.1
    (λ r. r ≡ Err Full → HasEachPage c.edit.new.self)
    (λ is. edit_not_full c.in_err-edit.field-0.0 c.in_err-edit.ensures.cause is)

pub returns-in_err-edit-clause-spent : goal.returns-in_err-edit-clause-spent
returns-in_err-edit-clause-spent c =
    let still = c.allocate.ensures.keeps.committed.spent in
    passed c.from_residual-in_err-edit.result c.in_err-edit.field-0.0 c.from_residual-in_err-edit.ensures.1
    (λ r. (r ≡ Err Spent) ↔ (is_spent c.args.pages.now ≡ true)) (
      λ is. sym still ∙ c.in_err-edit.ensures.spent.0 (still_error is),
      λ was. still_error (c.in_err-edit.ensures.spent.1 (still ∙ was)),
    )
