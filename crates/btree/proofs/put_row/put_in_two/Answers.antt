use Rattle.std.proofs.Common.{length, ◌∙◌, ap, arith, replicate}
use Rattle.pages.specs.Pages.{changed_pages_of}
use Rattle.btree.specs.Changes.{pages_of_map}
use Rattle.btree.proofs.SplitNodes.{three_fit}
use Rattle.btree.proofs.PutTwo.{puts_two}
use Rattle.btree.proofs.ChangedPages.{changes_count, changes_again, changes_has, changes_keeps}
use Rattle.btree.proofs.Refused.{each_used}
use Rattle.std.specs.Prelude.{IfErr, Err}
use Rattle.std.proofs.Common.{◌≡◌, ◌↔◌, ◌≤◌, ◌+◌, true, sym, subst, ℕ}
use Rattle.pages.specs.Pages.{is_spent, filled_of}
use Rattle.pages.specs.declared.error.PagesError.TheVariants.{Spent, Full}
use Rattle.btree.specs.Refusals.{IsWriteRefusal}
use Rattle.btree.proofs.Clearing.{keeps_on}
use Rattle.btree.proofs.Passing.{passed, never_ok, still_error}
use Rattle.btree.proofs.Passing.{allocate_is_write, edit_is_write}
use Rattle.btree.proofs.Passing.{committed_on, page_stays, changes_two, few_then}
use Rattle.btree.proofs.Passing.{few_equal, few_after, few_weaker, edit_not_full, same_after}
use Rattle.pages.specs.Pages.{HasEachPage}
use Rattle.btree.proofs.put_row.put_in_two.Goals as goal

pub split_node-right-requires-clause-full : goal.split_node-right-requires-clause-full
split_node-right-requires-clause-full c =
    omega (arith, c.requires.full, three_fit c.args.node.layout c.args.node.kind c.count-count.ensures.node.layout)

pub returns-clause-pages : goal.returns-clause-pages
returns-clause-pages c = λ image can. puts_two (pages_of_map c.args.pages.now image)
    (pages_of_map c.allocate.new.self image) (pages_of_map c.edit.new.self image)
    (pages_of_map c.edit-2.new.self image) c.args.page c.in_ok-new.new c.args.place (replicate 4096 0)
    c.bytes-lower.result c.bytes-upper.result c.args.key.now c.args.rest.now c.args.node c.split_node-right.new.node
    c.split_node-right.result can (c.in_ok-new.ensures.map image) (c.in_ok-edit.ensures.map image)
    (c.in_ok-edit-2.ensures.map image)
    (omega (arith, c.in_ok-new.ensures.page.1, c.page_count-page_count.ensures.pages image)) c.in_ok-new.ensures.page.0
    (c.in_ok-new.ensures.unused image) c.split_node-right.ensures.rows c.requires.row.0 c.requires.row.1
    c.split_node-right.ensures.left c.split_node-right.ensures.left_enough c.bytes-lower.ensures.reads
    c.split_node-right.ensures.right c.split_node-right.ensures.right_enough c.bytes-upper.ensures.reads

pub returns-clause-changed_pages : goal.returns-clause-changed_pages
returns-clause-changed_pages c =
    let one = changes_count (changed_pages_of c.args.pages.now) c.in_ok-new.new (changed_pages_of c.allocate.new.self)
    c.in_ok-new.ensures.changes_page in
    let two = changes_count (changed_pages_of c.allocate.new.self) c.args.page (changed_pages_of c.edit.new.self)
    c.in_ok-edit.ensures.changes_page in
    let has =
    changes_keeps (changed_pages_of c.allocate.new.self) c.args.page (changed_pages_of c.edit.new.self) c.in_ok-new.new
    (changes_has (changed_pages_of c.args.pages.now) c.in_ok-new.new (changed_pages_of c.allocate.new.self)
    c.in_ok-new.ensures.changes_page) c.in_ok-edit.ensures.changes_page in
    let three = ap length (changes_again (changed_pages_of c.edit.new.self) c.in_ok-new.new
    (changed_pages_of c.edit-2.new.self) has c.in_ok-edit-2.ensures.changes_page) in
    omega (arith, one, two, three)

pub returns-in_err-new-clause-full : goal.returns-in_err-new-clause-full
returns-in_err-new-clause-full c = λ is.
    let told = rw is at c.from_residual.ensures.1 in
    each_used c.args.pages.now c.allocate.new.self c.allocate.result (cc told) c.allocate.ensures.full
    c.allocate.ensures.same c.allocate.ensures.spent

pub returns-clause-filled : goal.returns-clause-filled
returns-clause-filled c = omega (
  arith,
  c.allocate.ensures.filled,
  c.edit.ensures.filled,
  c.in_ok-edit-2.ensures.fills.again (c.in_ok-edit.ensures.fills.others c.in_ok-new.new c.in_ok-new.ensures.fills.here),
)

pub edit-requires : goal.edit-requires
edit-requires c = record {
  page = page_stays c.args.pages.now c.allocate.new.self c.args.page c.allocate.ensures.keeps.committed c.requires.page;
}

pub edit-requires-2 : goal.edit-requires-2
edit-requires-2 c = record {
  page = page_stays c.args.pages.now c.edit.new.self c.in_ok-new.new
      (committed_on c.args.pages.now c.allocate.new.self c.edit.new.self c.allocate.ensures.keeps.committed
      c.edit.ensures.keeps.committed) c.in_ok-new.ensures.page;
}

pub returns-in_err-edit-clause-keeps : goal.returns-in_err-edit-clause-keeps
returns-in_err-edit-clause-keeps c =
    keeps_on c.args.pages.now c.allocate.new.self c.edit.new.self c.allocate.ensures.keeps c.edit.ensures.keeps

pub returns-in_err-edit-2-clause-keeps : goal.returns-in_err-edit-2-clause-keeps
returns-in_err-edit-2-clause-keeps c = keeps_on c.args.pages.now c.edit.new.self c.edit-2.new.self
    (keeps_on c.args.pages.now c.allocate.new.self c.edit.new.self c.allocate.ensures.keeps c.edit.ensures.keeps)
    c.edit-2.ensures.keeps

pub returns-clause-keeps : goal.returns-clause-keeps
returns-clause-keeps c = keeps_on c.args.pages.now c.edit.new.self c.edit-2.new.self
    (keeps_on c.args.pages.now c.allocate.new.self c.edit.new.self c.allocate.ensures.keeps c.edit.ensures.keeps)
    c.edit-2.ensures.keeps

pub returns-in_err-new-clause-changed_pages : goal.returns-in_err-new-clause-changed_pages
returns-in_err-new-clause-changed_pages c = few_equal (changed_pages_of c.args.pages.now)
    (changed_pages_of c.allocate.new.self) 2 c.in_err-new.ensures.unchanged

pub returns-in_err-edit-clause-changed_pages : goal.returns-in_err-edit-clause-changed_pages
returns-in_err-edit-clause-changed_pages c = few_after (changed_pages_of c.args.pages.now)
    (changed_pages_of c.allocate.new.self) (changed_pages_of c.edit.new.self) 1 1
    (changes_count (changed_pages_of c.args.pages.now) c.in_ok-new.new (changed_pages_of c.allocate.new.self)
    c.in_ok-new.ensures.changes_page)
    c.in_err-edit.ensures.unchanged

pub returns-in_err-edit-2-clause-changed_pages : goal.returns-in_err-edit-2-clause-changed_pages
returns-in_err-edit-2-clause-changed_pages c = same_after (changed_pages_of c.args.pages.now)
    (changed_pages_of c.edit.new.self) (changed_pages_of c.edit-2.new.self) 2
    (changes_two (changed_pages_of c.args.pages.now) c.in_ok-new.new (changed_pages_of c.allocate.new.self) c.args.page
    (changed_pages_of c.edit.new.self)
    c.in_ok-new.ensures.changes_page c.in_ok-edit.ensures.changes_page) c.in_err-edit-2.ensures.unchanged

pub returns-in_err-new-clause-filled : goal.returns-in_err-new-clause-filled
returns-in_err-new-clause-filled c =
    few_weaker (filled_of c.args.pages.now) (filled_of c.allocate.new.self) 1 1 c.allocate.ensures.filled

pub returns-in_err-edit-clause-filled : goal.returns-in_err-edit-clause-filled
returns-in_err-edit-clause-filled c = few_then (filled_of c.args.pages.now) (filled_of c.allocate.new.self)
    (filled_of c.edit.new.self) 1 1 c.allocate.ensures.filled c.edit.ensures.filled

pub returns-in_err-edit-2-clause-filled : goal.returns-in_err-edit-2-clause-filled
returns-in_err-edit-2-clause-filled c =
    subst (λ (n : ℕ). n ≤ filled_of c.args.pages.now + 2) (sym c.in_err-edit-2.ensures.unfilled)
    (few_then (filled_of c.args.pages.now) (filled_of c.allocate.new.self) (filled_of c.edit.new.self) 1 1
    c.allocate.ensures.filled c.edit.ensures.filled)

pub returns-in_err-new-clause-cause : goal.returns-in_err-new-clause-cause
returns-in_err-new-clause-cause c = passed c.from_residual.result c.in_err-new.field-0.0 c.from_residual.ensures.1
    (λ r. IfErr r IsWriteRefusal)
    (allocate_is_write c.in_err-new.field-0.0 c.in_err-new.ensures.cause)

pub returns-in_err-edit-clause-cause : goal.returns-in_err-edit-clause-cause
returns-in_err-edit-clause-cause c =
    passed c.from_residual-in_err-edit.result c.in_err-edit.field-0.0 c.from_residual-in_err-edit.ensures.1
    (λ r. IfErr r IsWriteRefusal)
    (edit_is_write c.in_err-edit.field-0.0 c.in_err-edit.ensures.cause)

pub returns-in_err-edit-clause-full : goal.returns-in_err-edit-clause-full
returns-in_err-edit-clause-full c =
    passed c.from_residual-in_err-edit.result c.in_err-edit.field-0.0 c.from_residual-in_err-edit.ensures.1
    (λ r. r ≡ Err Full → HasEachPage c.edit.new.self)
    (λ is. edit_not_full c.in_err-edit.field-0.0 c.in_err-edit.ensures.cause is)

pub returns-in_err-edit-2-clause-cause : goal.returns-in_err-edit-2-clause-cause
returns-in_err-edit-2-clause-cause c =
    passed c.from_residual-in_err-edit-2.result c.in_err-edit-2.field-0.0 c.from_residual-in_err-edit-2.ensures.1
    (λ r. IfErr r IsWriteRefusal)
    (edit_is_write c.in_err-edit-2.field-0.0 c.in_err-edit-2.ensures.cause)

pub returns-in_err-edit-2-clause-full : goal.returns-in_err-edit-2-clause-full
returns-in_err-edit-2-clause-full c =
    passed c.from_residual-in_err-edit-2.result c.in_err-edit-2.field-0.0 c.from_residual-in_err-edit-2.ensures.1
    (λ r. r ≡ Err Full → HasEachPage c.edit-2.new.self)
    (λ is. edit_not_full c.in_err-edit-2.field-0.0 c.in_err-edit-2.ensures.cause is)

pub returns-clause-full : goal.returns-clause-full
returns-clause-full c = λ is. never_ok is

pub returns-in_err-new-clause-spent : goal.returns-in_err-new-clause-spent
returns-in_err-new-clause-spent c = passed c.from_residual.result c.in_err-new.field-0.0 c.from_residual.ensures.1
    (λ r. (r ≡ Err Spent) ↔ (is_spent c.args.pages.now ≡ true))
    (λ is. c.in_err-new.ensures.spent.0 (still_error is), λ was. still_error (c.in_err-new.ensures.spent.1 was))

pub returns-in_err-edit-clause-spent : goal.returns-in_err-edit-clause-spent
returns-in_err-edit-clause-spent c =
    passed c.from_residual-in_err-edit.result c.in_err-edit.field-0.0 c.from_residual-in_err-edit.ensures.1
    (λ r. (r ≡ Err Spent) ↔ (is_spent c.args.pages.now ≡ true)) (
      λ is. sym c.allocate.ensures.keeps.committed.spent ∙ c.in_err-edit.ensures.spent.0 (still_error is),
      λ was. still_error (c.in_err-edit.ensures.spent.1 (c.allocate.ensures.keeps.committed.spent ∙ was)),
    )

pub returns-in_err-edit-2-clause-spent : goal.returns-in_err-edit-2-clause-spent
returns-in_err-edit-2-clause-spent c =
    passed c.from_residual-in_err-edit-2.result c.in_err-edit-2.field-0.0 c.from_residual-in_err-edit-2.ensures.1
    (λ r. (r ≡ Err Spent) ↔ (is_spent c.args.pages.now ≡ true)) (
      λ is. sym (c.edit.ensures.keeps.committed.spent ∙ c.allocate.ensures.keeps.committed.spent)
          ∙ c.in_err-edit-2.ensures.spent.0 (still_error is),
      λ was. still_error (c.in_err-edit-2.ensures.spent.1
          (c.edit.ensures.keeps.committed.spent ∙ c.allocate.ensures.keeps.committed.spent ∙ was)),
    )

pub returns-clause-spent : goal.returns-clause-spent
returns-clause-spent c = (λ is. never_ok is, λ was. never_ok (sym c.in_ok-new.was ∙ c.allocate.ensures.spent.1 was))
