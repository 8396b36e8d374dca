use Rattle.std.proofs.Common.{◌≡◌, sym, ◌∙◌}
use Rattle.std.specs.Prelude.{IfErr, Err}
use Rattle.std.proofs.Common.{◌+◌, true, length}
use Rattle.pages.specs.Pages.{is_spent, changed_pages_of, filled_of}
use Rattle.pages.specs.declared.error.PagesError.TheVariants.{Damaged, Spent}
use Rattle.btree.specs.Refusals.{IsRestRefusal}
use Rattle.btree.specs.Outcomes.{spare}
use Rattle.btree.proofs.Clearing.{keeps_on}
use Rattle.btree.proofs.Passing.{passed, never_ok, still_error}
use Rattle.btree.proofs.Passing.{put_is_rest}
use Rattle.btree.proofs.Passing.{put_not_damaged}
use Rattle.btree.proofs.Passing.{page_stays, few_then}
use Rattle.btree.proofs.JoinedPairs.{pair_joins}
use Rattle.btree.proofs.rebalance.rebalance_pair.Goals as goal

pub returns-in_err-joined-clause-damaged : goal.returns-in_err-joined-clause-damaged
returns-in_err-joined-clause-damaged c = λ is image left right both.
    let told = rw is at c.from_residual.ensures.1 in
    c.in_err-joined.ensures.damaged (cc told) image left right both

pub returns-clause-joins : goal.returns-clause-joins
returns-clause-joins c = λ image one two pair one_is two_is.
    let joined = c.in_ok-joined.ensures in
    let named = c.name_pair.ensures in
    pair_joins c.args.pages.now c.rebalance.new.pages c.write_back.new.pages image c.args.page c.args.place c.args.node
    c.name_pair.new.node c.args.left c.args.right one two c.in_ok-joined.joined c.in_ok-outcome.outcome
    c.requires.layout c.requires.inner pair one_is two_is
    (record { rows = joined.rows; pages = joined.pages; is_joined = joined.joined; even = joined.even })
    (record { like = named.like; rows = named.rows }) c.in_ok-outcome.ensures.pages

pub write_back-requires : goal.write_back-requires
write_back-requires c = record {
  page = page_stays c.args.pages.now c.rebalance.new.pages c.args.page c.rebalance.ensures.keeps.committed
      c.requires.page;
}

pub returns-in_err-outcome-clause-keeps : goal.returns-in_err-outcome-clause-keeps
returns-in_err-outcome-clause-keeps c = keeps_on c.args.pages.now c.rebalance.new.pages c.write_back.new.pages
    c.rebalance.ensures.keeps c.write_back.ensures.keeps

pub returns-clause-keeps : goal.returns-clause-keeps
returns-clause-keeps c = keeps_on c.args.pages.now c.rebalance.new.pages c.write_back.new.pages
    c.rebalance.ensures.keeps c.write_back.ensures.keeps

pub returns-in_err-joined-clause-spent : goal.returns-in_err-joined-clause-spent
returns-in_err-joined-clause-spent c = passed c.from_residual.result c.in_err-joined.field-0.0 c.from_residual.ensures.1
    (λ r. r ≡ Err Spent → is_spent c.args.pages.now ≡ true)
    (λ is. c.in_err-joined.ensures.spent (still_error is))

pub returns-in_err-outcome-clause-spent : goal.returns-in_err-outcome-clause-spent
returns-in_err-outcome-clause-spent c =
    passed c.from_residual-in_err-outcome.result c.in_err-outcome.field-0.0 c.from_residual-in_err-outcome.ensures.1
    (λ r. r ≡ Err Spent → is_spent c.args.pages.now ≡ true)
    (λ is. sym c.rebalance.ensures.keeps.committed.spent ∙ c.in_err-outcome.ensures.spent (still_error is))

pub returns-clause-spent : goal.returns-clause-spent
returns-clause-spent c = λ is. never_ok is

pub returns-in_err-joined-clause-cause : goal.returns-in_err-joined-clause-cause
returns-in_err-joined-clause-cause c = passed c.from_residual.result c.in_err-joined.field-0.0 c.from_residual.ensures.1
    (λ r. IfErr r IsRestRefusal)
    (c.in_err-joined.ensures.cause)

pub returns-in_err-outcome-clause-cause : goal.returns-in_err-outcome-clause-cause
returns-in_err-outcome-clause-cause c =
    passed c.from_residual-in_err-outcome.result c.in_err-outcome.field-0.0 c.from_residual-in_err-outcome.ensures.1
    (λ r. IfErr r IsRestRefusal)
    (put_is_rest c.in_err-outcome.field-0.0 c.in_err-outcome.ensures.cause)

pub returns-in_err-outcome-clause-damaged : goal.returns-in_err-outcome-clause-damaged
returns-in_err-outcome-clause-damaged c = λ is image left right both.
    passed c.from_residual-in_err-outcome.result c.in_err-outcome.field-0.0 c.from_residual-in_err-outcome.ensures.1
    (λ r. r ≡ Err Damaged → ⊥)
    (λ e. put_not_damaged c.in_err-outcome.field-0.0 c.in_err-outcome.ensures.cause e) is

pub returns-clause-damaged : goal.returns-clause-damaged
returns-clause-damaged c = λ is. never_ok is

pub returns-clause-changed_pages : goal.returns-clause-changed_pages
returns-clause-changed_pages c =
    few_then (length (changed_pages_of c.args.pages.now)) (length (changed_pages_of c.rebalance.new.pages))
    (length (changed_pages_of c.write_back.new.pages) + spare c.in_ok-outcome.outcome) 2 1
    c.in_ok-joined.ensures.changed_pages
    c.in_ok-outcome.ensures.changed_pages

pub returns-clause-filled : goal.returns-clause-filled
returns-clause-filled c = few_then (filled_of c.args.pages.now) (filled_of c.rebalance.new.pages)
    (filled_of c.write_back.new.pages + spare c.in_ok-outcome.outcome) 2 1 c.in_ok-joined.ensures.filled
    c.in_ok-outcome.ensures.filled
