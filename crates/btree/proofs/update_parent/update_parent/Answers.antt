use Rattle.btree.proofs.ParentCalls.{puts_one, puts_two}
use Rattle.std.proofs.Common.{◌≡◌, ◌↔◌, true}
use Rattle.std.specs.Prelude.{Err, IfErr}
use Rattle.pages.specs.Pages.{is_spent, changed_pages_of, filled_of, HasEachPage}
use Rattle.pages.specs.declared.error.PagesError.TheVariants.{Full, Spent}
use Rattle.btree.specs.Refusals.{IsWriteRefusal}
use Rattle.std.proofs.Common.{length}
use Rattle.btree.proofs.Passing.{passed, never_ok, still_error, if_refused, few_weaker, put_is_write, put_not_full}
use Rattle.btree.proofs.update_parent.update_parent.Goals as goal

pub returns-in_ok-beside-in-Some-clause-pages : goal.returns-in_ok-beside-in-Some-clause-pages
returns-in_ok-beside-in-Some-clause-pages c =
    puts_two c.args.pages.now c.put_beside.new.pages c.args.page c.args.node c.set_key.new.self c.args.place
    c.key.result.now c.args.split.now c.in_ok-beside-in-Some.beside c.in-Some.right c.told-up.result
    (record {
      inner = c.requires.inner;
      low = c.requires.place;
      keys = c.requires.keys;
      key_is = c.key.ensures.key;
      key_length = c.key.ensures.length;
      named_is = c.set_key.ensures;
    })
    c.in-Some.is c.in_ok-beside-in-Some.ensures.pages c.in_ok-beside-in-Some.ensures.rows
    c.in_ok-beside-in-Some.ensures.split.page_is c.told-up.ensures.is

pub returns-in_ok-back-in-None-clause-pages : goal.returns-in_ok-back-in-None-clause-pages
returns-in_ok-back-in-None-clause-pages c =
    puts_one c.args.pages.now c.put_back.new.pages c.args.page c.args.node c.set_key.new.self c.args.place
    c.key.result.now c.args.split.now c.in_ok-back-in-None.back c.told-same.result
    (record {
      inner = c.requires.inner;
      low = c.requires.place;
      keys = c.requires.keys;
      key_is = c.key.ensures.key;
      key_length = c.key.ensures.length;
      named_is = c.set_key.ensures;
    })
    c.in-None.is c.in_ok-back-in-None.ensures.pages c.in_ok-back-in-None.ensures.is c.told-same.ensures.is

pub returns-in_err-beside-in-Some-clause-full : goal.returns-in_err-beside-in-Some-clause-full
returns-in_err-beside-in-Some-clause-full c = λ is.
    let told = rw is at c.from_residual.ensures.1 in
    c.in_err-beside-in-Some.ensures.full (cc told)

pub returns-in_err-beside-in-Some-clause-pages : goal.returns-in_err-beside-in-Some-clause-pages
returns-in_err-beside-in-Some-clause-pages c =
    if_refused c.from_residual.result c.in_err-beside-in-Some.field-0.0 c.from_residual.ensures.1 _

pub returns-in_err-beside-in-Some-clause-keys : goal.returns-in_err-beside-in-Some-clause-keys
returns-in_err-beside-in-Some-clause-keys c =
    if_refused c.from_residual.result c.in_err-beside-in-Some.field-0.0 c.from_residual.ensures.1 _

pub returns-in_err-beside-in-Some-clause-cause : goal.returns-in_err-beside-in-Some-clause-cause
returns-in_err-beside-in-Some-clause-cause c = passed c.from_residual.result c.in_err-beside-in-Some.field-0.0
    c.from_residual.ensures.1 (λ r. IfErr r IsWriteRefusal) c.in_err-beside-in-Some.ensures.cause

pub returns-in_err-beside-in-Some-clause-spent : goal.returns-in_err-beside-in-Some-clause-spent
returns-in_err-beside-in-Some-clause-spent c =
    let told = c.in_err-beside-in-Some.ensures.spent in
    passed c.from_residual.result c.in_err-beside-in-Some.field-0.0 c.from_residual.ensures.1
    (λ r. (r ≡ Err Spent) ↔ (is_spent c.args.pages.now ≡ true))
    (λ is. told.0 (still_error is), λ was. still_error (told.1 was))

pub returns-in_ok-beside-in-Some-clause-full : goal.returns-in_ok-beside-in-Some-clause-full
returns-in_ok-beside-in-Some-clause-full c = λ is. never_ok is

pub returns-in_ok-beside-in-Some-clause-spent : goal.returns-in_ok-beside-in-Some-clause-spent
returns-in_ok-beside-in-Some-clause-spent c =
    (λ is. never_ok is, λ was. never_ok (c.in_ok-beside-in-Some.ensures.spent.1 was))

pub returns-in_err-back-in-None-clause-pages : goal.returns-in_err-back-in-None-clause-pages
returns-in_err-back-in-None-clause-pages c =
    if_refused c.from_residual-in_err-back-in-None.result c.in_err-back-in-None.field-0.0
    c.from_residual-in_err-back-in-None.ensures.1 _

pub returns-in_err-back-in-None-clause-keys : goal.returns-in_err-back-in-None-clause-keys
returns-in_err-back-in-None-clause-keys c =
    if_refused c.from_residual-in_err-back-in-None.result c.in_err-back-in-None.field-0.0
    c.from_residual-in_err-back-in-None.ensures.1 _

pub returns-in_err-back-in-None-clause-changed_pages : goal.returns-in_err-back-in-None-clause-changed_pages
returns-in_err-back-in-None-clause-changed_pages c = few_weaker (length (changed_pages_of c.args.pages.now))
    (length (changed_pages_of c.put_back.new.pages)) 1 1 c.put_back.ensures.changed_pages

pub returns-in_err-back-in-None-clause-filled : goal.returns-in_err-back-in-None-clause-filled
returns-in_err-back-in-None-clause-filled c =
    few_weaker (filled_of c.args.pages.now) (filled_of c.put_back.new.pages) 1 1 c.put_back.ensures.filled

pub returns-in_ok-back-in-None-clause-changed_pages : goal.returns-in_ok-back-in-None-clause-changed_pages
returns-in_ok-back-in-None-clause-changed_pages c = few_weaker (length (changed_pages_of c.args.pages.now))
    (length (changed_pages_of c.put_back.new.pages)) 1 1 c.put_back.ensures.changed_pages

pub returns-in_ok-back-in-None-clause-filled : goal.returns-in_ok-back-in-None-clause-filled
returns-in_ok-back-in-None-clause-filled c =
    few_weaker (filled_of c.args.pages.now) (filled_of c.put_back.new.pages) 1 1 c.put_back.ensures.filled

pub returns-in_err-back-in-None-clause-cause : goal.returns-in_err-back-in-None-clause-cause
returns-in_err-back-in-None-clause-cause c =
    passed c.from_residual-in_err-back-in-None.result c.in_err-back-in-None.field-0.0
    c.from_residual-in_err-back-in-None.ensures.1 (λ r. IfErr r IsWriteRefusal)
    (put_is_write c.in_err-back-in-None.field-0.0 c.in_err-back-in-None.ensures.cause)

pub returns-in_err-back-in-None-clause-spent : goal.returns-in_err-back-in-None-clause-spent
returns-in_err-back-in-None-clause-spent c =
    let told = c.in_err-back-in-None.ensures.spent in
    passed c.from_residual-in_err-back-in-None.result c.in_err-back-in-None.field-0.0
    c.from_residual-in_err-back-in-None.ensures.1
    (λ r. (r ≡ Err Spent) ↔ (is_spent c.args.pages.now ≡ true))
    (λ is. told.0 (still_error is), λ was. still_error (told.1 was))

pub returns-in_ok-back-in-None-clause-full : goal.returns-in_ok-back-in-None-clause-full
returns-in_ok-back-in-None-clause-full c = λ is. never_ok is

pub returns-in_ok-back-in-None-clause-spent : goal.returns-in_ok-back-in-None-clause-spent
returns-in_ok-back-in-None-clause-spent c =
    (λ is. never_ok is, λ was. never_ok (c.in_ok-back-in-None.ensures.spent.1 was))

pub returns-in_err-back-in-None-clause-full : goal.returns-in_err-back-in-None-clause-full
returns-in_err-back-in-None-clause-full c =
    let e = c.in_err-back-in-None.field-0.0 in
    passed c.from_residual-in_err-back-in-None.result e c.from_residual-in_err-back-in-None.ensures.1
    (λ r. r ≡ Err Full → HasEachPage c.put_back.new.pages)
    (λ is. put_not_full e c.in_err-back-in-None.ensures.cause is)
