use Rattle.std.proofs.Common.{◌≡◌, List, Err, subst, ◌∙◌}
use Rattle.std.specs.Prelude.{Option}
use Rattle.std.proofs.lemmas.Result.{err_from_is_err_and}
use Rattle.station.specs.Disk.{Sector}
use Rattle.pages.specs.Pages.{map_now}
use Rattle.pages.specs.declared.error.PagesError.TheVariants.{Damaged}
use Rattle.btree_pages.specs.declared.row_layout.Kind.TheVariants.{Leaf, Inner}
use Rattle.btree.specs.Calls.{pages_on}
use Rattle.btree.specs.Sought.{DescendsAt, LooksAt}
use Rattle.btree.proofs.Descents.{kind_read}
use Rattle.std.specs.Prelude.{IfErr}
use Rattle.std.proofs.Common.{◌↔◌, true, sym}
use Rattle.station.specs.Calls.{OnlyReads}
use Rattle.pages.specs.Pages.{is_spent}
use Rattle.pages.specs.declared.error.PagesError.TheVariants.{Device, Spent}
use Rattle.btree.specs.Reading.{IsReadRefusal}
use Rattle.btree.proofs.Passing.{passed, never_ok, still_error, damaged_not_device, damaged_not_spent}
use Rattle.btree.proofs.Passing.{reads_where}
use Rattle.btree.proofs.sought.entry_at.Goals as goal

pub returns-in_err-look_at-clause-damaged : goal.returns-in_err-look_at-clause-damaged
returns-in_err-look_at-clause-damaged g c = λ honest agrees told node same stands.
    let from = err_from_is_err_and c.from_residual.result c.from_residual.ensures.1 in
    let damaged : c.look_at.result ≡ Err Damaged = cc in
    c.look_at.ensures.reads.damaged honest agrees damaged Leaf node same stands

pub returns-in-Below-clause-damaged : goal.returns-in-Below-clause-damaged
returns-in-Below-clause-damaged g c = λ honest agrees told node same stands.
    let pages : List (Option Sector) =
    (map_now c.args.pages.now (g.D.Device.state c.args.device.now).disk.present).pages in
    let looks : LooksAt c.args.layout pages c.args.page c.args.key.now c.args.sought c.look_at.new.entry
    c.in_ok-look_at.field-0 = c.in_ok-look_at.ensures.reads.answer honest agrees in
    let down : DescendsAt c.args.layout pages c.args.page c.args.key.now c.in-Below.field-0 = subst
    (LooksAt c.args.layout pages c.args.page c.args.key.now c.args.sought c.look_at.new.entry) c.in-Below.is looks in
    let clash : Leaf ≡ Inner =
    kind_read c.args.layout pages Leaf node c.args.page down.node same stands down.read ∙ down.inner in
    cc

pub returns-in_err-look_at-clause-only : goal.returns-in_err-look_at-clause-only
returns-in_err-look_at-clause-only g c =
    passed c.from_residual.result c.in_err-look_at.field-0.0 c.from_residual.ensures.1
    (λ r. OnlyReads g.D.Device (r ≡ Err Device) c.args.device.now c.look_at.new.device)
    (reads_where g.D.Device _ _ _ _ (λ is. still_error is) c.in_err-look_at.ensures.reads.only)

pub returns-in-Here-clause-only : goal.returns-in-Here-clause-only
returns-in-Here-clause-only g c = reads_where g.D.Device _ _ _ _ (λ is. never_ok is) c.look_at.ensures.reads.only

pub returns-in-Here-clause-spent : goal.returns-in-Here-clause-spent
returns-in-Here-clause-spent g c =
    (λ is. never_ok is, λ was. never_ok (sym c.in_ok-look_at.was ∙ c.look_at.ensures.reads.spent.1 was))

pub returns-in-Here-clause-damaged : goal.returns-in-Here-clause-damaged
returns-in-Here-clause-damaged g c = λ honest agrees is. never_ok is

pub returns-in-Missing-clause-only : goal.returns-in-Missing-clause-only
returns-in-Missing-clause-only g c = reads_where g.D.Device _ _ _ _ (λ is. never_ok is) c.look_at.ensures.reads.only

pub returns-in-Missing-clause-spent : goal.returns-in-Missing-clause-spent
returns-in-Missing-clause-spent g c =
    (λ is. never_ok is, λ was. never_ok (sym c.in_ok-look_at.was ∙ c.look_at.ensures.reads.spent.1 was))

pub returns-in-Missing-clause-damaged : goal.returns-in-Missing-clause-damaged
returns-in-Missing-clause-damaged g c = λ honest agrees is. never_ok is

pub returns-in-Below-clause-only : goal.returns-in-Below-clause-only
returns-in-Below-clause-only g c =
    reads_where g.D.Device _ _ _ _ (λ is. damaged_not_device is) c.look_at.ensures.reads.only

pub returns-in-Below-clause-spent : goal.returns-in-Below-clause-spent
returns-in-Below-clause-spent g c =
    (λ is. damaged_not_spent is, λ was. never_ok (sym c.in_ok-look_at.was ∙ c.look_at.ensures.reads.spent.1 was))

pub returns-in_err-look_at-clause-spent : goal.returns-in_err-look_at-clause-spent
returns-in_err-look_at-clause-spent g c =
    passed c.from_residual.result c.in_err-look_at.field-0.0 c.from_residual.ensures.1
    (λ r. (r ≡ Err Spent) ↔ (is_spent c.args.pages.now ≡ true)) (
      λ is. c.in_err-look_at.ensures.reads.spent.0 (still_error is),
      λ was. still_error (c.in_err-look_at.ensures.reads.spent.1 was),
    )

pub returns-in_err-look_at-clause-cause : goal.returns-in_err-look_at-clause-cause
returns-in_err-look_at-clause-cause g c =
    passed c.from_residual.result c.in_err-look_at.field-0.0 c.from_residual.ensures.1
    (λ r. IfErr r IsReadRefusal)
    (c.in_err-look_at.ensures.reads.cause)

pub returns-in_err-look_at-clause-unchanged : goal.returns-in_err-look_at-clause-unchanged
returns-in_err-look_at-clause-unchanged g c = c.look_at.ensures.reads.unchanged

pub returns-in_err-look_at-clause-agrees : goal.returns-in_err-look_at-clause-agrees
returns-in_err-look_at-clause-agrees g c = c.look_at.ensures.reads.agrees

pub returns-in-Here-clause-unchanged : goal.returns-in-Here-clause-unchanged
returns-in-Here-clause-unchanged g c = c.look_at.ensures.reads.unchanged

pub returns-in-Here-clause-agrees : goal.returns-in-Here-clause-agrees
returns-in-Here-clause-agrees g c = c.look_at.ensures.reads.agrees

pub returns-in-Missing-clause-unchanged : goal.returns-in-Missing-clause-unchanged
returns-in-Missing-clause-unchanged g c = c.look_at.ensures.reads.unchanged

pub returns-in-Missing-clause-agrees : goal.returns-in-Missing-clause-agrees
returns-in-Missing-clause-agrees g c = c.look_at.ensures.reads.agrees

pub returns-in-Below-clause-unchanged : goal.returns-in-Below-clause-unchanged
returns-in-Below-clause-unchanged g c = c.look_at.ensures.reads.unchanged

pub returns-in-Below-clause-agrees : goal.returns-in-Below-clause-agrees
returns-in-Below-clause-agrees g c = c.look_at.ensures.reads.agrees

pub returns-in-Here-clause-entry : goal.returns-in-Here-clause-entry
returns-in-Here-clause-entry g c = λ honest agrees.
    subst (LooksAt c.args.layout (pages_on g.D.Device c.args.pages.now c.args.device.now) c.args.page c.args.key.now
    c.args.sought c.look_at.new.entry) c.in-Here.is (c.in_ok-look_at.ensures.reads.answer honest agrees)

pub returns-in-Missing-clause-entry : goal.returns-in-Missing-clause-entry
returns-in-Missing-clause-entry g c = λ honest agrees.
    subst (LooksAt c.args.layout (pages_on g.D.Device c.args.pages.now c.args.device.now) c.args.page c.args.key.now
    c.args.sought c.look_at.new.entry) c.in-Missing.is (c.in_ok-look_at.ensures.reads.answer honest agrees)
