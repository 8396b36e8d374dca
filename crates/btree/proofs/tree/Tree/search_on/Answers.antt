use Rattle.std.proofs.Common.{◌≡◌, ◌≢◌, ◌↔◌, true, Err, sym, ap, subst, ◌∙◌}
use Rattle.std.specs.Prelude.{Option, Ok, IfErr, IfSome}
use Rattle.station.specs.Calls.{OnlyReads}
use Rattle.pages.specs.Pages.{is_spent}
use Rattle.pages.specs.declared.error.PagesError.TheVariants.{Damaged, Device, Spent}
use Rattle.btree.specs.Entries.{Entry, HasLengths}
use Rattle.btree.specs.Reading.{IsSearchRefusal}
use Rattle.btree.proofs.Finding.{lengths_if}
use Rattle.btree.proofs.Passing.{passed, never_ok, still_error, was_error, reads_where}
use Rattle.btree.proofs.tree.Tree.search_on.Goals as goal

pub returns-in_err-found-clause-only : goal.returns-in_err-found-clause-only
returns-in_err-found-clause-only g c = passed c.from_residual.result c.in_err-found.field-0.0 c.from_residual.ensures.1
    (λ r. OnlyReads g.D.Device (r ≡ Err Device) c.args.device.now c.find_on.new.device)
    (reads_where g.D.Device _ _ _ _ (λ is. still_error is) c.in_err-found.ensures.only)

pub returns-in_err-found-clause-damaged : goal.returns-in_err-found-clause-damaged
returns-in_err-found-clause-damaged g c = λ honest agrees told.
    c.find_on.ensures.damaged honest agrees (was_error c.from_residual.result c.find_on.result c.in_err-found.field-0.0
    Damaged c.from_residual.ensures.1 c.in_err-found.was told)

pub returns-in_err-found-clause-spent : goal.returns-in_err-found-clause-spent
returns-in_err-found-clause-spent g c =
    passed c.from_residual.result c.in_err-found.field-0.0 c.from_residual.ensures.1
    (λ r. (r ≡ Err Spent) ↔ ((is_spent c.args.pages.now ≡ true) × (c.args.self.now.root ≢ 0)))
    (λ is. c.in_err-found.ensures.spent.0 (still_error is), λ both. still_error (c.in_err-found.ensures.spent.1 both))

pub returns-in_err-found-clause-cause : goal.returns-in_err-found-clause-cause
returns-in_err-found-clause-cause g c =
    passed c.from_residual.result c.in_err-found.field-0.0 c.from_residual.ensures.1
    (λ r. IfErr r (IsSearchRefusal c.args.self.now.layout)) c.in_err-found.ensures.cause

pub returns-clause-only : goal.returns-clause-only
returns-clause-only g c = reads_where g.D.Device _ _ _ _ (λ is. never_ok is) c.find_on.ensures.only

pub returns-clause-entry : goal.returns-clause-entry
returns-clause-entry g c = λ honest agrees levels holds.
    c.if_found.ensures ∙ c.in_ok-found.ensures.entry honest agrees levels holds

pub returns-clause-damaged : goal.returns-clause-damaged
returns-clause-damaged g c = λ honest agrees is. never_ok is

pub returns-clause-spent : goal.returns-clause-spent
returns-clause-spent g c =
    (λ is. never_ok is, λ both. never_ok (sym c.in_ok-found.was ∙ c.find_on.ensures.spent.1 both))

pub returns-clause-lengths : goal.returns-clause-lengths
returns-clause-lengths g c = subst (λ (o : Option Entry). IfSome o (HasLengths c.args.self.now.layout))
    (sym c.if_found.ensures) (lengths_if (HasLengths c.args.self.now.layout) c.find_on.new.entry c.in_ok-found.found
    (λ is. c.in_ok-found.ensures.lengths (ap Ok is)))
