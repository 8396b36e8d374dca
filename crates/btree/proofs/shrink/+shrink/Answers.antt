use Rattle.std.proofs.Common.{List, length, sym, subst}
use Rattle.std.proofs.lemmas.List.{nil_from_length}
use Rattle.std.proofs.lemmas.Result.{IfOk-weaker}
use Rattle.station.specs.State.{State}
use Rattle.pages.specs.Pages.{changed_pages_of, filled_of}
use Rattle.btree.specs.declared.removal_outcome.RemovalOutcome.{RemovalOutcome}
use Rattle.btree.specs.declared.removal_outcome.RemovalOutcome.TheVariants.{Kept}
use Rattle.btree.specs.Path.{PathStep}
use Rattle.btree.specs.Changes.{pages_of_map}
use Rattle.btree.specs.Outcomes.{spare}
use Rattle.btree.specs.Shrinks.{ShrinksBy, NeverShrinks, NeverShrinksOn}
use Rattle.btree.proofs.Downward.{shrinks_none, kept_on, never_below, changed_on}
use Rattle.std.specs.Prelude.{IfErr, Err}
use Rattle.std.proofs.Common.{◌≡◌, inr, true, ◌∙◌}
use Rattle.station.specs.Calls.{OnlyReads}
use Rattle.station.proofs.Calls.{reads_then, reads_nothing}
use Rattle.pages.specs.Pages.{is_spent}
use Rattle.pages.specs.declared.error.PagesError.TheVariants.{Device, Spent}
use Rattle.btree.specs.Refusals.{IsChangeRefusal}
use Rattle.btree.proofs.Passing.{passed, never_ok, still_error, if_refused}
use Rattle.btree.proofs.Passing.{reads_where, committed_on}
use Rattle.btree.proofs.ShrinkCalls.{shrinks_more}
use Rattle.btree.proofs.shrink.+shrink.Goals as goal

pub returns-in-None-clause-shrinks : goal.returns-in-None-clause-shrinks
returns-in-None-clause-shrinks g t c = λ honest agrees.
    let now = pages_of_map c.args.pages.now (g.D.Device.state c.args.device.now).disk.present in
    subst (λ (path : List PathStep). ShrinksBy c.args.layout path now now c.args.outcome c.args.outcome)
    (sym (nil_from_length c.args.path.now c.in-None.ensures.cases)) (shrinks_none c.args.layout now c.args.outcome)

pub returns-in_err-below-clause-damaged : goal.returns-in_err-below-clause-damaged
returns-in_err-below-clause-damaged g t c = λ honest agrees is.
    let before = pages_of_map c.args.pages.now (g.D.Device.state c.args.device.now).disk.present in
    let told = rw is at c.from_residual.ensures.1 in
    subst (λ (path : List PathStep). NeverShrinks c.args.layout path before c.args.outcome)
    (sym c.in-Some.ensures.cases.0)
    (never_below c.args.layout before c.in-Some.pair.0.now c.in-Some.pair.1.now c.args.outcome
    (c.in_err-below.ensures.damaged honest agrees (cc told)))

pub returns-in-Kept-clause-shrinks : goal.returns-in-Kept-clause-shrinks
returns-in-Kept-clause-shrinks g t c = λ honest agrees.
    let image = (g.D.Device.state c.args.device.now).disk.present in
    let before = pages_of_map c.args.pages.now image in
    let two = pages_of_map c.shrink.new.pages image in
    let step = c.in-Some.pair.0.now in
    let rest = c.in-Some.pair.1.now in
    let below = subst (λ (outcome : RemovalOutcome). ShrinksBy c.args.layout rest before two c.args.outcome outcome)
    c.in-Kept.is (c.in_ok-below.ensures.shrinks honest agrees) in
    subst (λ (path : List PathStep). ShrinksBy c.args.layout path before two c.args.outcome Kept)
    (sym c.in-Some.ensures.cases.0) (kept_on c.args.layout two step rest before c.args.outcome below)

pub returns-in_default-clause-shrinks : goal.returns-in_default-clause-shrinks
returns-in_default-clause-shrinks g t c = shrinks_more g.D.Device _ c.args.pages.now c.shrink.new.pages
    c.shrink_at.new.pages c.args.device.now c.shrink.new.device c.args.layout c.in-Some.pair.0.now c.args.path.now
    c.in-Some.pair.1.now c.args.outcome c.in_ok-below.below c.shrink_at.result c.shrink.ensures.only
    c.shrink.ensures.agrees c.in-Some.ensures.cases.0 c.in_ok-below.ensures.shrinks c.shrink_at.ensures.shrinks

pub returns-in_default-clause-damaged : goal.returns-in_default-clause-damaged
returns-in_default-clause-damaged g t c = λ honest agrees is.
    let image = (g.D.Device.state c.args.device.now).disk.present in
    let before = pages_of_map c.args.pages.now image in
    let step = c.in-Some.pair.0.now in
    let rest = c.in-Some.pair.1.now in
    let told = c.in_ok-below.below in
    let below = c.in_ok-below.ensures.shrinks honest agrees in
    let never =
    subst (λ (s : State). NeverShrinksOn c.args.layout step (pages_of_map c.shrink.new.pages s.disk.present) told)
    (c.shrink.ensures.only.state honest)
    (c.shrink_at.ensures.damaged (c.shrink.ensures.only.honest.0 honest) (c.shrink.ensures.agrees honest agrees) is) in
    subst (λ (path : List PathStep). NeverShrinks c.args.layout path before c.args.outcome)
    (sym c.in-Some.ensures.cases.0) (never rest before c.args.outcome below)

pub returns-in_default-clause-changed_pages : goal.returns-in_default-clause-changed_pages
returns-in_default-clause-changed_pages g t c =
    let told = c.in_ok-below.below in
    let one = c.in_ok-below.ensures.changed_pages in
    IfOk-weaker c.shrink_at.result _ _
    (λ up more.
    changed_on (length (changed_pages_of c.args.pages.now)) (length (changed_pages_of c.shrink.new.pages))
    (length (changed_pages_of c.shrink_at.new.pages)) (spare c.args.outcome) (spare told) (spare up)
    c.in-Some.pair.0.now c.args.path.now c.in-Some.pair.1.now c.in-Some.ensures.cases.0 one more)
    c.shrink_at.ensures.changed_pages

pub returns-in_default-clause-filled : goal.returns-in_default-clause-filled
returns-in_default-clause-filled g t c =
    let told = c.in_ok-below.below in
    let one = c.in_ok-below.ensures.filled in
    IfOk-weaker c.shrink_at.result _ _
    (λ up more.
    changed_on (filled_of c.args.pages.now) (filled_of c.shrink.new.pages) (filled_of c.shrink_at.new.pages)
    (spare c.args.outcome) (spare told) (spare up)
    c.in-Some.pair.0.now c.args.path.now c.in-Some.pair.1.now c.in-Some.ensures.cases.0 one more)
    c.shrink_at.ensures.filled

pub returns-in-None-clause-only : goal.returns-in-None-clause-only
returns-in-None-clause-only g t c =
    reads_where g.D.Device _ _ _ _ (λ is. never_ok is) (reads_nothing g.D.Device c.args.device.now)

pub returns-in_err-below-clause-only : goal.returns-in_err-below-clause-only
returns-in_err-below-clause-only g t c =
    passed c.from_residual.result c.in_err-below.field-0.0 c.from_residual.ensures.1
    (λ r. OnlyReads g.D.Device (r ≡ Err Device) c.args.device.now c.shrink.new.device)
    (reads_where g.D.Device _ _ _ _ (λ is. still_error is) c.in_err-below.ensures.only)

pub returns-in-Kept-clause-only : goal.returns-in-Kept-clause-only
returns-in-Kept-clause-only g t c = reads_where g.D.Device _ _ _ _ (λ is. never_ok is) c.shrink.ensures.only

pub returns-in_default-clause-only : goal.returns-in_default-clause-only
returns-in_default-clause-only g t c = reads_then g.D.Device _ _ _ _ _ _ (λ is. inr is) c.shrink.ensures.only
    c.shrink_at.ensures.only

pub returns-in_default-clause-committed : goal.returns-in_default-clause-committed
returns-in_default-clause-committed g t c = committed_on c.args.pages.now c.shrink.new.pages c.shrink_at.new.pages
    c.shrink.ensures.committed c.shrink_at.ensures.committed

pub returns-in_default-clause-catalog : goal.returns-in_default-clause-catalog
returns-in_default-clause-catalog g t c = c.shrink_at.ensures.catalog ∙ c.shrink.ensures.catalog

pub returns-in_default-clause-agrees : goal.returns-in_default-clause-agrees
returns-in_default-clause-agrees g t c =
    λ honest agrees. c.shrink_at.ensures.agrees (c.shrink.ensures.only.honest.0 honest)
    (c.shrink.ensures.agrees honest agrees)

pub returns-in_err-below-clause-spent : goal.returns-in_err-below-clause-spent
returns-in_err-below-clause-spent g t c =
    passed c.from_residual.result c.in_err-below.field-0.0 c.from_residual.ensures.1
    (λ r. r ≡ Err Spent → is_spent c.args.pages.now ≡ true)
    (λ is. c.in_err-below.ensures.spent (still_error is))

pub returns-in-None-clause-spent : goal.returns-in-None-clause-spent
returns-in-None-clause-spent g t c = λ is. never_ok is

pub returns-in-Kept-clause-spent : goal.returns-in-Kept-clause-spent
returns-in-Kept-clause-spent g t c = λ is. never_ok is

pub returns-in_default-clause-spent : goal.returns-in_default-clause-spent
returns-in_default-clause-spent g t c = λ is. sym c.shrink.ensures.committed.spent ∙ c.shrink_at.ensures.spent is

pub returns-in_err-below-clause-cause : goal.returns-in_err-below-clause-cause
returns-in_err-below-clause-cause g t c =
    passed c.from_residual.result c.in_err-below.field-0.0 c.from_residual.ensures.1
    (λ r. IfErr r IsChangeRefusal)
    (c.in_err-below.ensures.cause)

pub returns-in_err-below-clause-fits : goal.returns-in_err-below-clause-fits
returns-in_err-below-clause-fits g t c =
    if_refused c.from_residual.result c.in_err-below.field-0.0 c.from_residual.ensures.1 _

pub returns-in_err-below-clause-changed_pages : goal.returns-in_err-below-clause-changed_pages
returns-in_err-below-clause-changed_pages g t c =
    if_refused c.from_residual.result c.in_err-below.field-0.0 c.from_residual.ensures.1 _

pub returns-in_err-below-clause-filled : goal.returns-in_err-below-clause-filled
returns-in_err-below-clause-filled g t c =
    if_refused c.from_residual.result c.in_err-below.field-0.0 c.from_residual.ensures.1 _

pub returns-in_err-below-clause-shrinks : goal.returns-in_err-below-clause-shrinks
returns-in_err-below-clause-shrinks g t c = λ honest agrees.
    if_refused c.from_residual.result c.in_err-below.field-0.0 c.from_residual.ensures.1 _

pub returns-in_err-below-clause-committed : goal.returns-in_err-below-clause-committed
returns-in_err-below-clause-committed g t c = c.shrink.ensures.committed

pub returns-in_err-below-clause-catalog : goal.returns-in_err-below-clause-catalog
returns-in_err-below-clause-catalog g t c = c.shrink.ensures.catalog

pub returns-in_err-below-clause-agrees : goal.returns-in_err-below-clause-agrees
returns-in_err-below-clause-agrees g t c = c.shrink.ensures.agrees

pub returns-in-Kept-clause-committed : goal.returns-in-Kept-clause-committed
returns-in-Kept-clause-committed g t c = c.shrink.ensures.committed

pub returns-in-Kept-clause-catalog : goal.returns-in-Kept-clause-catalog
returns-in-Kept-clause-catalog g t c = c.shrink.ensures.catalog

pub returns-in-Kept-clause-agrees : goal.returns-in-Kept-clause-agrees
returns-in-Kept-clause-agrees g t c = c.shrink.ensures.agrees

pub returns-in-Kept-clause-damaged : goal.returns-in-Kept-clause-damaged
returns-in-Kept-clause-damaged g t c = λ honest agrees is. never_ok is

pub returns-in-None-clause-damaged : goal.returns-in-None-clause-damaged
returns-in-None-clause-damaged g t c = λ honest agrees is. never_ok is

pub returns-in-None-clause-fits : goal.returns-in-None-clause-fits
returns-in-None-clause-fits g t c = c.requires.fits

pub returns-in_default-clause-fits : goal.returns-in_default-clause-fits
returns-in_default-clause-fits g t c = c.shrink_at.ensures.fits

pub returns-in_default-clause-cause : goal.returns-in_default-clause-cause
returns-in_default-clause-cause g t c = c.shrink_at.ensures.cause
