use Rattle.std.proofs.Common.{◌≡◌, ◌<◌, ℕ, length, refl, sym, ◌∙◌, subst, arith}
use Rattle.std.proofs.lemmas.Result.{IfOk-weaker}
use Rattle.station.proofs.Calls.{reads_nothing}
use Rattle.pages.specs.Pages.{is_spent}
use Rattle.btree.specs.Changes.{pages_of_map}
use Rattle.btree.proofs.Passing.{never_ok, damaged_not_device, damaged_not_spent, reads_where}
use Rattle.chains.specs.Chain.{next_at, Stands}
use Rattle.chains.proofs.Parts.{link_low}
use Rattle.chains.proofs.Refusing.{spent_not_device, spent_not_damaged, on_ok_anyway, never_spent}
use Rattle.chains.proofs.link.page_after.Goals as goal

pub returns-then-is_spent-clause-only : goal.returns-then-is_spent-clause-only
returns-then-is_spent-clause-only g c =
    reads_where g.D.Device _ _ _ _ (λ is. spent_not_device is) (reads_nothing g.D.Device c.args.device.now)

pub returns-then-page-eq0-clause-only : goal.returns-then-page-eq0-clause-only
returns-then-page-eq0-clause-only g c =
    reads_where g.D.Device _ _ _ _ (λ is. damaged_not_device is) (reads_nothing g.D.Device c.args.device.now)

pub returns-then-page_count-page-clause-only : goal.returns-then-page_count-page-clause-only
returns-then-page_count-page-clause-only g c =
    reads_where g.D.Device _ _ _ _ (λ is. damaged_not_device is) (reads_nothing g.D.Device c.args.device.now)

pub returns-then-more-eq0-clause-only : goal.returns-then-more-eq0-clause-only
returns-then-more-eq0-clause-only g c =
    reads_where g.D.Device _ _ _ _ (λ is. never_ok is) (reads_nothing g.D.Device c.args.device.now)

pub returns-then-is_spent-clause-damaged : goal.returns-then-is_spent-clause-damaged
returns-then-is_spent-clause-damaged g c = λ honest agrees is stands. spent_not_damaged is

pub returns-then-page-eq0-clause-damaged : goal.returns-then-page-eq0-clause-damaged
returns-then-page-eq0-clause-damaged g c = λ honest agrees is stands.
    let some = stands.0 in let none = c.if-page-eq0.true in omega arith

pub returns-then-page_count-page-clause-damaged : goal.returns-then-page_count-page-clause-damaged
returns-then-page_count-page-clause-damaged g c = λ honest agrees is stands.
    let image = (g.D.Device.state c.args.device.now).disk.present in
    let low = link_low (pages_of_map c.args.pages.now image) c.args.page stands.1 in
    let count = c.page_count.ensures.count in
    let whole = c.page_count.ensures.pages image in
    let beyond = c.if-page_count-page.true in
    omega arith

pub returns-then-more-eq0-clause-damaged : goal.returns-then-more-eq0-clause-damaged
returns-then-more-eq0-clause-damaged g c = λ honest agrees is stands. never_ok is

pub returns-clause-damaged : goal.returns-clause-damaged
returns-clause-damaged g c = λ honest agrees is stands.
    c.next_page.ensures.damaged honest agrees is stands.0 stands.1

pub returns-then-more-eq0-clause-next : goal.returns-then-more-eq0-clause-next
returns-then-more-eq0-clause-next g c = λ honest agrees stands.
    let pages = pages_of_map c.args.pages.now (g.D.Device.state c.args.device.now).disk.present in
    sym (subst (λ (n : ℕ). Stands pages n (next_at pages c.args.page)) c.if-more-eq0.true stands.2)

pub returns-clause-next : goal.returns-clause-next
returns-clause-next g c = λ honest agrees stands.
    let pages = pages_of_map c.args.pages.now (g.D.Device.state c.args.device.now).disk.present in
    IfOk-weaker c.next_page.result _ (λ next. next ≡ next_at pages c.args.page) (λ next link. link.next_is)
    (c.next_page.ensures.link honest agrees)

pub returns-then-is_spent-clause-spent : goal.returns-then-is_spent-clause-spent
returns-then-is_spent-clause-spent g c = (λ is. sym c.is_spent.ensures ∙ c.if-is_spent.true, λ was. refl)

pub returns-then-page-eq0-clause-spent : goal.returns-then-page-eq0-clause-spent
returns-then-page-eq0-clause-spent g c = (
  λ is. damaged_not_spent is,
  λ was. never_spent c.is_spent.result (is_spent c.args.pages.now) c.is_spent.ensures c.if-is_spent.false was,
)

pub returns-then-page_count-page-clause-spent : goal.returns-then-page_count-page-clause-spent
returns-then-page_count-page-clause-spent g c = (
  λ is. damaged_not_spent is,
  λ was. never_spent c.is_spent.result (is_spent c.args.pages.now) c.is_spent.ensures c.if-is_spent.false was,
)

pub returns-then-more-eq0-clause-spent : goal.returns-then-more-eq0-clause-spent
returns-then-more-eq0-clause-spent g c = (
  λ is. never_ok is,
  λ was. never_spent c.is_spent.result (is_spent c.args.pages.now) c.is_spent.ensures c.if-is_spent.false was,
)

pub returns-clause-page : goal.returns-clause-page
returns-clause-page g c =
    let low : c.args.page < length c.args.pages.now.volume.table =
    let count = c.page_count.ensures.count in let inside = c.if-page_count-page.false in omega arith in
    let some : 0 < c.args.page = let none = c.if-page-eq0.false in omega arith in
    on_ok_anyway c.next_page.result (some, low)
