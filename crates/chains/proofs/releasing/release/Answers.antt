use Rattle.std.proofs.Common.{◌≡◌, ◌≢◌, ◌<◌, ◌≤◌, ◌+◌, ◌-◌, true, ℕ, List, length, sym, subst, ◌∙◌, arith, inr}
use Rattle.std.specs.Prelude.{◌↔◌, Err, IfErr}
use Rattle.station.specs.Calls.{OnlyReads}
use Rattle.station.proofs.Calls.{reads_then}
use Rattle.pages.specs.Pages.{changed_pages_of, is_spent}
use Rattle.pages.specs.declared.error.PagesError.TheVariants.{Device, Damaged, Spent}
use Rattle.btree.specs.Changes.{pages_of_map}
use Rattle.btree.specs.Refusals.{IsChangeRefusal}
use Rattle.btree.proofs.Passing.{passed, never_ok, still_error, reads_where, sectors_on, committed_on}
use Rattle.btree.proofs.Passing.{read_is_change, edit_is_put, put_is_rest, rest_is_change, put_not_device}
use Rattle.chains.specs.Chain.{pages_for}
use Rattle.chains.proofs.Unwritten.{still_agrees}
use Rattle.chains.proofs.Refusing.{some_bytes, few_of_all, edit_not_damaged}
use Rattle.chains.proofs.Loops.{releases_start, releases_end}
use Rattle.chains.proofs.Keeping.{over, keeps_nothing, keeps_next, releases_next, releases_stop}
use Rattle.chains.proofs.releasing.release.Goals as goal

pub loop-place-init : goal.loop-place-init
loop-place-init g c = record {
  keeps = keeps_nothing g.D.Device c.args.pages.now c.args.device.now;
  rest = λ honest agrees stands.
      releases_start (over g.D.Device c.args.pages.now c.args.device.now) (pages_for c.args.size) c.args.first stands;
  filled = omega arith;
}

pub loop-place-preserved : goal.loop-place-preserved
loop-place-preserved g c =
    let loop = c.loop-place in
    record {
      keeps = keeps_next g.D.Device c.args.pages.now loop.pages c.release.new.self _ loop.device _ loop.page loop.place
          _ loop.invariant.keeps c.page_after.ensures.only c.release.ensures.keeps c.in_ok-release.ensures.changes_page
          (λ was. never_ok (sym c.in_ok-next.was ∙ c.page_after.ensures.spent.1 was));
      rest = releases_next g.D.Device c.args.pages.now loop.pages c.args.device.now loop.device c.args.first loop.place
          loop.page (c.page_count-count.result - 1 - loop.place) loop.invariant.keeps c.release.new.self
          (pages_for c.args.size) c.in_ok-next.next
          (omega (arith, c.loop-place-test.true, c.page_count-count.ensures)) c.in_ok-next.ensures.next
          c.in_ok-release.ensures.map loop.invariant.rest;
      filled = omega (arith, loop.invariant.filled, c.release.ensures.filled);
    }

pub page_after-requires : goal.page_after-requires
page_after-requires g c = record {
  sectors = sectors_on c.args.pages.now c.loop-place.pages _ _ c.loop-place.invariant.keeps.committed.volume
      c.loop-place.invariant.keeps.only.sectors c.requires.sectors;
}

pub release-requires : goal.release-requires
release-requires g c = record { page = c.in_ok-next.ensures.page }

-- A page that isn't read.
pub returns-in_err-next-clause-only : goal.returns-in_err-next-clause-only
returns-in_err-next-clause-only g c = passed c.from_residual.result c.in_err-next.field-0.0 c.from_residual.ensures.1
    (λ r. OnlyReads g.D.Device (r ≡ Err Device) c.args.device.now c.page_after.new.device)
    (reads_then g.D.Device _ _ _ _ _ _ (λ is. inr (still_error is)) c.loop-place.invariant.keeps.only
    c.in_err-next.ensures.only)

pub returns-in_err-next-clause-damaged : goal.returns-in_err-next-clause-damaged
returns-in_err-next-clause-damaged g c = λ honest agrees is stands.
    let loop = c.loop-place in
    passed c.from_residual.result c.in_err-next.field-0.0 c.from_residual.ensures.1 (λ r. r ≡ Err Damaged → ⊥)
    (λ told. releases_stop g.D.Device c.args.pages.now loop.pages c.args.device.now loop.device c.args.first loop.place
    loop.page (c.page_count-count.result - 1 - loop.place) loop.invariant.keeps (pages_for c.args.size) _
    (omega (arith, c.loop-place-test.true, c.page_count-count.ensures)) loop.invariant.rest (still_error told)
    c.in_err-next.ensures.damaged honest agrees stands) is

pub returns-in_err-next-clause-changed_pages : goal.returns-in_err-next-clause-changed_pages
returns-in_err-next-clause-changed_pages g c =
    let test = c.loop-place-test.true in
    let count = c.page_count-count.ensures in
    few_of_all (length (changed_pages_of c.args.pages.now)) (length (changed_pages_of c.loop-place.pages))
    c.loop-place.place (pages_for c.args.size)
    c.loop-place.invariant.keeps.changed_pages (omega arith)

pub returns-in_err-next-clause-filled : goal.returns-in_err-next-clause-filled
returns-in_err-next-clause-filled g c =
    let few = c.loop-place.invariant.filled in
    omega arith

pub returns-in_err-next-clause-committed : goal.returns-in_err-next-clause-committed
returns-in_err-next-clause-committed g c = c.loop-place.invariant.keeps.committed

pub returns-in_err-next-clause-catalog : goal.returns-in_err-next-clause-catalog
returns-in_err-next-clause-catalog g c = c.loop-place.invariant.keeps.catalog

pub returns-in_err-next-clause-agrees : goal.returns-in_err-next-clause-agrees
returns-in_err-next-clause-agrees g c = λ honest agrees.
    still_agrees c.loop-place.pages _ _
    (c.page_after.ensures.only.state (c.loop-place.invariant.keeps.only.honest.0 honest))
    (c.loop-place.invariant.keeps.agrees honest agrees)

pub returns-in_err-next-clause-spent : goal.returns-in_err-next-clause-spent
returns-in_err-next-clause-spent g c =
    let same = c.loop-place.invariant.keeps.committed.spent in
    let test = c.loop-place-test.true in
    let count = c.page_count-count.ensures in
    passed c.from_residual.result c.in_err-next.field-0.0 c.from_residual.ensures.1
    (λ r. (r ≡ Err Spent) ↔ ((is_spent c.args.pages.now ≡ true) × (c.args.size ≢ 0))) (
      λ is. (
        sym same ∙ c.in_err-next.ensures.spent.0 (still_error is),
        some_bytes (c.args.size) c.loop-place.place (omega arith),
      ),
      λ was. still_error (c.in_err-next.ensures.spent.1 (same ∙ was.0)),
    )

pub returns-in_err-next-clause-cause : goal.returns-in_err-next-clause-cause
returns-in_err-next-clause-cause g c = passed c.from_residual.result c.in_err-next.field-0.0 c.from_residual.ensures.1
    (λ r. IfErr r IsChangeRefusal) (read_is_change c.in_err-next.field-0.0 c.in_err-next.ensures.cause)

-- A page that isn't changed.
pub returns-in_err-release-clause-only : goal.returns-in_err-release-clause-only
returns-in_err-release-clause-only g c =
    let x = c.in_err-release.field-0.0 in
    passed c.from_residual-in_err-release.result x c.from_residual-in_err-release.ensures.1
    (λ r. OnlyReads g.D.Device (r ≡ Err Device) c.args.device.now c.page_after.new.device)
    (reads_then g.D.Device _ _ _ _ _ _ (λ is. put_not_device x (edit_is_put x c.in_err-release.ensures.cause) is)
    c.loop-place.invariant.keeps.only c.page_after.ensures.only)

pub returns-in_err-release-clause-damaged : goal.returns-in_err-release-clause-damaged
returns-in_err-release-clause-damaged g c = λ honest agrees is stands.
    let x = c.in_err-release.field-0.0 in
    passed c.from_residual-in_err-release.result x c.from_residual-in_err-release.ensures.1 (λ r. r ≡ Err Damaged → ⊥)
    (λ told. edit_not_damaged x c.in_err-release.ensures.cause told) is

pub returns-in_err-release-clause-changed_pages : goal.returns-in_err-release-clause-changed_pages
returns-in_err-release-clause-changed_pages g c =
    let test = c.loop-place-test.true in
    let count = c.page_count-count.ensures in
    few_of_all (length (changed_pages_of c.args.pages.now)) (length (changed_pages_of c.release.new.self))
    c.loop-place.place (pages_for c.args.size)
    (subst (λ (l : List ℕ). length l ≤ length (changed_pages_of c.args.pages.now) + c.loop-place.place)
    (sym c.in_err-release.ensures.unchanged)
    c.loop-place.invariant.keeps.changed_pages) (omega arith)

pub returns-in_err-release-clause-filled : goal.returns-in_err-release-clause-filled
returns-in_err-release-clause-filled g c =
    let few = c.loop-place.invariant.filled in
    let gone = c.release.ensures.filled in
    omega arith

pub returns-in_err-release-clause-committed : goal.returns-in_err-release-clause-committed
returns-in_err-release-clause-committed g c = committed_on c.args.pages.now c.loop-place.pages c.release.new.self
    c.loop-place.invariant.keeps.committed c.release.ensures.keeps.committed

pub returns-in_err-release-clause-catalog : goal.returns-in_err-release-clause-catalog
returns-in_err-release-clause-catalog g c = c.release.ensures.keeps.catalog
    ∙ c.loop-place.invariant.keeps.catalog

pub returns-in_err-release-clause-agrees : goal.returns-in_err-release-clause-agrees
returns-in_err-release-clause-agrees g c = λ honest agrees.
    c.release.ensures.keeps.agrees (g.D.Device.state c.page_after.new.device).disk
    (still_agrees c.loop-place.pages _ _
    (c.page_after.ensures.only.state (c.loop-place.invariant.keeps.only.honest.0 honest))
    (c.loop-place.invariant.keeps.agrees honest agrees))

pub returns-in_err-release-clause-spent : goal.returns-in_err-release-clause-spent
returns-in_err-release-clause-spent g c =
    let x = c.in_err-release.field-0.0 in
    let same = c.loop-place.invariant.keeps.committed.spent in
    let test = c.loop-place-test.true in
    let count = c.page_count-count.ensures in
    passed c.from_residual-in_err-release.result x c.from_residual-in_err-release.ensures.1
    (λ r. (r ≡ Err Spent) ↔ ((is_spent c.args.pages.now ≡ true) × (c.args.size ≢ 0))) (
      λ is. (
        sym same ∙ c.in_err-release.ensures.spent.0 (still_error is),
        some_bytes (c.args.size) c.loop-place.place (omega arith),
      ),
      λ was. still_error (c.in_err-release.ensures.spent.1 (same ∙ was.0)),
    )

pub returns-in_err-release-clause-cause : goal.returns-in_err-release-clause-cause
returns-in_err-release-clause-cause g c =
    let x = c.in_err-release.field-0.0 in
    passed c.from_residual-in_err-release.result x c.from_residual-in_err-release.ensures.1
    (λ r. IfErr r IsChangeRefusal)
    (rest_is_change x (put_is_rest x (edit_is_put x c.in_err-release.ensures.cause)))

-- The end.
pub returns-clause-released : goal.returns-clause-released
returns-clause-released g c = λ honest agrees stands.
    let loop = c.loop-place in
    let count = c.page_count-count.ensures in
    let test = c.loop-place-test.false in
    releases_end (pages_of_map c.args.pages.now (g.D.Device.state c.args.device.now).disk.present)
    (pages_for c.args.size) c.args.first (pages_of_map loop.pages (g.D.Device.state c.args.device.now).disk.present)
    loop.place loop.page (omega arith) (loop.invariant.rest honest agrees stands)

pub returns-clause-only : goal.returns-clause-only
returns-clause-only g c = reads_where g.D.Device _ _ _ _ (λ is. never_ok is) c.loop-place.invariant.keeps.only

pub returns-clause-damaged : goal.returns-clause-damaged
returns-clause-damaged g c = λ honest agrees is stands. never_ok is

pub returns-clause-changed_pages : goal.returns-clause-changed_pages
returns-clause-changed_pages g c =
    let bound = c.loop-place.auto.place-end in
    let count = c.page_count-count.ensures in
    few_of_all (length (changed_pages_of c.args.pages.now)) (length (changed_pages_of c.loop-place.pages))
    c.loop-place.place (pages_for c.args.size) c.loop-place.invariant.keeps.changed_pages (omega arith)

pub returns-clause-filled : goal.returns-clause-filled
returns-clause-filled g c = c.loop-place.invariant.filled

pub returns-clause-spent : goal.returns-clause-spent
returns-clause-spent g c = (
  λ is. never_ok is,
  λ was.
      let count = c.page_count-count.ensures in
      let test = c.loop-place-test.false in
      let some = was.1 in
      let low : 0 < c.loop-place.place = omega arith in
      let never = c.loop-place.invariant.keeps.unspent low in
      let is = was.0 in
      absurd (cc (never, is)),
)

pub returns-clause-committed : goal.returns-clause-committed
returns-clause-committed g c = c.loop-place.invariant.keeps.committed

pub returns-clause-catalog : goal.returns-clause-catalog
returns-clause-catalog g c = c.loop-place.invariant.keeps.catalog

pub returns-clause-agrees : goal.returns-clause-agrees
returns-clause-agrees g c = λ honest agrees. c.loop-place.invariant.keeps.agrees honest agrees
