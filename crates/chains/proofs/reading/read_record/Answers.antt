use Rattle.std.proofs.Common.{◌≡◌, ◌⊎◌, inl, inr, true, ◌<◌, ◌≤◌, ◌+◌, ◌-◌, ◌*◌, ℕ, List, [], length, take, refl, sym}
use Rattle.std.proofs.Common.{ap, subst, ◌∙◌, arith}
use Rattle.std.specs.Prelude.{Err, IfErr}
use Rattle.std.proofs.lemmas.List.{take_all}
use Rattle.station.specs.State.{State}
use Rattle.station.specs.Calls.{OnlyReads}
use Rattle.station.proofs.Calls.{reads_nothing, reads_then}
use Rattle.pages.specs.Pages.{Agrees, is_spent}
use Rattle.pages.specs.declared.error.PagesError.TheVariants.{Device, Damaged, Memory, Spent}
use Rattle.btree.specs.Calls.{pages_on}
use Rattle.btree.specs.Changes.{pages_of_map}
use Rattle.btree.proofs.Passing.{passed, never_ok, never_true, was_error, still_error, if_refused, reads_where}
use Rattle.btree.proofs.Passing.{put_not_device}
use Rattle.btree.proofs.Passing.{put_not_damaged, memory_not_spent, damaged_not_device, damaged_not_spent}
use Rattle.chains.specs.Chain.{IsLink, Stands, page_at, pages_for, chain_bytes}
use Rattle.chains.specs.Changes.{IsRecordOf}
use Rattle.chains.specs.Links.{AddsPart}
use Rattle.chains.specs.Refusals.{IsRecordRefusal}
use Rattle.chains.proofs.Parts.{follows_start, follows_added, record_step, record_whole, stops_at, part_ends}
use Rattle.chains.proofs.Refusing.{never_was, some_place}
use Rattle.chains.proofs.Unwritten.{still_agrees}
use Rattle.chains.proofs.reading.read_record.Given.{Over}
use Rattle.chains.proofs.reading.read_record.Goals as goal

-- the part of a page, of the pages as they were at the call
added : (g : Over) (c : goal.In_ok-next g) → g.D.Device.is_honest c.args.device.now
    → Agrees c.args.pages.now (g.D.Device.state c.args.device.now).disk
    → AddsPart (pages_of_map c.args.pages.now (g.D.Device.state c.args.device.now).disk.present) c.loop-place.page
    (c.part_end.result - c.loop-place.place * 4080) c.loop-place.bytes.items c.add_part.new.bytes.items
    c.in_ok-next.next
added g c honest agrees =
    let only = c.loop-place.invariant.only in
    let same = only.state honest in
    subst (λ (s : State). AddsPart (pages_of_map c.args.pages.now s.disk.present) c.loop-place.page
    (c.part_end.result - c.loop-place.place * 4080) c.loop-place.bytes.items c.add_part.new.bytes.items
    c.in_ok-next.next) same
    (c.in_ok-next.ensures.part (only.honest.0 honest) (still_agrees c.args.pages.now _ _ same agrees))

-- the bytes after it
grown : (g : Over) (c : goal.In_ok-next g) → g.D.Device.is_honest c.args.device.now
    → Agrees c.args.pages.now (g.D.Device.state c.args.device.now).disk
    → c.add_part.new.bytes.items ≡ take c.args.size (chain_bytes
    (pages_of_map c.args.pages.now (g.D.Device.state c.args.device.now).disk.present) (c.loop-place.place + 1)
    c.args.first)
grown g c honest agrees =
    let loop = c.loop-place in
    let bounds = c.part_end.ensures in
    record_step (pages_of_map c.args.pages.now (g.D.Device.state c.args.device.now).disk.present) loop.bytes.items
    c.add_part.new.bytes.items c.args.size loop.place c.part_end.result c.args.first loop.page c.in_ok-next.next
    (loop.invariant.follows honest agrees) bounds.low bounds.within bounds.last (loop.invariant.bytes honest agrees)
    (added g c honest agrees)

-- and their number
ends : (g : Over) (c : goal.In_ok-next g) → (c.loop-place.place + 1 < pages_for c.args.size
    → length c.add_part.new.bytes.items ≡ (c.loop-place.place + 1) * 4080)
    × (pages_for c.args.size ≤ c.loop-place.place + 1 → length c.add_part.new.bytes.items ≡ c.args.size)
ends g c =
    let bounds = c.part_end.ensures in
    let low : c.loop-place.place < pages_for c.args.size =
    omega (arith, c.loop-place-test.true, c.page_count-count.ensures) in
    part_ends c.args.size c.loop-place.place c.part_end.result (length c.loop-place.bytes.items)
    (length c.add_part.new.bytes.items) low bounds.low bounds.high bounds.within bounds.last
    (c.loop-place.invariant.some low) c.in_ok-next.ensures.long

pub loop-place-init : goal.loop-place-init
loop-place-init g c =
    let empty : length c.in_ok-bytes.bytes.items ≡ 0 = ap (λ (l : List ℕ). length l) c.in_ok-bytes.ensures.items in
    record {
      only = reads_nothing g.D.Device c.args.device.now;
      follows = λ h a. follows_start _ c.args.first;
      bytes = λ h a. c.in_ok-bytes.ensures.items ∙ sym (take_all c.args.size [] (omega arith));
      some = λ low. empty;
      unspent = λ some. absurd (omega (arith, some));
      whole = λ all. omega (arith, all, empty);
    }

pub loop-place-preserved : goal.loop-place-preserved
loop-place-preserved g c =
    let loop = c.loop-place in
    record {
      only = reads_then g.D.Device ⊥ _ ⊥ c.args.device.now loop.device c.add_part.new.device (λ e. absurd e)
          loop.invariant.only c.add_part.ensures.only;
      follows = λ h a. follows_added _ loop.place c.args.first loop.page c.in_ok-next.next _ _ _
          (loop.invariant.follows h a) (added g c h a);
      bytes = λ h a. grown g c h a;
      some = (ends g c).0;
      unspent = λ some. never_was c.in_ok-next.was refl c.add_part.ensures.spent;
      whole = (ends g c).1;
    }

pub returns-in_err-next-clause-damaged : goal.returns-in_err-next-clause-damaged
returns-in_err-next-clause-damaged g c = λ honest agrees is stands.
    let loop = c.loop-place in
    let pages = pages_of_map c.args.pages.now (g.D.Device.state c.args.device.now).disk.present in
    let same = loop.invariant.only.state honest in
    let damaged = was_error c.from_residual-in_err-next.result c.add_part.result c.in_err-next.field-0.0 Damaged
    c.from_residual-in_err-next.ensures.1 c.in_err-next.was is in
    let test = c.loop-place-test.true in
    let count = c.page_count-count.ensures in
    let here = stops_at pages (pages_for c.args.size) loop.place c.args.first loop.page (omega arith)
    (loop.invariant.follows honest agrees) stands in
    c.add_part.ensures.damaged (loop.invariant.only.honest.0 honest) (still_agrees c.args.pages.now _ _ same agrees)
    damaged here.0
    (subst (λ (s : State). IsLink (page_at (pages_of_map c.args.pages.now s.disk.present) loop.page)) (sym same) here.1)

pub returns-then-page-ne0-clause-damaged : goal.returns-then-page-ne0-clause-damaged
returns-then-page-ne0-clause-damaged g c = λ honest agrees is stands.
    let loop = c.loop-place in
    let pages = pages_of_map c.args.pages.now (g.D.Device.state c.args.device.now).disk.present in
    let count = c.page_count-count.ensures in
    let bound = loop.auto.place-end in
    let test = c.loop-place-test.false in
    let whole : pages_for c.args.size ≡ loop.place + 0 = omega arith in
    c.if-page-ne0.true ((loop.invariant.follows honest agrees).back 0
    (subst (λ (n : ℕ). Stands pages n c.args.first) whole stands))

pub returns-clause-bytes : goal.returns-clause-bytes
returns-clause-bytes g c = λ honest agrees.
    let loop = c.loop-place in
    let count = c.page_count-count.ensures in
    let bound = loop.auto.place-end in
    let test = c.loop-place-test.false in
    let zero = c.if-page-ne0.false in
    record_whole (pages_of_map c.args.pages.now (g.D.Device.state c.args.device.now).disk.present) c.args.first
    loop.page loop.bytes.items c.args.size loop.place (omega arith) (omega arith) (loop.invariant.whole (omega arith))
    (loop.invariant.follows honest agrees) (loop.invariant.bytes honest agrees)

-- A list with room for the record is refused.
pub returns-in_err-bytes-clause-only : goal.returns-in_err-bytes-clause-only
returns-in_err-bytes-clause-only g c = passed c.from_residual.result Memory c.from_residual.ensures.1
    (λ r. OnlyReads g.D.Device (r ≡ Err Device) c.args.device.now c.args.device.now)
    (reads_where g.D.Device _ _ _ _ (λ is. put_not_device Memory tt is) (reads_nothing g.D.Device c.args.device.now))

pub returns-in_err-bytes-clause-bytes : goal.returns-in_err-bytes-clause-bytes
returns-in_err-bytes-clause-bytes g c = λ honest agrees.
    if_refused c.from_residual.result Memory c.from_residual.ensures.1
    (λ read. IsRecordOf (pages_on g.D.Device c.args.pages.now c.args.device.now) c.args.first read.items)

pub returns-in_err-bytes-clause-long : goal.returns-in_err-bytes-clause-long
returns-in_err-bytes-clause-long g c = if_refused c.from_residual.result Memory c.from_residual.ensures.1
    (λ read. length read.items ≡ c.args.size)

pub returns-in_err-bytes-clause-damaged : goal.returns-in_err-bytes-clause-damaged
returns-in_err-bytes-clause-damaged g c = λ honest agrees is stands.
    passed c.from_residual.result Memory c.from_residual.ensures.1 (λ r. r ≡ Err Damaged → ⊥)
    (λ e. put_not_damaged Memory tt e) is

pub returns-in_err-bytes-clause-spent : goal.returns-in_err-bytes-clause-spent
returns-in_err-bytes-clause-spent g c = passed c.from_residual.result Memory c.from_residual.ensures.1
    (λ r. r ≡ Err Spent → is_spent c.args.pages.now ≡ true) (λ is. memory_not_spent Memory refl is)

pub returns-in_err-bytes-clause-told : goal.returns-in_err-bytes-clause-told
returns-in_err-bytes-clause-told g c = λ was some. passed c.from_residual.result Memory c.from_residual.ensures.1
    (λ r. (r ≡ Err Spent) ⊎ (r ≡ Err Memory)) (inr refl)

pub returns-in_err-bytes-clause-cause : goal.returns-in_err-bytes-clause-cause
returns-in_err-bytes-clause-cause g c = passed c.from_residual.result Memory c.from_residual.ensures.1
    (λ r. IfErr r IsRecordRefusal) tt

-- A page is refused.
pub returns-in_err-next-clause-only : goal.returns-in_err-next-clause-only
returns-in_err-next-clause-only g c = passed c.from_residual-in_err-next.result c.in_err-next.field-0.0
    c.from_residual-in_err-next.ensures.1
    (λ r. OnlyReads g.D.Device (r ≡ Err Device) c.args.device.now c.add_part.new.device)
    (reads_then g.D.Device _ _ _ _ _ _ (λ is. inr (still_error is)) c.loop-place.invariant.only
    c.in_err-next.ensures.only)

pub returns-in_err-next-clause-bytes : goal.returns-in_err-next-clause-bytes
returns-in_err-next-clause-bytes g c = λ honest agrees.
    if_refused c.from_residual-in_err-next.result c.in_err-next.field-0.0 c.from_residual-in_err-next.ensures.1
    (λ read. IsRecordOf (pages_on g.D.Device c.args.pages.now c.args.device.now) c.args.first read.items)

pub returns-in_err-next-clause-long : goal.returns-in_err-next-clause-long
returns-in_err-next-clause-long g c =
    if_refused c.from_residual-in_err-next.result c.in_err-next.field-0.0 c.from_residual-in_err-next.ensures.1
    (λ read. length read.items ≡ c.args.size)

pub returns-in_err-next-clause-spent : goal.returns-in_err-next-clause-spent
returns-in_err-next-clause-spent g c = passed c.from_residual-in_err-next.result c.in_err-next.field-0.0
    c.from_residual-in_err-next.ensures.1 (λ r. r ≡ Err Spent → is_spent c.args.pages.now ≡ true)
    (λ is. c.in_err-next.ensures.spent.0 (still_error is))

pub returns-in_err-next-clause-told : goal.returns-in_err-next-clause-told
returns-in_err-next-clause-told g c = λ was some.
    passed c.from_residual-in_err-next.result c.in_err-next.field-0.0 c.from_residual-in_err-next.ensures.1
    (λ r. (r ≡ Err Spent) ⊎ (r ≡ Err Memory)) (inl (still_error (c.in_err-next.ensures.spent.1 was)))

pub returns-in_err-next-clause-cause : goal.returns-in_err-next-clause-cause
returns-in_err-next-clause-cause g c = passed c.from_residual-in_err-next.result c.in_err-next.field-0.0
    c.from_residual-in_err-next.ensures.1 (λ r. IfErr r IsRecordRefusal) c.in_err-next.ensures.cause

-- The chain goes on, or it ended.
pub returns-then-page-ne0-clause-only : goal.returns-then-page-ne0-clause-only
returns-then-page-ne0-clause-only g c =
    reads_where g.D.Device _ _ _ _ (λ is. damaged_not_device is) c.loop-place.invariant.only

pub returns-then-page-ne0-clause-spent : goal.returns-then-page-ne0-clause-spent
returns-then-page-ne0-clause-spent g c = λ is. damaged_not_spent is

pub returns-then-page-ne0-clause-told : goal.returns-then-page-ne0-clause-told
returns-then-page-ne0-clause-told g c = λ was some.
    never_true (c.loop-place.invariant.unspent (some_place c.args.size c.loop-place.place c.page_count-count.result some
    c.page_count-count.ensures c.loop-place-test.false)) was

pub returns-clause-only : goal.returns-clause-only
returns-clause-only g c = reads_where g.D.Device _ _ _ _ (λ is. never_ok is) c.loop-place.invariant.only

pub returns-clause-long : goal.returns-clause-long
returns-clause-long g c =
    let count = c.page_count-count.ensures in
    let test = c.loop-place-test.false in
    c.loop-place.invariant.whole (omega arith)

pub returns-clause-damaged : goal.returns-clause-damaged
returns-clause-damaged g c = λ honest agrees is stands. never_ok is

pub returns-clause-spent : goal.returns-clause-spent
returns-clause-spent g c = λ is. never_ok is

pub returns-clause-told : goal.returns-clause-told
returns-clause-told g c = λ was some.
    never_true (c.loop-place.invariant.unspent (some_place c.args.size c.loop-place.place c.page_count-count.result some
    c.page_count-count.ensures c.loop-place-test.false)) was
