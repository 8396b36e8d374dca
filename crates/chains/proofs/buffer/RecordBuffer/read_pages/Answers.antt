use Rattle.std.proofs.Common.{◌≡◌, ◌+◌, ℕ, sym, subst, ◌∙◌, arith, length-set}
use Rattle.std.specs.Prelude.{Some, Err}
use Rattle.std.proofs.lemmas.Result.{err_from_is_err_and}
use Rattle.station.specs.State.{State}
use Rattle.station.proofs.Calls.{reads_then}
use Rattle.pages.specs.Pages.{is_spent, Agrees}
use Rattle.pages.specs.declared.error.PagesError.TheVariants.{Damaged}
use Rattle.btree.specs.Changes.{pages_of_map}
use Rattle.btree.proofs.Frames.{false_unless}
use Rattle.btree.proofs.Passing.{never_ok}
use Rattle.chains.specs.Chain.{IsLink, Stands, page_at}
use Rattle.chains.specs.Links.{LinksTo}
use Rattle.chains.proofs.Parts.{stops_at}
use Rattle.chains.proofs.Buffers.{read_more, chain_read}
use Rattle.chains.proofs.Unwritten.{still_agrees}
use Rattle.chains.proofs.buffer.RecordBuffer.read_pages.Given.{Over}
use Rattle.chains.proofs.buffer.RecordBuffer.read_pages.Goals as goal

-- the page that was read, of the pages as they were at the call
here : (g : Over) (c : goal.In_ok-page g) → g.D.Device.is_honest c.args.device.now
    → Agrees c.args.pages.now (g.D.Device.state c.args.device.now).disk
    → LinksTo (pages_of_map c.args.pages.now (g.D.Device.state c.args.device.now).disk.present) c.loop-place.page
    c.in_ok-page.page
    × (page_at (pages_of_map c.args.pages.now (g.D.Device.state c.args.device.now).disk.present) c.loop-place.page
    ≡ Some c.read_link.new.held)
here g c honest agrees =
    let only = c.loop-place.invariant.only in
    let same = only.state honest in
    let still = still_agrees c.args.pages.now _ _ same agrees in
    let now = only.honest.0 honest in
    subst (λ (s : State). LinksTo (pages_of_map c.args.pages.now s.disk.present) c.loop-place.page c.in_ok-page.page
    × (page_at (pages_of_map c.args.pages.now s.disk.present) c.loop-place.page ≡ Some c.read_link.new.held))
    same (c.in_ok-page.ensures.link now still, c.in_ok-page.ensures.held now still)

pub loop-place-preserved : goal.loop-place-preserved
loop-place-preserved g c =
    let loop = c.loop-place in
    let read = loop.self.pages.items in
    let test = c.loop-place-test.true in
    record {
      only = reads_then g.D.Device ⊥ _ ⊥ c.args.device.now loop.device c.read_link.new.device (λ e. absurd e)
          loop.invariant.only c.read_link.ensures.only;
      has = λ h a. let own = here g c h a in
          read_more _ read loop.place c.args.first loop.page c.in_ok-page.page c.read_link.new.held
          (omega (arith, test, c.requires.room, loop.invariant.room)) (loop.invariant.has h a) own.0 own.1;
      room = length-set read loop.place c.read_link.new.held ∙ loop.invariant.room;
      unspent = λ some. false_unless (is_spent c.args.pages.now)
          (λ was. never_ok (sym c.in_ok-page.was ∙ c.read_link.ensures.spent.1 was));
    }

pub returns-in_err-page-clause-damaged : goal.returns-in_err-page-clause-damaged
returns-in_err-page-clause-damaged g c = λ honest agrees is stands.
    let loop = c.loop-place in
    let pages = pages_of_map c.args.pages.now (g.D.Device.state c.args.device.now).disk.present in
    let same = loop.invariant.only.state honest in
    let from = err_from_is_err_and c.from_residual.result c.from_residual.ensures.1 in
    let damaged : c.read_link.result ≡ Err Damaged = cc in
    let here = stops_at pages c.args.count loop.place c.args.first loop.page c.loop-place-test.true
    (loop.invariant.has honest agrees).follows stands in
    c.read_link.ensures.damaged (loop.invariant.only.honest.0 honest)
    (still_agrees c.args.pages.now _ _ same agrees) damaged here.0
    (subst (λ (s : State). IsLink (page_at (pages_of_map c.args.pages.now s.disk.present) loop.page)) (sym same) here.1)

pub returns-then-page-ne0-clause-damaged : goal.returns-then-page-ne0-clause-damaged
returns-then-page-ne0-clause-damaged g c = λ honest agrees is stands.
    let loop = c.loop-place in
    let pages = pages_of_map c.args.pages.now (g.D.Device.state c.args.device.now).disk.present in
    let bound = loop.auto.place-end in
    let test = c.loop-place-test.false in
    let whole : c.args.count ≡ loop.place + 0 = omega arith in
    c.if-page-ne0.true ((loop.invariant.has honest agrees).follows.back 0
    (subst (λ (n : ℕ). Stands pages n c.args.first) whole stands))

pub returns-clause-chain : goal.returns-clause-chain
returns-clause-chain g c = λ honest agrees.
    let loop = c.loop-place in
    let pages = pages_of_map c.args.pages.now (g.D.Device.state c.args.device.now).disk.present in
    let bound = loop.auto.place-end in
    let test = c.loop-place-test.false in
    let whole : loop.place ≡ c.args.count = omega arith in
    chain_read pages loop.self.pages.items loop.place c.args.count c.args.first loop.page whole c.if-page-ne0.false
    (loop.invariant.has honest agrees)
