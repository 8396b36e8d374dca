use Rattle.std.proofs.Common.{◌≡◌, false, sym, subst}
use Rattle.records.specs.Calls.{OnlyReadsFiles}
use Rattle.pages.specs.Pages.{is_spent}
use Rattle.alternate_keys.specs.Notes.{noted_search}
use Rattle.alternate_keys.specs.Opened.{OpenedVolume}
use Rattle.alternate_keys.specs.Stands.{IsStoreOf}
use Rattle.alternate_keys.specs.contracts.store_calls.PagedStoreKeeps.TheImpl.{ghosts}
use Rattle.alternate_keys.proofs.ReadCalls.{opened, reads_of}
use Rattle.alternate_keys.proofs.store_calls.PagedStoreStore.seek.Goals as goal

pub returns-clause-reads : goal.returns-clause-reads
returns-clause-reads g c =
    let unspent : is_spent c.self.inside.pages ≡ false = c.self.invariant c.if-self.false in
    subst (λ (s : OpenedVolume). OnlyReadsFiles ghosts g.D.Device c.seek_in.result s c.args.device.now
    (opened c.seek_in.new.pages c.self.inside.spent (noted_search c.seek_in.new.notes)) c.seek_in.new.device)
    c.self.view_is
    (reads_of g.D.Device c.seek_in.result c.self.inside.pages c.seek_in.new.pages c.self.inside.spent
    (noted_search c.self.inside.notes) (noted_search c.seek_in.new.notes) c.args.device.now c.seek_in.new.device
    c.seek_in.ensures.looks.only c.seek_in.ensures.looks.unchanged c.seek_in.ensures.looks.agrees
    c.seek_in.ensures.notes unspent
    c.seek_in.ensures.spent c.seek_in.ensures.cause)

pub returns-clause-found : goal.returns-clause-found
returns-clause-found g c = λ files held stands has.
    let there = subst (λ (s : OpenedVolume). IsStoreOf s (g.D.Device.state c.args.device.now).disk files)
    (sym c.self.view_is) stands.there in
    c.seek_in.ensures.found stands.honest there.represents.agrees there.notes files held there.represents.holds has

pub returns-clause-bytes : goal.returns-clause-bytes
returns-clause-bytes g c = λ files held stands has.
    let there = subst (λ (s : OpenedVolume). IsStoreOf s (g.D.Device.state c.args.device.now).disk files)
    (sym c.self.view_is) stands.there in
    c.seek_in.ensures.bytes stands.honest there.represents.agrees there.notes files held there.represents.holds has

pub returns-clause-damaged : goal.returns-clause-damaged
returns-clause-damaged g c = λ files held stands has is.
    let there = subst (λ (s : OpenedVolume). IsStoreOf s (g.D.Device.state c.args.device.now).disk files)
    (sym c.self.view_is) stands.there in
    c.seek_in.ensures.damaged stands.honest there.represents.agrees there.notes files held there.represents.holds has is
