use Rattle.std.proofs.Common.{◌≡◌, false, sym, subst}
use Rattle.records.specs.Calls.{OnlyReadsFiles}
use Rattle.pages.specs.Pages.{is_spent}
use Rattle.alternate_keys.specs.Notes.{noted_search}
use Rattle.alternate_keys.specs.Opened.{OpenedVolume}
use Rattle.alternate_keys.specs.Stands.{IsStoreOf}
use Rattle.alternate_keys.specs.contracts.store_calls.PagedStoreKeeps.TheImpl.{ghosts}
use Rattle.alternate_keys.proofs.ReadCalls.{opened, reads_of}
use Rattle.alternate_keys.proofs.store_calls.PagedStoreStore.find.Goals as goal

pub returns-clause-reads : goal.returns-clause-reads
returns-clause-reads g c =
    let unspent : is_spent c.self.inside.pages ≡ false = c.self.invariant c.if-self.false in
    subst (λ (s : OpenedVolume). OnlyReadsFiles ghosts g.D.Device c.find_in.result s c.args.device.now
    (opened c.find_in.new.pages c.self.inside.spent (noted_search c.self.inside.notes)) c.find_in.new.device)
    c.self.view_is
    (reads_of g.D.Device c.find_in.result c.self.inside.pages c.find_in.new.pages c.self.inside.spent
    (noted_search c.self.inside.notes) (noted_search c.self.inside.notes) c.args.device.now c.find_in.new.device
    c.find_in.ensures.only c.find_in.ensures.unchanged c.find_in.ensures.agrees (λ honest agrees are. are) unspent
    c.find_in.ensures.spent
    c.find_in.ensures.cause)

pub returns-clause-presence : goal.returns-clause-presence
returns-clause-presence g c = λ files stands.
    let there = subst (λ (s : OpenedVolume). IsStoreOf s (g.D.Device.state c.args.device.now).disk files)
    (sym c.self.view_is) stands.there in
    c.find_in.ensures.presence stands.honest there.represents.agrees files there.represents.holds

pub returns-clause-damaged : goal.returns-clause-damaged
returns-clause-damaged g c = λ files stands is.
    let there = subst (λ (s : OpenedVolume). IsStoreOf s (g.D.Device.state c.args.device.now).disk files)
    (sym c.self.view_is) stands.there in
    c.find_in.ensures.damaged stands.honest there.represents.agrees files there.represents.holds is
