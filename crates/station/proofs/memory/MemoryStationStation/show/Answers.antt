use Rattle.std.proofs.Common.{ℕ, sym, subst, take}
use Rattle.station.specs.History.{Shows}
use Rattle.station.specs.Journal.{journal_state, journal_history}
use Rattle.station.specs.declared.journal.Journal.{Journal}
use Rattle.station.proofs.Spans.{shows_or_not}
use Rattle.station.proofs.memory.MemoryStationStation.show.Goals as goal

pub returns-clause-cut : goal.returns-clause-cut
returns-clause-cut c =
    let j = c.args.self.now.journal in
    subst (λ (k : Journal). (n : ℕ) × Shows (journal_history j) (journal_state j) (take n c.args.bytes.now)
    (journal_history k) (journal_state k)) (sym c.grown.ensures.journal)
    (shows_or_not c.show-grown.result (journal_history j) (journal_state j) c.args.bytes.now
    (journal_history c.show-grown.new.self) (journal_state c.show-grown.new.self)
    c.show-grown.ensures.state c.show-grown.ensures.history c.show-grown.ensures.same_state
    c.show-grown.ensures.same_history)
