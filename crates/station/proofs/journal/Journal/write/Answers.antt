use Rattle.std.proofs.Common.{rules, ◌≡◌, ◌<◌, ◌∷◌, ◌++◌, length, set, List, ◌∙◌, ap, sym, arith, [], true}
use Rattle.station.specs.Disk.{Sector}
use Rattle.station.specs.State.{State, wrote}
use Rattle.station.specs.Sectors.{all_present_after}
use Rattle.station.specs.Replay.{made_of, state_after_calls}
use Rattle.station.specs.Journal.{journal_state, journal_history}
use Rattle.station.proofs.Replay.{after_one, since_push, grown_within}
use Rattle.station.proofs.journal.Journal.write.Goals as goal

pub index_mut-requires : goal.index_mut-requires
index_mut-requires c =
    let j = c.args.self.now in
    let within : c.args.sector < length j.present.items =
    omega (arith, ap length j.current, all_present_after j.start.items j.lines.items j.calls.items, c.requires) in
    search rules

pub returns-clause-state : goal.returns-clause-state
returns-clause-state c =
    let j = c.args.self.now in
    after_one (made_of j.start.items j.lines.items) j.calls.items c.push.new.self.items _
    (wrote (journal_state j) c.args.sector c.args.bytes.now) c.in_ok-push.ensures.items
    (ap (λ (b : Sector). wrote (journal_state j) c.args.sector b) c.in_ok-block.ensures.ok)

pub invariant_of-self-2 : goal.invariant_of-self-2
invariant_of-self-2 c =
    let j = c.args.self.now in
    let state : state_after_calls (made_of j.start.items j.lines.items) c.push.new.self.items
    ≡ wrote (journal_state j) c.args.sector c.args.bytes.now
    = after_one (made_of j.start.items j.lines.items) j.calls.items c.push.new.self.items _
    (wrote (journal_state j) c.args.sector c.args.bytes.now) c.in_ok-push.ensures.items
    (ap (λ (b : Sector). wrote (journal_state j) c.args.sector b) c.in_ok-block.ensures.ok) in
    record {
      few_sectors = j.few_sectors;
      current = ap (λ (l : List Sector). set l c.args.sector c.args.bytes.now) j.current
          ∙ sym (ap (λ (s : State). s.disk.present) state);
      before_within =
          grown_within j.calls.items c.push.new.self.items _ true j.before c.in_ok-push.ensures.items j.before_within;
    }

pub returns-clause-history : goal.returns-clause-history
returns-clause-history c =
    let j = c.args.self.now in
    since_push (made_of j.start.items j.lines.items) j.calls.items c.push.new.self.items _ j.before j.before_within
    c.in_ok-push.ensures.items
    ∙ ap (λ (b : Sector). journal_history j ++ wrote (journal_state j) c.args.sector b ∷ []) c.in_ok-block.ensures.ok
