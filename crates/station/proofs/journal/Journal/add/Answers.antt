use Rattle.std.proofs.Common.{◌∙◌, ap}
use Rattle.std.specs.Prelude.{is_ok}
use Rattle.station.specs.Replay.{made_of, state_after_calls}
use Rattle.station.proofs.Replay.{after_push, since_push, present_same, grown_within}
use Rattle.station.proofs.journal.Journal.add.Goals as goal

pub invariant_of-self : goal.invariant_of-self
invariant_of-self c =
    let j = c.args.self.now in
    record {
      few_sectors = j.few_sectors;
      current = present_same (made_of j.start.items j.lines.items) j.calls.items c.push.new.self.items c.args.call
          (is_ok c.push.result) j.present.items c.requires c.push.ensures.items j.current;
      before_within = grown_within j.calls.items c.push.new.self.items c.args.call (is_ok c.push.result) j.before
          c.push.ensures.items j.before_within;
    }

pub returns-clause-state : goal.returns-clause-state
returns-clause-state c =
    let j = c.args.self.now in
    ap (state_after_calls (made_of j.start.items j.lines.items)) c.in_ok-push.ensures.items
    ∙ after_push (made_of j.start.items j.lines.items) j.calls.items c.args.call

pub returns-clause-history : goal.returns-clause-history
returns-clause-history c =
    let j = c.args.self.now in
    since_push (made_of j.start.items j.lines.items) j.calls.items c.push.new.self.items c.args.call j.before
    j.before_within c.in_ok-push.ensures.items
