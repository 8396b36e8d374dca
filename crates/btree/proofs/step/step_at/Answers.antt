use Rattle.std.proofs.Common.{refl}
use Rattle.station.proofs.Calls.{reads_nothing}
use Rattle.btree.proofs.PageReads.{after_note, never_none, step_on_bytes}
use Rattle.btree.proofs.Passing.{sectors_on}
use Rattle.btree.proofs.step.step_at.Goals as goal

pub returns-in-Some : goal.returns-in-Some
returns-in-Some g c =
    let visits = c.visit.follows.holds-at-none in
    record {
      reads = step_on_bytes g.D.Device ⊥ c.args.layout c.args.page c.args.key.now c.args.right.now c.step_in.new.right
          c.args.pages.now c.visit.follows.lender-at-none c.args.device.now c.args.device.now c.in-Some.bytes.now
          c.step_in.result (reads_nothing g.D.Device c.args.device.now) visits.unchanged
          (λ honest agrees. visits.keeps.agrees (g.D.Device.state c.args.device.now).disk agrees)
          (λ honest agrees. c.in-Some.ensures.page (g.D.Device.state c.args.device.now).disk agrees)
          c.step_in.ensures.step c.step_in.ensures.damaged c.step_in.ensures.cause
          (λ was. never_none (c.in-Some.ensures.spent was));
    }

pub returns : goal.returns
returns g c =
    let visits = c.visit.follows.holds-at-none in
    record {
      reads = after_note g.D.Device c.args.layout c.args.page _ _ _ _ c.step_loaded.new.pages _
          c.step_loaded.new.device c.step_loaded.result visits.unchanged visits.keeps c.step_loaded.ensures.reads;
    }

pub step_loaded-requires-clause-sectors : goal.step_loaded-requires-clause-sectors
step_loaded-requires-clause-sectors g c = sectors_on c.args.pages.now c.visit.follows.lender-at-none _ _
    c.visit.follows.holds-at-none.keeps.committed.volume refl c.requires.sectors
