use Rattle.std.proofs.Common.{refl}
use Rattle.station.proofs.Calls.{reads_nothing}
use Rattle.pages.specs.Pages.{is_spent}
use Rattle.btree.specs.Sought.{LooksIn}
use Rattle.btree.proofs.Answering.{looks_there}
use Rattle.btree.proofs.PageReads.{after_note, from_bytes, never_none}
use Rattle.btree.proofs.Passing.{damaged_alone, damaged_is_read, sectors_on, spent_exactly}
use Rattle.btree.proofs.sought.look_at.Goals as goal

pub returns-in-Some-clause-reads : goal.returns-in-Some-clause-reads
returns-in-Some-clause-reads g c =
    let bytes = c.in-Some.bytes.now in
    let visits = c.visit.follows.holds-at-none in
    from_bytes g.D.Device ⊥ c.args.layout c.args.page _ _ (LooksIn c.args.layout bytes c.args.key.now c.args.sought
    c.look_in.new.entry) c.args.pages.now c.visit.follows.lender-at-none c.args.device.now c.args.device.now bytes
    c.look_in.result (reads_nothing g.D.Device c.args.device.now) visits.unchanged
    (λ honest agrees. visits.keeps.agrees (g.D.Device.state c.args.device.now).disk agrees)
    (λ honest agrees. c.in-Some.ensures.page (g.D.Device.state c.args.device.now).disk agrees)
    (λ pages here look looks. looks_there c.args.layout pages c.args.page bytes c.args.key.now c.args.sought
    c.look_in.new.entry look here looks) c.look_in.ensures.look c.look_in.ensures.damaged
    (λ is. damaged_alone c.look_in.result c.look_in.ensures.cause is) (spent_exactly c.look_in.result
    (is_spent c.args.pages.now) c.look_in.ensures.cause (λ was. never_none (c.in-Some.ensures.spent was)))
    (damaged_is_read c.look_in.result c.look_in.ensures.cause)

pub returns-clause-reads : goal.returns-clause-reads
returns-clause-reads g c =
    let visits = c.visit.follows.holds-at-none in
    after_note g.D.Device c.args.layout c.args.page _ _ _ _ c.look_loaded.new.pages _ c.look_loaded.new.device
    c.look_loaded.result visits.unchanged visits.keeps c.look_loaded.ensures.reads

pub look_loaded-requires-clause-sectors : goal.look_loaded-requires-clause-sectors
look_loaded-requires-clause-sectors g c = sectors_on c.args.pages.now c.visit.follows.lender-at-none _ _
    c.visit.follows.holds-at-none.keeps.committed.volume refl c.requires.sectors
