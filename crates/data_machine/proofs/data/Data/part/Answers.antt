use Rattle.std.proofs.Common.{subst}
use Rattle.data_instructions.specs.declared.part.Part.{Part}
use Rattle.data_instructions.specs.declared.instruction.DataInstruction.TheVariants as i
use Rattle.data_machine.specs.Ready.{IsReady}
use Rattle.data_machine.proofs.Readies.{ready_part_fixed, ready_part_counted, ready_part_rest}
use Rattle.data_machine.proofs.data.Data.part.Goals as goal

pub part_fixed-requires-clause-first : goal.part_fixed-requires-clause-first
part_fixed-requires-clause-first c = (ready_part_fixed c.args.tables.now c.args.self.now c.in-Fixed.size
    (subst (λ (one : Part). IsReady c.args.tables.now c.args.self.now (i.Part one)) c.in-Fixed.is c.requires)).0

pub part_fixed-requires-clause-place : goal.part_fixed-requires-clause-place
part_fixed-requires-clause-place c = (ready_part_fixed c.args.tables.now c.args.self.now c.in-Fixed.size
    (subst (λ (one : Part). IsReady c.args.tables.now c.args.self.now (i.Part one)) c.in-Fixed.is c.requires)).1

pub part_fixed-requires-clause-offset : goal.part_fixed-requires-clause-offset
part_fixed-requires-clause-offset c = (ready_part_fixed c.args.tables.now c.args.self.now c.in-Fixed.size
    (subst (λ (one : Part). IsReady c.args.tables.now c.args.self.now (i.Part one)) c.in-Fixed.is c.requires)).2

pub part_fixed-requires-clause-room : goal.part_fixed-requires-clause-room
part_fixed-requires-clause-room c = (ready_part_fixed c.args.tables.now c.args.self.now c.in-Fixed.size
    (subst (λ (one : Part). IsReady c.args.tables.now c.args.self.now (i.Part one)) c.in-Fixed.is c.requires)).3

pub part_counted-requires-clause-numbers : goal.part_counted-requires-clause-numbers
part_counted-requires-clause-numbers c = (ready_part_counted c.args.tables.now c.args.self.now
    (subst (λ (one : Part). IsReady c.args.tables.now c.args.self.now (i.Part one)) c.in-Counted.is c.requires)).0

pub part_counted-requires-clause-offset : goal.part_counted-requires-clause-offset
part_counted-requires-clause-offset c = (ready_part_counted c.args.tables.now c.args.self.now
    (subst (λ (one : Part). IsReady c.args.tables.now c.args.self.now (i.Part one)) c.in-Counted.is c.requires)).2

pub part_counted-requires-clause-room : goal.part_counted-requires-clause-room
part_counted-requires-clause-room c = (ready_part_counted c.args.tables.now c.args.self.now
    (subst (λ (one : Part). IsReady c.args.tables.now c.args.self.now (i.Part one)) c.in-Counted.is c.requires)).3

pub part_rest-requires-clause-first : goal.part_rest-requires-clause-first
part_rest-requires-clause-first c = (ready_part_rest c.args.tables.now c.args.self.now
    (subst (λ (one : Part). IsReady c.args.tables.now c.args.self.now (i.Part one)) c.in-Rest.is c.requires)).0

pub part_rest-requires-clause-offset : goal.part_rest-requires-clause-offset
part_rest-requires-clause-offset c = (ready_part_rest c.args.tables.now c.args.self.now
    (subst (λ (one : Part). IsReady c.args.tables.now c.args.self.now (i.Part one)) c.in-Rest.is c.requires)).2

pub part_rest-requires-clause-room : goal.part_rest-requires-clause-room
part_rest-requires-clause-room c = (ready_part_rest c.args.tables.now c.args.self.now
    (subst (λ (one : Part). IsReady c.args.tables.now c.args.self.now (i.Part one)) c.in-Rest.is c.requires)).3
