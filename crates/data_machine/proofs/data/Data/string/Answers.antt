use Rattle.std.proofs.Common.{subst}
use Rattle.std.specs.Prelude.{Bool}
use Rattle.data_instructions.specs.declared.instruction.DataInstruction.TheVariants as i
use Rattle.data_machine.specs.Ready.{IsReady}
use Rattle.data_machine.proofs.Readies.{ready_string_from_first, ready_string_from_pointer}
use Rattle.data_machine.proofs.data.Data.string.Goals as goal

pub string_from_pointer-requires-clause-pointer : goal.string_from_pointer-requires-clause-pointer
string_from_pointer-requires-clause-pointer c = (ready_string_from_pointer c.args.tables.now c.args.self.now
    (subst (λ (b : Bool). IsReady c.args.tables.now c.args.self.now (i.String b)) c.if-pointer.true c.requires)).0

pub string_from_pointer-requires-clause-receiver : goal.string_from_pointer-requires-clause-receiver
string_from_pointer-requires-clause-receiver c = (ready_string_from_pointer c.args.tables.now c.args.self.now
    (subst (λ (b : Bool). IsReady c.args.tables.now c.args.self.now (i.String b)) c.if-pointer.true c.requires)).1

pub string_from_first-requires : goal.string_from_first-requires
string_from_first-requires c = record {
  operand = ready_string_from_first c.args.tables.now c.args.self.now
      (subst (λ (b : Bool). IsReady c.args.tables.now c.args.self.now (i.String b)) c.if-pointer.false c.requires);
}
