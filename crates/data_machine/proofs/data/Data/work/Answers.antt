use Rattle.std.proofs.Common.{subst, sym}
use Rattle.data_instructions.specs.declared.instruction.DataInstruction.{DataInstruction}
use Rattle.data_instructions.specs.Table.{work}
use Rattle.data_machine.specs.Comes.{IsStepOf}
use Rattle.data_machine.specs.Data.{scratch_of}
use Rattle.data_machine.specs.Ready.{IsReady}
use Rattle.data_machine.proofs.Readies.{ready_place, ready_index, ready_push, ready_literal, ready_calculate}
use Rattle.data_machine.proofs.Readies.{ready_store, ready_void, ready_take, ready_take_literal, ready_move}
use Rattle.data_machine.proofs.Readies.{ready_append, ready_append_literal, ready_overlay, ready_drop_place}
use Rattle.data_machine.proofs.data.Data.work.Goals as goal

pub place-requires-clause-item : goal.place-requires-clause-item
place-requires-clause-item c = (ready_place c.args.tables.now c.args.self.now c.in-Place.item
    (subst (λ (one : DataInstruction). IsReady c.args.tables.now c.args.self.now one) c.in-Place.is c.requires)).0

pub place-requires-clause-room : goal.place-requires-clause-room
place-requires-clause-room c = (ready_place c.args.tables.now c.args.self.now c.in-Place.item
    (subst (λ (one : DataInstruction). IsReady c.args.tables.now c.args.self.now one) c.in-Place.is c.requires)).1

pub index-requires-clause-subscript : goal.index-requires-clause-subscript
index-requires-clause-subscript c = (ready_index c.args.tables.now c.args.self.now c.in-Index.stride c.in-Index.count
    (subst (λ (one : DataInstruction). IsReady c.args.tables.now c.args.self.now one) c.in-Index.is c.requires)).0

pub index-requires-clause-place : goal.index-requires-clause-place
index-requires-clause-place c = (ready_index c.args.tables.now c.args.self.now c.in-Index.stride c.in-Index.count
    (subst (λ (one : DataInstruction). IsReady c.args.tables.now c.args.self.now one) c.in-Index.is c.requires)).1

pub index-requires-clause-room : goal.index-requires-clause-room
index-requires-clause-room c = (ready_index c.args.tables.now c.args.self.now c.in-Index.stride c.in-Index.count
    (subst (λ (one : DataInstruction). IsReady c.args.tables.now c.args.self.now one) c.in-Index.is c.requires)).2

pub push-requires-clause-operand : goal.push-requires-clause-operand
push-requires-clause-operand c = (ready_push c.args.tables.now c.args.self.now
    (subst (λ (one : DataInstruction). IsReady c.args.tables.now c.args.self.now one) c.in-Push.is c.requires)).0

pub push-requires-clause-room : goal.push-requires-clause-room
push-requires-clause-room c = (ready_push c.args.tables.now c.args.self.now
    (subst (λ (one : DataInstruction). IsReady c.args.tables.now c.args.self.now one) c.in-Push.is c.requires)).1

pub literal-requires-clause-literal : goal.literal-requires-clause-literal
literal-requires-clause-literal c = (ready_literal c.args.tables.now c.args.self.now c.in-Literal.number
    (subst (λ (one : DataInstruction). IsReady c.args.tables.now c.args.self.now one) c.in-Literal.is c.requires)).0

pub literal-requires-clause-room : goal.literal-requires-clause-room
literal-requires-clause-room c = (ready_literal c.args.tables.now c.args.self.now c.in-Literal.number
    (subst (λ (one : DataInstruction). IsReady c.args.tables.now c.args.self.now one) c.in-Literal.is c.requires)).1

pub calculate-requires-clause-operands : goal.calculate-requires-clause-operands
calculate-requires-clause-operands c = (ready_calculate c.args.tables.now c.args.self.now c.in-Calculate.one
    (subst (λ (one : DataInstruction). IsReady c.args.tables.now c.args.self.now one) c.in-Calculate.is c.requires)).0

pub calculate-requires-clause-room : goal.calculate-requires-clause-room
calculate-requires-clause-room c = (ready_calculate c.args.tables.now c.args.self.now c.in-Calculate.one
    (subst (λ (one : DataInstruction). IsReady c.args.tables.now c.args.self.now one) c.in-Calculate.is c.requires)).1

pub store_number-requires-clause-operand : goal.store_number-requires-clause-operand
store_number-requires-clause-operand c =
    (ready_store c.args.tables.now c.args.self.now c.in-Store.rounded c.in-Store.keep
    (subst (λ (one : DataInstruction). IsReady c.args.tables.now c.args.self.now one) c.in-Store.is c.requires)).0

pub store_number-requires-clause-number : goal.store_number-requires-clause-number
store_number-requires-clause-number c =
    (ready_store c.args.tables.now c.args.self.now c.in-Store.rounded c.in-Store.keep
    (subst (λ (one : DataInstruction). IsReady c.args.tables.now c.args.self.now one) c.in-Store.is c.requires)).1

pub void_if_true-requires-clause-number : goal.void_if_true-requires-clause-number
void_if_true-requires-clause-number c = (ready_void c.args.tables.now c.args.self.now
    (subst (λ (one : DataInstruction). IsReady c.args.tables.now c.args.self.now one) c.in-VoidIfTrue.is c.requires)).0

pub void_if_true-requires-clause-room : goal.void_if_true-requires-clause-room
void_if_true-requires-clause-room c = (ready_void c.args.tables.now c.args.self.now
    (subst (λ (one : DataInstruction). IsReady c.args.tables.now c.args.self.now one) c.in-VoidIfTrue.is c.requires)).1

pub take-requires-clause-operand : goal.take-requires-clause-operand
take-requires-clause-operand c = (ready_take c.args.tables.now c.args.self.now
    (subst (λ (one : DataInstruction). IsReady c.args.tables.now c.args.self.now one) c.in-Take.is c.requires))

pub take_literal-requires-clause-literal : goal.take_literal-requires-clause-literal
take_literal-requires-clause-literal c = (ready_take_literal c.args.tables.now c.args.self.now c.in-TakeLiteral.literal
    (subst (λ (one : DataInstruction). IsReady c.args.tables.now c.args.self.now one) c.in-TakeLiteral.is c.requires))

pub receive-requires-clause-operand : goal.receive-requires-clause-operand
receive-requires-clause-operand c = (ready_move c.args.tables.now c.args.self.now
    (subst (λ (one : DataInstruction). IsReady c.args.tables.now c.args.self.now one) c.in-Move.is c.requires)).0

pub receive-requires-clause-sender : goal.receive-requires-clause-sender
receive-requires-clause-sender c = (ready_move c.args.tables.now c.args.self.now
    (subst (λ (one : DataInstruction). IsReady c.args.tables.now c.args.self.now one) c.in-Move.is c.requires)).1

pub append-requires-clause-operand : goal.append-requires-clause-operand
append-requires-clause-operand c = (ready_append c.args.tables.now c.args.self.now
    (subst (λ (one : DataInstruction). IsReady c.args.tables.now c.args.self.now one) c.in-Append.is c.requires)).0

pub append-requires-clause-room : goal.append-requires-clause-room
append-requires-clause-room c = (ready_append c.args.tables.now c.args.self.now
    (subst (λ (one : DataInstruction). IsReady c.args.tables.now c.args.self.now one) c.in-Append.is c.requires)).1

pub append_literal-requires-clause-text : goal.append_literal-requires-clause-text
append_literal-requires-clause-text c =
    (ready_append_literal c.args.tables.now c.args.self.now c.in-AppendLiteral.text (subst
    (λ (one : DataInstruction). IsReady c.args.tables.now c.args.self.now one) c.in-AppendLiteral.is c.requires)).0

pub append_literal-requires-clause-room : goal.append_literal-requires-clause-room
append_literal-requires-clause-room c =
    (ready_append_literal c.args.tables.now c.args.self.now c.in-AppendLiteral.text (subst
    (λ (one : DataInstruction). IsReady c.args.tables.now c.args.self.now one) c.in-AppendLiteral.is c.requires)).1

pub take_literal-requires-clause-form : goal.take_literal-requires-clause-form
take_literal-requires-clause-form c =
    λ one here. c.requires.at.in_order.senders c.in-TakeLiteral.literal.number one here

pub overlay-requires-clause-operand : goal.overlay-requires-clause-operand
overlay-requires-clause-operand c = (ready_overlay c.args.tables.now c.args.self.now c.in-Overlay.text
    (subst (λ (one : DataInstruction). IsReady c.args.tables.now c.args.self.now one) c.in-Overlay.is c.requires)).0

pub overlay-requires-clause-texts : goal.overlay-requires-clause-texts
overlay-requires-clause-texts c = (ready_overlay c.args.tables.now c.args.self.now c.in-Overlay.text
    (subst (λ (one : DataInstruction). IsReady c.args.tables.now c.args.self.now one) c.in-Overlay.is c.requires)).1

pub drop_place-requires : goal.drop_place-requires
drop_place-requires c = ready_drop_place c.args.tables.now c.args.self.now
    (subst (λ (one : DataInstruction). IsReady c.args.tables.now c.args.self.now one) c.in-DropPlace.is c.requires)

pub test-requires : goal.test-requires
test-requires c =
    subst (λ (one : DataInstruction). IsReady c.args.tables.now c.args.self.now one) c.in-Test.is c.requires

pub gather-requires : goal.gather-requires
gather-requires c =
    subst (λ (one : DataInstruction). IsReady c.args.tables.now c.args.self.now one) c.in-Gather.is c.requires

pub part-requires : goal.part-requires
part-requires c =
    subst (λ (one : DataInstruction). IsReady c.args.tables.now c.args.self.now one) c.in-Part.is c.requires

pub string-requires : goal.string-requires
string-requires c =
    subst (λ (one : DataInstruction). IsReady c.args.tables.now c.args.self.now one) c.in-String.is c.requires

pub inspect-requires : goal.inspect-requires
inspect-requires c =
    subst (λ (one : DataInstruction). IsReady c.args.tables.now c.args.self.now one) c.in-Inspect.is c.requires

pub convert-requires : goal.convert-requires
convert-requires c =
    subst (λ (one : DataInstruction). IsReady c.args.tables.now c.args.self.now one) c.in-Convert.is c.requires

pub inspect_measured-requires : goal.inspect_measured-requires
inspect_measured-requires c =
    subst (λ (one : DataInstruction). IsReady c.args.tables.now c.args.self.now one) c.in-InspectMeasured.is c.requires

pub convert_measured-requires : goal.convert_measured-requires
convert_measured-requires c =
    subst (λ (one : DataInstruction). IsReady c.args.tables.now c.args.self.now one) c.in-ConvertMeasured.is c.requires

pub returns-in-Place-clause-does : goal.returns-in-Place-clause-does
returns-in-Place-clause-does c =
    subst (λ (one : DataInstruction). IsStepOf c.place.result (scratch_of c.place.new.self)
    (work c.args.tables.now one (scratch_of c.args.self.now))) (sym c.in-Place.is) c.place.ensures.does

pub returns-in-Index-clause-does : goal.returns-in-Index-clause-does
returns-in-Index-clause-does c =
    subst (λ (one : DataInstruction). IsStepOf c.index.result (scratch_of c.index.new.self)
    (work c.args.tables.now one (scratch_of c.args.self.now))) (sym c.in-Index.is) c.index.ensures.does

pub returns-in-Push-clause-does : goal.returns-in-Push-clause-does
returns-in-Push-clause-does c =
    subst (λ (one : DataInstruction). IsStepOf c.push.result (scratch_of c.push.new.self)
    (work c.args.tables.now one (scratch_of c.args.self.now))) (sym c.in-Push.is) c.push.ensures.does

pub returns-in-Literal-clause-does : goal.returns-in-Literal-clause-does
returns-in-Literal-clause-does c =
    subst (λ (one : DataInstruction). IsStepOf c.literal.result (scratch_of c.literal.new.self)
    (work c.args.tables.now one (scratch_of c.args.self.now))) (sym c.in-Literal.is) c.literal.ensures.does

pub returns-in-Calculate-clause-does : goal.returns-in-Calculate-clause-does
returns-in-Calculate-clause-does c =
    subst (λ (one : DataInstruction). IsStepOf c.calculate.result (scratch_of c.calculate.new.self)
    (work c.args.tables.now one (scratch_of c.args.self.now))) (sym c.in-Calculate.is) c.calculate.ensures.does

pub returns-in-Store-clause-does : goal.returns-in-Store-clause-does
returns-in-Store-clause-does c =
    subst (λ (one : DataInstruction). IsStepOf c.store_number.result (scratch_of c.store_number.new.self)
    (work c.args.tables.now one (scratch_of c.args.self.now))) (sym c.in-Store.is) c.store_number.ensures.does

pub returns-in-Test-clause-does : goal.returns-in-Test-clause-does
returns-in-Test-clause-does c =
    subst (λ (one : DataInstruction). IsStepOf c.test.result (scratch_of c.test.new.self)
    (work c.args.tables.now one (scratch_of c.args.self.now))) (sym c.in-Test.is) c.test.ensures.does

pub returns-in-ClearTruth-clause-does : goal.returns-in-ClearTruth-clause-does
returns-in-ClearTruth-clause-does c =
    subst (λ (one : DataInstruction). IsStepOf c.clear_truth.result (scratch_of c.clear_truth.new.self)
    (work c.args.tables.now one (scratch_of c.args.self.now))) (sym c.in-ClearTruth.is) c.clear_truth.ensures.does

pub returns-in-VoidIfTrue-clause-does : goal.returns-in-VoidIfTrue-clause-does
returns-in-VoidIfTrue-clause-does c =
    subst (λ (one : DataInstruction). IsStepOf c.void_if_true.result (scratch_of c.void_if_true.new.self)
    (work c.args.tables.now one (scratch_of c.args.self.now))) (sym c.in-VoidIfTrue.is) c.void_if_true.ensures.does

pub returns-in-Take-clause-does : goal.returns-in-Take-clause-does
returns-in-Take-clause-does c =
    subst (λ (one : DataInstruction). IsStepOf c.take.result (scratch_of c.take.new.self)
    (work c.args.tables.now one (scratch_of c.args.self.now))) (sym c.in-Take.is) c.take.ensures.does

pub returns-in-TakeLiteral-clause-does : goal.returns-in-TakeLiteral-clause-does
returns-in-TakeLiteral-clause-does c =
    subst (λ (one : DataInstruction). IsStepOf c.take_literal.result (scratch_of c.take_literal.new.self)
    (work c.args.tables.now one (scratch_of c.args.self.now))) (sym c.in-TakeLiteral.is) c.take_literal.ensures.does

pub returns-in-Move-clause-does : goal.returns-in-Move-clause-does
returns-in-Move-clause-does c =
    subst (λ (one : DataInstruction). IsStepOf c.receive.result (scratch_of c.receive.new.self)
    (work c.args.tables.now one (scratch_of c.args.self.now))) (sym c.in-Move.is) c.receive.ensures.does

pub returns-in-Append-clause-does : goal.returns-in-Append-clause-does
returns-in-Append-clause-does c =
    subst (λ (one : DataInstruction). IsStepOf c.append.result (scratch_of c.append.new.self)
    (work c.args.tables.now one (scratch_of c.args.self.now))) (sym c.in-Append.is) c.append.ensures.does

pub returns-in-AppendLiteral-clause-does : goal.returns-in-AppendLiteral-clause-does
returns-in-AppendLiteral-clause-does c =
    subst (λ (one : DataInstruction). IsStepOf c.append_literal.result (scratch_of c.append_literal.new.self)
    (work c.args.tables.now one (scratch_of c.args.self.now))) (sym c.in-AppendLiteral.is) c.append_literal.ensures.does

pub returns-in-Overlay-clause-does : goal.returns-in-Overlay-clause-does
returns-in-Overlay-clause-does c =
    subst (λ (one : DataInstruction). IsStepOf c.overlay.result (scratch_of c.overlay.new.self)
    (work c.args.tables.now one (scratch_of c.args.self.now))) (sym c.in-Overlay.is) c.overlay.ensures.does

pub returns-in-DropPlace-clause-does : goal.returns-in-DropPlace-clause-does
returns-in-DropPlace-clause-does c =
    subst (λ (one : DataInstruction). IsStepOf c.drop_place.result (scratch_of c.drop_place.new.self)
    (work c.args.tables.now one (scratch_of c.args.self.now))) (sym c.in-DropPlace.is) c.drop_place.ensures.does

pub returns-in-Gather-clause-does : goal.returns-in-Gather-clause-does
returns-in-Gather-clause-does c =
    subst (λ (one : DataInstruction). IsStepOf c.gather.result (scratch_of c.gather.new.self)
    (work c.args.tables.now one (scratch_of c.args.self.now))) (sym c.in-Gather.is) c.gather.ensures.does

pub returns-in-Part-clause-does : goal.returns-in-Part-clause-does
returns-in-Part-clause-does c =
    subst (λ (one : DataInstruction). IsStepOf c.part.result (scratch_of c.part.new.self)
    (work c.args.tables.now one (scratch_of c.args.self.now))) (sym c.in-Part.is) c.part.ensures.does

pub returns-in-String-clause-does : goal.returns-in-String-clause-does
returns-in-String-clause-does c =
    subst (λ (one : DataInstruction). IsStepOf c.string.result (scratch_of c.string.new.self)
    (work c.args.tables.now one (scratch_of c.args.self.now))) (sym c.in-String.is) c.string.ensures.does

pub returns-in-Inspect-clause-does : goal.returns-in-Inspect-clause-does
returns-in-Inspect-clause-does c =
    subst (λ (one : DataInstruction). IsStepOf c.inspect.result (scratch_of c.inspect.new.self)
    (work c.args.tables.now one (scratch_of c.args.self.now))) (sym c.in-Inspect.is) c.inspect.ensures.does

pub returns-in-Convert-clause-does : goal.returns-in-Convert-clause-does
returns-in-Convert-clause-does c =
    subst (λ (one : DataInstruction). IsStepOf c.convert.result (scratch_of c.convert.new.self)
    (work c.args.tables.now one (scratch_of c.args.self.now))) (sym c.in-Convert.is) c.convert.ensures.does

pub returns-in-InspectMeasured-clause-does : goal.returns-in-InspectMeasured-clause-does
returns-in-InspectMeasured-clause-does c =
    subst (λ (one : DataInstruction). IsStepOf c.inspect_measured.result (scratch_of c.inspect_measured.new.self)
    (work c.args.tables.now one (scratch_of c.args.self.now))) (sym c.in-InspectMeasured.is)
    c.inspect_measured.ensures.does

pub returns-in-ConvertMeasured-clause-does : goal.returns-in-ConvertMeasured-clause-does
returns-in-ConvertMeasured-clause-does c =
    subst (λ (one : DataInstruction). IsStepOf c.convert_measured.result (scratch_of c.convert_measured.new.self)
    (work c.args.tables.now one (scratch_of c.args.self.now))) (sym c.in-ConvertMeasured.is)
    c.convert_measured.ensures.does
