use Rattle.std.proofs.Common.{ap}
use Rattle.source_tree.specs.Computed.{ArithmeticValue}
use Rattle.data_instructions.specs.Tables.{item_place}
use Rattle.data_machine.specs.Data.{scratch_of}
use Rattle.data_machine.specs.Filled.{BufferView}
use Rattle.data_machine.specs.Held.{StackView}
use Rattle.data_machine.proofs.MeasuredTexts.{measured_comes}
use Rattle.data_machine.proofs.data.Data.gather_measured_at.Goals as goal

pub returns-clause-does : goal.returns-clause-does
returns-clause-does c =
    measured_comes (scratch_of c.args.self.now) (item_place c.args.one.now c.args.offset) c.args.size
    c.bytes.result.now c.sized.result.now c.bytes-start.result.now c.append.new.self.bytes c.fit.new.self.bytes
    _ _ _ _
    c.bytes.ensures.value c.sized.ensures.value c.bytes-start.ensures
    (ap (λ (f : BufferView). f.bytes) c.append.ensures) (ap (λ (f : BufferView). f.bytes) c.fit.ensures)
    c.whole.ensures (ap (λ (h : StackView ArithmeticValue). h.newest_first) c.push.ensures) c.whole-2.ensures
    (ap (λ (h : StackView ArithmeticValue). h.newest_first) c.push-2.ensures)
