use Rattle.std.proofs.Common.{ℕ, List, length, ap, ◌∙◌, arith}
use Rattle.std.proofs.lemmas.Grind.{common_steps}
use Rattle.source_tree.specs.Computed.{ArithmeticValue}
use Rattle.data_instructions.specs.Tables.{item_place}
use Rattle.data_instructions.proofs.Lengths.{padded_long}
use Rattle.data_machine.specs.Data.{scratch_of}
use Rattle.data_machine.specs.Filled.{BufferView}
use Rattle.data_machine.specs.Held.{StackView}
use Rattle.data_machine.proofs.Conversions.{convert_comes}
use Rattle.data_machine.proofs.data.Data.convert_at.Goals as goal

pub convert_item-requires-clause-size : goal.convert_item-requires-clause-size
convert_item-requires-clause-size c =
    ap (λ (xs : List ℕ). length xs) (c.bytes.ensures ∙ ap (λ (f : BufferView). f.bytes) c.fit.ensures)
    ∙ padded_long c.args.one.now.size c.args.self.now.line.bytes

pub returns-clause-does : goal.returns-clause-does
returns-clause-does c =
    convert_comes c.args.one.now c.args.numbers c.newest-found.result.now
    (item_place c.args.to.now c.args.offset) (scratch_of c.args.self.now) _ _ _ _
    c.newest-found.ensures.length c.requires.numbers c.newest-found.ensures.value
    (c.bytes.ensures ∙ ap (λ (f : BufferView). f.bytes) c.fit.ensures) c.convert_item.ensures.stores
    (ap (λ (f : BufferView). f.bytes) c.clear.ensures)
    (ap (λ (h : StackView ArithmeticValue). h.newest_first) c.leave.ensures)

pub returns-clause-keeps : goal.returns-clause-keeps
returns-clause-keeps c = grind (arith, common_steps)
