use Rattle.data_instructions.specs.declared.instruction.DataInstruction.TheVariants as i
use Rattle.data_instructions.specs.declared.test.Test.TheVariants as t
use Rattle.declarations.specs.Named.{items_in}
use Rattle.condition_codegen.specs.DataCode.{work_fragment}
use Rattle.condition_codegen.specs.ConditionCode.{side_fragment}
use Rattle.condition_codegen.proofs.Sequences.{three_so}
use Rattle.condition_codegen.proofs.emitter.Emitter.emit_numbers_compared.Goals as goal

pub returns : goal.returns
returns c =
    let items = items_in c.args.self.now.declarations.now in
    three_so c.emit_work.result (side_fragment items c.args.left.now) (side_fragment items c.args.right.now)
    (work_fragment (i.Test (t.CompareNumbers c.args.relation))) c.args.code.now c.emit_side.new.code
    c.emit_side-2.new.code c.emit_work.new.code c.in_ok-emit_side.ensures c.in_ok-emit_side-2.ensures
    c.emit_work.ensures
