use Rattle.source_tree.specs.NameRules.{any_item}
use Rattle.data_instructions.specs.ConditionCodes.{negation}
use Rattle.data_instructions.specs.declared.instruction.DataInstruction.TheVariants as i
use Rattle.data_instructions.specs.declared.test.Test.TheVariants as t
use Rattle.declarations.specs.Named.{items_in}
use Rattle.condition_codegen.specs.DataCode.{take_fragment, works_fragment}
use Rattle.condition_codegen.proofs.Kept.{item_kept}
use Rattle.condition_codegen.proofs.Sequences.{ends_so}
use Rattle.condition_codegen.proofs.emitter.Emitter.emit_class.Goals as goal

pub emit_taking-requires : goal.emit_taking-requires
emit_taking-requires c =
    record { rules = item_kept (items_in c.args.self.now.declarations.now) any_item c.args.item.now c.requires.rules }

pub returns : goal.returns
returns c =
    ends_so c.emit_negation.result
    (take_fragment (items_in c.args.self.now.declarations.now) (i.Test (t.Class c.args.class)) c.args.item.now)
    (works_fragment (negation c.args.negated)) c.args.code.now c.emit_taking.new.code c.emit_negation.new.code
    c.in_ok-emit_taking.ensures c.emit_negation.ensures
