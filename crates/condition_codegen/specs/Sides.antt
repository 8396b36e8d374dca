-- A side of a relation that is an operand alone, as the code takes it up.
use Rattle.source_tree.specs.declared.expression.Operand.{Operand}
use Rattle.source_tree.specs.declared.expression.Operand.TheVariants as operand
use Rattle.condition_codegen.specs.declared.condition.Alone.{Alone}
use Rattle.condition_codegen.specs.declared.condition.Alone.TheVariants as alone

abbrev pub operand_of : Alone → Operand
operand_of (alone.Item one) = operand.Item one.now
operand_of (alone.Literal one) = operand.Literal one.now
