-- The rules of the operands of an expression.
use Rattle.std.specs.Prelude.{List}
use Rattle.source_tree.specs.declared.expression.Operator.{Operator}
use Rattle.source_tree.specs.declared.expression.Expression.{Expression}
use Rattle.source_tree.specs.Places.{LocatedItem}
use Rattle.source_tree.specs.Broken.{RuleBreach}
use Rattle.source_tree.specs.ArithmeticRules.{expression_rules}

-- an operand after an operator
abbrev pub further_rules : List LocatedItem → Operator × Expression → List RuleBreach
further_rules items one = expression_rules items one.1
