-- The laws of code on data, which the crates above can cite: what code does from whatever stacks are there, faults too,
-- and what is known after it.
use Rattle.std.specs.Prelude.{◌++◌, Bool, List, [], ◌∷◌}
use Rattle.items.specs.declared.taken.Taken.{Taken}
use Rattle.source_tree.specs.declared.arithmetic.Operation.{Operation}
use Rattle.source_tree.specs.declared.condition.Class.{Class}
use Rattle.source_tree.specs.declared.condition.Relation.{Relation}
use Rattle.source_tree.specs.declared.condition.Side.{Side}
use Rattle.source_tree.specs.declared.condition.SignTest.{SignTest}
use Rattle.source_tree.specs.declared.expression.Expression.{Expression}
use Rattle.source_tree.specs.declared.expression.Operand.{Operand}
use Rattle.source_tree.specs.declared.expression.Operator.{Operator}
use Rattle.source_tree.specs.declared.inspect_statement.Converting.{Converting}
use Rattle.source_tree.specs.declared.inspect_statement.InspectStatement.{InspectStatement}
use Rattle.source_tree.specs.declared.reference.Reference.{Reference}
use Rattle.source_tree.specs.declared.statement.Statement.{Statement}
use Rattle.source_tree.specs.declared.string_statement.Sending.{Sending}
use Rattle.source_tree.specs.declared.string_statement.StringStatement.{StringStatement}
use Rattle.source_tree.specs.Accepting.{date_sender}
use Rattle.source_tree.specs.Computed.{ArithmeticValue, ExpressionValue}
use Rattle.source_tree.specs.Conditions.{name_holds}
use Rattle.source_tree.specs.Converting.{as_replacing}
use Rattle.source_tree.specs.Places.{LocatedItem}
use Rattle.data_instructions.specs.declared.calculation.Calculation.TheVariants as calculation
use Rattle.data_instructions.specs.declared.instruction.DataInstruction.{DataInstruction}
use Rattle.data_instructions.specs.declared.instruction.DataInstruction.TheVariants as instruction
use Rattle.data_instructions.specs.declared.tables.DataTables.{DataTables}
use Rattle.data_instructions.specs.Tables.{IsTables}
use Rattle.data_instructions.specs.Codes.{IsReferenceCode, IsMoveCode, IsDisplayCode}
use Rattle.data_instructions.specs.Statements.{FindsPlace, DoesMove, DoesDisplay, DoesAccept, DoesDate}
use Rattle.data_instructions.specs.Chains.{LiesAll, ShowsAll, SendsAs, MayReceive, MayReceiveEach, KnowsMove}
use Rattle.data_instructions.specs.Chains.{KnowsDisplay, KnowsAccept, KnowsDate}
use Rattle.data_instructions.specs.ArithmeticCodes.{operator_code, negated_value, value_and_then, operation_and_then}
use Rattle.data_instructions.specs.ArithmeticCodes.{Computes, ComputesOn, PushesNumber, StaysOver}
use Rattle.data_instructions.specs.ArithmeticCodes.{IsArithmeticCode, DoesArithmetic, LiesOperand, LiesOperation}
use Rattle.data_instructions.specs.ArithmeticCodes.{KnowsArithmetic}
use Rattle.data_instructions.specs.ConditionCodes.{Decides, KnowsTest, IsPairCode, AreNumbersCode, IsSignCode}
use Rattle.data_instructions.specs.ConditionCodes.{IsClassCode, IsNameCode, LiesCondition, pair_truth, numbers_truth}
use Rattle.data_instructions.specs.ConditionCodes.{sign_truth, class_truth}
use Rattle.data_instructions.specs.TextCodes.{AreInitializedCode, AreSetCode, AreSendingsCode, IsStringCode}
use Rattle.data_instructions.specs.TextCodes.{DoesInitialize, DoesSet, DoesSend, DoesString, LieEach, LieConditions}
use Rattle.data_instructions.specs.TextCodes.{LieSendings, LiesString, KnowsAll, KnowsString}
use Rattle.data_instructions.specs.InspectCodes.{IsInspectCode, DoesInspect, LiesInspect, KnowsInspect, IsConvertCode}
use Rattle.data_instructions.specs.InspectCodes.{DoesConvert}

abbrev pub Code : Type 0
Code = List DataInstruction

-- ---- expressions, by their parts

-- Code of a number's value adds it to the numbers.
pub record ComputesParts (tables : DataTables) : Type 0 where
  pub negated : (value : ExpressionValue) (code : Code) → Computes tables value code
      → Computes tables (negated_value value) (code ++ (instruction.Calculate calculation.Negate ∷ []))
  pub first : (value : ExpressionValue) (next : ArithmeticValue → ExpressionValue) (front back : Code)
      → Computes tables value front → ComputesOn tables next back
      → Computes tables (value_and_then value next) (front ++ back)
  pub further : (one : Operator) (value : ExpressionValue) (next : ArithmeticValue → ExpressionValue)
      (front back : Code) → Computes tables value front → ComputesOn tables next back
      → ComputesOn tables (operation_and_then one value next) (front ++ (operator_code one ∷ back))

-- One number more is known after it.
pub record PushesParts (tables : DataTables) : Type 0 where
  pub negated : (code : Code) → PushesNumber tables code
      → PushesNumber tables (code ++ (instruction.Calculate calculation.Negate ∷ []))
  pub first : (front back : Code) → PushesNumber tables front → StaysOver tables back
      → PushesNumber tables (front ++ back)
  pub further : (one : Operator) (front back : Code) → PushesNumber tables front → StaysOver tables back
      → StaysOver tables (front ++ (operator_code one ∷ back))

module _ (items : List LocatedItem) (tables : DataTables) where
  -- ---- statements on numbers and texts

  pub record DoesStatements : Type 0 where
    pub reference : (one : Reference) (code : Code) → IsReferenceCode items tables one code
        → FindsPlace items tables one code
    pub moves : (sender : Operand) (receivers : List Reference) (code : Code)
        → IsMoveCode items tables sender receivers code → DoesMove items tables sender receivers code
    pub displays : (operands : List Operand) (advancing : Bool) (code : Code)
        → IsDisplayCode items tables operands advancing code → DoesDisplay items tables operands advancing code
    pub accepts : (receiver : Reference) (code : Code) → IsReferenceCode items tables receiver code
        → DoesAccept items tables receiver code
    pub dates : (receiver : Reference) (code : Code) → IsReferenceCode items tables receiver code
        → DoesDate items tables receiver code
    pub calculates : (keep : Bool) (one : Operation) (code : Code) → IsArithmeticCode items tables keep one code
        → DoesArithmetic items tables keep one code

  -- Each occurrence of what is named is within its area, and a move is permitted.
  pub record KnowsStatements : Type 0 where
    pub moves : (sender : Operand) (receivers : List Reference) (code : Code) (sent : Taken)
        → IsMoveCode items tables sender receivers code → SendsAs items tables sender sent
        → MayReceiveEach items tables sent receivers → KnowsMove items tables sent code
    pub displays : (operands : List Operand) (advancing : Bool) (code : Code)
        → IsDisplayCode items tables operands advancing code → ShowsAll items tables operands
        → KnowsDisplay items tables code
    pub accepts : (receiver : Reference) (code : Code) → IsReferenceCode items tables receiver code
        → LiesAll items tables receiver → KnowsAccept items tables code
    pub dates : (receiver : Reference) (code : Code) → IsReferenceCode items tables receiver code
        → MayReceive items tables (date_sender []).taken receiver → KnowsDate items tables code
    pub calculates : (keep : Bool) (one : Operation) (code : Code) → IsArithmeticCode items tables keep one code
        → LiesOperation items tables one → KnowsArithmetic tables code

  -- ---- conditions without AND and OR

  pub record DecidesConditions : Type 0 where
    pub pair : (a : Operand) (one : Relation) (b : Operand) (code : Code) → IsTables tables
        → IsPairCode items tables a one b code → Decides tables (pair_truth items a one b) code
    pub numbers : (left : Side) (one : Relation) (right : Side) (code : Code)
        → AreNumbersCode items tables left one right code → Decides tables (numbers_truth items left one right) code
    pub sign : (value : Expression) (negated : Bool) (one : SignTest) (code : Code)
        → IsSignCode items tables value negated one code → Decides tables (sign_truth items value negated one) code
    pub class : (one : Reference) (negated : Bool) (class : Class) (code : Code) → IsTables tables
        → IsClassCode items tables one negated class code → Decides tables (class_truth items one negated class) code
    pub name : (one : Reference) (code : Code) → IsTables tables → IsNameCode items tables one code
        → Decides tables (name_holds items one) code

  pub record KnowsConditions : Type 0 where
    pub pair : (a : Operand) (one : Relation) (b : Operand) (code : Code) → IsPairCode items tables a one b code
        → LiesOperand items tables a → LiesOperand items tables b → KnowsTest tables code
    pub numbers : (left : Side) (one : Relation) (right : Side) (code : Code)
        → AreNumbersCode items tables left one right code → KnowsTest tables code
    pub sign : (value : Expression) (negated : Bool) (one : SignTest) (code : Code)
        → IsSignCode items tables value negated one code → KnowsTest tables code
    pub class : (one : Reference) (negated : Bool) (class : Class) (code : Code)
        → IsClassCode items tables one negated class code → LiesAll items tables one → KnowsTest tables code
    pub name : (one : Reference) (code : Code) → IsNameCode items tables one code
        → LiesCondition items tables one → KnowsTest tables code

  -- ---- INITIALIZE, SET, STRING up to its phrases, and INSPECT

  pub record DoesTexts : Type 0 where
    pub initializes : (receivers : List Reference) (code : Code) → AreInitializedCode items tables receivers code
        → DoesInitialize items tables receivers code
    pub sets : (conditions : List Reference) (code : Code) → AreSetCode items tables conditions code
        → DoesSet items tables conditions code
    pub sends : (sendings : List Sending) (code : Code) → AreSendingsCode items tables sendings code
        → DoesSend items tables sendings code
    pub strings : (one : StringStatement Statement) (code : Code) → IsStringCode items tables one code
        → DoesString items tables one code
    pub inspects : (one : InspectStatement) (code : Code) → IsInspectCode items tables one code
        → DoesInspect items tables one code
    pub converts : (one : Converting) (code : Code) → IsConvertCode items tables one code
        → DoesConvert items tables one code

  pub record KnowsTexts : Type 0 where
    pub initialize : (receivers : List Reference) (code : Code) → AreInitializedCode items tables receivers code
        → LieEach items tables receivers → KnowsAll items tables code
    pub set : (conditions : List Reference) (code : Code) → AreSetCode items tables conditions code
        → LieConditions items tables conditions → KnowsAll items tables code
    pub send : (sendings : List Sending) (code : Code) → AreSendingsCode items tables sendings code
        → LieSendings items tables sendings → KnowsDisplay items tables code
    pub string : (one : StringStatement Statement) (code : Code) → IsStringCode items tables one code
        → LiesString items tables one → KnowsString items tables code
    pub inspect : (one : InspectStatement) (code : Code) → IsInspectCode items tables one code
        → LiesInspect items tables one → KnowsInspect items tables code
    pub convert : (one : Converting) (code : Code) → IsConvertCode items tables one code
        → LiesInspect items tables (as_replacing one) → KnowsInspect items tables code
