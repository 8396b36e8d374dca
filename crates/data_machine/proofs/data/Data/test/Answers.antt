use Rattle.std.proofs.Common.{subst, sym}
use Rattle.data_instructions.specs.declared.test.Test.{Test}
use Rattle.data_instructions.specs.declared.instruction.DataInstruction.TheVariants as i
use Rattle.data_instructions.specs.Table.{test_step}
use Rattle.data_machine.specs.Comes.{IsStepOf}
use Rattle.data_machine.specs.Data.{scratch_of}
use Rattle.data_machine.specs.Ready.{IsReady}
use Rattle.data_machine.proofs.Readies.{ready_compare, ready_compare_literal, ready_class, ready_or_equal}
use Rattle.data_machine.proofs.Readies.{ready_or_within}
use Rattle.data_machine.proofs.data.Data.test.Goals as goal

pub compare-requires-clause-operand : goal.compare-requires-clause-operand
compare-requires-clause-operand c = ready_compare c.args.tables.now c.args.self.now c.in-Compare.relation
    (subst (λ (one : Test). IsReady c.args.tables.now c.args.self.now (i.Test one)) c.in-Compare.is c.requires)

pub compare_literal-requires-clause-literal : goal.compare_literal-requires-clause-literal
compare_literal-requires-clause-literal c =
    ready_compare_literal c.args.tables.now c.args.self.now c.in-CompareLiteral.relation c.in-CompareLiteral.literal
    (subst (λ (one : Test). IsReady c.args.tables.now c.args.self.now (i.Test one)) c.in-CompareLiteral.is c.requires)

pub class-requires : goal.class-requires
class-requires c = ready_class c.args.tables.now c.args.self.now c.in-Class.class
    (subst (λ (one : Test). IsReady c.args.tables.now c.args.self.now (i.Test one)) c.in-Class.is c.requires)

pub or_equal-requires-clause-literal : goal.or_equal-requires-clause-literal
or_equal-requires-clause-literal c = ready_or_equal c.args.tables.now c.args.self.now c.in-OrEqual.literal
    (subst (λ (one : Test). IsReady c.args.tables.now c.args.self.now (i.Test one)) c.in-OrEqual.is c.requires)

pub or_within-requires-clause-literals : goal.or_within-requires-clause-literals
or_within-requires-clause-literals c = ready_or_within c.args.tables.now c.args.self.now c.in-OrWithin.first
    (subst (λ (one : Test). IsReady c.args.tables.now c.args.self.now (i.Test one)) c.in-OrWithin.is c.requires)

pub returns-in-Compare-clause-does : goal.returns-in-Compare-clause-does
returns-in-Compare-clause-does c =
    subst (λ (one : Test). IsStepOf c.compare.result (scratch_of c.compare.new.self)
    (test_step c.args.tables.now one (scratch_of c.args.self.now))) (sym c.in-Compare.is) c.compare.ensures.does

pub returns-in-CompareLiteral-clause-does : goal.returns-in-CompareLiteral-clause-does
returns-in-CompareLiteral-clause-does c =
    subst (λ (one : Test). IsStepOf c.compare_literal.result (scratch_of c.compare_literal.new.self)
    (test_step c.args.tables.now one (scratch_of c.args.self.now))) (sym c.in-CompareLiteral.is)
    c.compare_literal.ensures.does

pub returns-in-CompareNumbers-clause-does : goal.returns-in-CompareNumbers-clause-does
returns-in-CompareNumbers-clause-does c =
    subst (λ (one : Test). IsStepOf c.compare_numbers.result (scratch_of c.compare_numbers.new.self)
    (test_step c.args.tables.now one (scratch_of c.args.self.now))) (sym c.in-CompareNumbers.is)
    c.compare_numbers.ensures.does

pub returns-in-Class-clause-does : goal.returns-in-Class-clause-does
returns-in-Class-clause-does c =
    subst (λ (one : Test). IsStepOf c.class.result (scratch_of c.class.new.self)
    (test_step c.args.tables.now one (scratch_of c.args.self.now))) (sym c.in-Class.is) c.class.ensures.does

pub returns-in-OrEqual-clause-does : goal.returns-in-OrEqual-clause-does
returns-in-OrEqual-clause-does c =
    subst (λ (one : Test). IsStepOf c.or_equal.result (scratch_of c.or_equal.new.self)
    (test_step c.args.tables.now one (scratch_of c.args.self.now))) (sym c.in-OrEqual.is) c.or_equal.ensures.does

pub returns-in-OrWithin-clause-does : goal.returns-in-OrWithin-clause-does
returns-in-OrWithin-clause-does c =
    subst (λ (one : Test). IsStepOf c.or_within.result (scratch_of c.or_within.new.self)
    (test_step c.args.tables.now one (scratch_of c.args.self.now))) (sym c.in-OrWithin.is) c.or_within.ensures.does
