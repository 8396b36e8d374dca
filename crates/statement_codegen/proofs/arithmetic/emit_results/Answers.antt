use Rattle.std.proofs.Common.{sym, ap}
use Rattle.source_tree.specs.declared.arithmetic.Operation.{Operation}
use Rattle.declarations.specs.Named.{items_in}
use Rattle.condition_codegen.specs.Fragments.{append}
use Rattle.condition_codegen.specs.ArithmeticCode.{remainder_fragment, division_fragment}
use Rattle.statement_codegen.specs.Operations.{results_fragment}
use Rattle.condition_codegen.proofs.Sequences.{is_so}
use Rattle.statement_codegen.proofs.arithmetic.emit_results.Goals as goal

pub returns-in-DivideRemainder : goal.returns-in-DivideRemainder
returns-in-DivideRemainder c =
    let items = items_in c.args.emitter.now.declarations.now in
    let old = c.args.code.now in
    let keep = c.args.keep in
    let found = c.in-DivideRemainder in
    is_so c.emit_remainder_giving.result c.emit_remainder_giving.new.code
    (append old (division_fragment found.order (remainder_fragment items keep found.quotient found.remainder) old))
    (append old (results_fragment items keep c.args.one.now old)) c.emit_remainder_giving.ensures
    (sym (ap (λ (one : Operation). append old (results_fragment items keep one old)) found.is))
