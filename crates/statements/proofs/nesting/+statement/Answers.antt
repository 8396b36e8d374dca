use Rattle.std.proofs.Common.{◌≡◌, sym, ◌∙◌, ap, Err, arith}
use Rattle.grammar.specs.declared.fault.Halt.TheVariants.{TooDeep}
use Rattle.statements.specs.Reading.{statement}
use Rattle.grammar.proofs.Turns.{deeper}
use Rattle.statements.proofs.nesting.+statement.Goals as goal

pub returns-then-depth-eq0 : goal.returns-then-depth-eq0
unfolding statement
returns-then-depth-eq0 t c =
    let none : c.args.depth ≡ 0 =
    omega arith in ap (λ n. statement n c.args.tokens.now) none ∙ ap (λ n. Err (TooDeep n)) (sym c.len.ensures)

pub returns : goal.returns
unfolding statement
returns t c = rw (deeper (λ n. statement n c.args.tokens.now) c.args.depth (omega arith)) c.line.ensures
