use Rattle.std.proofs.Common.{◌≡◌, Ok, sym, subst}
use Rattle.std.proofs.lemmas.Result.{err_from_is_err_and}
use Rattle.tokens.specs.Tokens.{TokensOf}
use Rattle.statements.specs.Spelling.{max_nesting}
use Rattle.divisions.specs.Spelling.{SpellsProgram}
use Rattle.divisions.specs.Faults.{parse_of}
use Rattle.compiler.proofs.Stages.{spelled_by, tokens_refusal, tree_refusal, rules_left}
use Rattle.compiler.proofs.compiling.read_tree.Goals as goal

pub returns-in_err-tokens-clause-only : goal.returns-in_err-tokens-clause-only
returns-in_err-tokens-clause-only c =
    let p = err_from_is_err_and c.from_residual-in_err-tokens.result c.from_residual-in_err-tokens.ensures.1 in
    rw (p.1, p.2)
    (λ tree is. tokens_refusal c.reference_format.ensures.only c.laws.ensures.only c.args.source.now tree is
    c.in_ok-lines.lines c.in_ok-lines.ensures c.in_err-tokens.field-0.0 c.in_err-tokens.ensures)

pub returns-in_err-tree-clause-only : goal.returns-in_err-tree-clause-only
returns-in_err-tree-clause-only c =
    let p = err_from_is_err_and c.from_residual-in_err-tree.result c.from_residual-in_err-tree.ensures.1 in
    rw (p.1, p.2)
    (λ tree is. tree_refusal tree is.formed c.in_err-tree.field-0.0 (c.in_err-tree.ensures.only max_nesting tree
    (subst (λ t. SpellsProgram max_nesting tree t) (sym c.as_slice.ensures)
    (spelled_by c.reference_format.ensures.only c.laws.ensures.only c.args.source.now tree is c.in_ok-lines.lines
    c.in_ok-tokens.tokens c.in_ok-lines.ensures c.in_ok-tokens.ensures))))

pub returns-clause-tree : goal.returns-clause-tree
returns-clause-tree c = record {
  characters = c.in_ok-lines.lines;
  tokens = c.as_slice.result.now;
  format = c.reference_format.ensures.answered c.args.source.now c.in_ok-lines.lines c.in_ok-lines.ensures;
  scanned = subst (λ t. TokensOf c.in_ok-lines.lines t) (sym c.as_slice.ensures)
      (c.laws.ensures.answered c.in_ok-lines.lines c.in_ok-tokens.tokens c.in_ok-tokens.ensures);
  spelled = c.in_ok-tree.ensures.spelled;
  formed = c.in_ok-tree.ensures.forms;
}

pub returns-clause-rules : goal.returns-clause-rules
returns-clause-rules c =
    rules_left c.args.source.now c.in_ok-lines.lines c.in_ok-tokens.tokens c.in_ok-tree.field-0 c.in_ok-lines.ensures
    c.in_ok-tokens.ensures
    (subst (λ t. parse_of t ≡ Ok c.in_ok-tree.field-0) c.as_slice.ensures c.in_ok-tree.ensures.reads)

pub returns-clause-only : goal.returns-clause-only
returns-clause-only c = λ tree is. c.in_ok-tree.ensures.only max_nesting tree
    (subst (λ t. SpellsProgram max_nesting tree t) (sym c.as_slice.ensures)
    (spelled_by c.reference_format.ensures.only c.laws.ensures.only c.args.source.now tree is c.in_ok-lines.lines
    c.in_ok-tokens.tokens c.in_ok-lines.ensures c.in_ok-tokens.ensures))
