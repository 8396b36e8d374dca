use Rattle.std.proofs.Common.{sym, subst}
use Rattle.tokens.specs.Tokens.{TokensOf}
use Rattle.source_commands.proofs.source_layout.read_tree.Goals as goal

pub returns : goal.returns
returns c = record {
  characters = c.in_ok-lines.lines;
  tokens = c.as_slice.result.now;
  format = c.reference_format.ensures.answered c.args.source.now c.in_ok-lines.lines c.in_ok-lines.ensures;
  scanned = subst (λ t. TokensOf c.in_ok-lines.lines t) (sym c.as_slice.ensures)
      (c.laws.ensures.answered c.in_ok-lines.lines c.in_ok-tokens.tokens c.in_ok-tokens.ensures);
  spelled = c.in_ok-parse.ensures.spelled;
  formed = c.in_ok-parse.ensures.forms;
}
