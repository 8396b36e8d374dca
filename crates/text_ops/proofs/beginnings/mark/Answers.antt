use Rattle.std.proofs.Common.{List, length, rules, sym, subst}
use Rattle.std.specs.Prelude.{Bool}
use Rattle.text_ops.specs.Beginnings.{Skips}
use Rattle.text_ops.proofs.Marking.{all_skip}
use Rattle.text_ops.proofs.beginnings.mark.Goals as goal

pub returns-in-None-clause-own : goal.returns-in-None-clause-own
returns-in-None-clause-own c =
    subst (λ (marks : List Bool). Skips c.args.texts.now marks c.args.entry) (sym
    (c.fill.ensures.after (λ y is. search rules))) (all_skip c.args.texts.now (length c.args.marks.now) c.args.entry)

pub returns-in-None-clause-others : goal.returns-in-None-clause-others
returns-in-None-clause-others c = λ other skips.
    subst (λ (marks : List Bool). Skips c.args.texts.now marks other)
    (sym (c.fill.ensures.after (λ y is. search rules))) (all_skip c.args.texts.now (length c.args.marks.now) other)
