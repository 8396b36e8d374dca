use Rattle.std.proofs.Common.{◌+◌, List, subst}
use Rattle.source_tree.specs.declared.program.Sentence.{Sentence}
use Rattle.source_tree.specs.Recursion.{each_performs, sentence_performs}
use Rattle.declarations.specs.Named.{procedures_in}
use Rattle.check_rules.specs.Performs.{AppendsPerforms, in_paragraph}
use Rattle.check_rules.proofs.Adding.{paragraph_next, paragraphs_all}
use Rattle.check_rules.proofs.checker.Checker.paragraphs_performs.Goals as goal

pub loop-i-preserved : goal.loop-i-preserved
loop-i-preserved c =
    let procedures = procedures_in c.args.self.now.declarations.now in
    paragraph_next procedures c.args.first c.args.paragraphs.now c.loop-i.i c.index-paragraphs-i.result
    c.loop-i-test.true c.index-paragraphs-i.is
    c.loop-i.invariant
    (subst (λ (l : List Sentence). AppendsPerforms c.loop-i.all c.paragraph_performs.new.all
    (in_paragraph (c.args.first + c.loop-i.i) (each_performs (sentence_performs procedures) l)))
    c.as_slice.ensures c.in_ok-paragraph_performs.ensures)

pub returns : goal.returns
returns c =
    paragraphs_all (procedures_in c.args.self.now.declarations.now) c.args.first c.args.paragraphs.now c.loop-i.i
    c.loop-i-test.false c.loop-i.invariant
