use Rattle.declarations.specs.Named.{procedures_in}
use Rattle.check_rules.proofs.Adding.{section_adds}
use Rattle.check_rules.proofs.checker.Checker.section_performs.Goals as goal

pub returns-clause-added : goal.returns-clause-added
returns-clause-added c =
    section_adds (procedures_in c.args.self.now.declarations.now) c.args.first c.args.one.now.paragraphs
    c.as_slice-paragraphs.result.now
    c.as_slice-paragraphs.ensures c.in_ok-paragraphs_performs.ensures
