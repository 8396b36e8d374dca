use Rattle.std.proofs.Common.{◌∙◌}
use Rattle.std.specs.Prelude.{map}
use Rattle.declarations.specs.Listed.{procedure_of}
use Rattle.declarations.proofs.Listing.{next_section}
use Rattle.declarations.proofs.listed.listed_procedures.Goals as goal

pub loop-section-preserved : goal.loop-section-preserved
loop-section-preserved c =
    next_section (map procedure_of c.loop-section.all.items) (map procedure_of c.list_section.new.out.items)
    c.args.sections.now c.loop-section.first c.in_ok-first.first c.loop-section.section-index c.section-item.result
    c.loop-section-test.true c.section-item.is c.in_ok-first.ensures.next c.in_ok-first.ensures.listed
    ∙ c.loop-section.invariant
