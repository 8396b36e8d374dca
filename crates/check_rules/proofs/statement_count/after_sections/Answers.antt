use Rattle.std.proofs.Common.{List, refl, ap, ◌∙◌}
use Rattle.source_tree.specs.declared.program.Paragraph.{Paragraph}
use Rattle.source_tree.specs.StatementCount.{each_place, paragraph_places, section_places}
use Rattle.check_rules.specs.Counting.{room_after}
use Rattle.check_rules.proofs.Counted.{after_next, after_all}
use Rattle.check_rules.proofs.statement_count.after_sections.Goals as goal

pub loop-one-preserved : goal.loop-one-preserved
loop-one-preserved c =
    after_next (each_place section_places) section_places (λ x xs. refl) c.args.all.now c.loop-one.one-index
    c.one-item.result c.args.room c.loop-one.so_far c.after_paragraphs-so_far.result
    c.loop-one-test.true c.one-item.is c.loop-one.invariant
    (c.after_paragraphs-so_far.ensures
    ∙ ap (λ (l : List Paragraph). room_after c.loop-one.so_far (each_place paragraph_places l)) c.as_slice.ensures)

pub returns : goal.returns
returns c = after_all (each_place section_places) section_places (λ x xs. refl) c.args.all.now c.loop-one.one-index
    c.args.room c.loop-one.so_far refl c.loop-one-test.false c.loop-one.invariant
