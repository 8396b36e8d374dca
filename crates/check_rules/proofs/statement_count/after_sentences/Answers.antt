use Rattle.std.proofs.Common.{List, refl, ap, ◌∙◌}
use Rattle.source_tree.specs.declared.statement.Statement.{Statement}
use Rattle.source_tree.specs.StatementCount.{each_place, statement_places, sentence_places}
use Rattle.check_rules.specs.Counting.{room_after}
use Rattle.check_rules.proofs.Counted.{after_next, after_all}
use Rattle.check_rules.proofs.statement_count.after_sentences.Goals as goal

pub loop-one-preserved : goal.loop-one-preserved
loop-one-preserved c =
    after_next (each_place sentence_places) sentence_places (λ x xs. refl) c.args.all.now c.loop-one.one-index
    c.one-item.result c.args.room c.loop-one.so_far c.after_statements-so_far.result
    c.loop-one-test.true c.one-item.is c.loop-one.invariant
    (c.after_statements-so_far.ensures
    ∙ ap (λ (l : List Statement). room_after c.loop-one.so_far (each_place statement_places l)) c.as_slice.ensures)

pub returns : goal.returns
returns c = after_all (each_place sentence_places) sentence_places (λ x xs. refl) c.args.all.now c.loop-one.one-index
    c.args.room c.loop-one.so_far refl c.loop-one-test.false c.loop-one.invariant
