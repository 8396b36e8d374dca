use Rattle.std.proofs.Common.{List, refl, ap, ◌∙◌}
use Rattle.source_tree.specs.declared.statement.Statement.{Statement}
use Rattle.source_tree.specs.StatementCount.{each_place, statement_places}
use Rattle.check_rules.specs.Counting.{room_after}
use Rattle.check_rules.proofs.Counted.{after_lists, after_next, after_all, selected_places, own_places, selected_step}
use Rattle.check_rules.proofs.statement_count.+count.Goals as goal

pub after_statement-returns : goal.after_statement-returns
after_statement-returns t c =
    after_lists c.args.one.now c.inner_statements.result c.args.room c.after-room.result c.after_selected-room.result
    c.after_statements-room.result c.after_statements.result c.inner_statements.ensures c.after-room.ensures
    c.after_selected-room.ensures c.after_statements-room.ensures c.after_statements.ensures

pub after_statements-loop-one-preserved : goal.after_statements-loop-one-preserved
after_statements-loop-one-preserved t c =
    after_next (each_place statement_places) statement_places (λ x xs. refl) c.args.all.now c.loop-one.one-index
    c.one-item.result c.args.room c.loop-one.so_far c.after_statement-so_far.result
    c.loop-one-test.true c.one-item.is c.loop-one.invariant c.after_statement-so_far.ensures

pub after_statements-returns : goal.after_statements-returns
after_statements-returns t c =
    after_all (each_place statement_places) statement_places (λ x xs. refl) c.args.all.now c.loop-one.one-index
    c.args.room c.loop-one.so_far refl c.loop-one-test.false c.loop-one.invariant

pub after_selected-loop-one-preserved : goal.after_selected-loop-one-preserved
after_selected-loop-one-preserved t c =
    after_next selected_places own_places selected_step c.args.all.now c.loop-one.one-index c.one-item.result
    c.args.room c.loop-one.so_far c.after_statements-so_far.result
    c.loop-one-test.true c.one-item.is c.loop-one.invariant
    (c.after_statements-so_far.ensures
    ∙ ap (λ (l : List Statement). room_after c.loop-one.so_far (each_place statement_places l)) c.as_slice.ensures)

pub after_selected-returns : goal.after_selected-returns
after_selected-returns t c = after_all selected_places own_places selected_step c.args.all.now c.loop-one.one-index
    c.args.room c.loop-one.so_far refl c.loop-one-test.false c.loop-one.invariant
