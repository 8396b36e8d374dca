use Rattle.name_table.proofs.ConditionCalls.{item_passed, condition_added, condition_skipped}
use Rattle.name_table.proofs.conditions.with_entries.Goals as goal
use Rattle.name_table.proofs.conditions.with_entries.Goals.{in-Item, in-Condition+in_ok-add-in-Condition}
use Rattle.name_table.proofs.conditions.with_entries.Goals.{in-Condition+else-count-before}

pub loop-entry-preserved : goal.loop-entry-preserved
loop-entry-preserved c =
    elim c.match-entry.branch [
      | in-Item w ↦ item_passed _ _ _ _ c.loop-entry.entry-index _ c.loop-entry.count _ c.loop-entry.all _
          c.loop-entry-test.true c.entry-item.is c.loop-entry.invariant _ w.in-Item.is w.count-is w.all-is
      | in-Condition+in_ok-add-in-Condition w ↦
          condition_added _ _ _ _ c.loop-entry.entry-index _ c.loop-entry.count _ c.loop-entry.all _
          c.loop-entry-test.true c.entry-item.is c.loop-entry.invariant _ _ w.in-Condition.is w.if-count-before.true
          w.in_ok-add-in-Condition.ensures.table w.in_ok-add-in-Condition.ensures.calls
          w.in_ok-add-in-Condition.ensures.conditions w.count-is w.all-is
      | in-Condition+else-count-before w ↦ condition_skipped _ _ _ _ c.loop-entry.entry-index _ c.loop-entry.count _
          c.loop-entry.all _ c.loop-entry-test.true c.entry-item.is c.loop-entry.invariant _ w.in-Condition.is
          w.if-count-before.false w.count-is w.all-is
    ]
