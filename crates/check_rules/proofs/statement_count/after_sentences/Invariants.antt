use Rattle.std.proofs.Common.{◌≡◌, drop}
use Rattle.source_tree.specs.StatementCount.{each_place, sentence_places}
use Rattle.check_rules.specs.Counting.{room_after}
use Rattle.check_rules.proofs.statement_count.after_sentences.Given as goal

abbrev pub invariant-loop-one : goal.invariant-loop-one
invariant-loop-one l = room_after l.fn.room (each_place sentence_places l.all)
    ≡ room_after l.so_far (each_place sentence_places (drop l.one-index l.all))
