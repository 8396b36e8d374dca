use Rattle.std.proofs.Common.{◌≡◌, [], length}
use Rattle.source_tree.specs.Broken.{each}
use Rattle.source_tree.specs.ConditionRules.{condition_rules}
use Rattle.source_tree.specs.Evaluate.{object_conditions}
use Rattle.declarations.specs.Named.{items_in}
use Rattle.condition_codegen.specs.Fragments.{append, in_order}
use Rattle.condition_codegen.proofs.Questions.{further_piece}
use Rattle.condition_codegen.proofs.emitter.Emitter.emit_each_asked.Given as goal

-- what is there, and what is still to come, are the whole
abbrev pub invariant-pairs : goal.invariant-pairs
invariant-pairs l = record {
  same : append l.code (in_order (further_piece (items_in l.self.declarations.now))
      (object_conditions (items_in l.self.declarations.now) l.asking l.rest) l.code)
      ≡ append l.initial.code (in_order (further_piece (items_in l.self.declarations.now))
      (object_conditions (items_in l.self.declarations.now) l.subjects l.objects) l.initial.code);
  rules : each (condition_rules (items_in l.self.declarations.now))
      (object_conditions (items_in l.self.declarations.now) l.asking l.rest) ≡ [];
}

abbrev pub decreases-pairs : goal.decreases-pairs
decreases-pairs l = length l.asking
