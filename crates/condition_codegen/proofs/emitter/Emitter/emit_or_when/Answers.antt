use Rattle.std.proofs.Common.{List, sym, ap, ◌∙◌}
use Rattle.source_tree.specs.declared.condition.Condition.TheVariants.{All}
use Rattle.source_tree.specs.declared.evaluate_statement.Object.{Object}
use Rattle.source_tree.specs.Broken.{each}
use Rattle.source_tree.specs.ConditionRules.{condition_rules}
use Rattle.source_tree.specs.Evaluate.{object_conditions, when_condition}
use Rattle.declarations.specs.Named.{items_in}
use Rattle.condition_codegen.specs.Fragments.{append}
use Rattle.condition_codegen.specs.Meeting.{nothing_fragment}
use Rattle.condition_codegen.specs.ConditionCode.{condition_fragment}
use Rattle.condition_codegen.proofs.Fragments.{joined_nothing}
use Rattle.condition_codegen.proofs.WaysMet.{ways_met}
use Rattle.condition_codegen.proofs.WayEnds.{both_within}
use Rattle.condition_codegen.proofs.emitter.Emitter.emit_or_when.Goals as goal

pub emit_when-requires-clause-rules : goal.emit_when-requires-clause-rules
emit_when-requires-clause-rules c =
    let items = items_in c.args.self.now.declarations.now in
    ap (λ (l : List Object). each (condition_rules items) (object_conditions items c.args.subjects.now l))
    c.as_slice.ensures ∙ c.requires.rules

pub returns : goal.returns
returns c =
    let items = items_in c.args.self.now.declarations.now in
    let jumped = c.emit_jump.new.code in
    ways_met c.emit_meeting.result nothing_fragment
    (condition_fragment items (when_condition items c.args.subjects.now c.args.one.now)) c.args.code.now
    c.emit_branch.new.code c.emit_branch.new.code jumped c.emit_when.new.code c.emit_meeting.new.code
    c.in_ok-branch.branch c.in_ok-other.other c.in_ok-branch.ensures.code c.in_ok-branch.ensures.address
    (sym (joined_nothing c.emit_branch.new.code)) c.in_ok-other.ensures.code c.in_ok-other.ensures.other
    (c.in_ok-emit_when.ensures ∙ ap (λ (l : List Object). append jumped
    (condition_fragment items (All (object_conditions items c.args.subjects.now l)) jumped)) c.as_slice.ensures)
    c.emit_meeting.ensures

pub emit_meeting-requires-clause-branch : goal.emit_meeting-requires-clause-branch
emit_meeting-requires-clause-branch c =
    let items = items_in c.args.self.now.declarations.now in
    (both_within (condition_fragment items (All (object_conditions items c.args.subjects.now c.as_slice.result.now)))
    c.args.code.now c.emit_branch.new.code c.emit_jump.new.code c.emit_when.new.code c.in_ok-branch.branch
    c.in_ok-other.other c.in_ok-branch.ensures.code c.in_ok-branch.ensures.address c.in_ok-other.ensures.code
    c.in_ok-other.ensures.other c.in_ok-emit_when.ensures).0

pub emit_meeting-requires-clause-jump : goal.emit_meeting-requires-clause-jump
emit_meeting-requires-clause-jump c =
    let items = items_in c.args.self.now.declarations.now in
    (both_within (condition_fragment items (All (object_conditions items c.args.subjects.now c.as_slice.result.now)))
    c.args.code.now c.emit_branch.new.code c.emit_jump.new.code c.emit_when.new.code c.in_ok-branch.branch
    c.in_ok-other.other c.in_ok-branch.ensures.code c.in_ok-branch.ensures.address c.in_ok-other.ensures.code
    c.in_ok-other.ensures.other c.in_ok-emit_when.ensures).1

pub emit_meeting-requires-clause-other : goal.emit_meeting-requires-clause-other
emit_meeting-requires-clause-other c =
    let items = items_in c.args.self.now.declarations.now in
    (both_within (condition_fragment items (All (object_conditions items c.args.subjects.now c.as_slice.result.now)))
    c.args.code.now c.emit_branch.new.code c.emit_jump.new.code c.emit_when.new.code c.in_ok-branch.branch
    c.in_ok-other.other c.in_ok-branch.ensures.code c.in_ok-branch.ensures.address c.in_ok-other.ensures.code
    c.in_ok-other.ensures.other c.in_ok-emit_when.ensures).2
