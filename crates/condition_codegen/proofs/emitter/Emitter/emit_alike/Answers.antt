use Rattle.std.proofs.Common.{true, false, [], ◌∷◌, ap, ◌∙◌}
use Rattle.source_tree.specs.declared.condition.Condition.TheVariants.{All}
use Rattle.source_tree.specs.Evaluate.{condition_or_opposite}
use Rattle.declarations.specs.Resolved.{condition_meant}
use Rattle.declarations.specs.Named.{items_in}
use Rattle.condition_codegen.specs.Fragments.{append}
use Rattle.condition_codegen.specs.ConditionCode.{condition_fragment}
use Rattle.condition_codegen.proofs.Questions.{either_is}
use Rattle.condition_codegen.proofs.Sequences.{on_ok}
use Rattle.condition_codegen.proofs.WaysMet.{or_met}
use Rattle.condition_codegen.proofs.WayEnds.{both_within}
use Rattle.condition_codegen.proofs.emitter.Emitter.emit_alike.Goals as goal

pub returns : goal.returns
returns c =
    let items = items_in c.args.self.now.declarations.now in
    let one = condition_meant c.args.one in
    let other = condition_meant c.args.other in
    let both_true = All (condition_or_opposite true one ∷ condition_or_opposite true other ∷ []) in
    let both_false = All (condition_or_opposite false one ∷ condition_or_opposite false other ∷ []) in
    on_ok c.emit_meeting.result
    (or_met c.emit_meeting.result (condition_fragment items both_true) (condition_fragment items both_false)
    c.args.code.now c.emit_both_told.new.code c.emit_branch.new.code c.emit_jump.new.code c.emit_both_told-2.new.code
    c.emit_meeting.new.code c.in_ok-branch.branch c.in_ok-second.second c.in_ok-emit_both_told.ensures
    c.in_ok-branch.ensures.code c.in_ok-branch.ensures.address c.in_ok-second.ensures.code
    c.in_ok-second.ensures.other c.in_ok-emit_both_told-2.ensures c.emit_meeting.ensures)
    (λ e. e ∙ ap (append c.args.code.now) (either_is items both_true both_false c.args.code.now))

pub emit_meeting-requires-clause-branch : goal.emit_meeting-requires-clause-branch
emit_meeting-requires-clause-branch c =
    let one = condition_meant c.args.one in
    let other = condition_meant c.args.other in
    (both_within (condition_fragment (items_in c.args.self.now.declarations.now)
    (All (condition_or_opposite false one ∷ condition_or_opposite false other ∷ []))) c.emit_both_told.new.code
    c.emit_branch.new.code c.emit_jump.new.code c.emit_both_told-2.new.code c.in_ok-branch.branch
    c.in_ok-second.second c.in_ok-branch.ensures.code c.in_ok-branch.ensures.address c.in_ok-second.ensures.code
    c.in_ok-second.ensures.other c.in_ok-emit_both_told-2.ensures).0

pub emit_meeting-requires-clause-jump : goal.emit_meeting-requires-clause-jump
emit_meeting-requires-clause-jump c =
    let one = condition_meant c.args.one in
    let other = condition_meant c.args.other in
    (both_within (condition_fragment (items_in c.args.self.now.declarations.now)
    (All (condition_or_opposite false one ∷ condition_or_opposite false other ∷ []))) c.emit_both_told.new.code
    c.emit_branch.new.code c.emit_jump.new.code c.emit_both_told-2.new.code c.in_ok-branch.branch
    c.in_ok-second.second c.in_ok-branch.ensures.code c.in_ok-branch.ensures.address c.in_ok-second.ensures.code
    c.in_ok-second.ensures.other c.in_ok-emit_both_told-2.ensures).1

pub emit_meeting-requires-clause-other : goal.emit_meeting-requires-clause-other
emit_meeting-requires-clause-other c =
    let one = condition_meant c.args.one in
    let other = condition_meant c.args.other in
    (both_within (condition_fragment (items_in c.args.self.now.declarations.now)
    (All (condition_or_opposite false one ∷ condition_or_opposite false other ∷ []))) c.emit_both_told.new.code
    c.emit_branch.new.code c.emit_jump.new.code c.emit_both_told-2.new.code c.in_ok-branch.branch
    c.in_ok-second.second c.in_ok-branch.ensures.code c.in_ok-branch.ensures.address c.in_ok-second.ensures.code
    c.in_ok-second.ensures.other c.in_ok-emit_both_told-2.ensures).2
