use Rattle.std.proofs.Common.{◌+◌, length, refl, ap, ◌∙◌}
use Rattle.source_tree.specs.Evaluate.{condition_or_opposite}
use Rattle.declarations.specs.Resolved.{condition_meant}
use Rattle.declarations.specs.Named.{items_in}
use Rattle.condition_codegen.specs.Fragments.{append}
use Rattle.condition_codegen.specs.Meeting.{jump_code}
use Rattle.condition_codegen.specs.ConditionCode.{condition_fragment}
use Rattle.condition_codegen.proofs.Questions.{both_are}
use Rattle.condition_codegen.proofs.Sequences.{on_ok}
use Rattle.condition_codegen.proofs.WaysMet.{and_met}
use Rattle.condition_codegen.proofs.WayEnds.{branch_within}
use Rattle.condition_codegen.proofs.emitter.Emitter.emit_both_told.Goals as goal

pub returns : goal.returns
returns c =
    let items = items_in c.args.self.now.declarations.now in
    let one = condition_or_opposite c.args.truth (condition_meant c.args.one) in
    let further = condition_or_opposite c.args.truth (condition_meant c.args.other) in
    let told = c.emit_told-2.new.code in
    on_ok c.emit_way_end.result
    (and_met c.emit_way_end.result (condition_fragment items one) (condition_fragment items further) c.args.code.now
    c.emit_told.new.code c.emit_branch.new.code told (append told (jump_code 0)) c.emit_way_end.new.code
    c.in_ok-branch.branch (length told.instructions + 2) c.in_ok-emit_told.ensures c.in_ok-branch.ensures.code
    c.in_ok-branch.ensures.address c.in_ok-emit_told-2.ensures refl refl c.emit_way_end.ensures)
    (λ e. e ∙ ap (append c.args.code.now) (both_are items one further c.args.code.now))

pub emit_way_end-requires : goal.emit_way_end-requires
emit_way_end-requires c =
    branch_within (condition_fragment (items_in c.args.self.now.declarations.now)
    (condition_or_opposite c.args.truth (condition_meant c.args.other))) c.emit_told.new.code c.emit_branch.new.code
    c.emit_told-2.new.code c.in_ok-branch.branch c.in_ok-branch.ensures.code c.in_ok-branch.ensures.address
    c.in_ok-emit_told-2.ensures
