use Rattle.std.proofs.Common.{◌≡◌, ◌+◌, length, refl, sym}
use Rattle.source_tree.specs.Evaluate.{selection_condition}
use Rattle.declarations.specs.Named.{items_in}
use Rattle.condition_codegen.specs.Fragments.{append}
use Rattle.condition_codegen.specs.Meeting.{jump_code, nothing_fragment}
use Rattle.condition_codegen.specs.ConditionCode.{condition_fragment}
use Rattle.condition_codegen.specs.Phrases.{patched_code}
use Rattle.condition_codegen.proofs.Meeting.{meeting}
use Rattle.condition_codegen.proofs.Fragments.{joined_nothing}
use Rattle.condition_codegen.proofs.Sequences.{on_ok}
use Rattle.condition_codegen.proofs.WayEnds.{branch_within}
use Rattle.condition_codegen.proofs.emitter.Emitter.emit_and_asked.Goals as goal

pub returns : goal.returns
returns c =
    let items = items_in c.args.self.now.declarations.now in
    let old = c.args.code.now in
    let one = condition_fragment items (selection_condition items c.args.subject.now c.args.choice.now) in
    let branch = c.in_ok-branch.branch in
    let asked = c.emit_asked.new.code in
    let middle = append asked (jump_code 0) in
    let other = length asked.instructions + 2 in
    on_ok c.emit_way_end.result c.emit_way_end.ensures
    (λ (e : c.emit_way_end.new.code ≡ patched_code branch other middle).
    meeting one nothing_fragment old c.emit_branch.new.code asked middle middle c.emit_way_end.new.code branch other
    c.in_ok-branch.ensures.code c.in_ok-branch.ensures.address c.in_ok-emit_asked.ensures refl refl
    (sym (joined_nothing middle)) e)

pub emit_way_end-requires : goal.emit_way_end-requires
emit_way_end-requires c =
    let items = items_in c.args.self.now.declarations.now in
    branch_within
    (condition_fragment items (selection_condition items c.args.subject.now c.args.choice.now)) c.args.code.now
    c.emit_branch.new.code c.emit_asked.new.code c.in_ok-branch.branch c.in_ok-branch.ensures.code
    c.in_ok-branch.ensures.address c.in_ok-emit_asked.ensures
