use Rattle.std.proofs.Common.{◌+◌, length, refl}
use Rattle.source_tree.specs.declared.condition.Relation.TheVariants.{GreaterOrEqual, LessOrEqual}
use Rattle.declarations.specs.Named.{items_in}
use Rattle.condition_codegen.specs.Fragments.{append}
use Rattle.condition_codegen.specs.Meeting.{jump_code}
use Rattle.condition_codegen.specs.ConditionCode.{relation_fragment}
use Rattle.condition_codegen.proofs.WaysMet.{and_met}
use Rattle.condition_codegen.proofs.WayEnds.{branch_within}
use Rattle.condition_codegen.proofs.emitter.Emitter.emit_between.Goals as goal

pub returns : goal.returns
returns c =
    let items = items_in c.args.self.now.declarations.now in
    let one = c.emit_relation-2.new.code in
    and_met c.emit_way_end.result (relation_fragment items c.args.value.now GreaterOrEqual c.args.first.now)
    (relation_fragment items c.args.value.now LessOrEqual c.args.last.now) c.args.code.now c.emit_relation.new.code
    c.emit_branch.new.code one (append one (jump_code 0)) c.emit_way_end.new.code c.in_ok-branch.branch
    (length one.instructions + 2) c.in_ok-emit_relation.ensures c.in_ok-branch.ensures.code
    c.in_ok-branch.ensures.address c.in_ok-emit_relation-2.ensures refl refl c.emit_way_end.ensures

pub emit_way_end-requires : goal.emit_way_end-requires
emit_way_end-requires c =
    branch_within
    (relation_fragment (items_in c.args.self.now.declarations.now) c.args.value.now LessOrEqual c.args.last.now)
    c.emit_relation.new.code c.emit_branch.new.code c.emit_relation-2.new.code c.in_ok-branch.branch
    c.in_ok-branch.ensures.code c.in_ok-branch.ensures.address c.in_ok-emit_relation-2.ensures
