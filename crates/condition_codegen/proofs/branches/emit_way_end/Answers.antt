use Rattle.std.proofs.Common.{◌+◌, length, ap, arith, ◌∙◌}
use Rattle.condition_codegen.specs.Phrases.{patched_code}
use Rattle.condition_codegen.proofs.Sequences.{on_ok}
use Rattle.condition_codegen.proofs.WayEnds.{jump_adds}
use Rattle.condition_codegen.proofs.branches.emit_way_end.Goals as goal

pub emit_meeting-requires-clause-branch : goal.emit_meeting-requires-clause-branch
emit_meeting-requires-clause-branch c =
    let added = jump_adds c.args.code.now c.emit_jump.new.code c.in_ok-other.ensures.code in
    omega (arith, added, c.requires)

pub emit_meeting-requires-clause-jump : goal.emit_meeting-requires-clause-jump
emit_meeting-requires-clause-jump c = omega (arith, c.in_ok-other.ensures.other)

pub emit_meeting-requires-clause-other : goal.emit_meeting-requires-clause-other
emit_meeting-requires-clause-other c =
    let added = jump_adds c.args.code.now c.emit_jump.new.code c.in_ok-other.ensures.code in
    omega (arith, added, c.in_ok-other.ensures.other)

pub returns : goal.returns
returns c =
    on_ok c.emit_meeting.result c.emit_meeting.ensures
    (λ e. e ∙ ap (λ other. patched_code c.args.branch other c.emit_jump.new.code) c.in_ok-other.ensures.other
    ∙ ap (patched_code c.args.branch (length c.args.code.now.instructions + 2)) c.in_ok-other.ensures.code)
