use Rattle.std.proofs.Common.{◌≡◌, sym}
use Rattle.data_instructions.specs.declared.instruction.DataInstruction.TheVariants as i
use Rattle.declarations.specs.Named.{items_in}
use Rattle.condition_codegen.specs.Fragments.{sequence}
use Rattle.condition_codegen.specs.Meeting.{nothing_fragment}
use Rattle.condition_codegen.specs.DataCode.{work_fragment}
use Rattle.codegen.specs.UntilCode.{vary_on_fragment}
use Rattle.condition_codegen.specs.Phrases.{patched_code}
use Rattle.condition_codegen.proofs.Fragments.{joined_nothing}
use Rattle.condition_codegen.proofs.Sequences.{then_piece, on_ok}
use Rattle.condition_codegen.proofs.Meeting.{meeting}
use Rattle.codegen.proofs.WaysMet.{ends_within}
use Rattle.codegen.proofs.until.emit_onward.Goals as goal

pub emit_meeting-requires : goal.emit_meeting-requires
emit_meeting-requires c =
    let onward = vary_on_fragment (items_in c.args.emitter.now.declarations.now) c.args.one.now in
    let clear = work_fragment i.ClearTruth in
    let begun = c.emit_branch.new.code in
    let way = ends_within nothing_fragment (sequence onward clear) c.args.code.now begun begun c.emit_jump.new.code
    c.emit_work.new.code c.in_ok-branch.branch c.in_ok-other.other c.in_ok-branch.ensures.code
    c.in_ok-branch.ensures.address (sym (joined_nothing begun)) c.in_ok-other.ensures.code
    c.in_ok-other.ensures.other
    (then_piece onward clear c.emit_jump.new.code c.emit_vary_on.new.code c.emit_work.new.code
    c.in_ok-emit_vary_on.ensures c.in_ok-emit_work.ensures) in
    record { branch = way.branch; jump = way.jump; other = way.other }

pub returns : goal.returns
returns c =
    let old = c.args.code.now in
    let onward = vary_on_fragment (items_in c.args.emitter.now.declarations.now) c.args.one.now in
    let clear = work_fragment i.ClearTruth in
    let branch = c.in_ok-branch.branch in
    let other = c.in_ok-other.other in
    on_ok c.emit_meeting.result c.emit_meeting.ensures
    (λ (e : c.emit_meeting.new.code ≡ patched_code branch other c.emit_work.new.code).
    meeting nothing_fragment (sequence onward clear) old c.emit_branch.new.code c.emit_branch.new.code
    c.emit_jump.new.code c.emit_work.new.code c.emit_meeting.new.code branch other
    c.in_ok-branch.ensures.code c.in_ok-branch.ensures.address (sym (joined_nothing c.emit_branch.new.code))
    c.in_ok-other.ensures.code c.in_ok-other.ensures.other
    (then_piece onward clear c.emit_jump.new.code c.emit_vary_on.new.code c.emit_work.new.code
    c.in_ok-emit_vary_on.ensures c.in_ok-emit_work.ensures) e)
