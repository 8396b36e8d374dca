use Rattle.std.proofs.Common.{◌≡◌, Option, sym, ap, ◌∙◌}
use Rattle.source_tree.specs.declared.phrases.FilePhrases.TheVariants.{Absent}
use Rattle.source_tree.specs.ProgramFiles.{ProgramFile}
use Rattle.file_descriptions.specs.Files.{file_in}
use Rattle.declarations.specs.Named.{scope_in}
use Rattle.condition_codegen.specs.Fragments.{append}
use Rattle.condition_codegen.specs.Meeting.{nothing_fragment}
use Rattle.statement_codegen.specs.FileCode.{on_file_fragment, unheard_fragment}
use Rattle.codegen.specs.Layout.{alone_fragment, statement_fragment}
use Rattle.condition_codegen.specs.Phrases.{patched_code}
use Rattle.codegen.proofs.FileParts.{alone_made}
use Rattle.codegen.proofs.WaysMet.{ends_within}
use Rattle.condition_codegen.proofs.Fragments.{joined_nothing}
use Rattle.condition_codegen.proofs.Sequences.{on_ok}
use Rattle.codegen.proofs.open_statement.emit_alone.Goals as goal

pub emit_meeting-requires : goal.emit_meeting-requires
emit_meeting-requires c =
    let scope = scope_in c.args.emitter.now.declarations.now in
    let unheard = unheard_fragment (file_in scope.items c.in-Some.file.now).places.status in
    let begun = c.emit_branch.new.code in
    let way = ends_within nothing_fragment unheard c.emit_test.new.code begun begun c.emit_jump.new.code
    c.emit_unheard.new.code c.in_ok-branch.branch c.in_ok-other.other c.in_ok-branch.ensures.code
    c.in_ok-branch.ensures.address (sym (joined_nothing begun)) c.in_ok-other.ensures.code
    c.in_ok-other.ensures.other c.in_ok-emit_unheard.ensures in
    record { branch = way.branch; jump = way.jump; other = way.other }

pub returns : goal.returns
returns c =
    let scope = scope_in c.args.emitter.now.declarations.now in
    let file = file_in scope.items c.in-Some.file.now in
    let piece = alone_fragment scope (statement_fragment scope) Absent (λ (one : ProgramFile). c.args.verb) in
    on_ok c.emit_meeting.result c.emit_meeting.ensures
    (λ (e : c.emit_meeting.new.code ≡ patched_code c.in_ok-branch.branch c.in_ok-other.other c.emit_unheard.new.code).
    alone_made scope (statement_fragment scope) c.args.verb file c.args.code.now c.emit_file.new.code
    c.emit_test.new.code c.emit_branch.new.code c.emit_jump.new.code c.emit_unheard.new.code c.emit_meeting.new.code
    c.in_ok-branch.branch c.in_ok-other.other c.in_ok-emit_file.ensures c.in_ok-emit_test.ensures
    c.in_ok-branch.ensures.code c.in_ok-branch.ensures.address c.in_ok-other.ensures.code c.in_ok-other.ensures.other
    c.in_ok-emit_unheard.ensures e ∙ ap (λ (found : Option ProgramFile).
    append c.args.code.now (on_file_fragment found piece c.args.code.now)) (sym c.in-Some.ensures))
