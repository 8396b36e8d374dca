use Rattle.declarations.specs.Named.{items_in}
use Rattle.data_instructions.specs.declared.instruction.DataInstruction.TheVariants as i
use Rattle.condition_codegen.specs.Fragments.{sequence, in_order}
use Rattle.condition_codegen.specs.DataCode.{work_fragment, reference_fragment}
use Rattle.statement_codegen.specs.StringCode.{found_fragment, up_to_place_fragment}
use Rattle.condition_codegen.proofs.Sequences.{ends_so}
use Rattle.statement_codegen.proofs.string_statement.emit_all_delimited.Goals as goal

pub returns : goal.returns
returns c =
    let items = items_in c.args.emitter.now.declarations.now in
    let result = c.emit_work.result in
    let new = c.emit_work.new.code in
    let found = in_order (found_fragment items) c.args.all.now in
    let place = reference_fragment items c.args.delimiter.now in
    let parts = in_order (up_to_place_fragment items) c.args.all.now in
    let last = work_fragment i.DropPlace in
    ends_so result found (sequence place (sequence parts last)) c.args.code.now c.emit_all_found.new.code new
    c.in_ok-emit_all_found.ensures
    (ends_so result place (sequence parts last) c.emit_all_found.new.code c.emit_reference.new.code new
    c.in_ok-emit_reference.ensures
    (ends_so result parts last c.emit_reference.new.code c.emit_all_up_to_place.new.code new
    c.in_ok-emit_all_up_to_place.ensures c.emit_work.ensures))
