use Rattle.std.proofs.Common.{List, ap, ◌∙◌}
use Rattle.source_tree.specs.declared.arithmetic.Receiver.{Receiver}
use Rattle.data_instructions.specs.declared.instruction.DataInstruction.{DataInstruction}
use Rattle.declarations.specs.Named.{items_in}
use Rattle.condition_codegen.specs.Fragments.{append}
use Rattle.condition_codegen.specs.DataCode.{work_fragment}
use Rattle.condition_codegen.specs.ArithmeticCode.{updates_fragment}
use Rattle.condition_codegen.proofs.Sequences.{ends_so, on_ok}
use Rattle.statement_codegen.specs.Operations.{discard_fragment}
use Rattle.statement_codegen.proofs.arithmetic.emit_updating.Goals as goal

pub returns : goal.returns
returns c =
    let items = items_in c.args.emitter.now.declarations.now in
    let old = c.args.code.now in
    let now = c.emit_updates.new.code in
    ends_so c.emit_work.result (updates_fragment items c.args.keep c.args.operator c.args.all.now) discard_fragment old
    now
    c.emit_work.new.code
    (c.in_ok-emit_updates.ensures
    ∙ ap (λ (all : List Receiver). append old (updates_fragment items c.args.keep c.args.operator all old))
    c.as_slice.ensures)
    (on_ok c.emit_work.result c.emit_work.ensures
    (λ e. e ∙ ap (λ (one : DataInstruction). append now (work_fragment one now)) c.discard.ensures))
