use Rattle.std.proofs.Common.{ℕ, List, length, sym, ap, ◌∙◌}
use Rattle.source_tree.specs.Accepting.{next_line}
use Rattle.data_instructions.specs.Table.{accept_step}
use Rattle.data_machine.specs.Data.{scratch_of}
use Rattle.machine.proofs.Lines.{front_taken}
use Rattle.machine.proofs.accept_statement.accept_line.Goals as goal

pub returns-clause-accepted : goal.returns-clause-accepted
returns-clause-accepted g c = λ honest.
    let lines = (g.S.Device.state c.args.station.now).lines in
    let s = scratch_of c.args.scratch.now in
    let t = c.in_ok-taken.ensures.taken honest in
    let does = c.accept.ensures.does in
    let front = front_taken c.args.input.now c.line.new.into lines c.in_ok-taken.taken c.unwrap_or-count.result t.count
    t.bytes c.unwrap_or-count.ensures in
    sym (c.cutting_law.ensures c.args.tables.now (next_line lines) (length c.args.input.now) s c.requires.room
    c.requires.operand)
    ∙ ap (λ (text : List ℕ). accept_step c.args.tables.now text s) (sym front)
    ∙ cc
