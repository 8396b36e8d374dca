use Rattle.codegen.proofs.Declared.{entries_by, sections_by}
use Rattle.codegen.proofs.Verified.{entries_kept, sections_kept}
use Rattle.codegen.proofs.program.emit_program.Goals as goal

pub emit_sections-requires-clause-entries : goal.emit_sections-requires-clause-entries
emit_sections-requires-clause-entries c =
    entries_by c.args.program.now c.args.declarations.now c.requires.program
    (entries_kept c.args.program.now c.requires.rules)

pub emit_sections-requires-clause-rules : goal.emit_sections-requires-clause-rules
emit_sections-requires-clause-rules c =
    sections_by c.args.program.now c.args.declarations.now c.requires.program c.as_slice.result.now c.as_slice.ensures
    (sections_kept c.args.program.now c.requires.rules)
