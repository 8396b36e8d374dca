use Rattle.codegen.proofs.Declared.{descriptions_by}
use Rattle.codegen.proofs.Verified.{entries_kept}
use Rattle.codegen.proofs.program.program_code.Goals as goal

pub of-requires-clause-storage : goal.of-requires-clause-storage
of-requires-clause-storage c = entries_kept c.args.program.now c.requires.rules

pub of-requires-clause-files : goal.of-requires-clause-files
of-requires-clause-files c = descriptions_by c.args.program.now c.args.declarations.now c.requires.program
