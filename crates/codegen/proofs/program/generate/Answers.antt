use Rattle.std.proofs.Common.{◌≡◌, [], length, refl, sym, subst}
use Rattle.source_tree.specs.declared.program.Program.{Program}
use Rattle.source_tree.specs.Given.{RunInput}
use Rattle.source_tree.specs.Meaning.{Run, meaning}
use Rattle.source_tree.specs.Rules.{program_rules}
use Rattle.source_tree.specs.Setting.{scope}
use Rattle.source_tree.specs.ProgramFiles as described
use Rattle.file_image.specs.Files.{entries_of}
use Rattle.code_image.specs.Demands.{IsVerified}
use Rattle.code_image.specs.Table.{Runs}
use Rattle.code_image.proofs.Determinism.{one_run}
use Rattle.declarations.specs.Named.{Declares}
use Rattle.codegen.specs.Layout.{code_of}
use Rattle.codegen.proofs.Declared.{made_so}
use Rattle.codegen.proofs.Verified.{files_counted, entries_same, verified}
use Rattle.codegen.proofs.Meaning.{runs}
use Rattle.codegen.proofs.program.generate.Goals as goal

pub program_code-requires-clause-program : goal.program_code-requires-clause-program
program_code-requires-clause-program c =
    subst (λ (p : Program). Declares p c.declarations.result.now) (sym c.program.ensures.same)
    c.declarations.ensures.program

pub program_code-requires-clause-rules : goal.program_code-requires-clause-rules
program_code-requires-clause-rules c =
    subst (λ (p : Program). program_rules p ≡ []) (sym c.program.ensures.same) c.program.ensures.kept

pub returns-clause-layout : goal.returns-clause-layout
returns-clause-layout c =
    made_so c.program_code.result c.program.result.now c.args.checked.now c.program.ensures.same
    c.program_code.ensures (λ code. code ≡ code_of c.args.checked.now) refl

pub returns-clause-ends : goal.returns-clause-ends
returns-clause-ends c =
    let program = c.args.checked.now in
    made_so c.program_code.result c.program.result.now program c.program.ensures.same c.program_code.ensures
    (λ code. (given : RunInput) → Runs code given (meaning program given))
    (runs program c.program.ensures.kept c.program.ensures.order)

pub returns-clause-ends_only : goal.returns-clause-ends_only
returns-clause-ends_only c =
    let program = c.args.checked.now in
    made_so c.program_code.result c.program.result.now program c.program.ensures.same c.program_code.ensures
    (λ code. (given : RunInput) (run : Run) → Runs code given run → run ≡ meaning program given)
    (λ given run r. one_run (code_of program) given run (meaning program given) r
    (runs program c.program.ensures.kept c.program.ensures.order given))

pub returns-clause-files : goal.returns-clause-files
returns-clause-files c =
    let program = c.args.checked.now in
    made_so c.program_code.result c.program.result.now program c.program.ensures.same c.program_code.ensures
    (λ code. length code.files ≡ length program.selects) (files_counted program c.program.ensures.kept)

pub returns-clause-entries : goal.returns-clause-entries
returns-clause-entries c =
    let program = c.args.checked.now in
    made_so c.program_code.result c.program.result.now program c.program.ensures.same c.program_code.ensures
    (λ code. entries_of code.tables code.files ≡ described.entries_of (scope program).files)
    (entries_same program c.program.ensures.kept)

pub returns-clause-verified : goal.returns-clause-verified
returns-clause-verified c =
    let program = c.args.checked.now in
    made_so c.program_code.result c.program.result.now program c.program.ensures.same c.program_code.ensures
    IsVerified (verified program c.program.ensures.kept c.program.ensures.order)
