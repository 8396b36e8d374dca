use Rattle.std.proofs.Common.{Err, [], sym, subst}
use Rattle.grammar.specs.Reading.{Reads}
use Rattle.statements.specs.Spelling.{max_nesting}
use Rattle.divisions.specs.Reading.{program}
use Rattle.divisions.specs.Faults.{fault_at, IsParseRefusal}
use Rattle.divisions.proofs.Programs.{formed_spelled, formed_only, formed_formless, halted_only}
use Rattle.divisions.proofs.program.parse.Goals as goal

pub returns-in-Ok-clause-spelled : goal.returns-in-Ok-clause-spelled
returns-in-Ok-clause-spelled c =
    formed_spelled c.args.tokens.now c.in-Ok.tree c.in-Ok.ensures c.formed.result c.formed.ensures

pub returns-in-Ok-clause-only : goal.returns-in-Ok-clause-only
returns-in-Ok-clause-only c =
    formed_only c.args.tokens.now c.in-Ok.tree c.in-Ok.ensures c.formed.result c.formed.ensures

pub returns-in-Ok-clause-formless : goal.returns-in-Ok-clause-formless
returns-in-Ok-clause-formless c =
    formed_formless c.args.tokens.now c.in-Ok.tree c.in-Ok.ensures c.formed.result c.formed.ensures

pub returns-in-Err-Halted-clause-only : goal.returns-in-Err-Halted-clause-only
returns-in-Err-Halted-clause-only c = λ depth tree spelled.
    let halted = subst (λ error. Reads (program max_nesting c.args.tokens.now) (Err error) [])
    c.in-Err-Halted.field-0-is c.in-Err-Halted.ensures in
    let refusal = halted_only c.args.tokens.now c.in-Err-Halted.halt halted depth tree spelled in
    subst (λ f. IsParseRefusal depth tree f) (sym c.refusal.ensures)
    (subst (λ h. IsParseRefusal depth tree (fault_at c.args.tokens.now h)) (sym c.in-Err-Halted.halt-is) refusal)
