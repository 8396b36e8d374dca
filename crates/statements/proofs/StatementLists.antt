-- Statements in a list, whatever one of them is.
use Rattle.source_tree.specs.declared.statement.Statement.{Statement}
use Rattle.grammar.specs.declared.fault.Halt.{Halt}
use Rattle.grammar.specs.Parts.{Part, lookahead}
use Rattle.grammar.specs.Reading.{Parser}
use Rattle.grammar.proofs.Looking.{tests_tested}
use Rattle.grammar.proofs.Lists
use Rattle.grammar.proofs.Lists.{Sound, Complete, Shrinks, Starts}
use Rattle.statements.specs.Spelling as g
use Rattle.statements.specs.Verbs.{begins_statement}
use Rattle.statements.specs.Reading as r

pub statements_shrink : (p : Statement → Part) → Shrinks p → Shrinks (g.statements p)
statements_shrink p fewer = Lists.several_shrinks p (lookahead begins_statement) fewer

pub statements_start : (p : Statement → Part) → Starts begins_statement p → Starts begins_statement (g.statements p)
statements_start p begins = Lists.several_starts p (lookahead begins_statement) begins_statement begins

pub statements_sound : (p : Statement → Part) (nested : Parser Statement) → Sound p nested
    → Sound (g.statements p) (r.statements nested)
unfolding r.statements
statements_sound p nested each =
    Lists.several_sound p nested (lookahead begins_statement) begins_statement (tests_tested begins_statement) each

pub statements_complete : (Allowed : Halt → Type 0) (p : Statement → Part) (nested : Parser Statement)
    → Complete Allowed p nested → Shrinks p → Starts begins_statement p
    → Complete Allowed (g.statements p) (r.statements nested)
unfolding r.statements
statements_complete Allowed p nested each fewer begins =
    Lists.several_complete p nested (lookahead begins_statement) begins_statement (tests_tested begins_statement)
    Allowed each fewer begins
