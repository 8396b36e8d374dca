use Rattle.statements.proofs.nesting.+statement.Given as goal

abbrev pub decreases-statement : goal.decreases-statement
decreases-statement l = l.depth
