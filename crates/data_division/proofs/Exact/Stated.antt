-- The clauses of an entry: what is read is spelled, and what is spelled is read.
use Rattle.std.proofs.Common.{◌≤◌, List, length}
use Rattle.tokens.specs.declared.token.Token.{Token}
use Rattle.grammar.specs.declared.fault.Halt.{Halt}
use Rattle.grammar.proofs.Lists.{Sound, Complete}
use Rattle.data_division.specs.declared.stated.Stated.{Stated}
use Rattle.data_division.specs.Stated as g
use Rattle.data_division.specs.Stated.{entry_clauses}
use Rattle.data_division.specs.ClauseReading.{clause_reader}
use Rattle.grammar.proofs.Gathering.{gathering_sound, gathering_complete, gathering_shrinks}
use Rattle.data_division.proofs.Exact.Clauses.{clause_sound, clause_complete, clause_stands, clause_shrinks}

pub stated_sound : Sound g.stated_clauses g.stated_reader
unfolding g.stated_reader
stated_sound =
    gathering_sound entry_clauses clause_reader (λ kind x i rest begun e. clause_sound kind x i rest e) g.no_clauses

pub stated_complete : {Allowed : Halt → Type 0} → Complete Allowed g.stated_clauses g.stated_reader
unfolding g.stated_reader
stated_complete {Allowed = Allowed} = gathering_complete entry_clauses clause_reader Allowed clause_stands
    clause_shrinks (clause_complete {Allowed = Allowed}) g.no_clauses

pub stated_shrinks : (all : Stated) (i rest : List Token) → g.stated_clauses all i rest → length rest ≤ length i
stated_shrinks = gathering_shrinks entry_clauses clause_reader clause_shrinks g.no_clauses
