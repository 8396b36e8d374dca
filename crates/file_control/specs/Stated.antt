-- The clauses of a SELECT in any order, each at most once, except for ALTERNATE RECORD KEY, which may be repeated.
use Rattle.std.specs.Prelude.{Bool, false, List, [], ◌∷◌, ◌++◌, Option, None, Some, is_some}
use Rattle.file_control.specs.declared.clause.ClauseKind.{ClauseKind}
use Rattle.file_control.specs.declared.clause.ClauseKind.TheVariants as kind
use Rattle.file_control.specs.declared.clause.Clause.{Clause}
use Rattle.file_control.specs.declared.clause.Clause.TheVariants as clause_as
use Rattle.file_control.specs.declared.stated.Stated.{Stated}
use Rattle.file_control.specs.Clauses.{clause, kind_of, clause_at}
use Rattle.grammar.specs.Gathering.{Clauses}

abbrev pub no_clauses : Stated
no_clauses = record { organization = None; access = None; relative_key = None; record_key = None; alternate_keys = []; status = None }

-- whether a clause of that kind is among them and can't come again
abbrev pub has_clause : Stated → ClauseKind → Bool
has_clause all kind.Organization = is_some all.organization
has_clause all kind.Access = is_some all.access
has_clause all kind.RelativeKey = is_some all.relative_key
has_clause all kind.RecordKey = is_some all.record_key
has_clause all kind.AlternateKey = false
has_clause all kind.Status = is_some all.status

abbrev pub with_clause : Stated → Clause → Stated
with_clause all (clause_as.Organization one) = record all { organization = Some one }
with_clause all (clause_as.Access one) = record all { access = Some one }
with_clause all (clause_as.RelativeKey one) = record all { relative_key = Some one }
with_clause all (clause_as.RecordKey one) = record all { record_key = Some one }
with_clause all (clause_as.AlternateKey one) = record all { alternate_keys = all.alternate_keys ++ one ∷ [] }
with_clause all (clause_as.Status one) = record all { status = Some one }

abbrev pub select_clauses : Clauses Clause ClauseKind Stated
select_clauses = record { clause = clause; kind_of = kind_of; at = clause_at; has = has_clause; with_clause = with_clause }
