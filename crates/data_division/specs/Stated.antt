-- The clauses of an entry in any order, each at most once (COBOL-85, Nucleus, "Data description entry").
use Rattle.std.specs.Prelude.{Bool, false, true, None, Some, is_some}
use Rattle.grammar.specs.Parts.{Part}
use Rattle.grammar.specs.Reading.{Parser}
use Rattle.data_division.specs.declared.clause.ClauseKind.{ClauseKind}
use Rattle.data_division.specs.declared.clause.ClauseKind.TheVariants as kind
use Rattle.data_division.specs.declared.clause.Clause.{Clause}
use Rattle.data_division.specs.declared.clause.Clause.TheVariants as clause_as
use Rattle.data_division.specs.declared.stated.Stated.{Stated}
use Rattle.data_division.specs.Words.{clause_at}
use Rattle.grammar.specs.Gathering.{Clauses, clauses_from, gathering_reader}
use Rattle.data_division.specs.Clauses.{clause}
use Rattle.data_division.specs.ClauseReading.{clause_reader}

abbrev pub kind_of : Clause → ClauseKind
kind_of (clause_as.Redefines n) = kind.Redefines
kind_of (clause_as.Picture text) = kind.Picture
kind_of (clause_as.Usage one) = kind.Usage
kind_of (clause_as.Sign one) = kind.Sign
kind_of (clause_as.Occurs count) = kind.Occurs
kind_of clause_as.Synchronized = kind.Synchronized
kind_of clause_as.Justified = kind.Justified
kind_of clause_as.BlankWhenZero = kind.BlankWhenZero
kind_of (clause_as.Value one) = kind.Value

abbrev pub no_clauses : Stated
no_clauses = record {
  redefines = None;
  picture = None;
  usage = None;
  sign = None;
  occurs = None;
  synchronized = false;
  justified = false;
  blank_when_zero = false;
  value = None;
}

-- whether a clause of that kind is among them
abbrev pub has_clause : Stated → ClauseKind → Bool
has_clause all kind.Redefines = is_some all.redefines
has_clause all kind.Picture = is_some all.picture
has_clause all kind.Usage = is_some all.usage
has_clause all kind.Sign = is_some all.sign
has_clause all kind.Occurs = is_some all.occurs
has_clause all kind.Synchronized = all.synchronized
has_clause all kind.Justified = all.justified
has_clause all kind.BlankWhenZero = all.blank_when_zero
has_clause all kind.Value = is_some all.value

abbrev pub with_clause : Stated → Clause → Stated
with_clause all (clause_as.Redefines n) = record all { redefines = Some n }
with_clause all (clause_as.Picture text) = record all { picture = Some text }
with_clause all (clause_as.Usage one) = record all { usage = Some one }
with_clause all (clause_as.Sign one) = record all { sign = Some one }
with_clause all (clause_as.Occurs count) = record all { occurs = Some count }
with_clause all clause_as.Synchronized = record all { synchronized = true }
with_clause all clause_as.Justified = record all { justified = true }
with_clause all clause_as.BlankWhenZero = record all { blank_when_zero = true }
with_clause all (clause_as.Value one) = record all { value = Some one }

-- the clauses of an entry
abbrev pub entry_clauses : Clauses Clause ClauseKind Stated
entry_clauses = record { clause = clause; kind_of = kind_of; at = clause_at; has = has_clause; with_clause = with_clause }

-- Clauses in any order, up to where no more can begin, each at most once.
abbrev pub stated_clauses : Stated → Part
stated_clauses = clauses_from entry_clauses no_clauses

unfoldable pub stated_reader : Parser Stated
stated_reader = gathering_reader entry_clauses clause_reader no_clauses
