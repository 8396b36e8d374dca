-- The names of procedures, one after another.
use Rattle.std.specs.Prelude.{◌≡◌, ℕ, ◌+◌, ◌-◌, List, [], ◌∷◌, ◌++◌, length, Option, Some, Result, MatchResult}
use Rattle.source_tree.specs.declared.name.Name.{Name}
use Rattle.source_tree.specs.declared.program.Section.{Section}
use Rattle.source_tree.specs.LookUp.{first}
use Rattle.source_tree.specs.PerformRules.{names_of, given_once}
use Rattle.source_tree.specs.Procedures.{Procedure, paragraphs_or_one, paragraph_procedures}
use Rattle.name_table.specs.declared.procedures.ParagraphRange.{ParagraphRange}
use Rattle.name_table.specs.declared.procedures.ProcedureNames.{ProcedureNames}
use Rattle.name_table.specs.declared.procedures.ProcedureNamesError.{ProcedureNamesError}
use Rattle.name_table.specs.declared.procedures.ProcedureNamesError.TheVariants.{Memory, GivenTwice}
use Rattle.name_table.specs.Procedures.{AreProcedures, range_at}

abbrev pub procedure : Option Name → ParagraphRange → Procedure
procedure name range = record { name = name; range = range_at range }

-- a section, whose first paragraph has this number, and its paragraphs
abbrev pub section_procedures : ℕ → Section → List Procedure
section_procedures number one =
    let paragraphs = paragraphs_or_one one.paragraphs in
    record { name = one.name; range = record { first = number; last = number + length paragraphs - 1 } } ∷ paragraph_procedures number paragraphs

-- The names of all these procedures but the last ones are noted; each was given once.
pub record AreNoted (all more : List Procedure) (names : ProcedureNames) : Type 0 where
  pub before : List Procedure
  pub whole : all ≡ before ++ more
  pub noted : AreProcedures before names
  pub once : given_once [] (names_of all) ≡ given_once (names_of before) (names_of more)

-- the first name that is given to two of these
abbrev pub IsTwice : List Procedure → ProcedureNamesError → Type 0
IsTwice all Memory = Unit {0}
IsTwice all (GivenTwice place) = first (given_once [] (names_of all)) ≡ Some (record { rule = 42; place = place })

-- Where the names of these come next, they are noted too, or one of them is the first that is given to two.
abbrev pub Notes : {A : Type 0} → List Procedure → Result A ProcedureNamesError → ProcedureNames → ProcedureNames → Type 0
Notes these result old new = (all more : List Procedure) → AreNoted all (these ++ more) old → MatchResult result (λ _. AreNoted all more new) (IsTwice all)
