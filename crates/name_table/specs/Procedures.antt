-- The names of procedures.
use Rattle.std.specs.Prelude.{◌≡◌, bytes_eq, List, [], ◌∷◌, Option, Some, None}
use Rattle.indexmap.specs.IndexMap.{get_by}
use Rattle.source_tree.specs.declared.name.Name.{Name}
use Rattle.source_tree.specs.declared.program.Section.{Section}
use Rattle.source_tree.specs.LookUp.{first}
use Rattle.source_tree.specs.PerformRules.{procedure_name_rules}
use Rattle.source_tree.specs.Procedures.{Range, Procedure, procedures_named}
use Rattle.name_table.specs.declared.procedures.ParagraphRange.{ParagraphRange}
use Rattle.name_table.specs.declared.procedures.ProcedureNames.{ProcedureNames}
use Rattle.name_table.specs.declared.procedures.ProcedureNamesError.{ProcedureNamesError}
use Rattle.name_table.specs.declared.procedures.ProcedureNamesError.TheVariants.{Memory, GivenTwice}

abbrev pub range_at : ParagraphRange → Range
range_at one = record { first = one.first; last = one.last }

-- What was found is the only procedure of a name, or there is none.
abbrev pub IsOnlyProcedure : List Procedure → Option ParagraphRange → Type 0
IsOnlyProcedure named None = named ≡ []
IsOnlyProcedure named (Some range) = (one : Procedure) × (named ≡ one ∷ []) × (one.range ≡ range_at range)

-- Each name of these procedures has its paragraphs, and there are no others.
pub record AreProcedures (procedures : List Procedure) (all : ProcedureNames) : Type 0 where
  pub named : (name : Name) → IsOnlyProcedure (procedures_named procedures name) (get_by (λ k. bytes_eq name.characters k.now) all.ranges)

-- the first name that is given to two procedures
abbrev pub IsGivenTwice : List Section → ProcedureNamesError → Type 0
IsGivenTwice sections Memory = Unit {0}
IsGivenTwice sections (GivenTwice place) = first (procedure_name_rules sections) ≡ Some (record { rule = 42; place = place })
