-- SELECTs and the input-output section (COBOL-85, Sequential, Relative and Indexed I-O, "File control entry"): which tokens spell
-- them, and how they are read.
use Rattle.std.specs.Prelude.{◌≡◌, Bool, List, [], ◌∷◌, Option, None, Some}
use Rattle.tokens.specs.declared.reserved.Reserved.TheVariants as w
use Rattle.tokens.specs.declared.token.Kind.{Kind}
use Rattle.tokens.specs.declared.token.Kind.TheVariants as k
use Rattle.tokens.specs.declared.token.Token.{Token}
use Rattle.lexical.specs.declared.place.Place.{Place}
use Rattle.records.specs.declared.select.Access.{Access}
use Rattle.records.specs.declared.select.Access.TheVariants as access_as
use Rattle.source_tree.specs.declared.name.Name.{Name}
use Rattle.source_tree.specs.declared.select.OrganizationClause.{OrganizationClause}
use Rattle.source_tree.specs.declared.select.OrganizationClause.TheVariants as organization_as
use Rattle.source_tree.specs.declared.select.AssignedName.{AssignedName}
use Rattle.source_tree.specs.declared.select.Select.{Select}
use Rattle.grammar.specs.Parts.{Part, ◌then◌, optional, several, optional_part, lookahead, token_with, word, period, heading, name}
use Rattle.grammar.specs.Reading as r
use Rattle.grammar.specs.Reading.{Parser, ◌>>=◌, ◌>>◌, pure, begins_word, after_word, expect, skip, one_token}
use Rattle.grammar.specs.Gathering.{clauses_from, gathering_reader}
use Rattle.grammar.specs.Listed.{listed_from, list_from}
use Rattle.file_control.specs.declared.stated.Stated.{Stated}
use Rattle.file_control.specs.Stated.{no_clauses, select_clauses}
use Rattle.file_control.specs.ClauseReading.{clause_reader}

-- the file's name on the volume: a nonnumeric literal's characters, or a word, which tokens have in upper case
abbrev pub assigned_by : Kind → Place → Option AssignedName
assigned_by (k.Word characters) place = Some (record { characters = characters; place = place })
assigned_by (k.Nonnumeric characters) place = Some (record { characters = characters; place = place })
assigned_by _ place = None

abbrev pub assigned_in : Token → Option AssignedName
assigned_in one = assigned_by one.kind one.place

-- Without their clauses organization and access are sequential.
abbrev pub organization_or : Option OrganizationClause → OrganizationClause
organization_or None = organization_as.Sequential
organization_or (Some one) = one

abbrev pub access_or : Option Access → Access
access_or None = access_as.Sequential
access_or (Some one) = one

abbrev pub select_of : Bool → Name → AssignedName → Stated → Select
select_of optional given assigned clauses = record {
  optional = optional;
  name = given;
  assigned = assigned;
  organization = organization_or clauses.organization;
  access = access_or clauses.access;
  relative_key = clauses.relative_key;
  record_key = clauses.record_key;
  alternate_keys = clauses.alternate_keys;
  status = clauses.status;
}

-- SELECT [OPTIONAL] f ASSIGN [TO] {n|alit} clauses .
abbrev pub select : Select → Part
select one = λ from rest.
    (clauses : Stated) × (one ≡ select_of one.optional one.name one.assigned clauses)
    × (word w.Select then optional_part (word w.Optional) one.optional then name one.name then word w.Assign then optional (word w.To)
    then token_with assigned_in one.assigned then clauses_from select_clauses no_clauses clauses then period) from rest

abbrev pub begins_select : List Token → Bool
begins_select = begins_word w.Select

-- INPUT-OUTPUT SECTION . FILE-CONTROL . select...
abbrev pub file_control : List Select → Part
file_control all = heading (w.InputOutput ∷ w.Section ∷ []) then heading (w.FileControl ∷ []) then several select (lookahead begins_select) all

-- [INPUT-OUTPUT SECTION . ..]: it is left out only where INPUT-OUTPUT does not stand.
abbrev pub input_output : List Select → Part
input_output = listed_from w.InputOutput file_control

-- ---- reading

-- the head of a SELECT: up to the file's name on the volume
unfoldable pub assigned_reader : Parser (Name × AssignedName)
assigned_reader = do
  given ← r.name
  expect w.Assign
  skip w.To
  assigned ← one_token assigned_in
  pure (given, assigned)

unfoldable pub select_reader : Parser Select
select_reader = do
  expect w.Select
  optional ← r.presence_reader (after_word w.Optional)
  head ← assigned_reader
  clauses ← gathering_reader select_clauses clause_reader no_clauses
  r.period
  pure (select_of optional head.0 head.1 clauses)

unfoldable pub file_control_reader : Parser (List Select)
file_control_reader = do
  r.heading_reader (w.InputOutput ∷ w.Section ∷ [])
  r.heading_reader (w.FileControl ∷ [])
  r.several select_reader begins_select

unfoldable pub input_output_reader : Parser (List Select)
input_output_reader = list_from w.InputOutput file_control_reader
