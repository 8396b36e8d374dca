-- Which tokens spell which program.
use Rattle.std.specs.Prelude.{◌≡◌, ◌&&◌, ◌||◌, ℕ, Bool, true, false, List, [], ◌∷◌, drop, Option, None, Some}
use Rattle.tokens.specs.declared.reserved.Reserved.TheVariants as w
use Rattle.tokens.specs.declared.token.Token.{Token}
use Rattle.source_tree.specs.declared.name.Name.{Name}
use Rattle.source_tree.specs.declared.program.Paragraph.{Paragraph}
use Rattle.source_tree.specs.declared.program.Section.{Section}
use Rattle.source_tree.specs.declared.program.Program.{Program}
use Rattle.grammar.specs.Parts.{Part, ◌then◌, nowhere, absence_of, optional, any, several, lookahead, word, period, heading, name, begins_name}
use Rattle.grammar.specs.Reading.{is_period, begins_word}
use Rattle.statements.specs.Verbs.{begins_statement}
use Rattle.statements.specs.Spelling.{sentence}
use Rattle.data_division.specs.declared.division.DataDivision.{DataDivision}
use Rattle.data_division.specs.Division.{data_division}
use Rattle.divisions.specs.Environment.{environment}

-- no token is left
abbrev pub end_of_text : Part
end_of_text = λ from rest. (from ≡ []) × (rest ≡ [])

-- IDENTIFICATION DIVISION . PROGRAM-ID . n . (COBOL-85, Nucleus, "Identification division")
abbrev pub identification : Name → Part
identification n = heading (w.Identification ∷ w.Division ∷ []) then heading (w.ProgramId ∷ []) then name n then period

-- a name, which need not be the program's (own choice)
abbrev pub some_name : Part
some_name = λ from rest. (n : Name) × name n from rest

-- END PROGRAM n . (COBOL-85, Inter-program communication, "The END PROGRAM header")
abbrev pub end_program : Part
end_program = word w.End then word w.Program then some_name then period

abbrev pub optional_name : Option Name → Part
optional_name None = nowhere
optional_name (Some n) = name n

abbrev pub begins_period : List Token → Bool
begins_period [] = false
begins_period (first ∷ more) = is_period first.kind

-- A user-defined word begins a paragraph where a period comes directly after it. A statement begins with a verb, which is
-- reserved.
abbrev pub begins_paragraph : List Token → Bool
begins_paragraph from = begins_name from && begins_period (drop 1 from)

-- n . [sentence...] (COBOL-85, Nucleus, "Paragraphs")
abbrev pub paragraph : ℕ → Paragraph → Part
paragraph depth one = optional_name one.name then period then any (sentence depth) (lookahead begins_statement) one.sentences

-- The first paragraph has no name where sentences come before the others. Else it is like them.
abbrev pub body_by : ℕ → Option Name → Paragraph → List Paragraph → Part
body_by depth None first more = several (sentence depth) (lookahead begins_statement) first.sentences then any (paragraph depth) (lookahead begins_paragraph) more
body_by depth (Some n) first more = several (paragraph depth) (lookahead begins_paragraph) (first ∷ more)

-- [sentence...] [para...], not both left out (COBOL-85, Nucleus, "Paragraphs")
abbrev pub body : ℕ → List Paragraph → Part
body depth [] = nowhere
body depth (first ∷ more) = body_by depth first.name first more

-- ---- sections

-- A user-defined word begins a section where SECTION comes directly after it.
abbrev pub begins_section : List Token → Bool
begins_section from = begins_name from && begins_word w.Section (drop 1 from)

abbrev pub begins_body : List Token → Bool
begins_body from = begins_statement from || begins_paragraph from

-- [sentence...] [para...]: both are left out only where neither begins.
abbrev pub section_paragraphs : ℕ → List Paragraph → Part
section_paragraphs depth [] = absence_of (lookahead begins_body)
section_paragraphs depth (first ∷ more) = body depth (first ∷ more)

-- n SECTION . [sentence...] [para...] (COBOL-85, Nucleus, "Sections")
abbrev pub section : ℕ → Section → Part
section depth one = optional_name one.name then word w.Section then period then section_paragraphs depth one.paragraphs

-- sentences that belong to no paragraph, and nothing else
abbrev pub has_no_name : Option Name → Bool
has_no_name None = true
has_no_name (Some n) = false

abbrev pub is_alone : List Paragraph → Bool
is_alone [] = false
is_alone (one ∷ []) = has_no_name one.name
is_alone (one ∷ next ∷ more) = false

-- Sections follow what belongs to none only where that is sentences alone.
abbrev pub more_sections : ℕ → Bool → List Section → Part
more_sections depth alone [] = absence_of (lookahead begins_section)
more_sections depth true (one ∷ more) = several (section depth) (lookahead begins_section) (one ∷ more)
more_sections depth false (one ∷ more) = nowhere

-- The paragraphs that belong to no section are one without a name.
abbrev pub sections_by : ℕ → Option Name → Section → List Section → Part
sections_by depth None first more = body depth first.paragraphs then more_sections depth (is_alone first.paragraphs) more
sections_by depth (Some n) first more = several (section depth) (lookahead begins_section) (first ∷ more)

-- [sentence...] {para...|section...}, not all left out (COBOL-85, Nucleus, "Procedure division")
abbrev pub sections : ℕ → List Section → Part
sections depth [] = nowhere
sections depth (first ∷ more) = sections_by depth first.name first more

-- PROCEDURE DIVISION . body
abbrev pub procedure : ℕ → List Section → Part
procedure depth all = heading (w.Procedure ∷ w.Division ∷ []) then sections depth all

-- what the data division describes
abbrev pub data_division_of : Program → DataDivision
data_division_of tree = record { files = tree.files; storage = tree.storage }

abbrev pub program : ℕ → Program → Part
program depth tree =
    identification tree.name then environment tree.selects then data_division (data_division_of tree) then procedure depth tree.sections
    then optional end_program then end_of_text

-- The tree, whose statements nest no deeper than that, is spelled by these tokens.
abbrev pub SpellsProgram : ℕ → Program → List Token → Type 0
SpellsProgram depth tree tokens = program depth tree tokens []
