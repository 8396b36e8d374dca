-- Reading programs, as functions on lists of tokens.
use Rattle.std.specs.Prelude.{ℕ, if◌then◌else◌, List, [], ◌∷◌, None, Some, Ok}
use Rattle.tokens.specs.declared.reserved.Reserved.TheVariants as w
use Rattle.source_tree.specs.declared.name.Name.{Name}
use Rattle.source_tree.specs.declared.program.Sentence.{Sentence}
use Rattle.source_tree.specs.declared.program.Paragraph.{Paragraph}
use Rattle.source_tree.specs.declared.program.Section.{Section}
use Rattle.source_tree.specs.declared.program.Program.{Program}
use Rattle.grammar.specs.Reading.{Parser, ◌>>=◌, ◌>>◌, pure, refuse, begins_word, expect, period, heading_reader, end_reader, name, several, any}
use Rattle.statements.specs.Verbs.{begins_statement}
use Rattle.statements.specs.Reading.{sentence}
use Rattle.data_division.specs.Division.{data_division_reader}
use Rattle.divisions.specs.Environment.{environment_reader}
use Rattle.divisions.specs.Spelling.{begins_paragraph, begins_section, begins_body, is_alone}

unfoldable pub identification : Parser Name
identification = do
  heading_reader (w.Identification ∷ w.Division ∷ [])
  heading_reader (w.ProgramId ∷ [])
  given ← name
  period
  pure given

unfoldable pub end_program : Parser (Unit {0})
end_program = do
  expect w.End
  expect w.Program
  other ← name
  period

unfoldable pub optional_end_reader : Parser (Unit {0})
optional_end_reader i = if begins_word w.End i then end_program i else Ok (tt, i)

unfoldable pub sentences : ℕ → Parser (List Sentence)
sentences depth = several (sentence depth) begins_statement

unfoldable pub any_sentences : ℕ → Parser (List Sentence)
any_sentences depth = any (sentence depth) begins_statement

unfoldable pub paragraph : ℕ → Parser Paragraph
paragraph depth = do
  given ← name
  period
  found ← any_sentences depth
  pure (record { name = Some given; sentences = found })

unfoldable pub paragraphs : ℕ → Parser (List Paragraph)
paragraphs depth = several (paragraph depth) begins_paragraph

unfoldable pub any_paragraphs : ℕ → Parser (List Paragraph)
any_paragraphs depth = any (paragraph depth) begins_paragraph

-- sentences that belong to no paragraph, and the paragraphs after them
unfoldable pub first_paragraphs_reader : ℕ → Parser (List Paragraph)
first_paragraphs_reader depth = do
  found ← sentences depth
  more ← any_paragraphs depth
  pure (record { name = None; sentences = found } ∷ more)

-- what begins neither a statement nor a paragraph is refused where it stands
unfoldable pub body : ℕ → Parser (List Paragraph)
body depth i = if begins_statement i then first_paragraphs_reader depth i else if begins_paragraph i then paragraphs depth i else refuse i

-- ---- sections

unfoldable pub section_paragraphs : ℕ → Parser (List Paragraph)
section_paragraphs depth i = if begins_body i then body depth i else Ok ([], i)

unfoldable pub section : ℕ → Parser Section
section depth = do
  given ← name
  expect w.Section
  period
  found ← section_paragraphs depth
  pure (record { name = Some given; paragraphs = found })

unfoldable pub sections : ℕ → Parser (List Section)
sections depth = several (section depth) begins_section

-- paragraphs that belong to no section
abbrev pub outside : List Paragraph → Section
outside found = record { name = None; paragraphs = found }

unfoldable pub sections_after : ℕ → List Paragraph → Parser (List Section)
sections_after depth found = do
  more ← sections depth
  pure (outside found ∷ more)

-- a section after paragraphs that belong to none is refused where it stands
unfoldable pub after_body : ℕ → List Paragraph → Parser (List Section)
after_body depth found i = if begins_section i then (if is_alone found then sections_after depth found i else refuse i) else Ok (outside found ∷ [], i)

unfoldable pub outer_body : ℕ → Parser (List Section)
outer_body depth = do
  found ← body depth
  after_body depth found

unfoldable pub all_sections : ℕ → Parser (List Section)
all_sections depth i = if begins_section i then sections depth i else outer_body depth i

unfoldable pub procedure : ℕ → Parser (List Section)
procedure depth = do
  heading_reader (w.Procedure ∷ w.Division ∷ [])
  all_sections depth

unfoldable pub program : ℕ → Parser Program
program depth = do
  given ← identification
  selects ← environment_reader
  described ← data_division_reader
  found ← procedure depth
  optional_end_reader
  end_reader
  pure (record { name = given; selects = selects; files = described.files; storage = described.storage; sections = found })
