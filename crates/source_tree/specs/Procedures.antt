-- Paragraphs and sections by their numbers and names (COBOL-85, Nucleus, "Procedure division").
use Rattle.std.specs.Prelude.{ℕ, ◌+◌, ◌-◌, Bool, filter, List, [], ◌∷◌, ◌++◌, length, take, drop, Option, Some, None}
use Rattle.source_tree.specs.declared.name.Name.{Name}
use Rattle.source_tree.specs.declared.program.Paragraph.{Paragraph}
use Rattle.source_tree.specs.declared.program.Section.{Section}
use Rattle.source_tree.specs.Names.{is_called}

-- Paragraphs from one to another, by their numbers. They are counted from 0 in the order of the program.
pub record Range : Type 0 where
  pub first : ℕ
  pub last : ℕ

-- a section or paragraph: its name, if it has one, and the paragraphs that are in it
pub record Procedure : Type 0 where
  pub name : Option Name
  pub range : Range

-- A section without paragraphs has one without sentences (own choice).
abbrev pub paragraphs_or_one : List Paragraph → List Paragraph
paragraphs_or_one [] = record { name = None; sentences = [] } ∷ []
paragraphs_or_one (one ∷ more) = one ∷ more

abbrev pub paragraphs_in : List Section → List Paragraph
paragraphs_in [] = []
paragraphs_in (one ∷ more) = paragraphs_or_one one.paragraphs ++ paragraphs_in more

abbrev pub one_range : ℕ → Range
one_range number = record { first = number; last = number }

-- paragraphs of which the first has this number
abbrev pub paragraph_procedures : ℕ → List Paragraph → List Procedure
paragraph_procedures number [] = []
paragraph_procedures number (one ∷ more) = record { name = one.name; range = one_range number } ∷ paragraph_procedures (number + 1) more

-- sections of which the first begins with the paragraph of this number; each stands before its paragraphs
abbrev pub procedures_from : ℕ → List Section → List Procedure
procedures_from number [] = []
procedures_from number (one ∷ more) =
    let paragraphs = paragraphs_or_one one.paragraphs in
    let next : ℕ = number + length paragraphs in
    record { name = one.name; range = record { first = number; last = next - 1 } } ∷ (paragraph_procedures number paragraphs ++ procedures_from next more)

abbrev pub procedures_of : List Section → List Procedure
procedures_of sections = procedures_from 0 sections

abbrev pub is_procedure : Name → Procedure → Bool
is_procedure name one = is_called name one.name

abbrev pub procedures_named : List Procedure → Name → List Procedure
procedures_named procedures name = filter (is_procedure name) procedures

-- where there is one alone
abbrev pub only_range : List Procedure → Option Range
only_range [] = None
only_range (only ∷ []) = Some only.range
only_range (one ∷ other ∷ more) = None

abbrev pub range_named : List Procedure → Name → Option Range
range_named procedures name = only_range (procedures_named procedures name)

abbrev pub to_end_of : Range → Option Range → Option Range
to_end_of first None = None
to_end_of first (Some last) = Some (record { first = first.first; last = last.last })

abbrev pub range_through : List Procedure → Option Name → Option Range → Option Range
range_through procedures last None = None
range_through procedures None (Some first) = Some first
range_through procedures (Some last) (Some first) = to_end_of first (range_named procedures last)

-- What is performed from one procedure to the end of another, or of the same where no other is named. Nothing, where a name names none.
abbrev pub range_of : List Procedure → Name → Option Name → Option Range
range_of procedures first last = range_through procedures last (range_named procedures first)

-- the paragraphs of a range
abbrev pub within_range : Range → List Paragraph → List Paragraph
within_range range paragraphs = take (range.last + 1 - range.first) (drop range.first paragraphs)
