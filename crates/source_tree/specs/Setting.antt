-- What statements find in the program around them.
use Rattle.std.specs.Prelude.{List}
use Rattle.source_tree.specs.declared.program.Paragraph.{Paragraph}
use Rattle.source_tree.specs.declared.program.Program.{Program}
use Rattle.source_tree.specs.Places.{LocatedItem}
use Rattle.source_tree.specs.Records.{program_items}
use Rattle.source_tree.specs.ProgramFiles.{ProgramFile, files_of}
use Rattle.source_tree.specs.Procedures.{Procedure, paragraphs_in, procedures_of}

-- what names name
pub record Scope : Type 0 where
  -- the items of working storage and of records where they stand
  pub items : List LocatedItem
  -- the files, in the order of their SELECTs
  pub files : List ProgramFile
  -- sections and paragraphs
  pub procedures : List Procedure

pub record ProgramContext : Type 0 where
  pub scope : Scope
  -- all paragraphs of the program, in order
  pub paragraphs : List Paragraph

-- all paragraphs of a program, in order
abbrev pub paragraphs : Program → List Paragraph
paragraphs program = paragraphs_in program.sections

abbrev pub scope_with : List LocatedItem → Program → Scope
scope_with items program = record { items = items; files = files_of items program; procedures = procedures_of program.sections }

abbrev pub scope : Program → Scope
scope program = scope_with (program_items program) program

abbrev pub context_of : Program → ProgramContext
context_of program = record { scope = scope program; paragraphs = paragraphs program }
