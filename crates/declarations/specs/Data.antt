-- The data of a program.
use Rattle.std.specs.Prelude.{List, []}
use Rattle.source_tree.specs.declared.entry.Entry.{Entry}
use Rattle.source_tree.specs.declared.select.FileDescription.{FileDescription}
use Rattle.source_tree.specs.declared.select.Select.{Select}
use Rattle.source_tree.specs.declared.program.Program.{Program}

-- A program with this data, without a name and without procedures: what items and files are depends on its data alone.
abbrev pub with_data : List Select → List FileDescription → List Entry → Program
with_data selects files storage = record {
  name = record { characters = []; place = record { line = 0; column = 0 } };
  selects = selects;
  files = files;
  storage = storage;
  sections = [];
}
