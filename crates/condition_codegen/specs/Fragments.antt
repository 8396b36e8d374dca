-- Code that is put together from pieces (own choice).
use Rattle.std.specs.Prelude.{List, [], ◌∷◌, ◌++◌}
use Rattle.data_instructions.specs.declared.tables.DataTables.{DataTables}
use Rattle.code_image.specs.declared.code.Code.{Code}
use Rattle.code_image.specs.declared.instruction.Instruction.{Instruction}

-- What a part of a program adds to the code that stands before it.
abbrev pub Fragment : Type 0
Fragment = Code → Code

abbrev pub no_tables : DataTables
no_tables = record { areas = []; items = []; numbers = []; senders = []; texts = []; inspections = [] }

abbrev pub empty_code : Code
empty_code = record { tables = no_tables; files = []; starts = []; instructions = [] }

abbrev pub joined_tables : DataTables → DataTables → DataTables
joined_tables a b = record {
  areas = a.areas ++ b.areas;
  items = a.items ++ b.items;
  numbers = a.numbers ++ b.numbers;
  senders = a.senders ++ b.senders;
  texts = a.texts ++ b.texts;
  inspections = a.inspections ++ b.inspections;
}

-- one code after another
abbrev pub append : Code → Code → Code
append a b = record {
  tables = joined_tables a.tables b.tables;
  files = a.files ++ b.files;
  starts = a.starts ++ b.starts;
  instructions = a.instructions ++ b.instructions;
}

-- one piece after another
abbrev pub sequence : Fragment → Fragment → Fragment
sequence first second before = append (first before) (second (append before (first before)))

abbrev pub in_order : {A : Type 0} → (A → Fragment) → List A → Fragment
in_order piece [] before = empty_code
in_order piece (one ∷ more) before = append (piece one before) (in_order piece more (append before (piece one before)))

-- instructions that name nothing new
abbrev pub plain_code : List Instruction → Code
plain_code instructions = record { tables = no_tables; files = []; starts = []; instructions = instructions }
