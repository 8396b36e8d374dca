-- Images of programs, and their runs.
use Rattle.std.specs.Prelude.{◌≡◌, ℕ, List, length, Vec, Result, Ok, Err}
use Rattle.std.specs.declared.alloc.Global.{Global}
use Rattle.source_tree.specs.declared.program.Program.{Program}
use Rattle.source_tree.specs.Given.{RunInput}
use Rattle.source_tree.specs.Setting.{scope}
use Rattle.source_tree.specs.ProgramFiles as described
use Rattle.source_tree.specs.Meaning.{Run, meaning}
use Rattle.records.specs.Connector.{Entry}
use Rattle.file_image.specs.Files.{entries_of}
use Rattle.code_image.specs.declared.code.Code.{Code}
use Rattle.code_image.specs.Spelling.{code_bytes, HasSpelling}
use Rattle.code_image.specs.Demands.{IsVerified}
use Rattle.code_image.specs.Table.{Runs}
use Rattle.compiler.specs.Trees.{IsTreeOf}
use Rattle.compiler.specs.declared.fault.CompileError.{CompileError}
use Rattle.compiler.specs.declared.fault.CompileError.TheVariants.{Memory, Refused}

-- The bytes spell code that a machine can run.
pub record IsImageOf (image : List ℕ) (code : Code) : Type 0 where
  pub bytes : image ≡ code_bytes code
  pub spelt : HasSpelling code
  pub verified : IsVerified code

-- The bytes are an image, and this is its run with what it is given.
pub record HasRun (image : List ℕ) (given : RunInput) (run : Run) : Type 0 where
  pub code : Code
  pub is : IsImageOf image code
  pub runs : Runs code given run

-- what the tree's SELECTs and FDs say of its files
abbrev pub entries_of_tree : Program → List Entry
entries_of_tree tree = described.entries_of (scope tree).files

-- The image has the files that the tree describes, and whatever it is given, its run is what the tree means.
pub record MeansAs (tree : Program) (image : List ℕ) : Type 0 where
  pub code : Code
  pub is : IsImageOf image code
  pub files : length code.files ≡ length tree.selects
  pub entries : entries_of code.tables code.files ≡ entries_of_tree tree
  pub runs : (given : RunInput) → Runs code given (meaning tree given)

-- The bytes are an image of the source text's tree: whatever it is given, its run is what the tree means.
abbrev pub IsCompiled : List ℕ → List ℕ → Type 0
IsCompiled source image = (tree : Program) × IsTreeOf source tree × MeansAs tree image

-- What `compile` may answer where this is the tree of the source text: an image that means the same, or that memory ran out.
abbrev pub IsImageAnswer : Program → Result (Vec ℕ Global) CompileError → Type 0
IsImageAnswer tree (Ok image) = MeansAs tree image.items
IsImageAnswer tree (Err Memory) = Unit {0}
IsImageAnswer tree (Err (Refused fault)) = ⊥
