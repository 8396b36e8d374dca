-- Images and their one code.
use Rattle.std.proofs.Common.{◌≡◌, ◌∙◌, ℕ, List, length, Vec, Result, Ok, Err, ap}
use Rattle.std.specs.Prelude.{IfOk, OnOk}
use Rattle.std.specs.declared.alloc.AllocError.{AllocError}
use Rattle.std.specs.declared.alloc.Global.{Global}
use Rattle.source_tree.specs.declared.program.Program.{Program}
use Rattle.source_tree.specs.Given.{RunInput}
use Rattle.source_tree.specs.Meaning.{meaning}
use Rattle.file_image.specs.Files.{entries_of}
use Rattle.code_image.specs.declared.code.Code.{Code}
use Rattle.code_image.specs.Demands.{IsVerified}
use Rattle.code_image.specs.Spelling.{code_bytes, HasSpelling}
use Rattle.code_image.specs.Reading.{code_at}
use Rattle.code_image.specs.Table.{Runs}
use Rattle.compiler.specs.Images.{IsImageOf, MeansAs, entries_of_tree}
use Rattle.compiler.proofs.Results.{value}

-- what `spelling_law` says
abbrev pub OneSpelling : Type 0
OneSpelling = (code : Code) → HasSpelling code → code_at (code_bytes code) ≡ Ok code

pub read_again : OneSpelling → (image : List ℕ) (code : Code) → IsImageOf image code → code_at image ≡ Ok code
read_again spelt image code is = ap code_at is.bytes ∙ spelt code is.spelt

-- an image is of one code
pub one_code : OneSpelling → (image : List ℕ) (code other : Code) → IsImageOf image code → IsImageOf image other
    → code ≡ other
one_code spelt image code other a b = value (read_again spelt image code a) (read_again spelt image other b)

-- what is written of a tree's code is an image that means the same
pub made : (tree : Program) (code : Code) (written : Result (Vec ℕ Global) AllocError)
    → ((given : RunInput) → Runs code given (meaning tree given))
    → length code.files ≡ length tree.selects → entries_of code.tables code.files ≡ entries_of_tree tree
    → IsVerified code
    → IfOk written (λ bytes. bytes.items ≡ code_bytes code) → OnOk written (HasSpelling code)
    → IfOk written (λ image. MeansAs tree image.items)
made tree code (Ok image) ends files entries verified bytes spelt =
    record {
      code = code;
      is = record { bytes = bytes; spelt = spelt; verified = verified };
      files = files;
      entries = entries;
      runs = ends;
    }
made tree code (Err e) ends files entries verified bytes spelt = tt
