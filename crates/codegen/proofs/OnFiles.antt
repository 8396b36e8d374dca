-- The code of a statement on a file that was looked for.
use Rattle.std.proofs.Common.{◌≡◌, Option, Some, None, sym, ap, ◌∙◌}
use Rattle.source_tree.specs.ProgramFiles.{ProgramFile}
use Rattle.code_image.specs.declared.code.Code.{Code}
use Rattle.condition_codegen.specs.Fragments.{Fragment, append}
use Rattle.statement_codegen.specs.FileCode.{on_file_fragment}
use Rattle.condition_codegen.proofs.Fragments.{joined_nothing}

-- There is none, and so no code.
pub none_found : (found : Option ProgramFile) (piece : ProgramFile → Fragment) (code : Code) → found ≡ None
    → code ≡ append code (on_file_fragment found piece code)
none_found found piece code e =
    sym (joined_nothing code) ∙ sym (ap (λ (one : Option ProgramFile). append code (on_file_fragment one piece code)) e)

-- It is this one, and so the code is that of the statement on it.
pub one_found : (found : Option ProgramFile) (piece : ProgramFile → Fragment) (file : ProgramFile) (made : Fragment)
    (code : Code) → found ≡ Some file
    → made code ≡ piece file code → append code (made code) ≡ append code (on_file_fragment found piece code)
one_found found piece file made code e same =
    ap (append code) same ∙ sym (ap (λ (one : Option ProgramFile). append code (on_file_fragment one piece code)) e)
