-- A file statement without phrases, put together step by step.
use Rattle.std.proofs.Common.{◌≡◌, ℕ, ◌+◌, length, sym}
use Rattle.records.specs.declared.verb.Verb as on_files
use Rattle.source_tree.specs.declared.phrases.FilePhrases.TheVariants.{Absent}
use Rattle.source_tree.specs.ProgramFiles.{ProgramFile}
use Rattle.source_tree.specs.Setting.{Scope}
use Rattle.file_image.specs.declared.class.StatusClass.TheVariants.{Successful}
use Rattle.code_image.specs.declared.code.Code.{Code}
use Rattle.condition_codegen.specs.Fragments.{Fragment, append, sequence}
use Rattle.condition_codegen.specs.Meeting.{branch_code, jump_code, either_fragment, nothing_fragment}
use Rattle.statement_codegen.specs.FileCode.{file_fragment, test_fragment, unheard_fragment}
use Rattle.codegen.specs.Layout.{alone_fragment}
use Rattle.condition_codegen.specs.Phrases.{patched_code}
use Rattle.condition_codegen.proofs.Fragments.{joined_nothing}
use Rattle.condition_codegen.proofs.Meeting.{meeting}
use Rattle.condition_codegen.proofs.Sequences.{then_piece}

pub alone_made : (scope : Scope) {S : Type 0} (inside : S → Fragment) (verb : on_files.Verb) (file : ProgramFile)
    (old filed tested begun middle behind end : Code) (branch other : ℕ)
    → filed ≡ append old (file_fragment verb file old) → tested ≡ append filed (test_fragment Successful filed)
    → begun ≡ append tested (branch_code 0)
    → branch ≡ length tested.instructions → middle ≡ append begun (jump_code 0) → other ≡ length begun.instructions + 2
    → behind ≡ append middle (unheard_fragment file.places.status middle) → end ≡ patched_code branch other behind
    → end ≡ append old (alone_fragment scope inside Absent (λ file. verb) file old)
alone_made scope inside verb file old filed tested begun middle behind end branch other p q r s t u v w =
    let unheard = unheard_fragment file.places.status in
    let ways = either_fragment (sequence nothing_fragment nothing_fragment) unheard in
    let ends : end ≡ append tested (ways tested) =
    meeting (sequence nothing_fragment nothing_fragment) unheard tested begun begun middle behind end branch other r s
    (sym (joined_nothing begun)) t u v w in
    let status : end ≡ append filed (sequence (test_fragment Successful) ways filed) =
    then_piece (test_fragment Successful) ways filed tested end q ends in
    then_piece (file_fragment verb file) (sequence (test_fragment Successful) ways) old filed end p status
