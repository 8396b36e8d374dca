-- What bytes spell is read from them.
use Rattle.std.proofs.Common.{◌≡◌, ℕ, Bool, true, false, eqb, cond, length, List, [], ◌++◌, Ok, Err, refl, sym, ap, ◌∙◌}
use Rattle.std.proofs.Common.{append_assoc}
use Rattle.std.proofs.lemmas.List.{append-nil}
use Rattle.data_image.specs.declared.fault.ImageFault.TheVariants as faults
use Rattle.data_image.specs.Spelling.{count_bytes, table_bytes}
use Rattle.data_image.specs.Reading.{◌>>=◌, table_at}
use Rattle.data_image.specs.Tables.{tables_bytes}
use Rattle.data_image.proofs.Forms.{bind_is, part_again}
use Rattle.data_image.proofs.DataTables.{tables_form}
use Rattle.file_image.specs.Spelling.{file_bytes}
use Rattle.code_image.specs.declared.code.Code.{Code}
use Rattle.code_image.specs.Spelling.{mark, instruction_bytes, code_bytes, is_second, HasSpelling}
use Rattle.code_image.specs.Reading.{mark_at, instruction_at, is_version, with_version, code_at}
use Rattle.code_image.proofs.Forms.{mark_again}
use Rattle.code_image.proofs.Images.{end_from, instructions_from, starts_from, files_from, tables_from, file_table}
use Rattle.code_image.proofs.Images.{start_table, instruction_table}

regroup : (a b c d e : List ℕ) → a ++ b ++ c ++ d ++ e ≡ a ++ (b ++ (c ++ (d ++ e)))
regroup a b c d e = simp append_assoc

-- code has its own version
own_version : (second : Bool) → is_version second second ≡ true
own_version false = refl
own_version true = refl

version_again : (code : Code) → with_version (is_second code) code ≡ Ok code
version_again code = ap (λ b. cond b (Ok code) (Err faults.Value)) (own_version (is_second code))

pub code_again : (code : Code) → HasSpelling code → code_at (code_bytes code) ≡ Ok code
unfolding code_at
code_again code fits =
    let t = tables_bytes code.tables in
    let f = table_bytes file_bytes code.files in
    let s = table_bytes count_bytes code.starts in
    let i = table_bytes instruction_bytes code.instructions in
    let v = is_second code in
    ap (λ (bytes : List ℕ). mark_at bytes >>= tables_from) (regroup (mark v) t f s i)
    ∙ bind_is (mark_at (mark v ++ (t ++ (f ++ (s ++ i))))) tables_from (v, t ++ (f ++ (s ++ i)))
    (mark_again v (t ++ (f ++ (s ++ i))))
    ∙ part_again tables_form code.tables (f ++ (s ++ i)) (files_from v) fits.tables
    ∙ part_again file_table code.files (s ++ i) (starts_from v code.tables) fits.files
    ∙ part_again start_table code.starts i (instructions_from v code.tables code.files) fits.starts
    ∙ ap (λ (bytes : List ℕ). table_at instruction_at bytes >>= end_from v code.tables code.files code.starts)
    (sym (append-nil i))
    ∙ part_again instruction_table code.instructions [] (end_from v code.tables code.files code.starts)
    fits.instructions
    ∙ version_again code
