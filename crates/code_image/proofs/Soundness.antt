-- What is read from bytes is spelled by them.
use Rattle.std.proofs.Common.{◌≡◌, ℕ, Bool, true, false, eqb, cond, List, [], ◌++◌, length, Result, Ok, Err, refl, sym}
use Rattle.std.proofs.Common.{ap, subst, ◌∙◌}
use Rattle.std.specs.Prelude.{IfOk}
use Rattle.std.proofs.lemmas.Bool.{eqb-true}
use Rattle.std.proofs.lemmas.List.{append-nil, nil_from_length}
use Rattle.answers.specs.Answer.{Gives}
use Rattle.data_image.specs.declared.fault.ImageFault.{ImageFault}
use Rattle.data_image.specs.declared.fault.ImageFault.TheVariants as faults
use Rattle.data_image.specs.declared.fault.ImageError.{ImageError}
use Rattle.data_image.specs.Faults.{fault_of}
use Rattle.data_image.specs.Spelling.{IsBytes, count_bytes, table_bytes}
use Rattle.data_image.specs.Tables.{tables_bytes}
use Rattle.data_image.proofs.Forms.{bind_ok, guard_passed, Takes, takes_then, part}
use Rattle.data_image.proofs.DataTables.{tables_form}
use Rattle.file_image.specs.Spelling.{file_bytes}
use Rattle.code_image.specs.declared.code.Code.{Code}
use Rattle.code_image.specs.Spelling.{mark, instruction_bytes, code_bytes, is_second, HasSpelling}
use Rattle.code_image.specs.Reading.{mark_at, is_version, with_version, code_at}
use Rattle.code_image.proofs.Forms.{mark_takes}
use Rattle.code_image.proofs.Images.{end_from, instructions_from, starts_from, files_from, tables_from, file_table}
use Rattle.code_image.proofs.Images.{start_table, instruction_table}

-- nothing follows the last part
whole : (bytes text rest : List ℕ) → Takes bytes text rest → rest ≡ [] → bytes ≡ text
whole bytes text rest takes none = takes.parts ∙ ap (λ (t : List ℕ). text ++ t) none ∙ append-nil text

-- a test that was passed before more was read
passed : {A : Type 0} (b : Bool) (d : ImageFault) (r : Result A ImageFault) (y : A) → cond b r (Err d) ≡ Ok y
    → (b ≡ true) × (r ≡ Ok y)
passed true d r y e = (refl, e)
passed false d r y e = absurd cc

version_is : (second other : Bool) → is_version second other ≡ true → second ≡ other
version_is true true e = refl
version_is true false e = absurd cc
version_is false false e = refl
version_is false true e = absurd cc

pub code_takes : (bytes : List ℕ) (code : Code) → IsBytes bytes → code_at bytes ≡ Ok code
    → (bytes ≡ code_bytes code) × HasSpelling code
unfolding code_at
code_takes bytes code fits e =
    let a = bind_ok (mark_at bytes) tables_from code e in
    let first = mark_takes bytes a.0 fits a.1 in
    let t = part tables_form a.0.1 (files_from a.0.0) code first.rest_fits a.2 in
    let f = part file_table t.rest (starts_from a.0.0 t.value) code t.takes.rest_fits t.goes in
    let s = part start_table f.rest (instructions_from a.0.0 t.value f.value) code f.takes.rest_fits f.goes in
    let i = part instruction_table s.rest (end_from a.0.0 t.value f.value s.value) code s.takes.rest_fits s.goes in
    let made : Code = record { tables = t.value; files = f.value; starts = s.value; instructions = i.value } in
    let g = passed (eqb (length i.rest) 0) faults.Length (with_version a.0.0 made) code i.goes in
    let v = guard_passed (is_version a.0.0 (is_second made)) faults.Value made code g.1 in
    let second : a.0.0 ≡ is_second made = version_is a.0.0 (is_second made) v.0 in
    let tables = tables_bytes t.value in
    let files = table_bytes file_bytes f.value in
    let starts = table_bytes count_bytes s.value in
    let two = takes_then bytes (mark a.0.0) a.0.1 tables t.rest first t.takes in
    let three = takes_then bytes (mark a.0.0 ++ tables) t.rest files f.rest two f.takes in
    let four = takes_then bytes (mark a.0.0 ++ tables ++ files) f.rest starts s.rest three s.takes in
    let five = takes_then bytes (mark a.0.0 ++ tables ++ files ++ starts) s.rest
    (table_bytes instruction_bytes i.value) i.rest four i.takes in
    let nothing : i.rest ≡ [] = nil_from_length i.rest (eqb-true _ _ g.0) in
    let spelt : HasSpelling made =
    record { tables = t.sound; files = f.sound; starts = s.sound; instructions = i.sound } in
    let text : List ℕ = mark a.0.0 ++ tables ++ files ++ starts ++ table_bytes instruction_bytes i.value in (
      whole bytes text i.rest five nothing
          ∙ ap (λ b. mark b ++ tables ++ files ++ starts ++ table_bytes instruction_bytes i.value) second
          ∙ ap code_bytes v.1,
      subst HasSpelling v.1 spelt,
    )

pub is_found : (bytes : List ℕ) (r : Result Code ImageError) → IsBytes bytes
    → Gives (λ code. code) fault_of r (code_at bytes) → IfOk r (λ code. bytes ≡ code_bytes code)
is_found bytes (Ok code) fits given = (code_takes bytes code fits given).0
is_found bytes (Err e) fits given = tt

pub is_spelt : (bytes : List ℕ) (r : Result Code ImageError) → IsBytes bytes
    → Gives (λ code. code) fault_of r (code_at bytes) → IfOk r HasSpelling
is_spelt bytes (Ok code) fits given = (code_takes bytes code fits given).1
is_spelt bytes (Err e) fits given = tt
