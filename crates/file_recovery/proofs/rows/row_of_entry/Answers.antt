use Rattle.std.proofs.Common.{◌≡◌, true, false, sym, ap, subst, ◌∙◌}
use Rattle.records.specs.declared.key.KeyOfReference.TheVariants.{Prime}
use Rattle.records.specs.Files.{IsRow}
use Rattle.records.specs.Rows.{Row, pair_under}
use Rattle.records.specs.Stores.{spec_of}
use Rattle.volume_format.specs.Trees.{key_under}
use Rattle.file_bytes.specs.Rows.{row_value}
use Rattle.file_bytes.specs.Stored.{row_of}
use Rattle.file_bytes.proofs.Rows.{row_back}
use Rattle.file_recovery.proofs.rows.row_of_entry.Goals as goal

pub returns-then-not-is_row-clause-damaged : goal.returns-then-not-is_row-clause-damaged
returns-then-not-is_row-clause-damaged c = λ told row is key value.
    let spec = spec_of c.args.file.now in
    let same : row_of c.in_ok-row.row ≡ row =
    c.in_ok-row.ensures.row ∙ row_back spec c.args.next (search) row is c.args.key.now c.args.value.now key value in
    c.is_row.ensures.no c.if-not-is_row.true (subst (IsRow spec c.args.next) (sym same) is)

pub returns-then-not-is_own-clause-damaged : goal.returns-then-not-is_own-clause-damaged
returns-then-not-is_own-clause-damaged c = λ told row is key value.
    let spec = spec_of c.args.file.now in
    let same : row_of c.in_ok-row.row ≡ row =
    c.in_ok-row.ensures.row ∙ row_back spec c.args.next (search) row is c.args.key.now c.args.value.now key value in
    let own = c.in_ok-is_own.ensures.no (ap (λ (r : Row). key_under spec Prime (pair_under spec Prime r)) same ∙ key)
    (ap row_value same ∙ value) in
    let both : true ≡ false = sym own ∙ c.if-not-is_own.true in
    absurd {0} cc
