use Rattle.std.proofs.Common.{◌≡◌, ◌++◌, List, ℕ, length, map, ◌∙◌, ap, subst, arith}
use Rattle.std.specs.Prelude.{OnOk}
use Rattle.std.specs.List.{flat_map}
use Rattle.byteorder.specs.Endian.{big_bytes}
use Rattle.file_bytes.specs.Description.{padded_name}
use Rattle.file_bytes.specs.Rows.{row_bytes}
use Rattle.file_bytes.specs.Stored.{row_of}
use Rattle.file_bytes.specs.declared.stored.StoredRow.{StoredRow}
use Rattle.half_store.proofs.Pushed.{file_pushed}
use Rattle.half_store.proofs.spelling.push_file.Goals as goal

pub returns-clause-bytes : goal.returns-clause-bytes
returns-clause-bytes c =
    let out : List ℕ = c.args.out.now.items in
    let five : List ℕ = c.push_number-2.new.out.items in
    let long : c.len.result ≡ length c.args.file.now.rows.items = omega (arith, c.len.ensures) in
    subst (λ (l : List ℕ). OnOk c.push_rows.result (c.push_rows.new.out.items ≡ l))
    (ap (λ (l : List StoredRow). five ++ flat_map (row_bytes c.args.file.now.spec.organization) (map row_of l))
    c.deref-2.ensures.value ∙ file_pushed c.args.file.now out _ _ _ _ five
    (c.in_ok-push_name.ensures.bytes ∙ ap (λ (l : List ℕ). out ++ padded_name l) c.deref.ensures.value)
    c.in_ok-push_description.ensures.bytes c.in_ok-push_zeros.ensures.bytes c.in_ok-push_number.ensures.bytes
    (c.in_ok-push_number-2.ensures.bytes ∙ ap (λ (n : ℕ). c.push_number.new.out.items ++ big_bytes 8 n) long))
    c.push_rows.ensures.bytes
