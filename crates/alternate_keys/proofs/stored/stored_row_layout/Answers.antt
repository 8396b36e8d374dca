use Rattle.std.proofs.Common.{◌≡◌, ◌+◌, ◌*◌, ℕ, refl, ap, ◌∙◌}
use Rattle.std.specs.Prelude.{nat_lt, if◌then◌else◌}
use Rattle.file_bytes.specs.Rows.{prime_key_length}
use Rattle.volume_format.specs.Chained.{kept_bytes}
use Rattle.alternate_keys.proofs.Heads.{key_read, layout_as}
use Rattle.alternate_keys.proofs.RowForms.{fits_by}
use Rattle.alternate_keys.proofs.stored.stored_row_layout.Goals as goal

pub returns-clause-layout : goal.returns-clause-layout
returns-clause-layout c = λ l spec says same.
    let many = c.stored_count-count.result in
    let key = key_read l spec c.args.value.now c.key_bytes-own.result c.number_at-prime.result says
    c.number_at-prime.ensures c.key_bytes-own.ensures in
    let kept : c.kept_part.result ≡ kept_bytes l.spec =
    c.kept_part.ensures ∙ ap (λ (n : ℕ). if nat_lt 1000 n then 4 else n) same in
    ap (λ (n : ℕ). layout_as n (c.kept_part.result + 8 * many)) key
    ∙ ap (layout_as (prime_key_length l.spec.organization)) (ap (λ (n : ℕ). n + 8 * many) kept
    ∙ ap (λ (n : ℕ). kept_bytes l.spec + 8 * n) (c.stored_count-count.ensures.count l spec says))

pub returns-clause-form : goal.returns-clause-form
returns-clause-form c =
    let many = c.stored_count-count.result in
    fits_by (nat_lt 1000 c.args.size) c.args.size many
    (layout_as c.key_bytes-own.result (c.kept_part.result + 8 * many)) c.stored_count-count.ensures.few refl
    (ap (λ (n : ℕ). n + 8 * many) c.kept_part.ensures)
