use Rattle.std.proofs.Common.{◌≡◌, ◌+◌, ◌*◌, List, ℕ, drop, sym, ap, subst, ◌∙◌, arith}
use Rattle.byteorder.specs.Endian.{big_number}
use Rattle.records.specs.declared.key.KeyOfReference.{KeyOfReference}
use Rattle.records.specs.declared.key.KeyOfReference.TheVariants.{Alternate}
use Rattle.records.specs.Rows.{prime_place}
use Rattle.records.specs.Stores.{IsKey}
use Rattle.volume_format.specs.Trees.{layout_under}
use Rattle.alternate_keys.proofs.Heads.{record_at, prime_at, alternate_at, layout_as}
use Rattle.alternate_keys.proofs.stored.stored_layout.Goals as goal

pub returns-in-Prime : goal.returns-in-Prime
returns-in-Prime c = λ l spec says within.
    let size : c.stored_record-size.result ≡ l.spec.record_length =
    c.stored_record-size.ensures ∙ ap (λ (v : List ℕ). big_number 2 (drop 1 v)) says ∙ record_at l spec in
    subst (λ (k : KeyOfReference). c.stored_row_layout.result ≡ layout_under l.spec k) (sym c.in-Prime.is)
    (c.stored_row_layout.ensures.layout l spec says size)

pub returns-in-Alternate : goal.returns-in-Alternate
returns-in-Alternate c = λ l spec says within.
    let prime : c.number_at-prime.result ≡ (prime_place l.spec.organization).length =
    c.number_at-prime.ensures ∙ ap (λ (v : List ℕ). big_number 2 (drop 5 v)) says ∙ prime_at l spec in
    let here : IsKey l.spec (Alternate c.in-Alternate.i) =
    subst (λ (k : KeyOfReference). IsKey l.spec k) c.in-Alternate.is within in
    let own = c.number_at-own.ensures ∙ ap (λ (v : List ℕ). big_number 2 (drop (10 + 5 * c.in-Alternate.i) v)) says
    ∙ alternate_at l spec c.in-Alternate.i (omega (arith, here)) in
    subst (λ (k : KeyOfReference). layout_as (c.number_at-own.result + 8) c.number_at-prime.result
    ≡ layout_under l.spec k) (sym c.in-Alternate.is)
    (ap (λ (n : ℕ). layout_as (n + 8) c.number_at-prime.result) own
    ∙ ap (layout_as ((layout_under l.spec (Alternate c.in-Alternate.i)).key_length)) prime)
