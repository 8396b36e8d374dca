use Rattle.std.proofs.Common.{◌≡◌, rules, length, ℕ, ap, subst, ◌∙◌, arith}
use Rattle.std.proofs.lemmas.List.{get_or_default, length-map}
use Rattle.records.specs.declared.file_spec.AlternateKey.{AlternateKey}
use Rattle.records.specs.declared.key.KeyOfReference.TheVariants.{Alternate}
use Rattle.records.specs.Rows.{no_key, place_of}
use Rattle.records.specs.Stores.{spec_of}
use Rattle.file_bytes.specs.Stored.{row_of, rows_of}
use Rattle.volume_copies.specs.Ascents.{HasEach}
use Rattle.volume_copies.proofs.Ascending.{same_order, ascent_of}
use Rattle.volume_copies.proofs.same_order.is_same_order.Goals as goal

pub returns : goal.returns
returns c = λ e.
    let order = c.in_ok-order.order.items in
    let one = c.args.one.now.rows.items in
    let place = place_of (spec_of c.args.one.now.spec) (Alternate c.args.key) in
    let is_place : c.index.result.now.place ≡ place = ap (λ (a : AlternateKey). a.place) (c.index.ensures
    ∙ get_or_default c.args.one.now.spec.alternates.items c.args.key c.index.result.now no_key c.requires) in
    let has : HasEach (length (rows_of one)) order =
    subst (λ (n : ℕ). HasEach n order) (omega (arith, c.len.ensures, c.args.one.now.rows.ok, length-map one row_of))
    (subst (HasEach c.len.result) c.deref.ensures.value (c.in_ok-is_each_there.ensures (search rules))) in
    let first = ascent_of c.index.result.now.place place c.args.key c.deref-2.result.now one c.deref-3.result.now order
    is_place c.deref-2.ensures.value c.deref-3.ensures.value (c.is_ascending.ensures c.if-not-is_ascending.false) in
    let second = ascent_of c.index.result.now.place place c.args.key c.deref-4.result.now _ c.deref-5.result.now order
    is_place c.deref-4.ensures.value c.deref-5.ensures.value (c.is_ascending-2.ensures e) in
    record { each = same_order place c.args.key (rows_of one) _ order _ has first second }
