use Rattle.std.proofs.Common.{◌+◌, ◌∙◌, ap, sym, subst}
use Rattle.btree_pages.specs.RowLayouts.{IsRowLayout}
use Rattle.records.specs.declared.file_spec.KeyPlace.{KeyPlace}
use Rattle.records.specs.declared.key.KeyOfReference.{KeyOfReference}
use Rattle.records.specs.declared.key.KeyOfReference.TheVariants.{Alternate}
use Rattle.records.specs.Rows.{place_of}
use Rattle.records.specs.Stores.{spec_of, IsKey}
use Rattle.volume_format.proofs.layout.tree_layout.Goals as goal

-- src/layout.rt:20:1
pub returns-in-Alternate-clause-possible : goal.returns-in-Alternate-clause-possible
returns-in-Alternate-clause-possible c =
    let s = spec_of c.args.file.now in
    let key = Alternate c.in-Alternate.field-0 in
    let is_key = subst (λ (k : KeyOfReference). IsKey s k) c.in-Alternate.is c.requires in
    subst (λ (p : KeyPlace).
    IsRowLayout (record { key_length = p.length + 8; value_length = c.key_place-prime.result.length }))
    (sym (c.key_place.ensures.place ∙ ap (place_of s) c.in-Alternate.is))
    (subst (λ (p : KeyPlace).
    IsRowLayout (record { key_length = (place_of s key).length + 8; value_length = p.length }))
    (sym c.key_place-prime.ensures.place)
    (c.layouts_fit.ensures s key c.args.file.now.sound is_key))
