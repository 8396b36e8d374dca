use Rattle.std.proofs.Common.{◌≡◌, not, ℕ, List, take, sym, ap, ◌∙◌}
use Rattle.std.proofs.lemmas.Map.Text.{is_eq-slice_cmp}
use Rattle.records.specs.declared.file_spec.KeyPlace.{KeyPlace}
use Rattle.records.specs.declared.key.KeyOfReference.TheVariants.{Alternate}
use Rattle.records.specs.Rows.{part, place_of, same_bytes}
use Rattle.records.specs.Stores.{spec_of}
use Rattle.alternate_keys.proofs.old_row.is_changed.Goals as goal

pub returns : goal.returns
returns c =
    let place : KeyPlace = place_of (spec_of c.args.file.now) (Alternate c.args.key) in
    let record_was : List ℕ = take c.args.file.now.record_length c.args.old.now in
    let one : c.part_of.result.now ≡ part place record_was =
    c.part_of.ensures ∙ ap (λ (p : KeyPlace). part p c.record_in.result.now) c.key_place-place.ensures.place
    ∙ ap (part place) c.record_in.ensures.is in
    let two : c.part_of-2.result.now ≡ part place c.args.bytes.now =
    c.part_of-2.ensures ∙ ap (λ (p : KeyPlace). part p c.args.bytes.now) c.key_place-place.ensures.place in
    ap not
    (c.eq-same.ensures ∙ sym (is_eq-slice_cmp c.part_of.result.now c.part_of-2.result.now)
    ∙ ap (λ (l : List ℕ). same_bytes l c.part_of-2.result.now) one
    ∙ ap (same_bytes (part place record_was)) two)
