use Rattle.std.proofs.Common.{◌≡◌, ◌≤◌, ◌&&◌, Bool, ℕ, List, length, sym, ap, subst, ◌∙◌, arith}
use Rattle.std.specs.Prelude.{slice_index_or, Option, IfOk}
use Rattle.std.specs.List.{list_any}
use Rattle.station.specs.Disk.{Sector}
use Rattle.btree_pages.specs.declared.row_layout.RowLayout.{RowLayout}
use Rattle.btree.specs.Rooted.{RootedTree}
use Rattle.records.specs.declared.file_spec.AlternateKey.{AlternateKey}
use Rattle.records.specs.declared.file_spec.KeyPlace.{KeyPlace}
use Rattle.records.specs.declared.key.KeyOfReference.TheVariants.{Alternate}
use Rattle.records.specs.Spec.{Spec}
use Rattle.records.specs.Rows.{Row, part, place_of, same_bytes, no_key}
use Rattle.records.specs.Changes.{repeats}
use Rattle.records.specs.Stores.{spec_of}
use Rattle.records.proofs.Places.{place_within}
use Rattle.alternate_keys.specs.Placed.{listed_tree}
use Rattle.alternate_keys.specs.Seen.{HasPairs}
use Rattle.alternate_keys.proofs.FoundTrees.{layout_short}
use Rattle.alternate_keys.proofs.Keeping.{same_tree}
use Rattle.alternate_keys.proofs.NewRows.{part_long}
use Rattle.alternate_keys.proofs.values.is_repeated.Given.{Over}
use Rattle.alternate_keys.proofs.values.is_repeated.Goals as goal
use Rattle.alternate_keys.proofs.values.is_repeated.Goals.{After-is_value_there}

pub is_value_there-requires-clause-short : goal.is_value_there-requires-clause-short
is_value_there-requires-clause-short g c =
    let P : RowLayout → Type 0 = λ l. l.key_length ≤ 128 in
    subst P (sym c.file_tree-tree.ensures.layout)
    (layout_short (spec_of c.args.file.now) (Alternate c.args.key) c.args.file.now.sound c.requires.key)

-- the pairs of the key are in the tree that is looked into
here : (g : Over) (c : After-is_value_there g) {pages : List (Option Sector)} {rows : List Row}
    → HasPairs (spec_of c.args.file.now) (Alternate c.args.key) pages rows
    (listed_tree (spec_of c.args.file.now) c.args.key c.args.listing.now)
    → HasPairs (spec_of c.args.file.now) (Alternate c.args.key) pages rows c.file_tree-tree.result
here g c {pages} {rows} pairs =
    subst (λ (t : RootedTree). HasPairs (spec_of c.args.file.now) (Alternate c.args.key) pages rows t)
    (sym (same_tree c.file_tree-tree.result (listed_tree (spec_of c.args.file.now) c.args.key c.args.listing.now)
    c.file_tree-tree.ensures.layout c.file_tree-tree.ensures.root)) pairs

-- the value is that of the record
value_is : (g : Over) (c : After-is_value_there g) → c.part_of.result.now
    ≡ part (place_of (spec_of c.args.file.now) (Alternate c.args.key)) c.args.new_record.bytes.now
value_is g c =
    c.part_of.ensures ∙ ap (λ (p : KeyPlace). part p c.args.new_record.bytes.now) c.key_place-place.ensures.place

long : (g : Over) (c : After-is_value_there g)
    → length (part (place_of (spec_of c.args.file.now) (Alternate c.args.key)) c.args.new_record.bytes.now)
    ≡ (place_of (spec_of c.args.file.now) (Alternate c.args.key)).length
long g c =
    part_long (place_of (spec_of c.args.file.now) (Alternate c.args.key)) c.args.file.now.record_length
    c.args.new_record.bytes.now (place_within (spec_of c.args.file.now) (Alternate c.args.key) c.args.file.now.sound
    (let low = c.requires.key in omega (arith, low))) c.requires.bytes

pub returns-clause-repeated : goal.returns-clause-repeated
returns-clause-repeated g c = λ honest agrees rows pairs.
    let at = (goal.at.returns-clause-repeated g c).After-is_value_there in
    let spec : Spec = spec_of c.args.file.now in
    let place : KeyPlace = place_of spec (Alternate c.args.key) in
    let key : AlternateKey = slice_index_or spec.alternates c.args.key no_key in
    subst
    (λ (b : Bool). IfOk c.is_value_there.result (λ there. there ≡ (b && repeats rows c.args.new_record.bytes.now key)))
    (sym (sym c.is_new_value.ensures ∙ c.if-not-is_new_value.false))
    (subst (λ (v : List ℕ).
    IfOk c.is_value_there.result (λ there. there ≡ list_any (λ row. same_bytes (part place row.bytes) v) rows))
    (value_is g at) (c.is_value_there.ensures.there honest agrees spec c.args.key rows (here g at pairs)
    (ap (λ (l : List ℕ). length l) (value_is g at) ∙ long g at)))

pub returns-then-not-is_new_value-clause-repeated : goal.returns-then-not-is_new_value-clause-repeated
returns-then-not-is_new_value-clause-repeated g c = λ honest agrees rows pairs.
    let spec : Spec = spec_of c.args.file.now in
    let key : AlternateKey = slice_index_or spec.alternates c.args.key no_key in
    sym (ap (λ (b : Bool). b && repeats rows c.args.new_record.bytes.now key)
    (sym c.is_new_value.ensures ∙ c.if-not-is_new_value.true))

pub returns-clause-damaged : goal.returns-clause-damaged
returns-clause-damaged g c = λ honest agrees rows pairs is.
    c.is_value_there.ensures.damaged honest agrees (spec_of c.args.file.now) c.args.key rows
    (here g (goal.at.returns-clause-damaged g c).After-is_value_there pairs) is
