use Rattle.std.proofs.Common.{List, sym, ap, ◌∙◌, arith}
use Rattle.std.proofs.lemmas.List.{length-map}
use Rattle.records.specs.declared.key.KeyOfReference.TheVariants.{Alternate}
use Rattle.records.specs.Rows.{Row, pair_under}
use Rattle.records.specs.Stores.{spec_of}
use Rattle.volume_format.specs.Trees.{key_under}
use Rattle.file_bytes.specs.Stored.{row_of, rows_of}
use Rattle.file_recovery.proofs.PairsOf.{found_pair, no_pair, other_pair}
use Rattle.file_recovery.proofs.Placed.{row_placed, sized_at}
use Rattle.file_recovery.proofs.pairs.is_pair.Goals as goal

pub returns-in-Some-clause-no : goal.returns-in-Some-clause-no
returns-in-Some-clause-no c = λ up told own.
    let spec = spec_of c.args.file.now in
    let rows : List Row = rows_of c.args.rows.now in
    let many = length-map c.args.rows.now row_of in
    let low = c.in-Some.ensures.place in
    let row = row_placed c.args.rows.now c.in-Some.place c.index-rows-place.result low c.index-rows-place.is in
    other_pair spec c.args.key rows c.args.entry.now up c.in-Some.place (omega (arith, low, many))
    (c.in-Some.ensures.found ∙ c.value.ensures)
    (λ key. c.has_pair_key.ensures.no told
    (ap (λ (r : Row). key_under spec (Alternate c.args.key) (pair_under spec (Alternate c.args.key) r)) row ∙ key
    ∙ sym c.key.ensures)) own

pub returns-in-None-clause-no : goal.returns-in-None-clause-no
returns-in-None-clause-no c = λ up told own.
    let many = length-map c.args.rows.now row_of in
    no_pair (spec_of c.args.file.now) c.args.key (rows_of c.args.rows.now) c.args.entry.now
    (λ k low same. c.find_row.ensures.missing up c.in-None.is k (omega (arith, low, many)) (same ∙ sym c.value.ensures))
    own

pub has_pair_key-requires-clause-row : goal.has_pair_key-requires-clause-row
has_pair_key-requires-clause-row c =
    sized_at (spec_of c.args.file.now) c.args.rows.now c.in-Some.place c.index-rows-place.result c.in-Some.ensures.place
    c.index-rows-place.is c.requires.rows

pub returns-in-Some-clause-yes : goal.returns-in-Some-clause-yes
returns-in-Some-clause-yes c = λ told.
    let spec = spec_of c.args.file.now in
    let rows : List Row = rows_of c.args.rows.now in
    let many = length-map c.args.rows.now row_of in
    let low = c.in-Some.ensures.place in
    let row = row_placed c.args.rows.now c.in-Some.place c.index-rows-place.result low c.index-rows-place.is in
    found_pair spec c.args.key rows c.args.entry.now c.in-Some.place (omega (arith, low, many))
    (c.in-Some.ensures.found ∙ c.value.ensures)
    (sym (ap (λ (r : Row). key_under spec (Alternate c.args.key) (pair_under spec (Alternate c.args.key) r)) row)
    ∙ c.has_pair_key.ensures.yes told ∙ c.key.ensures)
