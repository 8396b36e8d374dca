-- What a new row does to the trees of a file.
use Rattle.std.specs.Prelude.{◌≡◌, List, map}
use Rattle.std.specs.List.{All}
use Rattle.btree.specs.Entries.{Entry, with_new_entry}
use Rattle.records.specs.declared.key.KeyOfReference.{KeyOfReference}
use Rattle.records.specs.declared.key.KeyOfReference.TheVariants.{Prime}
use Rattle.records.specs.Spec.{Spec}
use Rattle.records.specs.Rows.{Row}
use Rattle.records.specs.Changes.{with_row}
use Rattle.volume_format.specs.Trees.{entry_under, AreOf}
use Rattle.volume_format.specs.Pairs.{IsUnder}

-- its entry comes to the place that the row comes to
abbrev pub RowComes : Type 0
RowComes = (spec : Spec) (rows : List Row) (new : Row) → All (IsUnder spec Prime) rows → IsUnder spec Prime new →
    with_new_entry (map (entry_under spec Prime) rows) (entry_under spec Prime new) ≡ map (entry_under spec Prime) (with_row spec.organization new rows)

-- and its pair to those of the others
abbrev pub PairComes : Type 0
PairComes = (spec : Spec) (key : KeyOfReference) (rows : List Row) (entries : List Entry) (new : Row) → AreOf spec key rows entries →
    AreOf spec key (with_row spec.organization new rows) (with_new_entry entries (entry_under spec key new))
