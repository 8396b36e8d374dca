-- The tree of rows on its pages, without its chains.
use Rattle.std.proofs.Common.{◌≡◌, ℕ, List, refl, ap, subst, ◌∙◌}
use Rattle.std.specs.Prelude.{Option, Some, None, is_some}
use Rattle.std.specs.Option.{option_map}
use Rattle.station.specs.Disk.{Sector}
use Rattle.btree.specs.Entries.{Entry, entries_of, entry_with}
use Rattle.btree.specs.Rooted.{RootedTree}
use Rattle.btree.specs.Tree.{IsTreeOrEmpty}
use Rattle.chains.specs.Rows.{unrolled_entry}
use Rattle.chains.proofs.Entries.{found_as}
use Rattle.chains.proofs.Rows.{keys_kept}
use Rattle.records.specs.Rows.{Row}
use Rattle.records.specs.Spec.{Spec}
use Rattle.volume_format.specs.Chained.{form_of}
use Rattle.volume_format.specs.Forest.{stored_entries}
use Rattle.alternate_keys.specs.Seen.{HasRows, row_tree_of}

pub rows_stand : {spec : Spec} {pages : List (Option Sector)} {rows : List Row} {tree : RootedTree}
    (has : HasRows spec pages rows (row_tree_of spec tree))
    → IsTreeOrEmpty tree.layout pages tree.root has.planted.levels
rows_stand {pages} has = subst (λ (t : RootedTree). IsTreeOrEmpty t.layout pages t.root has.planted.levels)
    has.stands.tree_is has.stands.grows.stands

some_kept : (f : Entry → Entry) (o : Option Entry) → is_some (option_map f o) ≡ is_some o
some_kept f None = refl
some_kept f (Some entry) = refl

-- a key is there or not, whether the entries are seen with their records or not
pub there_seen : {spec : Spec} (pages : List (Option Sector)) {rows : List Row} {tree : RootedTree}
    (has : HasRows spec pages rows (row_tree_of spec tree)) (key : List ℕ) →
    is_some (entry_with has.planted.entries key)
    ≡ is_some (entry_with (entries_of tree.layout has.planted.levels) key)
there_seen pages has key =
    let form = form_of has.planted.record_bytes in
    let stored = stored_entries has.planted in
    ap (λ (es : List Entry). is_some (entry_with es key)) has.stands.grows.entries_are
    ∙ ap is_some (found_as (unrolled_entry form pages) (keys_kept form pages) stored key)
    ∙ some_kept (unrolled_entry form pages) (entry_with stored key)
    ∙ ap (λ (t : RootedTree). is_some (entry_with (entries_of t.layout has.planted.levels) key)) has.stands.tree_is
