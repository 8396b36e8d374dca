use Rattle.std.proofs.Common.{◌≡◌, ◌+◌, ◌++◌, inr, Err, ℕ, List, [], ◌∷◌, length, refl, sym, ap, subst, ◌∙◌, arith}
use Rattle.std.specs.Prelude.{map, Option, IfSome, IfErr}
use Rattle.std.proofs.lemmas.List.{length-map}
use Rattle.std.proofs.lemmas.Result.{IfOk-weaker}
use Rattle.pages.specs.Image.{Map}
use Rattle.pages.specs.Pages.{map_now, Agrees}
use Rattle.btree_pages.specs.declared.row_layout.RowLayout.{RowLayout}
use Rattle.btree.specs.Builds.{rows_of_nodes}
use Rattle.btree.specs.Calls.{pages_on}
use Rattle.btree.specs.Entries.{Entry, HasLengths, entries_of, entries_of_rows, first_entry_after}
use Rattle.btree.specs.Tree.{IsTreeOrEmpty}
use Rattle.btree.proofs.Ascending.{entry_at, some_at}
use Rattle.btree.proofs.Frames.{same_pages}
use Rattle.records.specs.declared.fault.StoreFault.TheVariants.{Device, Damaged}
use Rattle.records.specs.Files.{Files}
use Rattle.volume_format.specs.Calls.{LooksAt}
use Rattle.volume_format.specs.Catalog.{catalog_layout, catalog_value}
use Rattle.volume_format.specs.Volume.{FileTrees, MapHolds, catalog_entry}
use Rattle.volume_format.proofs.Looks.{looks_blamed, looks_then}
use Rattle.alternate_keys.specs.Created.{OnFiles}
use Rattle.alternate_keys.specs.Faults.{IsReadFault}
use Rattle.alternate_keys.specs.Migrated.{AreFilled}
use Rattle.alternate_keys.proofs.Calling.{sectors_still}
use Rattle.alternate_keys.proofs.CatalogEntries.{catalog_there, first_listed, next_listed}
use Rattle.alternate_keys.proofs.CatalogLeaves.{AreListed, leaf_capacity, leaf_value}
use Rattle.alternate_keys.proofs.CatalogLeaves.{listed_all, none_filled, none_listed, own_lengths}
use Rattle.alternate_keys.proofs.CatalogLeaves.{row_inserted, row_listed, trees_now}
use Rattle.alternate_keys.proofs.Faults.{memory_reads, never_damaged, never_device, never_spent, refused_by_call}
use Rattle.alternate_keys.proofs.FilledPages.{agreed_bounds}
use Rattle.alternate_keys.proofs.Migrating.{IsFileAt, file_at_entry}
use Rattle.alternate_keys.proofs.Passing.{damaged_not_device, damaged_not_spent, if_refused, memory_is_read}
use Rattle.alternate_keys.proofs.Passing.{passed, spent_before}
use Rattle.alternate_keys.proofs.second_mark.counted_leaves.Given.{Over}
use Rattle.alternate_keys.proofs.second_mark.counted_leaves.Goals as goal
use Rattle.alternate_keys.proofs.second_mark.counted_leaves.Goals.{After-counted_value, After-next_in}

pub loop-turn-init : goal.loop-turn-init
loop-turn-init g c = record {
  looks = looks_blamed g.D.Device _ ⊥ _ _ _ _ (λ is. absurd is) c.first_in.ensures.looks;
  next_is = λ honest agrees files holds.
      first_listed (map_now c.args.pages.now (g.D.Device.state c.args.device.now).disk.present) files holds
      c.requires.mark c.catalog_tree-catalog.result c.catalog_tree-catalog.ensures.layout
      (c.catalog_tree-catalog.ensures.root ∙ c.catalog.ensures) c.in_ok-next.next
      (c.in_ok-next.ensures.entry honest agrees holds.keeps.catalog);
  lengths = subst (λ (l : RowLayout). IfSome c.in_ok-next.next (HasLengths l)) c.catalog_tree-catalog.ensures.layout
      c.in_ok-next.ensures.lengths;
  fills = none_filled _ _ _ c.new-leaves.ensures.items c.new-leaf.ensures
      (c.layout-layout.ensures.is ∙ c.catalog_tree.ensures.layout);
  lists = λ honest agrees files holds. none_listed holds.kept _ _ _ c.new-leaves.ensures.items c.new-leaf.ensures;
}

-- what has been looked at
seen : (g : Over) (c : After-counted_value g) → LooksAt g.D.Device ⊥ c.args.pages.now c.args.device.now
    c.counted_value.new.pages c.counted_value.new.device
seen g c =
    let loop = c.loop-turn in
    looks_then g.D.Device ⊥ (c.counted_value.result ≡ Err Device) ⊥ c.args.pages.now loop.pages
    c.counted_value.new.pages c.args.device.now loop.device c.counted_value.new.device (λ is. absurd is)
    loop.invariant.looks c.counted_value.ensures.looks

pub returns-in_err-next-clause-damaged : goal.returns-in_err-next-clause-damaged
returns-in_err-next-clause-damaged g c = λ honest agrees files holds refused.
    let m : Map = map_now c.args.pages.now (g.D.Device.state c.args.device.now).disk.present in
    c.first_in.ensures.damaged honest agrees holds.keeps.catalog
    (catalog_there m files holds c.requires.mark c.catalog_tree-catalog.result c.catalog_tree-catalog.ensures.layout
    (c.catalog_tree-catalog.ensures.root ∙ c.catalog.ensures) m.pages refl)
    (refused_by_call c.in_err-next.was c.from_residual.ensures.1 refused)

pub returns-in_err-value-in-Some-clause-looks : goal.returns-in_err-value-in-Some-clause-looks
returns-in_err-value-in-Some-clause-looks g c =
    let loop = c.loop-turn in
    looks_then g.D.Device ⊥ (c.counted_value.result ≡ Err Device) _ c.args.pages.now loop.pages
    c.counted_value.new.pages c.args.device.now loop.device c.counted_value.new.device
    (λ is. inr (refused_by_call c.in_err-value-in-Some.was c.from_residual-in_err-value-in-Some.ensures.1 is))
    loop.invariant.looks c.counted_value.ensures.looks

pub returns-in_err-value-in-Some-clause-damaged : goal.returns-in_err-value-in-Some-clause-damaged
returns-in_err-value-in-Some-clause-damaged g c = λ honest agrees files holds refused.
    let loop = c.loop-turn in
    let looks = loop.invariant.looks in
    let bounds = agreed_bounds c.args.pages.now (g.D.Device.state c.args.device.now).disk c.map_bounds.ensures.held
    agrees in
    let at = file_at_entry 0 loop.turn c.in-Some.entry holds.kept
    (sym (loop.invariant.next_is honest agrees files holds) ∙ c.in-Some.is) in
    c.counted_value.ensures.damaged (looks.only.honest.0 honest) (looks.agrees honest agrees) _ _ _ _ _
    (trees_now g.D.Device c.args.pages.now loop.pages c.args.device.now loop.device files holds loop.turn
    c.in-Some.entry at honest looks bounds.0 bounds.1)
    (refused_by_call c.in_err-value-in-Some.was c.from_residual-in_err-value-in-Some.ensures.1 refused)

pub returns-in_err-make_room-in-Some-clause-looks : goal.returns-in_err-make_room-in-Some-clause-looks
returns-in_err-make_room-in-Some-clause-looks g c =
    let at = goal.at.returns-in_err-make_room-in-Some-clause-looks g c in
    looks_blamed g.D.Device ⊥ _ c.args.pages.now c.counted_value.new.pages c.args.device.now
    c.counted_value.new.device (λ is. never_device c.make_room.result c.make_room.ensures.memory
    (refused_by_call c.in_err-make_room-in-Some.was c.from_residual-in_err-make_room-in-Some.ensures.1 is))
    (seen g at.After-counted_value)

pub insert-requires-clause-room : goal.insert-requires-clause-room
insert-requires-clause-room g c =
    let filled = c.in_ok-make_room-in-Some.ensures.fills c.loop-turn.turn c.loop-turn.invariant.fills in
    let most = leaf_capacity c.make_room.new.leaf filled.0.like filled.0.kind in
    let room = filled.1 in
    omega (arith, room, most)

pub insert-requires-clause-key : goal.insert-requires-clause-key
insert-requires-clause-key g c =
    let filled = c.in_ok-make_room-in-Some.ensures.fills c.loop-turn.turn c.loop-turn.invariant.fills in
    let own = own_lengths c.loop-turn.next c.in-Some.entry c.in-Some.is c.loop-turn.invariant.lengths in
    ap (λ (l : List ℕ). length l) c.key.ensures ∙ own.0 ∙ sym (ap (λ (l : RowLayout). l.key_length) filled.0.like)

pub insert-requires-clause-rest : goal.insert-requires-clause-rest
insert-requires-clause-rest g c =
    let filled = c.in_ok-make_room-in-Some.ensures.fills c.loop-turn.turn c.loop-turn.invariant.fills in
    ap (λ (l : List ℕ). length l) c.deref.ensures.value ∙ c.in_ok-value-in-Some.ensures.long
    ∙ sym (leaf_value c.make_room.new.leaf filled.0.like filled.0.kind)

pub returns-in_err-next-in-Some-clause-looks : goal.returns-in_err-next-in-Some-clause-looks
returns-in_err-next-in-Some-clause-looks g c =
    let at = goal.at.returns-in_err-next-in-Some-clause-looks g c in
    looks_then g.D.Device ⊥ (c.next_in.result ≡ Err Device) _ c.args.pages.now c.counted_value.new.pages
    c.next_in.new.pages c.args.device.now c.counted_value.new.device c.next_in.new.device
    (λ is. inr (refused_by_call c.in_err-next-in-Some.was c.from_residual-in_err-next-in-Some.ensures.1 is))
    (seen g at.After-counted_value) c.next_in.ensures.looks

-- the catalog is there still
still_there : (g : Over) (c : After-counted_value g) → g.D.Device.is_honest c.args.device.now → (files : Files)
    → (holds : MapHolds (map_now c.args.pages.now (g.D.Device.state c.args.device.now).disk.present) files)
    → IsTreeOrEmpty c.catalog_tree-catalog.result.layout
    (pages_on g.D.Device c.counted_value.new.pages c.counted_value.new.device) c.catalog_tree-catalog.result.root
    holds.keeps.catalog
still_there g c honest files holds =
    let m : Map = map_now c.args.pages.now (g.D.Device.state c.args.device.now).disk.present in
    let looks = seen g c in
    catalog_there m files holds c.requires.mark c.catalog_tree-catalog.result c.catalog_tree-catalog.ensures.layout
    (c.catalog_tree-catalog.ensures.root ∙ c.catalog.ensures)
    (pages_on g.D.Device c.counted_value.new.pages c.counted_value.new.device)
    (same_pages c.args.pages.now c.counted_value.new.pages (g.D.Device.state c.args.device.now)
    (g.D.Device.state c.counted_value.new.device) looks.unchanged (looks.only.state honest))

pub returns-in_err-next-in-Some-clause-damaged : goal.returns-in_err-next-in-Some-clause-damaged
returns-in_err-next-in-Some-clause-damaged g c = λ honest agrees files holds refused.
    let at = goal.at.returns-in_err-next-in-Some-clause-damaged g c in
    let looks = seen g at.After-counted_value in
    c.next_in.ensures.damaged (looks.only.honest.0 honest) (looks.agrees honest agrees) holds.keeps.catalog
    (still_there g at.After-counted_value honest files holds)
    (refused_by_call c.in_err-next-in-Some.was c.from_residual-in_err-next-in-Some.ensures.1 refused)

pub returns-in-None-clause-lists : goal.returns-in-None-clause-lists
returns-in-None-clause-lists g c = λ honest agrees files holds.
    let loop = c.loop-turn in
    IfOk-weaker c.with_last.result _ _ (λ all is. ap (entries_of_rows (catalog_layout 1)) is
    ∙ listed_all holds.kept loop.turn (rows_of_nodes loop.leaves.items ++ loop.leaf.rows)
    (loop.invariant.lists honest agrees files holds)
    (sym (loop.invariant.next_is honest agrees files holds) ∙ c.in-None.is)) c.with_last.ensures.rows

pub returns-in-None-next-clause-lists : goal.returns-in-None-next-clause-lists
returns-in-None-next-clause-lists g c = λ honest agrees files holds.
    let loop = c.loop-turn in
    IfOk-weaker c.with_last-in-None-next.result _ _ (λ all is. ap (entries_of_rows (catalog_layout 1)) is
    ∙ listed_all holds.kept loop.turn (rows_of_nodes loop.leaves.items ++ loop.leaf.rows)
    (loop.invariant.lists honest agrees files holds)
    (sym (loop.invariant.next_is honest agrees files holds) ∙ c.in-None-next.is)) c.with_last-in-None-next.ensures.rows

pub returns-in-Some-next-clause-damaged : goal.returns-in-Some-next-clause-damaged
returns-in-Some-next-clause-damaged g c = λ honest agrees files holds is.
    let loop = c.loop-turn in
    let entries : List Entry = map (catalog_entry 0) holds.kept in
    let count : length files ≡ length holds.kept =
    ap (λ (l : Files). length l) (sym holds.named) ∙ length-map holds.kept (λ (k : FileTrees). k.named) in
    let many : length entries ≡ length holds.kept = length-map holds.kept (catalog_entry 0) in
    let more = some_at entries loop.turn c.in-Some-next.field-0
    (sym (loop.invariant.next_is honest agrees files holds) ∙ c.in-Some-next.is) in
    let test = c.loop-turn-test.false in
    let most = holds.are.count in
    omega (arith, more, many, count, test, most)

-- the file of the entry, and its number of rows
file_then : (g : Over) (c : After-next_in g) → (files : Files)
    → (holds : MapHolds (map_now c.args.pages.now (g.D.Device.state c.args.device.now).disk.present) files)
    → c.loop-turn.next ≡ entry_at c.loop-turn.turn (map (catalog_entry 0) holds.kept)
    → IsFileAt 0 c.loop-turn.turn c.in-Some.entry holds.kept
file_then g c files holds was = file_at_entry 0 c.loop-turn.turn c.in-Some.entry holds.kept (sym was ∙ c.in-Some.is)

value_then : (g : Over) (c : After-next_in g) → g.D.Device.is_honest c.args.device.now
    → Agrees c.args.pages.now (g.D.Device.state c.args.device.now).disk → (files : Files)
    → (holds : MapHolds (map_now c.args.pages.now (g.D.Device.state c.args.device.now).disk.present) files)
    → (at : IsFileAt 0 c.loop-turn.turn c.in-Some.entry holds.kept) → c.in_ok-value-in-Some.value.items
    ≡ catalog_value 1 c.in-Some.entry.value (length at.one.named.file.rows)
value_then g c honest agrees files holds at =
    let loop = c.loop-turn in
    let looks = loop.invariant.looks in
    let bounds = agreed_bounds c.args.pages.now (g.D.Device.state c.args.device.now).disk c.map_bounds.ensures.held
    agrees in
    c.in_ok-value-in-Some.ensures.value (looks.only.honest.0 honest) (looks.agrees honest agrees) _ _ _ _ _
    (trees_now g.D.Device c.args.pages.now loop.pages c.args.device.now loop.device files holds loop.turn
    c.in-Some.entry at honest looks bounds.0 bounds.1)

-- the entry's row is that of its file, with the number of rows
row_then : (g : Over) (c : After-next_in g) → OnFiles g.D.Device c.args.pages.now c.args.device.now (λ files holds.
    AreListed (c.loop-turn.turn + 1) holds.kept ((rows_of_nodes c.make_room.new.leaves.items
    ++ c.make_room.new.leaf.rows) ++ (c.in-Some.entry.key ++ c.in_ok-value-in-Some.value.items) ∷ []))
row_then g c honest agrees files holds =
    let loop = c.loop-turn in
    let at = file_then g c files holds (loop.invariant.next_is honest agrees files holds) in
    row_listed holds.kept loop.turn (rows_of_nodes loop.leaves.items ++ loop.leaf.rows)
    (rows_of_nodes c.make_room.new.leaves.items ++ c.make_room.new.leaf.rows) c.in-Some.entry
    c.in_ok-value-in-Some.value.items at (own_lengths loop.next c.in-Some.entry c.in-Some.is loop.invariant.lengths)
    c.in_ok-make_room-in-Some.ensures.rows (loop.invariant.lists honest agrees files holds)
    (value_then g c honest agrees files holds at)

-- what has been looked at after the next entry
seen_then : (g : Over) (c : After-next_in g) → LooksAt g.D.Device ⊥ c.args.pages.now c.args.device.now
    c.next_in.new.pages c.next_in.new.device
seen_then g c =
    let loop = c.loop-turn in
    looks_then g.D.Device (c.counted_value.result ≡ Err Device) (c.next_in.result ≡ Err Device) ⊥ c.args.pages.now
    c.counted_value.new.pages c.next_in.new.pages c.args.device.now c.counted_value.new.device c.next_in.new.device
    (λ is. absurd is)
    (looks_then g.D.Device ⊥ (c.counted_value.result ≡ Err Device) (c.counted_value.result ≡ Err Device)
    c.args.pages.now loop.pages c.counted_value.new.pages c.args.device.now loop.device c.counted_value.new.device
    (λ is. inr is) loop.invariant.looks c.counted_value.ensures.looks) c.next_in.ensures.looks

-- the entry after it
next_then : (g : Over) (c : After-next_in g) → (files : Files)
    → (holds : MapHolds (map_now c.args.pages.now (g.D.Device.state c.args.device.now).disk.present) files)
    → c.loop-turn.next ≡ entry_at c.loop-turn.turn (map (catalog_entry 0) holds.kept) → (next : Option Entry)
    → next ≡ first_entry_after (entries_of c.catalog_tree-catalog.result.layout holds.keeps.catalog)
    c.in-Some.entry.key → next ≡ entry_at (c.loop-turn.turn + 1) (map (catalog_entry 0) holds.kept)
next_then g c files holds was next is =
    next_listed (map_now c.args.pages.now (g.D.Device.state c.args.device.now).disk.present) files holds
    c.requires.mark c.catalog_tree-catalog.result c.catalog_tree-catalog.ensures.layout
    (c.catalog_tree-catalog.ensures.root ∙ c.catalog.ensures) c.loop-turn.turn c.in-Some.entry next
    (sym was ∙ c.in-Some.is) is

-- its row is in the leaf
row_there : (g : Over) (c : After-next_in g)
    → AreFilled (c.loop-turn.turn + 1) c.make_room.new.leaves.items c.insert.new.self
    × (rows_of_nodes c.make_room.new.leaves.items ++ c.insert.new.self.rows
    ≡ (rows_of_nodes c.make_room.new.leaves.items ++ c.make_room.new.leaf.rows)
    ++ (c.in-Some.entry.key ++ c.in_ok-value-in-Some.value.items) ∷ [])
row_there g c =
    let filled = c.in_ok-make_room-in-Some.ensures.fills c.loop-turn.turn c.loop-turn.invariant.fills in
    row_inserted c.loop-turn.turn c.make_room.new.leaves.items c.make_room.new.leaf c.insert.new.self c.count.result
    c.key.result.now c.deref.result.now c.in-Some.entry c.in_ok-value-in-Some.value.items filled.0 filled.1
    c.insert.ensures c.count.ensures.rows c.key.ensures c.deref.ensures.value

lists_then : (g : Over) (c : After-next_in g) → OnFiles g.D.Device c.args.pages.now c.args.device.now (λ files holds.
    AreListed (c.loop-turn.turn + 1) holds.kept
    (rows_of_nodes c.make_room.new.leaves.items ++ c.insert.new.self.rows))
lists_then g c honest agrees files holds =
    subst (AreListed (c.loop-turn.turn + 1) holds.kept) (sym (row_there g c).1) (row_then g c honest agrees files holds)

pub loop-turn-preserved : goal.loop-turn-preserved
loop-turn-preserved g c =
    let at = goal.at.loop-turn-preserved g c in
    let looks = seen g at.After-counted_value in
    record {
      looks = seen_then g at.After-next_in;
      next_is = λ honest agrees files holds. next_then g at.After-next_in files holds
          (c.loop-turn.invariant.next_is honest agrees files holds) c.in_ok-next-in-Some.next
          (c.in_ok-next-in-Some.ensures.entry (looks.only.honest.0 honest) (looks.agrees honest agrees)
          holds.keeps.catalog (still_there g at.After-counted_value honest files holds));
      lengths = subst (λ (l : RowLayout). IfSome c.in_ok-next-in-Some.next (HasLengths l))
          c.catalog_tree-catalog.ensures.layout c.in_ok-next-in-Some.ensures.lengths;
      fills = (row_there g at.After-next_in).0;
      lists = lists_then g at.After-next_in;
    }

pub counted_value-requires-clause-sectors : goal.counted_value-requires-clause-sectors
counted_value-requires-clause-sectors g c =
    let looks = c.loop-turn.invariant.looks in
    sectors_still g.D.Device _ c.args.pages.now c.loop-turn.pages c.args.device.now c.loop-turn.device looks.only
    looks.unchanged.committed c.requires.sectors

pub counted_value-requires-clause-long : goal.counted_value-requires-clause-long
counted_value-requires-clause-long g c =
    (own_lengths c.loop-turn.next c.in-Some.entry c.in-Some.is c.loop-turn.invariant.lengths).1

pub insert-requires-clause-place : goal.insert-requires-clause-place
insert-requires-clause-place g c =
    let rows = c.count.ensures.rows in
    omega (arith, rows)

pub next_in-requires : goal.next_in-requires
next_in-requires g c =
    let looks = seen g (goal.at.next_in-requires g c).After-counted_value in
    record {
      sectors = sectors_still g.D.Device _ c.args.pages.now c.counted_value.new.pages c.args.device.now
          c.counted_value.new.device looks.only looks.unchanged.committed c.requires.sectors;
    }

pub returns-in_err-next-clause-leaves : goal.returns-in_err-next-clause-leaves
returns-in_err-next-clause-leaves g c =
    if_refused c.from_residual.result c.in_err-next.field-0.0
    c.from_residual.ensures.1 _

pub returns-in_err-next-clause-lists : goal.returns-in_err-next-clause-lists
returns-in_err-next-clause-lists g c = λ honest agrees files holds.
    if_refused c.from_residual.result c.in_err-next.field-0.0
    c.from_residual.ensures.1 _

pub returns-in_err-next-clause-looks : goal.returns-in_err-next-clause-looks
returns-in_err-next-clause-looks g c =
    looks_blamed g.D.Device (c.first_in.result ≡ Err Device) _ _ _ _ _
    (λ is. refused_by_call c.in_err-next.was c.from_residual.ensures.1 is) c.first_in.ensures.looks

pub returns-in_err-next-clause-spent : goal.returns-in_err-next-clause-spent
returns-in_err-next-clause-spent g c =
    λ is. c.first_in.ensures.spent (refused_by_call c.in_err-next.was c.from_residual.ensures.1 is)

pub returns-in_err-next-clause-cause : goal.returns-in_err-next-clause-cause
returns-in_err-next-clause-cause g c =
    passed c.from_residual.result c.in_err-next.field-0.0 c.from_residual.ensures.1 (λ q. IfErr q IsReadFault)
    c.in_err-next.ensures.cause

pub returns-in_err-value-in-Some-clause-leaves : goal.returns-in_err-value-in-Some-clause-leaves
returns-in_err-value-in-Some-clause-leaves g c =
    if_refused c.from_residual-in_err-value-in-Some.result c.in_err-value-in-Some.field-0.0
    c.from_residual-in_err-value-in-Some.ensures.1 _

pub returns-in_err-value-in-Some-clause-lists : goal.returns-in_err-value-in-Some-clause-lists
returns-in_err-value-in-Some-clause-lists g c = λ honest agrees files holds.
    if_refused c.from_residual-in_err-value-in-Some.result c.in_err-value-in-Some.field-0.0
    c.from_residual-in_err-value-in-Some.ensures.1 _

pub returns-in_err-value-in-Some-clause-spent : goal.returns-in_err-value-in-Some-clause-spent
returns-in_err-value-in-Some-clause-spent g c =
    λ is. spent_before c.args.pages.now c.loop-turn.pages c.loop-turn.invariant.looks.unchanged.committed
    (c.counted_value.ensures.spent
    (refused_by_call c.in_err-value-in-Some.was c.from_residual-in_err-value-in-Some.ensures.1 is))

pub returns-in_err-value-in-Some-clause-cause : goal.returns-in_err-value-in-Some-clause-cause
returns-in_err-value-in-Some-clause-cause g c =
    passed c.from_residual-in_err-value-in-Some.result c.in_err-value-in-Some.field-0.0
    c.from_residual-in_err-value-in-Some.ensures.1 (λ q. IfErr q IsReadFault) c.in_err-value-in-Some.ensures.cause

pub returns-in_err-make_room-in-Some-clause-leaves : goal.returns-in_err-make_room-in-Some-clause-leaves
returns-in_err-make_room-in-Some-clause-leaves g c =
    if_refused c.from_residual-in_err-make_room-in-Some.result c.in_err-make_room-in-Some.field-0.0
    c.from_residual-in_err-make_room-in-Some.ensures.1 _

pub returns-in_err-make_room-in-Some-clause-lists : goal.returns-in_err-make_room-in-Some-clause-lists
returns-in_err-make_room-in-Some-clause-lists g c = λ honest agrees files holds.
    if_refused c.from_residual-in_err-make_room-in-Some.result c.in_err-make_room-in-Some.field-0.0
    c.from_residual-in_err-make_room-in-Some.ensures.1 _

pub returns-in_err-make_room-in-Some-clause-damaged : goal.returns-in_err-make_room-in-Some-clause-damaged
returns-in_err-make_room-in-Some-clause-damaged g c = λ honest agrees files holds refused.
    never_damaged c.make_room.result c.make_room.ensures.memory
    (refused_by_call c.in_err-make_room-in-Some.was c.from_residual-in_err-make_room-in-Some.ensures.1 refused)

pub returns-in_err-make_room-in-Some-clause-spent : goal.returns-in_err-make_room-in-Some-clause-spent
returns-in_err-make_room-in-Some-clause-spent g c =
    λ is. absurd (never_spent c.make_room.result c.make_room.ensures.memory
    (refused_by_call c.in_err-make_room-in-Some.was c.from_residual-in_err-make_room-in-Some.ensures.1 is))

pub returns-in_err-make_room-in-Some-clause-cause : goal.returns-in_err-make_room-in-Some-clause-cause
returns-in_err-make_room-in-Some-clause-cause g c =
    passed c.from_residual-in_err-make_room-in-Some.result c.in_err-make_room-in-Some.field-0.0
    c.from_residual-in_err-make_room-in-Some.ensures.1 (λ q. IfErr q IsReadFault)
    (memory_is_read c.in_err-make_room-in-Some.field-0.0 c.in_err-make_room-in-Some.ensures.memory)

pub returns-in_err-next-in-Some-clause-leaves : goal.returns-in_err-next-in-Some-clause-leaves
returns-in_err-next-in-Some-clause-leaves g c =
    if_refused c.from_residual-in_err-next-in-Some.result c.in_err-next-in-Some.field-0.0
    c.from_residual-in_err-next-in-Some.ensures.1 _

pub returns-in_err-next-in-Some-clause-lists : goal.returns-in_err-next-in-Some-clause-lists
returns-in_err-next-in-Some-clause-lists g c = λ honest agrees files holds.
    if_refused c.from_residual-in_err-next-in-Some.result c.in_err-next-in-Some.field-0.0
    c.from_residual-in_err-next-in-Some.ensures.1 _

pub returns-in_err-next-in-Some-clause-spent : goal.returns-in_err-next-in-Some-clause-spent
returns-in_err-next-in-Some-clause-spent g c = λ is.
    let looks = seen g (goal.at.returns-in_err-next-in-Some-clause-spent g c).After-counted_value in
    spent_before c.args.pages.now c.counted_value.new.pages looks.unchanged.committed
    (c.next_in.ensures.spent
    (refused_by_call c.in_err-next-in-Some.was c.from_residual-in_err-next-in-Some.ensures.1 is))

pub returns-in_err-next-in-Some-clause-cause : goal.returns-in_err-next-in-Some-clause-cause
returns-in_err-next-in-Some-clause-cause g c =
    passed c.from_residual-in_err-next-in-Some.result c.in_err-next-in-Some.field-0.0
    c.from_residual-in_err-next-in-Some.ensures.1 (λ q. IfErr q IsReadFault) c.in_err-next-in-Some.ensures.cause

pub with_last-requires-clause-few : goal.with_last-requires-clause-few
with_last-requires-clause-few g c =
    let count = c.loop-turn.invariant.fills.count in
    let low = c.loop-turn.auto.turn-end in
    omega (arith, count, low)

pub returns-in-None-clause-looks : goal.returns-in-None-clause-looks
returns-in-None-clause-looks g c =
    looks_blamed g.D.Device ⊥ _ _ _ _ _
    (λ is. never_device c.with_last.result c.with_last.ensures.memory is) c.loop-turn.invariant.looks

pub returns-in-None-clause-damaged : goal.returns-in-None-clause-damaged
returns-in-None-clause-damaged g c = λ honest agrees files holds is.
    never_damaged c.with_last.result c.with_last.ensures.memory is

pub returns-in-None-clause-spent : goal.returns-in-None-clause-spent
returns-in-None-clause-spent g c =
    λ is. absurd (never_spent c.with_last.result c.with_last.ensures.memory is)

pub returns-in-None-clause-cause : goal.returns-in-None-clause-cause
returns-in-None-clause-cause g c = memory_reads c.with_last.result c.with_last.ensures.memory

pub with_last-requires-in-None-next-clause-few : goal.with_last-requires-in-None-next-clause-few
with_last-requires-in-None-next-clause-few g c =
    let count = c.loop-turn.invariant.fills.count in
    let low = c.loop-turn.auto.turn-end in
    omega (arith, count, low)

pub returns-in-None-next-clause-looks : goal.returns-in-None-next-clause-looks
returns-in-None-next-clause-looks g c =
    looks_blamed g.D.Device ⊥ _ _ _ _ _
    (λ is. never_device c.with_last-in-None-next.result c.with_last-in-None-next.ensures.memory is)
    c.loop-turn.invariant.looks

pub returns-in-None-next-clause-damaged : goal.returns-in-None-next-clause-damaged
returns-in-None-next-clause-damaged g c = λ honest agrees files holds is.
    never_damaged c.with_last-in-None-next.result c.with_last-in-None-next.ensures.memory is

pub returns-in-None-next-clause-spent : goal.returns-in-None-next-clause-spent
returns-in-None-next-clause-spent g c =
    λ is. absurd (never_spent c.with_last-in-None-next.result c.with_last-in-None-next.ensures.memory is)

pub returns-in-None-next-clause-cause : goal.returns-in-None-next-clause-cause
returns-in-None-next-clause-cause g c =
    memory_reads c.with_last-in-None-next.result c.with_last-in-None-next.ensures.memory

pub returns-in-Some-next-clause-looks : goal.returns-in-Some-next-clause-looks
returns-in-Some-next-clause-looks g c =
    looks_blamed g.D.Device ⊥ _ _ _ _ _ (λ is. damaged_not_device is) c.loop-turn.invariant.looks

pub returns-in-Some-next-clause-spent : goal.returns-in-Some-next-clause-spent
returns-in-Some-next-clause-spent g c = λ is. damaged_not_spent Damaged refl is

pub first_in-requires : goal.first_in-requires
first_in-requires g c = record { sectors = c.requires.sectors }

pub make_room-requires : goal.make_room-requires
make_room-requires g c = c.layout-layout.ensures.is ∙ c.catalog_tree.ensures.layout

pub returns-in-Some-next-clause-lists : goal.returns-in-Some-next-clause-lists
returns-in-Some-next-clause-lists g c = λ honest agrees files holds. tt
