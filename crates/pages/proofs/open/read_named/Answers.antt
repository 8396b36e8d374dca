use Rattle.std.proofs.Common.{◌≡◌, List, ℕ, get_or, sym, subst, arith}
use Rattle.pages.specs.Found.{found_root}
use Rattle.pages.proofs.Refused.{bad_table}
use Rattle.pages.proofs.ReadTables.{maps_below, table_count, table_some, is_table, names_found, holds_maps}
use Rattle.pages.proofs.open.read_named.Goals as goal

pub marked_maps-requires : goal.marked_maps-requires
marked_maps-requires g c = omega (arith, c.requires.least)

pub read_table-requires : goal.read_table-requires
read_table-requires g c = maps_below (g.D.Device.sectors c.args.device.now) c.args.root.now c.deref.result.now
    c.in_ok-used.used.items c.requires c.deref.ensures.value c.in_ok-used.ensures.marked c.in_ok-used.ensures.count

pub mark_table-requires : goal.mark_table-requires
mark_table-requires g c = table_some (g.D.Device.sectors c.args.device.now) c.args.root.now c.deref.result.now
    c.deref-2.result.now c.in_ok-table.table.items c.requires c.in_ok-table.ensures.count c.deref.ensures.value
    c.deref-2.ensures.value

pub returns-clause-table : goal.returns-clause-table
returns-clause-table g c = is_table c.args.root.now c.deref.result.now c.deref-2.result.now c.in_ok-table.table.items
    c.in_ok-used.used.items c.mark_table.new.used.items c.in_ok-table.ensures.count c.deref.ensures.value
    c.deref-2.ensures.value (c.mark_table.ensures.marked c.if-not-mark_table.false c.args.root.now.maps.items
    c.in_ok-used.ensures.marked) c.mark_table.ensures.count c.in_ok-used.ensures.count
    (c.mark_table.ensures.first c.if-not-mark_table.false)

pub returns-clause-entries : goal.returns-clause-entries
returns-clause-entries g c = λ honest. holds_maps (g.D.Device.state c.args.device.now).disk.present c.args.root.now
    c.deref.result.now c.in_ok-table.table.items c.deref.ensures.value (c.in_ok-table.ensures.entries honest)

pub returns-then-not-mark_table-clause-refused : goal.returns-then-not-mark_table-clause-refused
returns-then-not-mark_table-clause-refused g c = λ honest is.
    let root = c.args.root.now in
    let image = (g.D.Device.state c.args.device.now).disk.present in
    let table = c.in_ok-table.table.items in
    let maps = c.deref.ensures.value in
    bad_table image (found_root root) is table (table_count root _ table c.in_ok-table.ensures.count maps)
    (holds_maps image root _ table maps (c.in_ok-table.ensures.entries honest))
    (λ are none. c.mark_table.ensures.refused c.if-not-mark_table.true root.maps.items c.in_ok-used.ensures.marked
    (names_found root.sectors _ root.maps.items _ table c.in_ok-used.ensures.count c.deref-2.ensures.value are)
    (subst (λ (l : List ℕ). get_or l 0 0 ≡ 0) (sym c.deref-2.ensures.value) none))
