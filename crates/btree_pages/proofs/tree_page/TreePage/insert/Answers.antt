use Rattle.std.proofs.Common.{◌+◌, arith}
use Rattle.btree_pages.proofs.Changed.{fits_in, room_in}
use Rattle.btree_pages.proofs.Views.{counted}
use Rattle.btree_pages.proofs.tree_page.TreePage.insert.Goals as goal

pub insert_row-requires-clause-place : goal.insert_row-requires-clause-place
insert_row-requires-clause-place c =
    let page = c.self.inside in
    let rows = counted page.layout page.kind page.count page.bytes c.args.self.now c.self.view_is in
    omega (arith, rows)

pub insert_row-requires-clause-room : goal.insert_row-requires-clause-room
insert_row-requires-clause-room c =
    let page = c.self.inside in
    let room = room_in page.layout page.kind page.count 1 page.bytes c.args.self.now c.self.view_is
    (omega (arith, c.requires.room)) in
    fits_in page.layout page.kind c.row_length-row.result (page.count + 1) c.row_length-row.ensures c.self.invariant.0
    room

pub invariant_of-self : goal.invariant_of-self
invariant_of-self c =
    let page = c.self.inside in
    let room = room_in page.layout page.kind page.count 1 page.bytes c.args.self.now c.self.view_is
    (omega (arith, c.requires.room)) in
    (c.self.invariant.0, room)
