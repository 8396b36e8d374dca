use Rattle.std.proofs.Common.{◌+◌, arith}
use Rattle.btree_pages.proofs.Changed.{fits_in, room_in}
use Rattle.btree_pages.proofs.Views.{counted}
use Rattle.btree_pages.proofs.tree_page.TreePage.append.Goals as goal

pub append_rows-requires : goal.append_rows-requires
append_rows-requires c =
    let page = c.self.inside in
    let other = c.other.inside in
    let rows = counted other.layout other.kind other.count other.bytes c.args.other.now c.other.view_is in
    let room = room_in page.layout page.kind page.count other.count page.bytes c.args.self.now c.self.view_is
    (omega (arith, c.requires.room, rows)) in
    fits_in page.layout page.kind c.row_length-row.result (page.count + other.count) c.row_length-row.ensures
    c.self.invariant.0 room

pub invariant_of-self : goal.invariant_of-self
invariant_of-self c =
    let page = c.self.inside in
    let other = c.other.inside in
    let rows = counted other.layout other.kind other.count other.bytes c.args.other.now c.other.view_is in
    let room = room_in page.layout page.kind page.count other.count page.bytes c.args.self.now c.self.view_is
    (omega (arith, c.requires.room, rows)) in
    (c.self.invariant.0, room)
