use Rattle.std.proofs.Common.{◌≡◌, subst, List}
use Rattle.std.specs.Prelude.{Option, Some, None, slice_index_or}
use Rattle.station.specs.Disk.{Sector}
use Rattle.pages.specs.Pages.{map_now}
use Rattle.btree.specs.Places.{IsNextIn}
use Rattle.btree.proofs.Nearby.{next_of_noted, place_in}
use Rattle.btree.proofs.place.look_near.Goals as goal

pub returns-in-Some-clause-entry : goal.returns-in-Some-clause-entry
returns-in-Some-clause-entry c = λ found disk agrees noted.
    let place = c.args.place.now in
    let bytes = c.in-Some.bytes.now in
    let pages : List (Option Sector) = (map_now c.args.pages.now disk.present).pages in
    let here : slice_index_or pages place.leaf None ≡ Some bytes = c.in-Some.ensures.page disk agrees in
    next_of_noted c.args.layout pages c.args.root place.leaf c.args.key.now bytes c.near_in.new.entry
    (place_in place pages c.args.layout c.args.root (c.is_in.ensures.0 c.if-not-is_in.false) noted) here
    (subst (IsNextIn c.args.layout bytes c.args.key.now c.near_in.new.entry) found c.near_in.ensures.next)
