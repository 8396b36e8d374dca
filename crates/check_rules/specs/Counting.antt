-- How many statements may still come, as they are counted.
use Rattle.std.specs.Prelude.{ℕ, ◌-◌, ◌==◌, is_some, if◌then◌else◌, List, [], ◌∷◌, Some, None}
use Rattle.lexical.specs.declared.place.Place.{Place}
use Rattle.check_rules.specs.declared.statement_count.Room.{Room}

abbrev pub room_for : ℕ → Room
room_for most = record { left = most; excess = None }

-- after a statement at this place
abbrev pub after_one : Room → Place → Room
after_one room place =
    if is_some room.excess then room
    else if room.left == 0 then record { left = 0; excess = Some place }
    else record { left = room.left - 1; excess = None }

abbrev pub room_after : Room → List Place → Room
room_after room [] = room
room_after room (one ∷ more) = room_after (after_one room one) more
