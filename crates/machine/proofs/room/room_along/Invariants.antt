use Rattle.std.proofs.Common.{drop}
use Rattle.data_instructions.specs.Shapes.{empty}
use Rattle.data_machine.specs.declared.data.Room.{Room}
use Rattle.machine.specs.Rooms.{HasRoomFor, IsNoMore, HasRoomAlong}
use Rattle.machine.proofs.room.room_along.Given as goal

abbrev pub invariant-loop-instruction : goal.invariant-loop-instruction
invariant-loop-instruction l = record {
  -- there is room for what is known here
  holds : HasRoomFor l.room l.shape;
  -- what has room from here on, and as much as this, has room along all
  enough : (wide : Room)
      → IsNoMore l.room wide → HasRoomAlong l.code.tables wide (drop l.instruction-index l.code.instructions) l.shape
      → HasRoomAlong l.code.tables wide l.code.instructions empty;
  -- what has room along all has room from here on, and as much as this
  least : (other : Room) → HasRoomAlong l.code.tables other l.code.instructions empty
      → IsNoMore l.room other × HasRoomAlong l.code.tables other (drop l.instruction-index l.code.instructions) l.shape;
}
