-- MOVE (COBOL-85, Nucleus, "The MOVE statement").
use Rattle.std.specs.Prelude.{ℕ, List, [], ◌∷◌, Option, Some, None, Ok}
use Rattle.picture.specs.declared.picture.Picture.{Picture}
use Rattle.items.specs.declared.item.Item.{Item}
use Rattle.edited_move.specs.Moves.{moved_bytes, moved_by_picture}
use Rattle.source_tree.specs.declared.reference.Reference.{Reference}
use Rattle.source_tree.specs.declared.expression.Operand.{Operand}
use Rattle.source_tree.specs.declared.expression.Operand.TheVariants as operand
use Rattle.source_tree.specs.Places.{LocatedItem}
use Rattle.source_tree.specs.Literals.{Sender, item_sender, literal_sender}
use Rattle.source_tree.specs.Storage.{Storage}
use Rattle.source_tree.specs.Evaluated.{Evaluation, ◌>>=◌, evaluation_of}
use Rattle.source_tree.specs.References.{ItemPlace, part_of, storage_with, place_of}

-- What is taken of an operand: all of it at once.
abbrev pub taken_of : List LocatedItem → Operand → Storage → Evaluation Sender
taken_of items (operand.Item reference) storage = place_of items reference storage >>= (λ place. Ok (item_sender place.item (part_of storage place)))
taken_of items (operand.Literal literal) storage = Ok (literal_sender literal.value)

-- The receiver's bytes; an edited one is edited by its picture.
abbrev pub moved_by : Option Picture → Item → Sender → Option (List ℕ)
moved_by None item sender = moved_bytes item sender.taken sender.bytes
moved_by (Some picture) item sender = moved_by_picture item picture sender.taken sender.bytes

abbrev pub move_to : Sender → ItemPlace → Storage → Evaluation Storage
move_to sender place storage = evaluation_of (moved_by place.editing place.item sender) >>= (λ bytes. Ok (storage_with place bytes storage))

-- Each receiver's subscripts are evaluated just before its own store.
abbrev pub move_to_each : List LocatedItem → Sender → List Reference → Storage → Evaluation Storage
move_to_each items sender [] storage = Ok storage
move_to_each items sender (one ∷ more) storage =
    place_of items one storage >>= (λ place. move_to sender place storage >>= (λ after. move_to_each items sender more after))

-- The sender is evaluated once, and taken whole before the first receiver.
abbrev pub move : List LocatedItem → Operand → List Reference → Storage → Evaluation Storage
move items sender receivers storage = taken_of items sender storage >>= (λ taken. move_to_each items taken receivers storage)
