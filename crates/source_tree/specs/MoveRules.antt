-- Rule 49: which moves are permitted (COBOL-85, Nucleus, "The MOVE statement").
use Rattle.std.specs.Prelude.{Bool, not, ◌&&◌, List, [], ◌∷◌, ◌++◌, Option, Some, None}
use Rattle.items.specs.declared.item.Item.{Item}
use Rattle.items.specs.declared.taken.Taken.{Taken}
use Rattle.items.specs.declared.taken.Taken.TheVariants as taken
use Rattle.edited_move.specs.Permitted.{is_permitted, sending_of, receiving_of}
use Rattle.edited_move.specs.Moves.{is_short}
use Rattle.lexical.specs.declared.place.Place.{Place}
use Rattle.source_tree.specs.declared.reference.Reference.{Reference}
use Rattle.source_tree.specs.declared.expression.Operand.{Operand}
use Rattle.source_tree.specs.declared.expression.Operand.TheVariants as operand
use Rattle.source_tree.specs.Places.{LocatedItem}
use Rattle.source_tree.specs.Literals.{literal_sender}
use Rattle.source_tree.specs.Parts.{items_referred}
use Rattle.source_tree.specs.Broken.{RuleBreach, where_so, each}
use Rattle.source_tree.specs.NameRules.{reference_rules, operand_rules}

-- By the table of categories, and from more than 18 characters no number comes.
abbrev pub may_move : Taken → Item → Bool
may_move from to = is_permitted (sending_of from) (receiving_of to.kind) && is_short to from

-- A sender whose name names nothing, or several things, is another rule's.
abbrev pub only_item : List LocatedItem → Option Taken
only_item (only ∷ []) = Some (taken.Item only.item)
only_item _ = None

abbrev pub sent_by : List LocatedItem → Operand → Option Taken
sent_by items (operand.Item one) = only_item (items_referred items one)
sent_by items (operand.Literal one) = Some (literal_sender one.value).taken

abbrev pub receives : Option Taken → Place → LocatedItem → List RuleBreach
receives None place one = []
receives (Some from) place one = where_so (not (may_move from one.item)) 49 place

abbrev pub move_rules : List LocatedItem → Operand → List Reference → List RuleBreach
move_rules items sender receivers =
    operand_rules items sender ++ each (reference_rules items (receives (sent_by items sender))) receivers
