-- What is asked of the item that a reference names.
use Rattle.std.specs.Prelude.{◌+◌, not, List, [], Option, Some, None}
use Rattle.items.specs.declared.item.Kind.{Kind}
use Rattle.items.specs.declared.taken.Taken.{Taken}
use Rattle.edited_move.specs.Moves.{needs_number}
use Rattle.lexical.specs.declared.place.Place.{Place}
use Rattle.source_tree.specs.Places.{LocatedItem}
use Rattle.source_tree.specs.Broken.{RuleBreach, where_so}
use Rattle.source_tree.specs.NameRules.{is_integer_kind}
use Rattle.source_tree.specs.ArithmeticRules.{is_numeric_kind}
use Rattle.source_tree.specs.InspectRules.{is_counter, may_be_inspected}
use Rattle.source_tree.specs.StringRules.{has_characters, is_string_receiver, can_hold}
use Rattle.check_rules.specs.declared.asked.Asked.{Asked}
use Rattle.check_rules.specs.declared.asked.Asked.TheVariants as asked
use Rattle.check_rules.specs.Sending.{may_go, sent_of}

abbrev pub asks_kind : Asked → Kind → Place → List RuleBreach
asks_kind asked.Nothing kind place = []
asks_kind (asked.Receives sent) kind place = where_so (not (may_go sent kind)) 49 place
asks_kind asked.Numeric kind place = where_so (not (is_numeric_kind kind)) 51 place
asks_kind asked.StoresNumber kind place = where_so (not (needs_number kind)) 51 place
asks_kind asked.Integer kind place = where_so (not (is_integer_kind kind)) 51 place
asks_kind asked.Counts kind place = where_so (not (is_counter kind)) 64 place
asks_kind asked.Inspected kind place = where_so (not (may_be_inspected kind)) 64 place
asks_kind asked.SendsText kind place = where_so (not (has_characters kind)) 65 place
asks_kind asked.ReceivesText kind place = where_so (not (is_string_receiver kind)) 65 place
asks_kind (asked.Points size) kind place = where_so (not (can_hold (size + 1) kind)) 65 place

abbrev pub asks : Asked → Place → LocatedItem → List RuleBreach
asks one place found = asks_kind one found.item.kind place

-- what a sender asks of receivers; nothing, if there is no sender
abbrev pub asked_by : Option Taken → Asked
asked_by None = asked.Nothing
asked_by (Some from) = asked.Receives (sent_of from)
