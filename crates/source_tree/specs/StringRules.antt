-- The rules of STRING (COBOL-85, Nucleus, "The STRING statement"). 40, 41, 50 and 51 of references, 65 operands of another kind,
-- and 67 ALL with a literal. Numbers with S have no part in it (own choice).
use Rattle.std.specs.Prelude.{ℕ, ◌+◌, ◌^◌, ◌==◌, nat_lt, Bool, true, false, not, ◌&&◌, List, [], ◌∷◌, ◌++◌, Option, Some, None}
use Rattle.items.specs.declared.numeric.Numeric.{Numeric}
use Rattle.items.specs.declared.item.Kind.{Kind}
use Rattle.items.specs.declared.item.Kind.TheVariants as kind
use Rattle.items.specs.Numbers.{is_signed}
use Rattle.lexical.specs.declared.place.Place.{Place}
use Rattle.source_tree.specs.declared.literal.LiteralValue.{LiteralValue}
use Rattle.source_tree.specs.declared.literal.LiteralValue.TheVariants as literal
use Rattle.source_tree.specs.declared.reference.Reference.{Reference}
use Rattle.source_tree.specs.declared.expression.Operand.{Operand}
use Rattle.source_tree.specs.declared.expression.Operand.TheVariants as operand
use Rattle.source_tree.specs.declared.string_statement.Sending.{Sending}
use Rattle.source_tree.specs.declared.string_statement.StringStatement.{StringStatement}
use Rattle.source_tree.specs.Places.{LocatedItem}
use Rattle.source_tree.specs.Parts.{items_referred}
use Rattle.source_tree.specs.Broken.{RuleBreach, where_so, each}
use Rattle.source_tree.specs.NameRules.{reference_rules}
use Rattle.source_tree.specs.ConditionRules.{is_display}

-- an unsigned integer in DISPLAY usage
abbrev pub is_plain_integer : Numeric → Bool
is_plain_integer n = is_display n.usage && not (is_signed n) && (n.scale == 0)

-- an item whose bytes are characters: all but numbers of another kind than unsigned integers in DISPLAY usage
abbrev pub has_characters : Kind → Bool
has_characters (kind.Numeric n) = is_plain_integer n
has_characters _ = true

abbrev pub sent_item : Place → LocatedItem → List RuleBreach
sent_item place one = where_so (not (has_characters one.item.kind)) 65 place

abbrev pub sent_literal : Place → LiteralValue → List RuleBreach
sent_literal place (literal.Numeric one) = record { rule = 65; place = place } ∷ []
sent_literal place (literal.All bytes) = record { rule = 67; place = place } ∷ []
sent_literal place _ = []

-- a sender or a delimiter
abbrev pub sent_rules : List LocatedItem → Operand → List RuleBreach
sent_rules items (operand.Item one) = reference_rules items sent_item one
sent_rules items (operand.Literal one) = sent_literal one.place one.value

abbrev pub delimiter_rules : List LocatedItem → Option Operand → List RuleBreach
delimiter_rules items None = []
delimiter_rules items (Some one) = sent_rules items one

abbrev pub sending_rules : List LocatedItem → Sending → List RuleBreach
sending_rules items one = each (sent_rules items) one.senders ++ delimiter_rules items one.delimiter

-- a group, or an alphabetic or alphanumeric item without JUSTIFIED
abbrev pub is_string_receiver : Kind → Bool
is_string_receiver kind.Group = true
is_string_receiver (kind.Alphabetic justified) = not justified
is_string_receiver (kind.Alphanumeric justified) = not justified
is_string_receiver _ = false

abbrev pub receiver_item : Place → LocatedItem → List RuleBreach
receiver_item place one = where_so (not (is_string_receiver one.item.kind)) 65 place

-- an integer that can hold a number
abbrev pub can_hold : ℕ → Kind → Bool
can_hold n (kind.Numeric numeric) = (numeric.scale == 0) && nat_lt n (10 ^ numeric.digits)
can_hold n _ = false

abbrev pub pointer_item : ℕ → Place → LocatedItem → List RuleBreach
pointer_item size place one = where_so (not (can_hold (size + 1) one.item.kind)) 65 place

-- the bytes of an item; a name that names nothing, or several things, is another rule's
abbrev pub only_length : List LocatedItem → ℕ
only_length (only ∷ []) = only.item.length
only_length _ = 0

abbrev pub pointer_rules : List LocatedItem → ℕ → Option Reference → List RuleBreach
pointer_rules items size None = []
pointer_rules items size (Some one) = reference_rules items (pointer_item size) one

-- a STRING without its phrases
abbrev pub string_rules : List LocatedItem → {S : Type 0} → StringStatement S → List RuleBreach
string_rules items one =
    each (sending_rules items) one.sendings
    ++ reference_rules items receiver_item one.receiver
    ++ pointer_rules items (only_length (items_referred items one.receiver)) one.pointer
