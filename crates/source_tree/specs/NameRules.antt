-- The rules of operands (COBOL-85, Nucleus, "Uniqueness of reference"), and the form of literals, which those of a source text
-- have. 40 unknown name, or one of another kind, 41 ambiguous name, 50 number of subscripts, 51 numbers.
use Rattle.std.specs.Prelude.{ℕ, ◌==◌, Bool, false, not, ◌&&◌, List, [], ◌∷◌, ◌++◌, length, Option, Some, None}
use Rattle.std.specs.Char.{is_ascii_digit}
use Rattle.std.specs.List.{list_all}
use Rattle.items.specs.declared.item.Kind.{Kind}
use Rattle.items.specs.declared.item.Kind.TheVariants as kind
use Rattle.lexical.specs.declared.place.Place.{Place}
use Rattle.source_tree.specs.declared.literal.Integer.{Integer}
use Rattle.source_tree.specs.declared.literal.LiteralValue.{LiteralValue}
use Rattle.source_tree.specs.declared.literal.LiteralValue.TheVariants as literal
use Rattle.source_tree.specs.declared.literal.Literal.{Literal}
use Rattle.source_tree.specs.declared.reference.Adjustment.{Adjustment}
use Rattle.source_tree.specs.declared.reference.Adjustment.TheVariants as adjustment
use Rattle.source_tree.specs.declared.reference.Subscript as written
use Rattle.source_tree.specs.declared.reference.Subscript.TheVariants as subscript
use Rattle.source_tree.specs.declared.reference.Reference.{Reference}
use Rattle.source_tree.specs.declared.expression.Operand.{Operand}
use Rattle.source_tree.specs.declared.expression.Operand.TheVariants as operand
use Rattle.source_tree.specs.Places.{LocatedItem}
use Rattle.source_tree.specs.declared.reference.Part.{Part}
use Rattle.source_tree.specs.LookUp.{items_named}
use Rattle.source_tree.specs.Parts.{seen_through, may_have_parts, has_part}
use Rattle.source_tree.specs.Broken.{RuleBreach, where_so, each}
use Rattle.source_tree.specs.ValueRules.{most_literal_digits, are_some, has_form}

-- the rule that a literal of another form breaks: 17 a numeric one, 18 a nonnumeric one
abbrev pub form_rule : LiteralValue → ℕ
form_rule (literal.Numeric one) = 17
form_rule _ = 18

abbrev pub literal_rules : Literal → List RuleBreach
literal_rules one = where_so (not (has_form one.value)) (form_rule one.value) one.place

-- An integer has 1 to 18 digits.
abbrev pub is_integer : Integer → Bool
is_integer one = list_all is_ascii_digit one.digits && are_some most_literal_digits (length one.digits)

abbrev pub integer_rules : Integer → List RuleBreach
integer_rules one = where_so (not (is_integer one)) 17 one.place

-- A name names one thing.
abbrev pub unique_name_rules : {A : Type 0} → Place → (A → List RuleBreach) → List A → List RuleBreach
unique_name_rules place rules [] = record { rule = 40; place = place } ∷ []
unique_name_rules place rules (only ∷ []) = rules only
unique_name_rules place rules (one ∷ other ∷ more) = record { rule = 41; place = place } ∷ []

abbrev pub is_integer_kind : Kind → Bool
is_integer_kind (kind.Numeric numeric) = numeric.scale == 0
is_integer_kind _ = false

-- The item of a subscript is an integer, and has no subscripts.
abbrev pub subscript_item : Place → LocatedItem → List RuleBreach
subscript_item place one =
    where_so (not (length one.dimensions == 0)) 50 place ++ where_so (not (is_integer_kind one.item.kind)) 51 place

abbrev pub adjustment_rules : Adjustment → List RuleBreach
adjustment_rules adjustment.Nothing = []
adjustment_rules (adjustment.Plus n) = integer_rules n
adjustment_rules (adjustment.Minus n) = integer_rules n

abbrev pub subscript_rules : List LocatedItem → written.Subscript → List RuleBreach
subscript_rules items (subscript.Literal n) = integer_rules n
subscript_rules items (subscript.Item item adjusting) =
    unique_name_rules item.name.place (subscript_item item.name.place) (items_named items item) ++ adjustment_rules adjusting

-- 75: a part of an item that is neither a group nor in DISPLAY usage
abbrev pub part_item_rules : Reference → LocatedItem → List RuleBreach
part_item_rules one found = where_so (has_part one && not (may_have_parts found.item.kind)) 75 one.item.name.place

-- 75: a part where none may be
abbrev pub no_part_rules : Reference → List RuleBreach
no_part_rules one = where_so (has_part one) 75 one.item.name.place

abbrev pub length_rules : List LocatedItem → Option written.Subscript → List RuleBreach
length_rules items None = []
length_rules items (Some length) = subscript_rules items length

abbrev pub part_rules : List LocatedItem → Option Part → List RuleBreach
part_rules items None = []
part_rules items (Some part) = subscript_rules items part.first ++ length_rules items part.length

-- the numbers in parentheses after a name
abbrev pub number_rules_of : List LocatedItem → Reference → List RuleBreach
number_rules_of items one = each (subscript_rules items) one.subscripts ++ part_rules items one.part

-- A reference to an item, and what is asked of that item, or of its part.
abbrev pub reference_rules : List LocatedItem → (Place → LocatedItem → List RuleBreach) → Reference → List RuleBreach
reference_rules items asked one =
    unique_name_rules one.item.name.place
    (λ found. where_so (not (length one.subscripts == length found.dimensions)) 50 one.item.name.place
    ++ part_item_rules one found ++ asked one.item.name.place (seen_through one found))
    (items_named items one.item)
    ++ number_rules_of items one

-- any item will do
abbrev pub any_item : Place → LocatedItem → List RuleBreach
any_item place one = []

abbrev pub operand_rules : List LocatedItem → Operand → List RuleBreach
operand_rules items (operand.Item one) = reference_rules items any_item one
operand_rules items (operand.Literal one) = literal_rules one
