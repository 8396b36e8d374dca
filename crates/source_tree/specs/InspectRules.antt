-- The rules of INSPECT (COBOL-85, Nucleus, "The INSPECT statement"). 40, 41, 50 and 51 of references, 18 of literals, and 64
-- counters that aren't numeric, operands of another kind, and replacing texts of another size. Numbers with S have no part in it
-- (own choice).
use Rattle.std.specs.Prelude.{ℕ, ◌==◌, Bool, true, false, not, ◌&&◌, List, [], ◌∷◌, ◌++◌, length, Option, Some, None}
use Rattle.items.specs.declared.item.Kind.{Kind}
use Rattle.items.specs.declared.item.Kind.TheVariants as kind
use Rattle.items.specs.Numbers.{is_signed}
use Rattle.lexical.specs.declared.place.Place.{Place}
use Rattle.source_tree.specs.declared.literal.LiteralValue.{LiteralValue}
use Rattle.source_tree.specs.declared.literal.LiteralValue.TheVariants as literal
use Rattle.source_tree.specs.declared.literal.Literal.{Literal}
use Rattle.source_tree.specs.declared.reference.Part.{Part}
use Rattle.source_tree.specs.declared.expression.Operand.{Operand}
use Rattle.source_tree.specs.declared.expression.Operand.TheVariants as operand
use Rattle.source_tree.specs.declared.inspect_statement.Limits.{Limits}
use Rattle.source_tree.specs.declared.inspect_statement.TalliedText.{TalliedText}
use Rattle.source_tree.specs.declared.inspect_statement.Tallied.{Tallied}
use Rattle.source_tree.specs.declared.inspect_statement.Tallied.TheVariants as tallied
use Rattle.source_tree.specs.declared.inspect_statement.Tallying.{Tallying}
use Rattle.source_tree.specs.declared.inspect_statement.ReplacedText.{ReplacedText}
use Rattle.source_tree.specs.declared.inspect_statement.Replacing.{Replacing}
use Rattle.source_tree.specs.declared.inspect_statement.Replacing.TheVariants as replacing
use Rattle.source_tree.specs.declared.inspect_statement.InspectStatement.{InspectStatement}
use Rattle.source_tree.specs.Display.{shown_literal}
use Rattle.source_tree.specs.Places.{LocatedItem}
use Rattle.source_tree.specs.LookUp.{items_named}
use Rattle.source_tree.specs.Parts.{known_length}
use Rattle.source_tree.specs.Broken.{RuleBreach, where_so, each}
use Rattle.source_tree.specs.NameRules.{literal_rules, reference_rules}
use Rattle.source_tree.specs.ConditionRules.{is_display, operand_place}

-- ---- operands

abbrev pub is_counter : Kind → Bool
is_counter (kind.Numeric n) = true
is_counter _ = false

abbrev pub counter_item : Place → LocatedItem → List RuleBreach
counter_item place one = where_so (not (is_counter one.item.kind)) 64 place

-- an item whose bytes are looked at: all but numbers in another usage than DISPLAY, or with S
abbrev pub may_be_inspected : Kind → Bool
may_be_inspected (kind.Numeric n) = is_display n.usage && not (is_signed n)
may_be_inspected _ = true

abbrev pub inspected_item : Place → LocatedItem → List RuleBreach
inspected_item place one = where_so (not (may_be_inspected one.item.kind)) 64 place

abbrev pub inspected_literal : Literal → LiteralValue → List RuleBreach
inspected_literal one (literal.Numeric number) = record { rule = 64; place = one.place } ∷ []
inspected_literal one _ = literal_rules one

-- a text
abbrev pub inspected_rules : List LocatedItem → Operand → List RuleBreach
inspected_rules items (operand.Item one) = reference_rules items inspected_item one
inspected_rules items (operand.Literal one) = inspected_literal one one.value

-- ---- sizes

-- The size of a text as the rules know it. A figurative constant suits any, and so does a name that names nothing, or several things, which
-- is another rule's.
pub data TextSize : Type 0 where
  AnySize : TextSize
  Exactly : ℕ → TextSize
  Unknown : TextSize

abbrev pub size_by : Option ℕ → TextSize
size_by None = Unknown
size_by (Some n) = Exactly n

-- the size of an item of so many bytes, or of its part
abbrev pub size_seen : ℕ → Option Part → TextSize
size_seen size None = Exactly size
size_seen size (Some part) = size_by (known_length size part.first part.length)

abbrev pub only_size : Option Part → List LocatedItem → TextSize
only_size part (only ∷ []) = size_seen only.item.length part
only_size part _ = AnySize

abbrev pub size_of : List LocatedItem → Operand → TextSize
size_of items (operand.Item one) = only_size one.part (items_named items one.item)
size_of items (operand.Literal one) = Exactly (length (shown_literal one.value))

abbrev pub literal_size : LiteralValue → TextSize
literal_size (literal.Figurative constant) = AnySize
literal_size value = Exactly (length (shown_literal value))

-- A figurative constant as replacing text has any size.
abbrev pub replacing_size : List LocatedItem → Operand → TextSize
replacing_size items (operand.Item one) = only_size one.part (items_named items one.item)
replacing_size items (operand.Literal one) = literal_size one.value

-- Whether a text of the second size may replace one of the first. A text of unknown size replaces none, and a figurative constant alone
-- replaces it.
abbrev pub may_replace : TextSize → TextSize → Bool
may_replace size AnySize = true
may_replace AnySize (Exactly other) = true
may_replace (Exactly one) (Exactly other) = one == other
may_replace Unknown (Exactly other) = false
may_replace size Unknown = false

-- a replacing text, of a text of this size
abbrev pub by_rules : List LocatedItem → TextSize → Operand → List RuleBreach
by_rules items size by = inspected_rules items by ++ where_so (not (may_replace size (replacing_size items by))) 64 (operand_place by)

-- ---- entries, in the order of writing

abbrev pub limit_rules : List LocatedItem → Option Operand → List RuleBreach
limit_rules items None = []
limit_rules items (Some one) = inspected_rules items one

-- first one limit, then the other
abbrev pub two_limits : List LocatedItem → Option Operand → Option Operand → List RuleBreach
two_limits items first second = limit_rules items first ++ limit_rules items second

abbrev pub ordered_limits : List LocatedItem → Option Operand → Option Operand → Bool → List RuleBreach
ordered_limits items before after true = two_limits items after before
ordered_limits items before after false = two_limits items before after

abbrev pub limits_rules : List LocatedItem → Limits → List RuleBreach
limits_rules items one = ordered_limits items one.before one.after one.after_first

abbrev pub tallied_text_rules : List LocatedItem → TalliedText → List RuleBreach
tallied_text_rules items one = inspected_rules items one.text ++ limits_rules items one.limits

abbrev pub tallied_rules : List LocatedItem → Tallied → List RuleBreach
tallied_rules items (tallied.Characters limits) = limits_rules items limits
tallied_rules items (tallied.Texts occurrences texts) = each (tallied_text_rules items) texts

abbrev pub tallying_rules : List LocatedItem → Tallying → List RuleBreach
tallying_rules items one = reference_rules items counter_item one.counter ++ each (tallied_rules items) one.tallied

abbrev pub replaced_text_rules : List LocatedItem → ReplacedText → List RuleBreach
replaced_text_rules items one = inspected_rules items one.text ++ by_rules items (size_of items one.text) one.by ++ limits_rules items one.limits

abbrev pub replacing_rules : List LocatedItem → Replacing → List RuleBreach
replacing_rules items (replacing.Characters by limits) = by_rules items (Exactly 1) by ++ limits_rules items limits
replacing_rules items (replacing.Texts occurrences texts) = each (replaced_text_rules items) texts

abbrev pub inspect_rules : List LocatedItem → InspectStatement → List RuleBreach
inspect_rules items one =
    reference_rules items inspected_item one.subject ++ each (tallying_rules items) one.tallying ++ each (replacing_rules items) one.replacing
