-- The rules of DISPLAY and ACCEPT: 40, 41, 50 and 51 of references, 67 ALL with a literal (COBOL-85, Nucleus, "The DISPLAY
-- statement"), 49 where the date is no permitted sender ("The ACCEPT statement").
use Rattle.std.specs.Prelude.{List, [], ◌∷◌, Some}
use Rattle.source_tree.specs.declared.literal.LiteralValue.{LiteralValue}
use Rattle.source_tree.specs.declared.literal.LiteralValue.TheVariants as literal
use Rattle.lexical.specs.declared.place.Place.{Place}
use Rattle.source_tree.specs.declared.reference.Reference.{Reference}
use Rattle.source_tree.specs.declared.expression.Operand.{Operand}
use Rattle.source_tree.specs.declared.expression.Operand.TheVariants as operand
use Rattle.source_tree.specs.Places.{LocatedItem}
use Rattle.source_tree.specs.Accepting.{date_sender}
use Rattle.source_tree.specs.Broken.{RuleBreach, each}
use Rattle.source_tree.specs.NameRules.{reference_rules, any_item}
use Rattle.source_tree.specs.MoveRules.{receives}

-- A figurative constant is shown, ALL with a literal isn't.
abbrev pub shown_literal_rules : Place → LiteralValue → List RuleBreach
shown_literal_rules place (literal.All bytes) = record { rule = 67; place = place } ∷ []
shown_literal_rules place _ = []

abbrev pub shown_rules : List LocatedItem → Operand → List RuleBreach
shown_rules items (operand.Item one) = reference_rules items any_item one
shown_rules items (operand.Literal one) = shown_literal_rules one.place one.value

abbrev pub display_rules : List LocatedItem → List Operand → List RuleBreach
display_rules items operands = each (shown_rules items) operands

abbrev pub accept_line_rules : List LocatedItem → Reference → List RuleBreach
accept_line_rules items receiver = reference_rules items any_item receiver

-- a MOVE of six digits
abbrev pub accept_date_rules : List LocatedItem → Reference → List RuleBreach
accept_date_rules items receiver = reference_rules items (receives (Some (date_sender []).taken)) receiver
