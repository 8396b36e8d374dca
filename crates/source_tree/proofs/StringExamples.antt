-- INITIALIZE, SET and STRING. Expected is what the manual says of them, and GnuCOBOL where the rule isn't our own.
use Rattle.std.proofs.Common.{◌≡◌, ℕ, true, false, List, [], ◌∷◌, ◌++◌, refl}
use Rattle.std.specs.Prelude.{codes, map, Option, Some, None, Ok, Err}
use Rattle.source_tree.specs.declared.literal.Figurative.TheVariants as figurative
use Rattle.source_tree.specs.declared.entry.Entry.{Entry}
use Rattle.source_tree.specs.declared.reference.Reference.{Reference}
use Rattle.source_tree.specs.declared.expression.Operand.{Operand}
use Rattle.source_tree.specs.declared.string_statement.Sending.{Sending}
use Rattle.source_tree.specs.declared.string_statement.StringStatement.{StringStatement}
use Rattle.source_tree.specs.declared.statement.Statement.{Statement}
use Rattle.source_tree.specs.Broken.{RuleBreach}
use Rattle.source_tree.specs.Places.{items_of}
use Rattle.source_tree.specs.Storage.{Storage}
use Rattle.source_tree.specs.Evaluated as fault
use Rattle.source_tree.specs.Evaluated.{Evaluation, ◌>>=◌}
use Rattle.source_tree.specs.Initializing.{initialize, storage_after_set}
use Rattle.source_tree.specs.Stringing.{Strings, string_stores}
use Rattle.source_tree.specs.SettingRules.{initialize_rules, set_rules}
use Rattle.source_tree.specs.StringRules.{string_rules}
use Rattle.source_tree.proofs.Samples.{group, item, unnamed, redefining, occurring, binary, justified, entries}
use Rattle.source_tree.proofs.Samples.{one_value, condition, number, text, constant, all, reference, plain, counted}
use Rattle.source_tree.proofs.Samples.{by_item, the_item, the_literal}
unfoldable use Rattle.source_tree.proofs.Computing.{computing}
use Rattle.decimal18.specs.Receiver as receivers
unfoldable use Rattle.text_ops.specs.Strings.{delimited_characters, string_of_senders}

abbrev rules : List RuleBreach → List ℕ
rules = map (λ one. one.rule)

-- ---- INITIALIZE of G with a FILLER, what redefines, a group in it and a table

abbrev a_group : List Entry
a_group = entries (
    group (codes "01") (codes "G")
    ∷ item (codes "05") (codes "A") (codes "XX")
    ∷ unnamed (item (codes "05") [] (codes "X"))
    ∷ item (codes "05") (codes "N") (codes "99")
    ∷ redefining (codes "N") (item (codes "05") (codes "R") (codes "XX"))
    ∷ occurring (codes "2") (group (codes "05") (codes "T"))
    ∷ item (codes "10") (codes "B") (codes "Z9")
    ∷ unnamed (item (codes "10") [] (codes "9")) ∷ [])

abbrev initialized : Reference → Evaluation Storage
initialized one = initialize (items_of a_group) (one ∷ []) (codes "abcdefghijk" ∷ [])

whole_group : initialized (plain (codes "G")) ≡ Ok (codes "  c00 0h 0k" ∷ [])
unfolding computing
whole_group = refl

-- what redefines, where it is named
named_one : initialized (plain (codes "R")) ≡ Ok (codes "abc  fghijk" ∷ [])
unfolding computing
named_one = refl

one_occurrence : initialized (reference (codes "T") (counted (codes "2") ∷ [])) ≡ Ok (codes "abcdefgh 0k" ∷ [])
unfolding computing
one_occurrence = refl

past_the_table : initialized (reference (codes "T") (counted (codes "3") ∷ [])) ≡ Err fault.Subscript
unfolding computing
past_the_table = refl

-- in turn: the second's subscript is what the first leaves
abbrev of_table : List Entry
of_table = entries (group (codes "01") (codes "G") ∷ occurring (codes "3") (item (codes "05") (codes "T") (codes "X"))
    ∷ item (codes "77") (codes "I") (codes "9") ∷ [])

late_subscript : initialize (items_of of_table) (plain (codes "I") ∷ reference (codes "T") (by_item (codes "I") ∷ [])
    ∷ []) (codes "abc" ∷ codes "2" ∷ []) ≡ Err fault.Subscript
unfolding computing
late_subscript = refl

-- ---- SET: J is JUSTIFIED, and takes its value from the left; N a number

abbrev with_conditions : List Entry
with_conditions = entries (justified (item (codes "77") (codes "J") (codes "X(3)")) ∷ [])
    ++ condition (codes "SHORT") (one_value (text (codes "X")) ∷ one_value (text (codes "Y")) ∷ [])
    ∷ entries (item (codes "77") (codes "N") (codes "9(3)") ∷ [])
    ++ condition (codes "SEVEN") (one_value (number (codes "7")) ∷ [])
    ∷ condition (codes "STARS") (one_value (constant figurative.Zero) ∷ []) ∷ []

abbrev set_to : List Reference → Evaluation Storage
set_to conditions = storage_after_set (items_of with_conditions) conditions (codes "abc" ∷ codes "123" ∷ [])

set_two : set_to (plain (codes "SHORT") ∷ plain (codes "SEVEN") ∷ []) ≡ Ok (codes "X  " ∷ codes "007" ∷ [])
unfolding computing
set_two = refl

set_figurative : set_to (plain (codes "STARS") ∷ []) ≡ Ok (codes "abc" ∷ codes "000" ∷ [])
unfolding computing
set_figurative = refl

-- 68 an item, 40 nothing of that name, 50 a subscript too many; INITIALIZE of a condition name is 40
set_broken : rules (set_rules (items_of with_conditions) (plain (codes "SHORT") ∷ plain (codes "N") ∷ plain (codes "Z")
    ∷ reference (codes "SEVEN") (counted (codes "1") ∷ []) ∷ [])) ≡ 68 ∷ 40 ∷ 50 ∷ []
unfolding computing
set_broken = refl

initialize_broken : rules (initialize_rules (items_of with_conditions) (plain (codes "J") ∷ plain (codes "SHORT") ∷ []))
    ≡ 40 ∷ []
unfolding computing
initialize_broken = refl

-- ---- STRING: T X(4) holds dots, P 9 a 2, D a space, W three characters by redefinition of a number

abbrev texts : List Entry
texts = entries (
    item (codes "77") (codes "T") (codes "X(4)")
    ∷ item (codes "77") (codes "P") (codes "9")
    ∷ item (codes "77") (codes "D") (codes "X")
    ∷ item (codes "77") (codes "W") (codes "XXX") ∷ [])

abbrev sending : List Operand → Option Operand → Sending
sending senders delimiter = record { senders = senders; delimiter = delimiter }

abbrev into : List Sending → Option Reference → StringStatement Statement
into sendings pointer = record {
  sendings = sendings;
  receiver = plain (codes "T");
  pointer = pointer;
  phrases = record { arose = None; did_not = None };
}

abbrev strings : List ℕ → List Sending → Option Reference → Evaluation Strings
strings pointer sendings to =
    string_stores (items_of texts) (into sendings to) (codes "...." ∷ pointer ∷ codes " " ∷ codes "A*B" ∷ [])

abbrev left : List ℕ → List ℕ → Evaluation Strings
left text pointer = Ok (record { storage = text ∷ pointer ∷ codes " " ∷ codes "A*B" ∷ []; overflow = false })

abbrev overflowed : List ℕ → List ℕ → Evaluation Strings
overflowed text pointer = Ok (record { storage = text ∷ pointer ∷ codes " " ∷ codes "A*B" ∷ []; overflow = true })

abbrev by_space : List Operand → Sending
by_space senders = sending senders (Some (the_literal (constant figurative.Space)))

abbrev pointer : Option Reference
pointer = Some (plain (codes "P"))

worked_row : strings (codes "2") (by_space (the_literal (text (codes "AB")) ∷ the_literal (text (codes "C D")) ∷ [])
    ∷ []) pointer ≡ left (codes ".ABC") (codes "5")
unfolding computing delimited_characters string_of_senders receivers.fitted_decimal
worked_row = refl

with_a_third : strings (codes "2") (by_space (the_literal (text (codes "AB")) ∷ the_literal (text (codes "C D"))
    ∷ the_literal (text (codes "E")) ∷ []) ∷ []) pointer ≡ overflowed (codes ".ABC") (codes "5")
unfolding computing delimited_characters string_of_senders receivers.fitted_decimal
with_a_third = refl

-- an item as delimiter; SIZE
two_sendings : strings (codes "2") (sending (the_literal (text (codes "X Y")) ∷ the_item (codes "W") ∷ [])
    (Some (the_item (codes "D"))) ∷ []) None ≡ left (codes "XA*B") (codes "2")
unfolding computing delimited_characters string_of_senders
two_sendings = refl

-- outside of the receiver nothing is stored
before_the_receiver : strings (codes "0") (sending (the_item (codes "W") ∷ []) None ∷ []) pointer
    ≡ overflowed (codes "....") (codes "0")
unfolding computing delimited_characters string_of_senders
before_the_receiver = refl

behind_the_receiver : strings (codes "5") (sending (the_item (codes "W") ∷ []) None ∷ []) pointer
    ≡ overflowed (codes "....") (codes "5")
unfolding computing delimited_characters string_of_senders
behind_the_receiver = refl

no_number : strings (codes "x") (sending (the_item (codes "W") ∷ []) None ∷ []) pointer ≡ Err fault.Data
unfolding computing delimited_characters string_of_senders
no_number = refl

-- ---- the rules of STRING: each broken alone, and nearly broken

abbrev operands : List Entry
operands = entries (
    item (codes "77") (codes "X") (codes "X(8)")
    ∷ justified (item (codes "77") (codes "J") (codes "X(8)"))
    ∷ item (codes "77") (codes "Y") (codes "X(9)")
    ∷ item (codes "77") (codes "N") (codes "9")
    ∷ item (codes "77") (codes "S") (codes "S9")
    ∷ item (codes "77") (codes "V") (codes "9V9")
    ∷ binary (item (codes "77") (codes "C") (codes "9(4)"))
    ∷ item (codes "77") (codes "E") (codes "Z9") ∷ [])

abbrev the_string : Operand → Option Operand → List ℕ → Option Reference → StringStatement Statement
the_string sender delimiter receiver to =
    record (into (sending (sender ∷ []) delimiter ∷ []) to) { receiver = plain receiver }

abbrev Broke : List (Operand × Option Operand × List ℕ × Option Reference × List ℕ) → Type 0
Broke rows = map (λ row. rules (string_rules (items_of operands) (the_string row.0 row.1 row.2 row.3))) rows
    ≡ map (λ row. row.4) rows

strings_broken : Broke ((the_item (codes "N"), None, codes "X", None, [])
    ∷ (the_item (codes "E"), None, codes "X", None, [])
    ∷ (the_literal (number (codes "1")), None, codes "X", None, 65 ∷ [])
    ∷ (the_literal (constant figurative.Zero), None, codes "X", None, [])
    ∷ (the_literal (all (codes "A")), None, codes "X", None, 67 ∷ [])
    ∷ (the_item (codes "S"), None, codes "X", None, 65 ∷ [])
    ∷ (the_item (codes "V"), None, codes "X", None, 65 ∷ [])
    ∷ (the_item (codes "C"), None, codes "X", None, 65 ∷ [])
    ∷ (the_item (codes "X"), Some (the_item (codes "S")), codes "X", None, 65 ∷ [])
    ∷ (the_item (codes "X"), None, codes "J", None, 65 ∷ [])
    ∷ (the_item (codes "X"), None, codes "N", None, 65 ∷ [])
    ∷ (the_item (codes "X"), None, codes "E", None, 65 ∷ [])
    ∷ (the_item (codes "X"), None, codes "X", Some (plain (codes "N")), [])
    ∷ (the_item (codes "X"), None, codes "Y", Some (plain (codes "N")), 65 ∷ [])
    ∷ (the_item (codes "X"), None, codes "Y", Some (plain (codes "C")), [])
    ∷ (the_item (codes "X"), None, codes "X", Some (plain (codes "V")), 65 ∷ [])
    ∷ (the_item (codes "Q"), Some (the_item (codes "Q")), codes "X", None, 40 ∷ 40 ∷ [])
    ∷ [])
unfolding computing
strings_broken = refl
