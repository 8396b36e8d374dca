-- Operands: what is read is spelled, and what is spelled is read.
use Rattle.std.proofs.Common.{◌≡◌, Bool, true, false, List, Option, Some, None, refl, ap, subst}
use Rattle.std.specs.Prelude.{◌||◌, if◌then◌else◌, Ok}
use Rattle.std.specs.Option.{option_map}
use Rattle.tokens.specs.declared.token.Token.{Token}
use Rattle.lexical.specs.declared.place.Place.{Place}
use Rattle.source_tree.specs.declared.literal.LiteralValue.{LiteralValue}
use Rattle.source_tree.specs.declared.literal.Literal.{Literal}
use Rattle.source_tree.specs.declared.expression.Operand.{Operand}
use Rattle.source_tree.specs.declared.expression.Operand.TheVariants as operand_as
use Rattle.grammar.specs.declared.fault.Halt.{Halt}
use Rattle.grammar.specs.Parts.{begins_name, begins_telling, name_in, several, lookahead}
use Rattle.grammar.specs.Reading as read
use Rattle.grammar.specs.Reading.{one_token}
use Rattle.grammar.proofs.Outcomes.{Reached, step, unstep, value, last}
use Rattle.grammar.proofs.Looking.{tests_tested}
use Rattle.grammar.proofs.Lists as lists
use Rattle.grammar.proofs.Lists.{Sound, Complete, Shrinks, Starts}
use Rattle.grammar.proofs.Parts.{one_token_sound, one_token_complete, telling_shrinks, telling_starts}
use Rattle.expressions.specs.Marks.{left_in, sign_in, begins_left, begins_sign}
use Rattle.expressions.specs.Literals.{literal_reader, begins_literal, number_value_by, number_literal_in, literal_at}
use Rattle.expressions.specs.References.{reference_reader}
use Rattle.expressions.specs.Operands as g
use Rattle.expressions.proofs.Exact.Marks.{Apart, begins_not, name_left, name_sign, number_no_name, number_no_left}
use Rattle.expressions.proofs.Exact.Marks.{number_no_sign, either}
use Rattle.expressions.proofs.Exact.References.{reference_sound, reference_complete, reference_shrinks}
use Rattle.expressions.proofs.Exact.References.{reference_starts}
use Rattle.expressions.proofs.Exact.Literals.{literal_sound, literal_complete, literal_shrinks, literal_starts}
use Rattle.expressions.proofs.Exact.Literals.{literal_is_no_name}

-- ---- references

item_sound : Sound g.operand g.item_reader
unfolding g.item_reader
item_sound x i rest e = unstep (reference_reader i) _ e
    (λ one i1 is1 e1. subst (λ y. g.operand y i rest) (value e1) (reference_sound one i rest (last is1 e1)))

number_item_sound : Sound g.number_operand g.item_reader
unfolding g.item_reader
number_item_sound x i rest e = unstep (reference_reader i) _ e
    (λ one i1 is1 e1. subst (λ y. g.number_operand y i rest) (value e1) (reference_sound one i rest (last is1 e1)))

-- ---- any operand

literal_operand_sound : Sound g.operand g.literal_operand_reader
unfolding g.literal_operand_reader
literal_operand_sound x i rest e = unstep (literal_reader i) _ e
    (λ one i1 is1 e1. subst (λ y. g.operand y i rest) (value e1) (literal_sound one i rest (last is1 e1)))

pub operand_sound : Sound g.operand g.operand_reader
unfolding g.operand_reader
operand_sound x i rest e = go (begins_name i) e
  where
    go : (b : Bool) → (if b then g.item_reader i else g.literal_operand_reader i) ≡ Ok (x, rest) → g.operand x i rest
    go true e = item_sound x i rest e
    go false e = literal_operand_sound x i rest e

pub operand_complete : {Allowed : Halt → Type 0} → Complete Allowed g.operand g.operand_reader
unfolding g.operand_reader g.item_reader g.literal_operand_reader
operand_complete (operand_as.Item one) i rest s =
    rw (reference_starts one i rest s) (step (reference_reader i) _ (reference_complete one i rest s) (Reached refl))
operand_complete (operand_as.Literal one) i rest s =
    rw (literal_is_no_name one i rest s) (step (literal_reader i) _ (literal_complete one i rest s) (Reached refl))

pub operand_shrinks : Shrinks g.operand
operand_shrinks (operand_as.Item one) i rest s = reference_shrinks one i rest s
operand_shrinks (operand_as.Literal one) i rest s = literal_shrinks one i rest s

pub operand_starts : Starts g.begins_operand g.operand
operand_starts (operand_as.Item one) i rest s = ap (λ b. b || begins_literal i) (reference_starts one i rest s)
operand_starts (operand_as.Literal one) i rest s =
    either (begins_name i) (begins_literal i) (literal_starts one i rest s)

-- ---- operands in a list

pub operands_sound :
    Sound (several g.operand (lookahead g.begins_operand)) (read.several g.operand_reader g.begins_operand)
operands_sound = lists.several_sound g.operand g.operand_reader (lookahead g.begins_operand) g.begins_operand
    (tests_tested g.begins_operand) operand_sound

pub operands_complete : {Allowed : Halt → Type 0}
    → Complete Allowed (several g.operand (lookahead g.begins_operand)) (read.several g.operand_reader g.begins_operand)
operands_complete {Allowed = Allowed} =
    lists.several_complete g.operand g.operand_reader (lookahead g.begins_operand) g.begins_operand
    (tests_tested g.begins_operand) Allowed (operand_complete {Allowed = Allowed}) operand_shrinks operand_starts

pub operands_shrink : Shrinks (several g.operand (lookahead g.begins_operand))
operands_shrink = lists.several_shrinks g.operand (lookahead g.begins_operand) operand_shrinks

-- ---- where a number is wanted

value_is : (o : Option LiteralValue) (place : Place) (x : Literal) → option_map (literal_at place) o ≡ Some x
    → (v : LiteralValue) × (o ≡ Some v)
value_is None place x e = cc
value_is (Some v) place x e = (v, refl)

pub number_name : Apart number_literal_in name_in
number_name first x tell = let v =
    value_is (number_value_by first.kind) first.place x tell in number_no_name first.kind first.place v.0 v.1

number_left : Apart number_literal_in left_in
number_left first x tell = let v =
    value_is (number_value_by first.kind) first.place x tell in number_no_left first.kind v.0 v.1

number_sign : Apart number_literal_in sign_in
number_sign first x tell = let v =
    value_is (number_value_by first.kind) first.place x tell in number_no_sign first.kind v.0 v.1

number_literal_sound : Sound g.number_operand g.number_literal_reader
unfolding g.number_literal_reader
number_literal_sound x i rest e =
    unstep (one_token number_literal_in i) _ e (λ one i1 is1 e1.
    subst (λ y. g.number_operand y i rest) (value e1) (one_token_sound number_literal_in one i rest (last is1 e1)))

pub number_operand_sound : Sound g.number_operand g.number_operand_reader
unfolding g.number_operand_reader
number_operand_sound x i rest e = go (begins_name i) e
  where
    go : (b : Bool) → (if b then g.item_reader i else g.number_literal_reader i) ≡ Ok (x, rest)
        → g.number_operand x i rest
    go true e = number_item_sound x i rest e
    go false e = number_literal_sound x i rest e

pub number_operand_complete : {Allowed : Halt → Type 0} → Complete Allowed g.number_operand g.number_operand_reader
unfolding g.number_operand_reader g.item_reader g.number_literal_reader
number_operand_complete (operand_as.Item one) i rest s =
    rw (reference_starts one i rest s) (step (reference_reader i) _ (reference_complete one i rest s) (Reached refl))
number_operand_complete (operand_as.Literal one) i rest s =
    rw (begins_not number_literal_in name_in number_name one i rest s)
    (step (one_token number_literal_in i) _ (one_token_complete number_literal_in one i rest s) (Reached refl))

pub number_operand_shrinks : Shrinks g.number_operand
number_operand_shrinks (operand_as.Item one) i rest s = reference_shrinks one i rest s
number_operand_shrinks (operand_as.Literal one) i rest s = telling_shrinks number_literal_in one i rest s

pub number_operand_starts : Starts g.begins_number_operand g.number_operand
number_operand_starts (operand_as.Item one) i rest s =
    ap (λ b. b || begins_telling number_literal_in i) (reference_starts one i rest s)
number_operand_starts (operand_as.Literal one) i rest s =
    either (begins_name i) (begins_telling number_literal_in i) (telling_starts number_literal_in one i rest s)

-- ---- numbers in a list

pub number_operands_sound : Sound (several g.number_operand (lookahead g.begins_number_operand))
    (read.several g.number_operand_reader g.begins_number_operand)
number_operands_sound = lists.several_sound g.number_operand g.number_operand_reader (lookahead g.begins_number_operand)
    g.begins_number_operand (tests_tested g.begins_number_operand) number_operand_sound

pub number_operands_complete : {Allowed : Halt → Type 0}
    → Complete Allowed (several g.number_operand (lookahead g.begins_number_operand))
    (read.several g.number_operand_reader g.begins_number_operand)
number_operands_complete {Allowed = Allowed} =
    lists.several_complete g.number_operand g.number_operand_reader (lookahead g.begins_number_operand)
    g.begins_number_operand (tests_tested g.begins_number_operand) Allowed (number_operand_complete {Allowed = Allowed})
    number_operand_shrinks number_operand_starts

pub number_operands_shrink : Shrinks (several g.number_operand (lookahead g.begins_number_operand))
number_operands_shrink =
    lists.several_shrinks g.number_operand (lookahead g.begins_number_operand) number_operand_shrinks

-- it begins with no parenthesis and no operator

pub number_operand_no_left : (x : Operand) (i rest : List Token) → g.number_operand x i rest → begins_left i ≡ false
number_operand_no_left (operand_as.Item one) i rest s = begins_not name_in left_in name_left one.item.name i s.1.0 s.1.1
number_operand_no_left (operand_as.Literal one) i rest s = begins_not number_literal_in left_in number_left one i rest s

pub number_operand_no_sign : (x : Operand) (i rest : List Token) → g.number_operand x i rest → begins_sign i ≡ false
number_operand_no_sign (operand_as.Item one) i rest s = begins_not name_in sign_in name_sign one.item.name i s.1.0 s.1.1
number_operand_no_sign (operand_as.Literal one) i rest s = begins_not number_literal_in sign_in number_sign one i rest s
