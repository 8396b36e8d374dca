-- Operands and receivers of arithmetic statements: what is read is spelled, and what is spelled is read.
use Rattle.std.proofs.Common.{◌≡◌, ◌≤◌, Bool, true, false, List, length, Ok, refl, ap, subst, arith}
use Rattle.std.specs.Prelude.{is_some, if◌then◌else◌}
use Rattle.tokens.specs.declared.reserved.Reserved.TheVariants as w
use Rattle.tokens.specs.declared.token.Token.{Token}
use Rattle.source_tree.specs.declared.expression.Operand.{Operand}
use Rattle.source_tree.specs.declared.expression.Operand.TheVariants.{Item, Literal}
use Rattle.grammar.specs.declared.fault.Halt.{Halt}
use Rattle.grammar.specs.Parts.{word, lookahead, name_in, begins_name}
use Rattle.grammar.specs.Reading as read
use Rattle.grammar.specs.Reading.{after_word}
use Rattle.grammar.proofs.Outcomes.{Reached, step, unstep, value, last}
use Rattle.grammar.proofs.Looking.{finds_word, tests_tested, tests_words}
use Rattle.grammar.proofs.Lists as lists
use Rattle.grammar.proofs.Lists.{Sound, Complete, Shrinks, Starts}
use Rattle.grammar.proofs.Parts.{word_sound, word_complete, word_shrinks, stands_sound, stands_complete, stands_shrinks}
use Rattle.expressions.specs.Literals.{number_literal_in}
use Rattle.expressions.specs.References.{reference_reader}
use Rattle.expressions.specs.Operands.{number_operand, number_operand_reader}
use Rattle.expressions.specs.Looking.{reference_before, after_reference_before}
use Rattle.expressions.proofs.Exact.Marks.{begins_not}
use Rattle.expressions.proofs.Exact.References.{reference_sound, reference_complete, reference_shrinks}
use Rattle.expressions.proofs.Exact.References.{reference_starts}
use Rattle.expressions.proofs.Exact.Operands.{number_name, number_operand_sound, number_operand_complete}
use Rattle.expressions.proofs.Exact.Operands.{number_operand_shrinks, number_operands_sound, number_operands_complete}
use Rattle.expressions.proofs.Exact.Operands.{number_operands_shrink}
use Rattle.expressions.proofs.Exact.Leads.{reference_before_found}
use Rattle.statements.specs.declared.receivers.Target.{Target}
use Rattle.statements.specs.declared.receivers.Target.TheVariants.{Receivers, Giving}
use Rattle.statements.proofs.Except.{not_second, both, no_first, second}
use Rattle.statements.specs.Receivers.{numbers, receiver, receivers, target, numbers_reader, receiver_reader}
use Rattle.statements.specs.Receivers.{receivers_reader, begins_receivers, receivers_alone_reader, giving_reader}
use Rattle.statements.specs.Receivers.{target_reader}

-- ---- operands

pub numbers_sound : Sound numbers numbers_reader
unfolding numbers_reader
numbers_sound = number_operands_sound

pub numbers_complete : {Allowed : Halt → Type 0} → Complete Allowed numbers numbers_reader
unfolding numbers_reader
numbers_complete {Allowed = Allowed} = number_operands_complete {Allowed = Allowed}

pub numbers_shrink : Shrinks numbers
numbers_shrink = number_operands_shrink

-- ---- receivers

pub receiver_sound : Sound receiver receiver_reader
unfolding receiver_reader
receiver_sound x i rest e =
    unstep (reference_reader i) _ e (λ item i1 is1 e1.
    unstep (read.presence_reader (after_word w.Rounded) i1) _ e1 (λ rounded i2 is2 e2.
    subst (λ y. receiver y i rest) (value e2)
    (i1, reference_sound item i i1 is1, stands_sound (finds_word w.Rounded) rounded i1 rest (last is2 e2))))

pub receiver_complete : {Allowed : Halt → Type 0} → Complete Allowed receiver receiver_reader
unfolding receiver_reader
receiver_complete x i rest (i1, item, rounded) =
    step (reference_reader i) _ (reference_complete x.item i i1 item)
    (step (read.presence_reader (after_word w.Rounded) i1) _
    (stands_complete (finds_word w.Rounded) x.rounded i1 rest rounded) (Reached refl))

rounded_shrinks : (i rest : List Token) → word w.Rounded i rest → length rest ≤ length i
rounded_shrinks i rest s = let a = word_shrinks w.Rounded i rest s in omega arith

pub receiver_shrinks : Shrinks receiver
receiver_shrinks x i rest (i1, item, rounded) =
    let a = reference_shrinks x.item i i1 item in
    let b = stands_shrinks rounded_shrinks x.rounded i1 rest rounded in omega arith

receiver_starts : Starts begins_name receiver
receiver_starts x i rest s = reference_starts x.item i s.0 s.1

pub receivers_sound : Sound receivers receivers_reader
unfolding receivers_reader
receivers_sound = lists.several_sound receiver receiver_reader (lookahead begins_name) begins_name
    (tests_tested begins_name) receiver_sound

pub receivers_complete : {Allowed : Halt → Type 0} → Complete Allowed receivers receivers_reader
unfolding receivers_reader
receivers_complete {Allowed = Allowed} =
    lists.several_complete receiver receiver_reader (lookahead begins_name) begins_name (tests_tested begins_name)
    Allowed (receiver_complete {Allowed = Allowed}) receiver_shrinks receiver_starts

pub receivers_shrink : Shrinks receivers
receivers_shrink = lists.several_shrinks receiver (lookahead begins_name) receiver_shrinks

receivers_start : Starts begins_name receivers
receivers_start = lists.several_starts receiver (lookahead begins_name) begins_name receiver_starts

-- ---- receivers, or an operand before GIVING

pub target_shrinks : Shrinks target
target_shrinks (Receivers all) i rest s = receivers_shrink all i rest s.0
target_shrinks (Giving operand all) i rest (i1, num, (i2, giving, into)) =
    let a = number_operand_shrinks operand i i1 num in
    let b = word_shrinks w.Giving i1 i2 giving in
    let c = receivers_shrink all i2 rest into in omega arith

alone_sound : (x : Target) (i rest : List Token) → ((after : List Token) → reference_before w.Giving i after → ⊥)
    → receivers_alone_reader i ≡ Ok (x, rest) → target x i rest
unfolding receivers_alone_reader
alone_sound x i rest absent e =
    unstep (receivers_reader i) _ e
    (λ all i1 is1 e1. subst (λ y. target y i rest) (value e1) (receivers_sound all i rest (last is1 e1), absent))

giving_sound : Sound target giving_reader
unfolding giving_reader
giving_sound x i rest e =
    unstep (number_operand_reader i) _ e (λ operand i1 is1 e1.
    unstep (read.expect w.Giving i1) _ e1 (λ u i2 is2 e2.
    unstep (receivers_reader i2) _ e2 (λ all i3 is3 e3.
    subst (λ y. target y i rest) (value e3) (
      i1,
      number_operand_sound operand i i1 is1,
      (i2, word_sound w.Giving u i1 i2 is2, receivers_sound all i2 rest (last is3 e3)),
    ))))

pub target_sound : Sound target target_reader
unfolding target_reader
target_sound x i rest e = go (begins_receivers i) refl e
  where
    go : (b : Bool) → begins_receivers i ≡ b → (if b then receivers_alone_reader i else giving_reader i) ≡ Ok (x, rest)
        → target x i rest
    go true is e = alone_sound x i rest ((tests_words (reference_before_found w.Giving)).fails i
        (not_second (begins_name i) (is_some (after_reference_before w.Giving i)) is)) e
    go false is e = giving_sound x i rest e

-- an operand before GIVING is no receiver
operand_before : (operand : Operand) (i i1 i2 : List Token) → number_operand operand i i1 → word w.Giving i1 i2
    → begins_receivers i ≡ false
operand_before (Item one) i i1 i2 num giving =
    second (begins_name i) (is_some (after_reference_before w.Giving i))
    (ap is_some ((reference_before_found w.Giving).stands i i2 (i1, (one, num), giving)))
operand_before (Literal one) i i1 i2 num giving =
    no_first (begins_name i) (is_some (after_reference_before w.Giving i))
    (begins_not number_literal_in name_in number_name one i i1 num)

pub target_complete : {Allowed : Halt → Type 0} → Complete Allowed target target_reader
unfolding target_reader receivers_alone_reader giving_reader
target_complete (Receivers all) i rest s =
    rw (both (begins_name i) (is_some (after_reference_before w.Giving i)) (receivers_start all i rest s.0)
    ((tests_words (reference_before_found w.Giving)).refuses i s.1))
    (step (receivers_reader i) _ (receivers_complete all i rest s.0) (Reached refl))
target_complete (Giving operand all) i rest (i1, num, (i2, giving, into)) =
    rw (operand_before operand i i1 i2 num giving)
    (step (number_operand_reader i) _ (number_operand_complete operand i i1 num)
    (step (read.expect w.Giving i1) _ (word_complete w.Giving tt i1 i2 giving)
    (step (receivers_reader i2) _ (receivers_complete all i2 rest into) (Reached refl))))
