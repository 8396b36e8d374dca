-- DIVIDE: what is read is spelled, and what is spelled is read.
use Rattle.std.proofs.Common.{◌≡◌, ◌<◌, ◌≤◌, ℕ, Bool, true, false, List, [], ◌∷◌, length, Some, Ok, refl, ap, subst}
use Rattle.std.proofs.Common.{arith}
use Rattle.std.specs.Prelude.{if◌then◌else◌}
use Rattle.tokens.specs.declared.reserved.Reserved.{Reserved}
use Rattle.tokens.specs.declared.reserved.Reserved.TheVariants as w
use Rattle.tokens.specs.declared.token.Token.{Token}
use Rattle.tokens.specs.Reserved.{same_word}
use Rattle.source_tree.specs.declared.reference.Reference.{Reference}
use Rattle.source_tree.specs.declared.expression.Operand.{Operand}
use Rattle.source_tree.specs.declared.arithmetic.Receiver.{Receiver}
use Rattle.source_tree.specs.declared.arithmetic.DivisionOrder.{DivisionOrder}
use Rattle.source_tree.specs.declared.arithmetic.DivisionOrder.TheVariants.{Into, By}
use Rattle.source_tree.specs.declared.arithmetic.Operation.{Operation}
use Rattle.source_tree.specs.declared.arithmetic.Operation.TheVariants.{Divide, DivideGiving, DivideRemainder}
use Rattle.grammar.specs.declared.fault.Halt.{Halt}
use Rattle.grammar.specs.Parts.{Part, ◌then◌, absence_of, word, begins_name}
use Rattle.grammar.specs.Reading as read
use Rattle.grammar.specs.Reading.{is_word, begins_word}
use Rattle.grammar.proofs.Outcomes.{Answers, Reached, step, unstep, value, after, last}
use Rattle.grammar.proofs.Looking.{kind_is, word_begins, begins_no_other, true_not_false}
use Rattle.grammar.proofs.Lists.{Sound}
use Rattle.grammar.proofs.Parts.{word_sound, word_complete, word_shrinks}
use Rattle.expressions.specs.References.{reference, reference_reader}
use Rattle.expressions.specs.Operands.{number_operand, number_operand_reader}
use Rattle.expressions.proofs.Exact.References.{reference_sound, reference_complete, reference_shrinks}
use Rattle.expressions.proofs.Exact.Operands.{number_operand_sound, number_operand_complete, number_operand_shrinks}
use Rattle.statements.specs.declared.verb.VerbWord.TheVariants as v
use Rattle.statements.specs.declared.verb.ArithmeticVerb.TheVariants as a
use Rattle.statements.specs.declared.receivers.Target.{Target}
use Rattle.statements.specs.declared.receivers.Target.TheVariants.{Receivers, Giving}
use Rattle.statements.specs.Verbs.{verb_at}
use Rattle.statements.specs.Receivers.{receiver, receivers, target, receivers_reader, target_reader}
use Rattle.statements.specs.Dividing.{divide_into_statement, order_word, dividing_giving, quotients, quotient_remainder}
use Rattle.statements.specs.Dividing.{only, remainder_of, given_reader, divided_into, into_reader, by_reader}
use Rattle.statements.specs.Dividing.{divided_reader, divide_reader}
use Rattle.statements.specs.Arithmetic.{operation}
use Rattle.statements.proofs.Standing.{stands, word_no_name}
use Rattle.statements.proofs.ReceiverLists.{receiver_shrinks, receivers_sound, receivers_complete, receivers_shrink}
use Rattle.statements.proofs.ReceiverLists.{target_sound, target_complete, target_shrinks}

into_no_by : same_word w.Into w.By ≡ false
unfolding same_word
into_no_by = refl

-- ---- it takes a token, and its verb comes first

pub dividing_shrinks : (divisor : Operand) (all : List Receiver) (i rest : List Token)
    → divide_into_statement divisor all i rest → length rest < length i
dividing_shrinks divisor all i rest (i1, verb, (i2, num, (i3, into_word, into))) =
    let a = word_shrinks w.Divide i i1 verb in
    let b = number_operand_shrinks divisor i1 i2 num in
    let c = word_shrinks w.Into i2 i3 into_word in
    let d = target_shrinks (Receivers all) i3 rest into in omega arith

pub dividing_stands : (divisor : Operand) (all : List Receiver) (i rest : List Token)
    → divide_into_statement divisor all i rest → verb_at i ≡ Some (v.Arithmetic a.Divide)
dividing_stands divisor all i rest s = stands w.Divide i s.0 s.1

pub quotients_shrink : (all : List Receiver) (i rest : List Token) → quotients all i rest → length rest ≤ length i
quotients_shrink all i rest (i1, into, absent) =
    let a = receivers_shrink all i i1 into in
    let b = ap length absent.0 in omega arith

pub quotient_remainder_shrinks : (quotient : Receiver) (remainder : Reference) (i rest : List Token)
    → quotient_remainder quotient remainder i rest → length rest ≤ length i
quotient_remainder_shrinks quotient remainder i rest (i1, into, (i2, remainder_word, left)) =
    let a = receiver_shrinks quotient i i1 into in
    let b = word_shrinks w.Remainder i1 i2 remainder_word in
    let c = reference_shrinks remainder i2 rest left in omega arith

module _ (first : Operand) (order : DivisionOrder) (second : Operand) (q : Part) where
  pub dividing_giving_shrinks : ((i rest : List Token) → q i rest → length rest ≤ length i) → (i rest : List Token)
      → dividing_giving first order second q i rest → length rest < length i
  dividing_giving_shrinks fewer i rest (i1, verb, (i2, num, (i3, word_between, (i4, other, (i5, giving, into))))) =
      let a = word_shrinks w.Divide i i1 verb in
      let b = number_operand_shrinks first i1 i2 num in
      let c = word_shrinks (order_word order) i2 i3 word_between in
      let d = number_operand_shrinks second i3 i4 other in
      let e = word_shrinks w.Giving i4 i5 giving in
      let f = fewer i5 rest into in omega arith

  pub dividing_giving_stands : (i rest : List Token) → dividing_giving first order second q i rest
      → verb_at i ≡ Some (v.Arithmetic a.Divide)
  dividing_giving_stands i rest s = stands w.Divide i s.0 s.1

-- ---- words that do not stand

word_absent : (one : Reserved) (i : List Token) → ((after : List Token) → word one i after → ⊥)
    → begins_word one i ≡ false
word_absent one [] nowhere = refl
word_absent one (first ∷ more) nowhere = go (is_word one first) refl
  where
    go : (b : Bool) → is_word one first ≡ b → is_word one first ≡ false
    go false e = e
    go true e = absurd (nowhere more (first, refl, kind_is one first.kind e))

-- ---- what is spelled is read

module _ {Allowed : Halt → Type 0} where
  module _ (first : Operand) (order : DivisionOrder) (second : Operand) where
    given_complete : (all : List Receiver) (i rest : List Token) → absence_of (word w.Remainder) i rest
        → Answers Allowed (given_reader first order second all i) (DivideGiving first order second all) rest
    unfolding given_reader
    given_complete all i rest s =
        rw (word_absent w.Remainder i s.1) (Reached (ap (λ j. Ok (DivideGiving first order second all, j)) s.0))

    remainder_complete : (quotient : Receiver) (remainder : Reference) (i i1 rest : List Token) → word w.Remainder i i1
        → reference remainder i1 rest
        → Answers Allowed (given_reader first order second (quotient ∷ []) i)
        (DivideRemainder first order second quotient remainder) rest
    unfolding given_reader
    remainder_complete quotient remainder i i1 rest remainder_word left =
        rw (word_begins w.Remainder i i1 remainder_word)
        (step (read.expect w.Remainder i) _ (word_complete w.Remainder tt i i1 remainder_word)
        (step (reference_reader i1) _ (reference_complete remainder i1 rest left) (Reached refl)))

  module _ (first : Operand) where
    into_complete : (to : Target) (x : Operation) (i i1 i2 rest : List Token) → word w.Into i i1 → target to i1 i2
        → Answers Allowed (divided_into first to i2) x rest
        → Answers Allowed (divided_reader first i) x rest
    unfolding divided_reader into_reader
    into_complete to x i i1 i2 rest into_word into next =
        rw (begins_no_other w.Into w.By into_no_by i i1 into_word)
        (step (read.expect w.Into i) _ (word_complete w.Into tt i i1 into_word)
        (step (target_reader i1) _ (target_complete to i1 i2 into) next))

    by_complete : (second : Operand) (all : List Receiver) (x : Operation) (i i1 i2 i3 i4 rest : List Token)
        → word w.By i i1 → number_operand second i1 i2 → word w.Giving i2 i3
        → receivers all i3 i4 → Answers Allowed (given_reader first By second all i4) x rest
        → Answers Allowed (divided_reader first i) x rest
    unfolding divided_reader by_reader
    by_complete second all x i i1 i2 i3 i4 rest by_word other giving into next =
        rw (word_begins w.By i i1 by_word)
        (step (read.expect w.By i) _ (word_complete w.By tt i i1 by_word)
        (step (number_operand_reader i1) _ (number_operand_complete second i1 i2 other)
        (step (read.expect w.Giving i2) _ (word_complete w.Giving tt i2 i3 giving)
        (step (receivers_reader i3) _ (receivers_complete all i3 i4 into) next))))

    -- INTO or BY, the other operand and GIVING
    ordered_complete : (order : DivisionOrder) (second : Operand) (all : List Receiver) (x : Operation)
        (i i1 i2 i3 i4 rest : List Token) → word (order_word order) i i1
        → number_operand second i1 i2 → word w.Giving i2 i3 → receivers all i3 i4
        → Answers Allowed (given_reader first order second all i4) x rest
        → Answers Allowed (divided_reader first i) x rest
    ordered_complete Into second all x i i1 i2 i3 i4 rest between other giving into next =
        into_complete (Giving second all) x i i1 i4 rest between (i2, other, (i3, giving, into)) next
    ordered_complete By second all x i i1 i2 i3 i4 rest between other giving into next =
        by_complete second all x i i1 i2 i3 i4 rest between other giving into next

    first_complete : (x : Operation) (i i1 i2 rest : List Token) → word w.Divide i i1 → number_operand first i1 i2
        → Answers Allowed (divided_reader first i2) x rest
        → Answers Allowed (divide_reader i) x rest
    unfolding divide_reader
    first_complete x i i1 i2 rest verb num next =
        step (read.expect w.Divide i) _ (word_complete w.Divide tt i i1 verb)
        (step (number_operand_reader i1) _ (number_operand_complete first i1 i2 num) next)

  pub dividing_complete : (divisor : Operand) (all : List Receiver) (i rest : List Token)
      → divide_into_statement divisor all i rest → Answers Allowed (divide_reader i) (Divide divisor all) rest
  dividing_complete divisor all i rest (i1, verb, (i2, num, (i3, into_word, into))) =
      first_complete divisor (Divide divisor all) i i1 i2 rest verb num
      (into_complete divisor (Receivers all) (Divide divisor all) i2 i3 rest rest into_word into (Reached refl))

  pub dividing_giving_complete :
      (first : Operand) (order : DivisionOrder) (second : Operand) (all : List Receiver) (i rest : List Token)
      → dividing_giving first order second (quotients all) i rest
      → Answers Allowed (divide_reader i) (DivideGiving first order second all) rest
  dividing_giving_complete first order second all i rest
      (i1, verb, (i2, num, (i3, between, (i4, other, (i5, giving, (i6, into, absent)))))) =
      first_complete first (DivideGiving first order second all) i i1 i2 rest verb num
      (ordered_complete first order second all (DivideGiving first order second all) i2 i3 i4 i5 i6 rest between other
      giving into (given_complete first order second all i6 rest absent))

  pub dividing_remainder_complete : (first : Operand) (order : DivisionOrder) (second : Operand) (quotient : Receiver)
      (remainder : Reference) (i rest : List Token)
      → dividing_giving first order second (quotient_remainder quotient remainder) i rest
      → Answers Allowed (divide_reader i) (DivideRemainder first order second quotient remainder) rest
  dividing_remainder_complete first order second quotient remainder i rest
      (i1, verb, (i2, num, (i3, between, (i4, other, (i5, giving, (i6, into, (i7, remainder_word, left))))))) =
      first_complete first (DivideRemainder first order second quotient remainder) i i1 i2 rest verb num
      (ordered_complete first order second (quotient ∷ []) (DivideRemainder first order second quotient remainder) i2 i3
      i4 i5 i6 rest between other giving (
        i6,
        into,
        (refl, λ after name. true_not_false (begins_name i6) (word_no_name w.Remainder i6 i7 remainder_word) name),
      )
      (remainder_complete first order second quotient remainder i6 i7 rest remainder_word left))

-- ---- what is read is spelled

module _ (depth : ℕ) (first : Operand) (order : DivisionOrder) (second : Operand) (i i1 : List Token) where
  -- up to GIVING
  abbrev opening : Type 0
  opening = (word w.Divide then number_operand first then word (order_word order) then number_operand second
      then word w.Giving) i i1

  opened : (q : Part) (rest : List Token) → opening → q i1 rest → dividing_giving first order second q i rest
  opened q rest (j1, verb, (j2, num, (j3, between, (j4, other, giving)))) s =
      (j1, verb, (j2, num, (j3, between, (j4, other, (i1, giving, s)))))

  remainder_sound : (all : List Receiver) (x : Operation) (i2 rest : List Token) → opening → receivers all i1 i2
      → remainder_of first order second (only all) i2 ≡ Ok (x, rest) → operation depth x i rest
  remainder_sound [] x i2 rest front into e = cc
  remainder_sound (quotient ∷ []) x i2 rest front (j, one, (ends, none)) e =
      unstep (read.expect w.Remainder i2) _ e (λ u i3 is3 e3.
      unstep (reference_reader i3) _ e3 (λ remainder i4 is4 e4.
      subst (λ y. operation depth y i rest) (value e4)
      (opened (quotient_remainder quotient remainder) rest front (
        i2,
        subst (λ m. receiver quotient i1 m) ends one,
        (i3, word_sound w.Remainder u i2 i3 is3, reference_sound remainder i3 rest (last is4 e4)),
      ))))
  remainder_sound (quotient ∷ other ∷ more) x i2 rest front into e = cc

  given_sound : (all : List Receiver) (x : Operation) (i2 rest : List Token) → opening → receivers all i1 i2
      → given_reader first order second all i2 ≡ Ok (x, rest) → operation depth x i rest
  unfolding given_reader
  given_sound all x i2 rest front into e = go (begins_word w.Remainder i2) refl e
    where
      go : (b : Bool) → begins_word w.Remainder i2 ≡ b → (if b then remainder_of first order second (only all) i2
          else Ok (DivideGiving first order second all, i2)) ≡ Ok (x, rest)
          → operation depth x i rest
      go true is e = remainder_sound all x i2 rest front into e
      go false is e =
          subst (λ y. operation depth y i rest) (value e)
          (opened (quotients all) rest front (
            i2,
            into,
            (after e, λ behind s. true_not_false (begins_word w.Remainder i2) is (word_begins w.Remainder i2 behind s)),
          ))

module _ (depth : ℕ) (first : Operand) (i i1 i2 : List Token) (verb : word w.Divide i i1)
    (num : number_operand first i1 i2) where
  divided_into_sound : (to : Target) (x : Operation) (i3 i4 rest : List Token) → word w.Into i2 i3 → target to i3 i4
      → divided_into first to i4 ≡ Ok (x, rest) → operation depth x i rest
  divided_into_sound (Receivers all) x i3 i4 rest into_word into e =
      subst (λ y. operation depth y i rest) (value e)
      (i1, verb, (i2, num, (i3, into_word, subst (λ j. target (Receivers all) i3 j) (after e) into)))
  divided_into_sound (Giving second all) x i3 i4 rest into_word (j1, other, (j2, giving, into)) e =
      given_sound depth first Into second i j2 all x i4 rest (i1, verb, (i2, num, (i3, into_word, (j1, other, giving))))
      into e

  into_sound : (x : Operation) (rest : List Token) → into_reader first i2 ≡ Ok (x, rest) → operation depth x i rest
  unfolding into_reader
  into_sound x rest e =
      unstep (read.expect w.Into i2) _ e (λ u i3 is3 e3.
      unstep (target_reader i3) _ e3 (λ to i4 is4 e4.
      divided_into_sound to x i3 i4 rest (word_sound w.Into u i2 i3 is3) (target_sound to i3 i4 is4) e4))

  by_sound : (x : Operation) (rest : List Token) → by_reader first i2 ≡ Ok (x, rest) → operation depth x i rest
  unfolding by_reader
  by_sound x rest e =
      unstep (read.expect w.By i2) _ e (λ u i3 is3 e3.
      unstep (number_operand_reader i3) _ e3 (λ second i4 is4 e4.
      unstep (read.expect w.Giving i4) _ e4 (λ t i5 is5 e5.
      unstep (receivers_reader i5) _ e5 (λ all i6 is6 e6.
      given_sound depth first By second i i5 all x i6 rest (
        i1,
        verb,
        (
          i2,
          num,
          (
            i3,
            word_sound w.By u i2 i3 is3,
            (i4, number_operand_sound second i3 i4 is4, word_sound w.Giving t i4 i5 is5),
          ),
        ),
      )
      (receivers_sound all i5 i6 is6) e6))))

  divided_sound : (x : Operation) (rest : List Token) → divided_reader first i2 ≡ Ok (x, rest)
      → operation depth x i rest
  unfolding divided_reader
  divided_sound x rest e = go (begins_word w.By i2) e
    where
      go : (b : Bool) → (if b then by_reader first i2 else into_reader first i2) ≡ Ok (x, rest)
          → operation depth x i rest
      go true e = by_sound x rest e
      go false e = into_sound x rest e

pub dividing_sound : (depth : ℕ) → Sound (operation depth) divide_reader
unfolding divide_reader
dividing_sound depth x i rest e =
    unstep (read.expect w.Divide i) _ e (λ u i1 is1 e1.
    unstep (number_operand_reader i1) _ e1 (λ first i2 is2 e2.
    divided_sound depth first i i1 i2 (word_sound w.Divide u i i1 is1) (number_operand_sound first i1 i2 is2) x rest
    e2))
