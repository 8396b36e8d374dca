-- Arithmetic statements with their phrases: what is read is spelled, and what is spelled is read.
use Rattle.std.proofs.Common.{◌≡◌, ℕ, List, Some, refl, subst, arith}
use Rattle.tokens.specs.declared.token.Token.{Token}
use Rattle.source_tree.specs.declared.phrases.Phrases.{Phrases}
use Rattle.source_tree.specs.declared.arithmetic.Operation.{Operation}
use Rattle.source_tree.specs.declared.arithmetic.Operation.TheVariants.{Add, AddGiving, Subtract, SubtractGiving}
use Rattle.source_tree.specs.declared.arithmetic.Operation.TheVariants.{Multiply, MultiplyGiving, Divide, DivideGiving}
use Rattle.source_tree.specs.declared.arithmetic.Operation.TheVariants.{DivideRemainder, Compute}
use Rattle.source_tree.specs.declared.arithmetic.Arithmetic.{Arithmetic}
use Rattle.source_tree.specs.declared.statement.Verb.TheVariants as verb
use Rattle.source_tree.specs.declared.statement.Statement.{Statement}
use Rattle.grammar.specs.declared.fault.Halt.{Halt}
use Rattle.grammar.specs.declared.phrase.Phrase.TheVariants.{SizeError}
use Rattle.grammar.specs.Parts.{Part}
use Rattle.grammar.specs.Reading as read
use Rattle.grammar.specs.Reading.{Parser}
use Rattle.grammar.specs.Phrases.{two_sided_reader}
use Rattle.grammar.proofs.Outcomes.{Answers, Reached, step, unstep, value, last}
use Rattle.grammar.proofs.Lists.{Sound, Complete, Shrinks}
use Rattle.grammar.proofs.Parts.{skip_sound, skip_complete, skip_shrinks}
use Rattle.grammar.proofs.Phrases.{two_sided_shrinks, two_sided_sound, two_sided_complete}
use Rattle.expressions.specs.Expressions.{expression, expression_reader}
use Rattle.statements.specs.declared.verb.VerbWord.TheVariants as v
use Rattle.statements.specs.declared.verb.ArithmeticVerb.{ArithmeticVerb}
use Rattle.statements.specs.declared.verb.ArithmeticVerb.TheVariants as a
use Rattle.statements.specs.declared.receivers.Target.TheVariants.{Receivers, Giving}
use Rattle.statements.specs.Verbs.{verb_at}
use Rattle.statements.specs.Dividing.{quotients, quotient_remainder}
use Rattle.statements.specs.Arithmetic.{operation, end_word, arithmetic, operation_reader, arithmetic_reader}
use Rattle.statements.specs.Spelling as g
use Rattle.statements.specs.Reading as r
use Rattle.statements.proofs.StatementLists.{statements_sound}
use Rattle.statements.proofs.Verbs.Adding.{adding_shrinks, adding_giving_shrinks, adding_stands, adding_giving_stands}
use Rattle.statements.proofs.Verbs.Adding.{adding_complete, adding_giving_complete, adding_sound}
use Rattle.statements.proofs.Verbs.Subtracting.{subtracting_shrinks, subtracting_stands, subtracting_complete}
use Rattle.statements.proofs.Verbs.Subtracting.{subtracting_sound}
use Rattle.statements.proofs.Verbs.Multiplying.{multiplying_shrinks, multiplying_stands, multiplying_complete}
use Rattle.statements.proofs.Verbs.Multiplying.{multiplying_sound}
use Rattle.statements.proofs.Verbs.Dividing.{dividing_shrinks, dividing_stands, quotients_shrink}
use Rattle.statements.proofs.Verbs.Dividing.{quotient_remainder_shrinks, dividing_giving_shrinks}
use Rattle.statements.proofs.Verbs.Dividing.{dividing_giving_stands, dividing_complete, dividing_giving_complete}
use Rattle.statements.proofs.Verbs.Dividing.{dividing_remainder_complete, dividing_sound}
use Rattle.statements.proofs.Verbs.Computing.{computing_shrinks, computing_stands, computing_complete, computing_sound}

-- ---- what is computed: one line for each form

abbrev pub verb_word : Operation → ArithmeticVerb
verb_word (Add operands all) = a.Add
verb_word (AddGiving operands all) = a.Add
verb_word (Subtract operands all) = a.Subtract
verb_word (SubtractGiving operands minuend all) = a.Subtract
verb_word (Multiply factor all) = a.Multiply
verb_word (MultiplyGiving factor by all) = a.Multiply
verb_word (Divide divisor all) = a.Divide
verb_word (DivideGiving first order second all) = a.Divide
verb_word (DivideRemainder first order second quotient remainder) = a.Divide
verb_word (Compute all value) = a.Compute

module _ (depth : ℕ) where
  operation_shrinks : Shrinks (operation depth)
  operation_shrinks (Add operands all) i rest s = adding_shrinks operands (Receivers all) i rest s
  operation_shrinks (AddGiving operands all) i rest s = adding_giving_shrinks operands all i rest s
  operation_shrinks (Subtract operands all) i rest s = subtracting_shrinks operands (Receivers all) i rest s
  operation_shrinks (SubtractGiving operands minuend all) i rest s =
      subtracting_shrinks operands (Giving minuend all) i rest s
  operation_shrinks (Multiply factor all) i rest s = multiplying_shrinks factor (Receivers all) i rest s
  operation_shrinks (MultiplyGiving factor by all) i rest s = multiplying_shrinks factor (Giving by all) i rest s
  operation_shrinks (Divide divisor all) i rest s = dividing_shrinks divisor all i rest s
  operation_shrinks (DivideGiving first order second all) i rest s =
      dividing_giving_shrinks first order second (quotients all) (quotients_shrink all) i rest s
  operation_shrinks (DivideRemainder first order second quotient remainder) i rest s =
      dividing_giving_shrinks first order second (quotient_remainder quotient remainder)
      (quotient_remainder_shrinks quotient remainder) i rest s
  operation_shrinks (Compute all value) i rest s = computing_shrinks all value depth i rest s

  operation_stands : (x : Operation) (i rest : List Token) → operation depth x i rest
      → verb_at i ≡ Some (v.Arithmetic (verb_word x))
  operation_stands (Add operands all) i rest s = adding_stands operands (Receivers all) i rest s
  operation_stands (AddGiving operands all) i rest s = adding_giving_stands operands all i rest s
  operation_stands (Subtract operands all) i rest s = subtracting_stands operands (Receivers all) i rest s
  operation_stands (SubtractGiving operands minuend all) i rest s =
      subtracting_stands operands (Giving minuend all) i rest s
  operation_stands (Multiply factor all) i rest s = multiplying_stands factor (Receivers all) i rest s
  operation_stands (MultiplyGiving factor by all) i rest s = multiplying_stands factor (Giving by all) i rest s
  operation_stands (Divide divisor all) i rest s = dividing_stands divisor all i rest s
  operation_stands (DivideGiving first order second all) i rest s =
      dividing_giving_stands first order second (quotients all) i rest s
  operation_stands (DivideRemainder first order second quotient remainder) i rest s =
      dividing_giving_stands first order second (quotient_remainder quotient remainder) i rest s
  operation_stands (Compute all value) i rest s = computing_stands all value depth i rest s

  operation_sound : (one : ArithmeticVerb) → Sound (operation depth) (operation_reader depth one)
  operation_sound a.Add = adding_sound depth
  operation_sound a.Subtract = subtracting_sound depth
  operation_sound a.Multiply = multiplying_sound depth
  operation_sound a.Divide = dividing_sound depth
  operation_sound a.Compute = computing_sound depth

module _ (Allowed : Halt → Type 0) (depth depth' : ℕ)
    (asks : Complete Allowed (expression depth') (expression_reader depth)) where
  operation_complete : (x : Operation) (i rest : List Token) → operation depth' x i rest
      → Answers Allowed (operation_reader depth (verb_word x) i) x rest
  operation_complete (Add operands all) i rest s = adding_complete operands (Receivers all) i rest s
  operation_complete (AddGiving operands all) i rest s = adding_giving_complete operands all i rest s
  operation_complete (Subtract operands all) i rest s = subtracting_complete operands (Receivers all) i rest s
  operation_complete (SubtractGiving operands minuend all) i rest s =
      subtracting_complete operands (Giving minuend all) i rest s
  operation_complete (Multiply factor all) i rest s = multiplying_complete factor (Receivers all) i rest s
  operation_complete (MultiplyGiving factor by all) i rest s = multiplying_complete factor (Giving by all) i rest s
  operation_complete (Divide divisor all) i rest s = dividing_complete divisor all i rest s
  operation_complete (DivideGiving first order second all) i rest s =
      dividing_giving_complete first order second all i rest s
  operation_complete (DivideRemainder first order second quotient remainder) i rest s =
      dividing_remainder_complete first order second quotient remainder i rest s
  operation_complete (Compute all value) i rest s = computing_complete all value Allowed depth depth' asks i rest s

-- ---- with phrases and an END word

module _ (depth : ℕ) (statements : List Statement → Part) where
  pub arithmetic_shrinks : Shrinks statements → Shrinks (arithmetic depth statements)
  arithmetic_shrinks fewer one i rest (i1, what, (i2, phrases, end)) =
      let a = operation_shrinks depth one.operation i i1 what in
      let b = two_sided_shrinks statements SizeError fewer one.phrases i1 i2 phrases in
      let c = skip_shrinks (end_word one.operation) i2 rest end in omega arith

  pub arithmetic_stands : (one : Arithmetic Statement) (i rest : List Token) → arithmetic depth statements one i rest
      → verb_at i ≡ Some (v.Arithmetic (verb_word one.operation))
  arithmetic_stands one i rest s = operation_stands depth one.operation i s.0 s.1

module _ (Allowed : Halt → Type 0) (depth depth' : ℕ) (asks : Complete Allowed (expression depth')
    (expression_reader depth)) (statements : List Statement → Part) (reader : Parser (List Statement)) where
  pub arithmetic_complete : Complete Allowed statements reader
      → (what : Operation) (phrases : Phrases Statement) (i rest : List Token)
      → arithmetic depth' statements (record { operation = what; phrases = phrases }) i rest
      → Answers Allowed (arithmetic_reader depth reader (verb_word what) i)
      (verb.Arithmetic (record { operation = what; phrases = phrases })) rest
  unfolding arithmetic_reader
  arithmetic_complete each what phrases i rest (i1, first, (i2, both, end)) =
      step (operation_reader depth (verb_word what) i) _ (operation_complete Allowed depth depth' asks what i i1 first)
      (step (two_sided_reader reader SizeError i1) _
      (two_sided_complete statements reader Allowed each SizeError phrases i1 i2 both)
      (step (read.skip (end_word what) i2) _ (skip_complete (end_word what) tt i2 rest end) (Reached refl)))

pub arithmetic_sound : (depth : ℕ) (p : Statement → Part) (nested : Parser Statement) → Sound p nested
    → (one : ArithmeticVerb)
    → Sound (g.verb_line depth p) (arithmetic_reader depth (r.statements nested) one)
unfolding arithmetic_reader
arithmetic_sound depth p nested each one x i rest e =
    unstep (operation_reader depth one i) _ e (λ what i1 is1 e1.
    unstep (two_sided_reader (r.statements nested) SizeError i1) _ e1 (λ phrases i2 is2 e2.
    unstep (read.skip (end_word what) i2) _ e2 (λ u i3 is3 e3.
    subst (λ y. g.verb_line depth p y i rest) (value e3) (
      i1,
      operation_sound depth one what i i1 is1,
      (
        i2,
        two_sided_sound (g.statements p) (r.statements nested) SizeError (statements_sound p nested each) phrases i1 i2
            is2,
        skip_sound (end_word what) u i2 rest (last is3 e3),
      ),
    ))))
