-- SUBTRACT: what is read is spelled, and what is spelled is read.
use Rattle.std.proofs.Common.{◌≡◌, ◌<◌, ℕ, List, length, Some, refl, subst, arith}
use Rattle.tokens.specs.declared.reserved.Reserved.TheVariants as w
use Rattle.tokens.specs.declared.token.Token.{Token}
use Rattle.source_tree.specs.declared.expression.Operand.{Operand}
use Rattle.grammar.specs.declared.fault.Halt.{Halt}
use Rattle.grammar.specs.Reading as read
use Rattle.grammar.proofs.Outcomes.{Answers, Reached, step, unstep, value, last}
use Rattle.grammar.proofs.Lists.{Sound}
use Rattle.grammar.proofs.Parts.{word_sound, word_complete, word_shrinks}
use Rattle.statements.specs.declared.verb.VerbWord.TheVariants as v
use Rattle.statements.specs.declared.verb.ArithmeticVerb.TheVariants as a
use Rattle.statements.specs.declared.receivers.Target.{Target}
use Rattle.statements.specs.declared.receivers.Target.TheVariants.{Receivers, Giving}
use Rattle.statements.specs.Verbs.{verb_at}
use Rattle.statements.specs.Receivers.{numbers_reader, target_reader}
use Rattle.statements.specs.Subtracting.{subtract_statement, subtract_operation, subtract_reader}
use Rattle.statements.specs.Arithmetic.{operation}
use Rattle.statements.proofs.Standing.{stands}
use Rattle.statements.proofs.ReceiverLists.{numbers_sound, numbers_complete, numbers_shrink, target_sound}
use Rattle.statements.proofs.ReceiverLists.{target_complete, target_shrinks}

module _ (operands : List Operand) (from : Target) where
  pub subtracting_shrinks : (i rest : List Token) → subtract_statement operands from i rest → length rest < length i
  subtracting_shrinks i rest (i1, verb, (i2, given, (i3, from_word, into))) =
      let a = word_shrinks w.Subtract i i1 verb in
      let b = numbers_shrink operands i1 i2 given in
      let c = word_shrinks w.From i2 i3 from_word in
      let d = target_shrinks from i3 rest into in omega arith

  pub subtracting_stands : (i rest : List Token) → subtract_statement operands from i rest
      → verb_at i ≡ Some (v.Arithmetic a.Subtract)
  subtracting_stands i rest s = stands w.Subtract i s.0 s.1

  pub subtracting_complete : {Allowed : Halt → Type 0} (i rest : List Token) → subtract_statement operands from i rest
      → Answers Allowed (subtract_reader i) (subtract_operation operands from) rest
  unfolding subtract_reader
  subtracting_complete i rest (i1, verb, (i2, given, (i3, from_word, into))) =
      step (read.expect w.Subtract i) _ (word_complete w.Subtract tt i i1 verb)
      (step (numbers_reader i1) _ (numbers_complete operands i1 i2 given)
      (step (read.expect w.From i2) _ (word_complete w.From tt i2 i3 from_word)
      (step (target_reader i3) _ (target_complete from i3 rest into) (Reached refl))))

subtracted_spelled : (depth : ℕ) (operands : List Operand) (from : Target) (i rest : List Token)
    → subtract_statement operands from i rest → operation depth (subtract_operation operands from) i rest
subtracted_spelled depth operands (Receivers all) i rest s = s
subtracted_spelled depth operands (Giving minuend all) i rest s = s

pub subtracting_sound : (depth : ℕ) → Sound (operation depth) subtract_reader
unfolding subtract_reader
subtracting_sound depth x i rest e =
    unstep (read.expect w.Subtract i) _ e (λ u i1 is1 e1.
    unstep (numbers_reader i1) _ e1 (λ operands i2 is2 e2.
    unstep (read.expect w.From i2) _ e2 (λ t i3 is3 e3.
    unstep (target_reader i3) _ e3 (λ from i4 is4 e4.
    subst (λ y. operation depth y i rest) (value e4)
    (subtracted_spelled depth operands from i rest (
      i1,
      word_sound w.Subtract u i i1 is1,
      (
        i2,
        numbers_sound operands i1 i2 is2,
        (i3, word_sound w.From t i2 i3 is3, target_sound from i3 rest (last is4 e4)),
      ),
    ))))))
