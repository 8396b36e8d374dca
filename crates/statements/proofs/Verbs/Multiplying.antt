-- MULTIPLY: what is read is spelled, and what is spelled is read.
use Rattle.std.proofs.Common.{◌≡◌, ◌<◌, ℕ, List, length, Some, refl, subst, arith}
use Rattle.tokens.specs.declared.reserved.Reserved.TheVariants as w
use Rattle.tokens.specs.declared.token.Token.{Token}
use Rattle.source_tree.specs.declared.expression.Operand.{Operand}
use Rattle.grammar.specs.declared.fault.Halt.{Halt}
use Rattle.grammar.specs.Reading as read
use Rattle.grammar.proofs.Outcomes.{Answers, Reached, step, unstep, value, last}
use Rattle.grammar.proofs.Lists.{Sound}
use Rattle.grammar.proofs.Parts.{word_sound, word_complete, word_shrinks}
use Rattle.expressions.specs.Operands.{number_operand_reader}
use Rattle.expressions.proofs.Exact.Operands.{number_operand_sound, number_operand_complete, number_operand_shrinks}
use Rattle.statements.specs.declared.verb.VerbWord.TheVariants as v
use Rattle.statements.specs.declared.verb.ArithmeticVerb.TheVariants as a
use Rattle.statements.specs.declared.receivers.Target.{Target}
use Rattle.statements.specs.declared.receivers.Target.TheVariants.{Receivers, Giving}
use Rattle.statements.specs.Verbs.{verb_at}
use Rattle.statements.specs.Receivers.{target_reader}
use Rattle.statements.specs.Multiplying.{multiply_statement, multiply_operation, multiply_reader}
use Rattle.statements.specs.Arithmetic.{operation}
use Rattle.statements.proofs.Standing.{stands}
use Rattle.statements.proofs.ReceiverLists.{target_sound, target_complete, target_shrinks}

module _ (factor : Operand) (by : Target) where
  pub multiplying_shrinks : (i rest : List Token) → multiply_statement factor by i rest → length rest < length i
  multiplying_shrinks i rest (i1, verb, (i2, given, (i3, by_word, into))) =
      let a = word_shrinks w.Multiply i i1 verb in
      let b = number_operand_shrinks factor i1 i2 given in
      let c = word_shrinks w.By i2 i3 by_word in
      let d = target_shrinks by i3 rest into in omega arith

  pub multiplying_stands : (i rest : List Token) → multiply_statement factor by i rest
      → verb_at i ≡ Some (v.Arithmetic a.Multiply)
  multiplying_stands i rest s = stands w.Multiply i s.0 s.1

  pub multiplying_complete : {Allowed : Halt → Type 0} (i rest : List Token) → multiply_statement factor by i rest
      → Answers Allowed (multiply_reader i) (multiply_operation factor by) rest
  unfolding multiply_reader
  multiplying_complete i rest (i1, verb, (i2, given, (i3, by_word, into))) =
      step (read.expect w.Multiply i) _ (word_complete w.Multiply tt i i1 verb)
      (step (number_operand_reader i1) _ (number_operand_complete factor i1 i2 given)
      (step (read.expect w.By i2) _ (word_complete w.By tt i2 i3 by_word)
      (step (target_reader i3) _ (target_complete by i3 rest into) (Reached refl))))

multiplied_spelled : (depth : ℕ) (factor : Operand) (by : Target) (i rest : List Token)
    → multiply_statement factor by i rest → operation depth (multiply_operation factor by) i rest
multiplied_spelled depth factor (Receivers all) i rest s = s
multiplied_spelled depth factor (Giving by all) i rest s = s

pub multiplying_sound : (depth : ℕ) → Sound (operation depth) multiply_reader
unfolding multiply_reader
multiplying_sound depth x i rest e =
    unstep (read.expect w.Multiply i) _ e (λ u i1 is1 e1.
    unstep (number_operand_reader i1) _ e1 (λ factor i2 is2 e2.
    unstep (read.expect w.By i2) _ e2 (λ t i3 is3 e3.
    unstep (target_reader i3) _ e3 (λ by i4 is4 e4.
    subst (λ y. operation depth y i rest) (value e4)
    (multiplied_spelled depth factor by i rest (
      i1,
      word_sound w.Multiply u i i1 is1,
      (
        i2,
        number_operand_sound factor i1 i2 is2,
        (i3, word_sound w.By t i2 i3 is3, target_sound by i3 rest (last is4 e4)),
      ),
    ))))))
