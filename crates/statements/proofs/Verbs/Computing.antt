-- COMPUTE: what is read is spelled, and what is spelled is read.
use Rattle.std.proofs.Common.{◌≡◌, ◌<◌, ℕ, List, length, Some, refl, subst, arith}
use Rattle.tokens.specs.declared.reserved.Reserved.TheVariants as w
use Rattle.tokens.specs.declared.token.Token.{Token}
use Rattle.source_tree.specs.declared.expression.Expression.{Expression}
use Rattle.source_tree.specs.declared.arithmetic.Receiver.{Receiver}
use Rattle.source_tree.specs.declared.arithmetic.Operation.TheVariants.{Compute}
use Rattle.grammar.specs.declared.fault.Halt.{Halt}
use Rattle.grammar.specs.Reading as read
use Rattle.grammar.specs.Reading.{one_token}
use Rattle.grammar.proofs.Outcomes.{Answers, Reached, step, unstep, value, last}
use Rattle.grammar.proofs.Lists.{Sound, Complete}
use Rattle.grammar.proofs.Parts.{word_sound, word_complete, word_shrinks, one_token_sound, one_token_complete}
use Rattle.grammar.proofs.Parts.{telling_shrinks}
use Rattle.expressions.specs.Expressions.{expression, expression_reader}
use Rattle.expressions.proofs.Exact.Expressions.{expression_sound, expression_shrinks}
use Rattle.statements.specs.declared.verb.VerbWord.TheVariants as v
use Rattle.statements.specs.declared.verb.ArithmeticVerb.TheVariants as a
use Rattle.statements.specs.Verbs.{verb_at}
use Rattle.statements.specs.Receivers.{receivers_reader}
use Rattle.statements.specs.Computing.{equal_in, compute_statement, compute_reader}
use Rattle.statements.specs.Arithmetic.{operation}
use Rattle.statements.proofs.Standing.{stands}
use Rattle.statements.proofs.ReceiverLists.{receivers_sound, receivers_complete, receivers_shrink}

module _ (all : List Receiver) (what : Expression) where
  pub computing_shrinks : (depth : ℕ) (i rest : List Token) → compute_statement depth all what i rest
      → length rest < length i
  computing_shrinks depth i rest (i1, verb, (i2, into, (i3, equal, from))) =
      let a = word_shrinks w.Compute i i1 verb in
      let b = receivers_shrink all i1 i2 into in
      let c = telling_shrinks equal_in tt i2 i3 equal in
      let d = expression_shrinks depth what i3 rest from in omega arith

  pub computing_stands : (depth : ℕ) (i rest : List Token) → compute_statement depth all what i rest
      → verb_at i ≡ Some (v.Arithmetic a.Compute)
  computing_stands depth i rest s = stands w.Compute i s.0 s.1

  pub computing_complete : (Allowed : Halt → Type 0) (depth depth' : ℕ)
      → Complete Allowed (expression depth') (expression_reader depth)
      → (i rest : List Token) → compute_statement depth' all what i rest
      → Answers Allowed (compute_reader depth i) (Compute all what) rest
  unfolding compute_reader
  computing_complete Allowed depth depth' each i rest (i1, verb, (i2, into, (i3, equal, from))) =
      step (read.expect w.Compute i) _ (word_complete w.Compute tt i i1 verb)
      (step (receivers_reader i1) _ (receivers_complete all i1 i2 into)
      (step (one_token equal_in i2) _ (one_token_complete equal_in tt i2 i3 equal)
      (step (expression_reader depth i3) _ (each what i3 rest from) (Reached refl))))

pub computing_sound : (depth : ℕ) → Sound (operation depth) (compute_reader depth)
unfolding compute_reader
computing_sound depth x i rest e =
    unstep (read.expect w.Compute i) _ e (λ u i1 is1 e1.
    unstep (receivers_reader i1) _ e1 (λ all i2 is2 e2.
    unstep (one_token equal_in i2) _ e2 (λ t i3 is3 e3.
    unstep (expression_reader depth i3) _ e3 (λ what i4 is4 e4.
    subst (λ y. operation depth y i rest) (value e4) (
      i1,
      word_sound w.Compute u i i1 is1,
      (
        i2,
        receivers_sound all i1 i2 is2,
        (i3, one_token_sound equal_in t i2 i3 is3, expression_sound depth what i3 rest (last is4 e4)),
      ),
    )))))
