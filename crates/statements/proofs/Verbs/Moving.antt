-- MOVE: what is read is spelled, and what is spelled is read.
use Rattle.std.proofs.Common.{◌≡◌, ◌<◌, ℕ, List, length, Some, refl, subst, arith}
use Rattle.tokens.specs.declared.reserved.Reserved.TheVariants as w
use Rattle.tokens.specs.declared.token.Token.{Token}
use Rattle.source_tree.specs.declared.expression.Operand.{Operand}
use Rattle.source_tree.specs.declared.reference.Reference.{Reference}
use Rattle.source_tree.specs.declared.data_statement.DataStatement.TheVariants.{Move}
use Rattle.source_tree.specs.declared.statement.Verb.TheVariants as verb
use Rattle.source_tree.specs.declared.statement.Statement.{Statement}
use Rattle.grammar.specs.declared.fault.Halt.{Halt}
use Rattle.grammar.specs.Parts.{Part, begins_name}
use Rattle.grammar.specs.Reading as read
use Rattle.grammar.proofs.Outcomes.{Answers, Reached, step, unstep, value, last}
use Rattle.grammar.proofs.Lists.{Sound}
use Rattle.grammar.proofs.Parts.{word_sound, word_complete, word_shrinks}
use Rattle.expressions.specs.Operands.{operand_reader}
use Rattle.expressions.specs.References.{reference_reader}
use Rattle.expressions.proofs.Exact.Operands.{operand_sound, operand_complete, operand_shrinks}
use Rattle.expressions.proofs.Exact.References.{references_sound, references_complete, references_shrink}
use Rattle.statements.specs.declared.verb.VerbWord.TheVariants as v
use Rattle.statements.specs.Verbs.{verb_at}
use Rattle.statements.specs.Moving.{move_statement, move_reader}
use Rattle.statements.specs.Spelling as g
use Rattle.statements.proofs.Standing.{stands}

module _ (sender : Operand) (receivers : List Reference) where
  pub moving_shrinks : (i rest : List Token) → move_statement sender receivers i rest → length rest < length i
  moving_shrinks i rest (i1, verb, (i2, taken, (i3, to, into))) =
      let a = word_shrinks w.Move i i1 verb in
      let b = operand_shrinks sender i1 i2 taken in
      let c = word_shrinks w.To i2 i3 to in
      let d = references_shrink receivers i3 rest into in omega arith

  pub moving_stands : (i rest : List Token) → move_statement sender receivers i rest → verb_at i ≡ Some v.Move
  moving_stands i rest s = stands w.Move i s.0 s.1

  pub moving_complete : {Allowed : Halt → Type 0} (i rest : List Token) → move_statement sender receivers i rest
      → Answers Allowed (move_reader i) (verb.DataStatement (Move sender receivers)) rest
  unfolding move_reader
  moving_complete i rest (i1, verb, (i2, taken, (i3, to, into))) =
      step (read.expect w.Move i) _ (word_complete w.Move tt i i1 verb)
      (step (operand_reader i1) _ (operand_complete sender i1 i2 taken)
      (step (read.expect w.To i2) _ (word_complete w.To tt i2 i3 to)
      (step (read.several reference_reader begins_name i3) _ (references_complete receivers i3 rest into)
      (Reached refl))))

pub moving_sound : (depth : ℕ) (p : Statement → Part) → Sound (g.verb_line depth p) move_reader
unfolding move_reader
moving_sound depth p x i rest e =
    unstep (read.expect w.Move i) _ e (λ u i1 is1 e1.
    unstep (operand_reader i1) _ e1 (λ sender i2 is2 e2.
    unstep (read.expect w.To i2) _ e2 (λ t i3 is3 e3.
    unstep (read.several reference_reader begins_name i3) _ e3 (λ receivers i4 is4 e4.
    subst (λ y. g.verb_line depth p y i rest) (value e4) (
      i1,
      word_sound w.Move u i i1 is1,
      (
        i2,
        operand_sound sender i1 i2 is2,
        (i3, word_sound w.To t i2 i3 is3, references_sound receivers i3 rest (last is4 e4)),
      ),
    )))))
