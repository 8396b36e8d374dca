-- SET of condition names: what is read is spelled, and what is spelled is read.
use Rattle.std.proofs.Common.{◌≡◌, ◌<◌, ℕ, List, length, Some, refl, subst, arith}
use Rattle.tokens.specs.declared.reserved.Reserved.TheVariants as w
use Rattle.tokens.specs.declared.token.Token.{Token}
use Rattle.source_tree.specs.declared.reference.Reference.{Reference}
use Rattle.source_tree.specs.declared.data_statement.DataStatement.TheVariants.{Set}
use Rattle.source_tree.specs.declared.statement.Verb.TheVariants as verb
use Rattle.source_tree.specs.declared.statement.Statement.{Statement}
use Rattle.grammar.specs.declared.fault.Halt.{Halt}
use Rattle.grammar.specs.Parts.{Part, begins_name}
use Rattle.grammar.specs.Reading as read
use Rattle.grammar.proofs.Outcomes.{Answers, Reached, step, unstep, value, last}
use Rattle.grammar.proofs.Lists.{Sound}
use Rattle.grammar.proofs.Parts.{word_sound, word_complete, word_shrinks}
use Rattle.expressions.specs.References.{reference_reader}
use Rattle.expressions.proofs.Exact.References.{references_sound, references_complete, references_shrink}
use Rattle.statements.specs.declared.verb.VerbWord.TheVariants as v
use Rattle.statements.specs.Verbs.{verb_at}
use Rattle.statements.specs.Setting.{set_statement, set_reader}
use Rattle.statements.specs.Spelling as g
use Rattle.statements.proofs.Standing.{stands}

module _ (conditions : List Reference) where
  pub setting_shrinks : (i rest : List Token) → set_statement conditions i rest → length rest < length i
  setting_shrinks i rest (i1, verb, (i2, named, (i3, to, true_word))) =
      let a = word_shrinks w.Set i i1 verb in
      let b = references_shrink conditions i1 i2 named in
      let c = word_shrinks w.To i2 i3 to in
      let d = word_shrinks w.True i3 rest true_word in omega arith

  pub setting_stands : (i rest : List Token) → set_statement conditions i rest → verb_at i ≡ Some v.Set
  setting_stands i rest s = stands w.Set i s.0 s.1

  pub setting_complete : {Allowed : Halt → Type 0} (i rest : List Token) → set_statement conditions i rest
      → Answers Allowed (set_reader i) (verb.DataStatement (Set conditions)) rest
  unfolding set_reader
  setting_complete i rest (i1, verb, (i2, named, (i3, to, true_word))) =
      step (read.expect w.Set i) _ (word_complete w.Set tt i i1 verb)
      (step (read.several reference_reader begins_name i1) _ (references_complete conditions i1 i2 named)
      (step (read.expect w.To i2) _ (word_complete w.To tt i2 i3 to)
      (step (read.expect w.True i3) _ (word_complete w.True tt i3 rest true_word) (Reached refl))))

pub setting_sound : (depth : ℕ) (p : Statement → Part) → Sound (g.verb_line depth p) set_reader
unfolding set_reader
setting_sound depth p x i rest e =
    unstep (read.expect w.Set i) _ e (λ u i1 is1 e1.
    unstep (read.several reference_reader begins_name i1) _ e1 (λ conditions i2 is2 e2.
    unstep (read.expect w.To i2) _ e2 (λ t i3 is3 e3.
    unstep (read.expect w.True i3) _ e3 (λ z i4 is4 e4.
    subst (λ y. g.verb_line depth p y i rest) (value e4) (
      i1,
      word_sound w.Set u i i1 is1,
      (
        i2,
        references_sound conditions i1 i2 is2,
        (i3, word_sound w.To t i2 i3 is3, word_sound w.True z i3 rest (last is4 e4)),
      ),
    )))))
