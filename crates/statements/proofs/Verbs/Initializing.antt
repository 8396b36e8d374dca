-- INITIALIZE: what is read is spelled, and what is spelled is read.
use Rattle.std.proofs.Common.{◌≡◌, ◌<◌, ℕ, List, length, Some, refl, subst, arith}
use Rattle.tokens.specs.declared.reserved.Reserved.TheVariants as w
use Rattle.tokens.specs.declared.token.Token.{Token}
use Rattle.source_tree.specs.declared.reference.Reference.{Reference}
use Rattle.source_tree.specs.declared.data_statement.DataStatement.TheVariants.{Initialize}
use Rattle.source_tree.specs.declared.statement.Verb.TheVariants as verb
use Rattle.source_tree.specs.declared.statement.Statement.{Statement}
use Rattle.grammar.specs.declared.fault.Halt.{Halt}
use Rattle.grammar.specs.Parts.{Part, begins_name}
use Rattle.grammar.specs.Reading as read
use Rattle.grammar.proofs.Outcomes.{Answers, Reached, step, unstep, value, last}
use Rattle.grammar.proofs.Lists.{Sound}
use Rattle.grammar.proofs.Parts.{word_sound, word_complete, word_shrinks}
use Rattle.expressions.specs.References.{reference_reader}
use Rattle.expressions.proofs.Exact.References.{references_sound, references_complete, references_shrink}
use Rattle.statements.specs.declared.verb.VerbWord.TheVariants as v
use Rattle.statements.specs.Verbs.{verb_at}
use Rattle.statements.specs.Initializing.{initialize_statement, initialize_reader}
use Rattle.statements.specs.Spelling as g
use Rattle.statements.proofs.Standing.{stands}

module _ (receivers : List Reference) where
  pub initializing_shrinks : (i rest : List Token) → initialize_statement receivers i rest → length rest < length i
  initializing_shrinks i rest (i1, verb, into) =
      let a = word_shrinks w.Initialize i i1 verb in
      let b = references_shrink receivers i1 rest into in omega arith

  pub initializing_stands : (i rest : List Token) → initialize_statement receivers i rest
      → verb_at i ≡ Some v.Initialize
  initializing_stands i rest s = stands w.Initialize i s.0 s.1

  pub initializing_complete : {Allowed : Halt → Type 0} (i rest : List Token) → initialize_statement receivers i rest
      → Answers Allowed (initialize_reader i) (verb.DataStatement (Initialize receivers)) rest
  unfolding initialize_reader
  initializing_complete i rest (i1, verb, into) =
      step (read.expect w.Initialize i) _ (word_complete w.Initialize tt i i1 verb)
      (step (read.several reference_reader begins_name i1) _ (references_complete receivers i1 rest into)
      (Reached refl))

pub initializing_sound : (depth : ℕ) (p : Statement → Part) → Sound (g.verb_line depth p) initialize_reader
unfolding initialize_reader
initializing_sound depth p x i rest e =
    unstep (read.expect w.Initialize i) _ e (λ u i1 is1 e1.
    unstep (read.several reference_reader begins_name i1) _ e1 (λ receivers i2 is2 e2.
    subst (λ y. g.verb_line depth p y i rest) (value e2)
    (i1, word_sound w.Initialize u i i1 is1, references_sound receivers i1 rest (last is2 e2))))
