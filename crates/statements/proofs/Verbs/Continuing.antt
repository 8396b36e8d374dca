-- CONTINUE: what is read is spelled, and what is spelled is read.
use Rattle.std.proofs.Common.{◌≡◌, ◌<◌, ℕ, List, length, Some, refl, subst}
use Rattle.tokens.specs.declared.reserved.Reserved.TheVariants as w
use Rattle.tokens.specs.declared.token.Token.{Token}
use Rattle.source_tree.specs.declared.control_statement.ControlStatement.TheVariants as ending
use Rattle.source_tree.specs.declared.statement.Verb.TheVariants as verb
use Rattle.source_tree.specs.declared.statement.Statement.{Statement}
use Rattle.grammar.specs.declared.fault.Halt.{Halt}
use Rattle.grammar.specs.Parts.{Part}
use Rattle.grammar.specs.Reading as read
use Rattle.grammar.proofs.Outcomes.{Answers, Reached, step, unstep, value, last}
use Rattle.grammar.proofs.Lists.{Sound}
use Rattle.grammar.proofs.Parts.{word_sound, word_complete, word_shrinks}
use Rattle.statements.specs.declared.verb.VerbWord.TheVariants as v
use Rattle.statements.specs.Verbs.{verb_at}
use Rattle.statements.specs.Continuing.{continue_statement, continue_reader}
use Rattle.statements.specs.Spelling as g
use Rattle.statements.proofs.Standing.{stands}

pub continuing_shrinks : (i rest : List Token) → continue_statement i rest → length rest < length i
continuing_shrinks i rest s = word_shrinks w.Continue i rest s

pub continuing_stands : (i rest : List Token) → continue_statement i rest → verb_at i ≡ Some v.Continue
continuing_stands i rest s = stands w.Continue i rest s

pub continuing_complete : {Allowed : Halt → Type 0} (i rest : List Token) → continue_statement i rest
    → Answers Allowed (continue_reader i) (verb.ControlStatement ending.Continue) rest
unfolding continue_reader
continuing_complete i rest s = step (read.expect w.Continue i) _ (word_complete w.Continue tt i rest s) (Reached refl)

pub continuing_sound : (depth : ℕ) (p : Statement → Part) → Sound (g.verb_line depth p) continue_reader
unfolding continue_reader
continuing_sound depth p x i rest e =
    unstep (read.expect w.Continue i) _ e
    (λ u i1 is1 e1. subst (λ y. g.verb_line depth p y i rest) (value e1) (word_sound w.Continue u i rest (last is1 e1)))
