-- STOP RUN: what is read is spelled, and what is spelled is read.
use Rattle.std.proofs.Common.{◌≡◌, ◌<◌, ℕ, List, length, Some, refl, subst, arith}
use Rattle.tokens.specs.declared.reserved.Reserved.TheVariants as w
use Rattle.tokens.specs.declared.token.Token.{Token}
use Rattle.source_tree.specs.declared.control_statement.ControlStatement.TheVariants as ending
use Rattle.source_tree.specs.declared.statement.Verb.TheVariants as verb
use Rattle.source_tree.specs.declared.statement.Statement.{Statement}
use Rattle.grammar.specs.declared.fault.Halt.{Halt}
use Rattle.grammar.specs.Parts.{Part}
use Rattle.grammar.specs.Reading as read
use Rattle.grammar.proofs.Outcomes.{Answers, Reached, step, unstep, value, last}
use Rattle.grammar.proofs.Lists.{Sound}
use Rattle.grammar.proofs.Parts.{word_sound, word_complete, word_shrinks}
use Rattle.statements.specs.declared.verb.VerbWord.TheVariants as v
use Rattle.statements.specs.Verbs.{verb_at}
use Rattle.statements.specs.StopRun.{stop_run, stop_run_reader}
use Rattle.statements.specs.Spelling as g
use Rattle.statements.proofs.Standing.{stands}

pub stop_run_shrinks : (i rest : List Token) → stop_run i rest → length rest < length i
stop_run_shrinks i rest (i1, verb, run) =
    let a = word_shrinks w.Stop i i1 verb in
    let b = word_shrinks w.Run i1 rest run in omega arith

pub stop_run_stands : (i rest : List Token) → stop_run i rest → verb_at i ≡ Some v.Stop
stop_run_stands i rest s = stands w.Stop i s.0 s.1

pub stop_run_complete : {Allowed : Halt → Type 0} (i rest : List Token) → stop_run i rest
    → Answers Allowed (stop_run_reader i) (verb.ControlStatement ending.StopRun) rest
unfolding stop_run_reader
stop_run_complete i rest (i1, verb, run) =
    step (read.expect w.Stop i) _ (word_complete w.Stop tt i i1 verb)
    (step (read.expect w.Run i1) _ (word_complete w.Run tt i1 rest run) (Reached refl))

pub stop_run_sound : (depth : ℕ) (p : Statement → Part) → Sound (g.verb_line depth p) stop_run_reader
unfolding stop_run_reader
stop_run_sound depth p x i rest e =
    unstep (read.expect w.Stop i) _ e (λ u i1 is1 e1.
    unstep (read.expect w.Run i1) _ e1 (λ v i2 is2 e2.
    subst (λ y. g.verb_line depth p y i rest) (value e2)
    (i1, word_sound w.Stop u i i1 is1, word_sound w.Run v i1 rest (last is2 e2))))
