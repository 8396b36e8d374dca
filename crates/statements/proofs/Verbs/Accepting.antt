-- ACCEPT: what is read is spelled, and what is spelled is read.
use Rattle.std.proofs.Common.{◌≡◌, ◌<◌, ◌≤◌, ℕ, Bool, true, false, List, length, Some, refl, subst, arith}
use Rattle.tokens.specs.declared.reserved.Reserved.TheVariants as w
use Rattle.tokens.specs.declared.token.Token.{Token}
use Rattle.source_tree.specs.declared.reference.Reference.{Reference}
use Rattle.source_tree.specs.declared.statement.Verb.TheVariants as verb
use Rattle.source_tree.specs.declared.statement.Statement.{Statement}
use Rattle.grammar.specs.declared.fault.Halt.{Halt}
use Rattle.grammar.specs.Parts.{Part, word}
use Rattle.grammar.specs.Reading as read
use Rattle.grammar.specs.Reading.{after_word}
use Rattle.grammar.proofs.Outcomes.{Answers, Reached, step, unstep, value, last}
use Rattle.grammar.proofs.Looking.{Finds, finds_word, finds_also}
use Rattle.grammar.proofs.Lists.{Sound}
use Rattle.grammar.proofs.Parts.{word_sound, word_complete, word_shrinks, left_out_sound, left_out_complete}
use Rattle.grammar.proofs.Parts.{left_out_shrinks}
use Rattle.expressions.specs.References.{reference_reader}
use Rattle.expressions.proofs.Exact.References.{reference_sound, reference_complete, reference_shrinks}
use Rattle.statements.specs.declared.verb.VerbWord.TheVariants as v
use Rattle.statements.specs.Verbs.{verb_at}
use Rattle.statements.specs.Accepting.{from_date, accept_statement, accept_tree, after_from_date, accept_reader}
use Rattle.statements.specs.Spelling as g
use Rattle.statements.proofs.Standing.{stands}

finds_from_date : Finds from_date after_from_date
unfolding after_from_date
finds_from_date = finds_also (word w.From) (after_word w.From) w.Date (finds_word w.From)

from_date_shrinks : (i rest : List Token) → from_date i rest → length rest ≤ length i
from_date_shrinks i rest (i1, from, date) =
    let a = word_shrinks w.From i i1 from in
    let b = word_shrinks w.Date i1 rest date in omega arith

module _ (receiver : Reference) (console : Bool) where
  pub accepting_shrinks : (i rest : List Token) → accept_statement receiver console i rest → length rest < length i
  accepting_shrinks i rest (i1, verb, (i2, into, out)) =
      let a = word_shrinks w.Accept i i1 verb in
      let b = reference_shrinks receiver i1 i2 into in
      let c = left_out_shrinks from_date_shrinks console i2 rest out in omega arith

  pub accepting_stands : (i rest : List Token) → accept_statement receiver console i rest → verb_at i ≡ Some v.Accept
  accepting_stands i rest s = stands w.Accept i s.0 s.1

  pub accepting_complete : {Allowed : Halt → Type 0} (i rest : List Token) → accept_statement receiver console i rest
      → Answers Allowed (accept_reader i) (verb.TextStatement (accept_tree receiver console)) rest
  unfolding accept_reader
  accepting_complete i rest (i1, verb, (i2, into, out)) =
      step (read.expect w.Accept i) _ (word_complete w.Accept tt i i1 verb)
      (step (reference_reader i1) _ (reference_complete receiver i1 i2 into)
      (step (read.left_out after_from_date i2) _ (left_out_complete finds_from_date console i2 rest out)
      (Reached refl)))

accepted_spelled : (depth : ℕ) (p : Statement → Part) (receiver : Reference) (console : Bool) (i rest : List Token)
    → accept_statement receiver console i rest
    → g.verb_line depth p (verb.TextStatement (accept_tree receiver console)) i rest
accepted_spelled depth p receiver true i rest s = s
accepted_spelled depth p receiver false i rest s = s

pub accepting_sound : (depth : ℕ) (p : Statement → Part) → Sound (g.verb_line depth p) accept_reader
unfolding accept_reader
accepting_sound depth p x i rest e =
    unstep (read.expect w.Accept i) _ e (λ u i1 is1 e1.
    unstep (reference_reader i1) _ e1 (λ receiver i2 is2 e2.
    unstep (read.left_out after_from_date i2) _ e2 (λ console i3 is3 e3.
    subst (λ y. g.verb_line depth p y i rest) (value e3)
    (accepted_spelled depth p receiver console i rest (
      i1,
      word_sound w.Accept u i i1 is1,
      (i2, reference_sound receiver i1 i2 is2, left_out_sound finds_from_date console i2 rest (last is3 e3)),
    )))))
