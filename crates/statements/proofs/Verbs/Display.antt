-- DISPLAY: what is read is spelled, and what is spelled is read.
use Rattle.std.proofs.Common.{◌≡◌, ◌<◌, ℕ, ◌≤◌, Bool, List, length, Some, refl, ap, ◌∙◌, subst, arith}
use Rattle.tokens.specs.declared.reserved.Reserved.TheVariants as w
use Rattle.tokens.specs.declared.token.Token.{Token}
use Rattle.source_tree.specs.declared.expression.Operand.{Operand}
use Rattle.source_tree.specs.declared.text_statement.TextStatement.TheVariants as text
use Rattle.source_tree.specs.declared.statement.Verb.TheVariants as verb
use Rattle.source_tree.specs.declared.statement.Statement.{Statement}
use Rattle.grammar.specs.declared.fault.Halt.{Halt}
use Rattle.grammar.specs.Parts.{Part, word}
use Rattle.grammar.specs.Reading as read
use Rattle.grammar.specs.Reading.{after_word, past_word, also_after}
use Rattle.grammar.proofs.Outcomes.{Answers, Reached, step, unstep, value, last}
use Rattle.grammar.proofs.Looking.{Finds, finds_word, finds_also, past_does, past_is}
use Rattle.grammar.proofs.Lists.{Sound}
use Rattle.grammar.proofs.Parts.{word_sound, word_complete, word_shrinks, skip_shrinks, left_out_sound}
use Rattle.grammar.proofs.Parts.{left_out_complete, left_out_shrinks}
use Rattle.expressions.specs.Operands.{begins_operand, operand_reader}
use Rattle.expressions.proofs.Exact.Operands.{operands_sound, operands_complete, operands_shrink}
use Rattle.statements.specs.declared.verb.VerbWord.TheVariants as v
use Rattle.statements.specs.Verbs.{verb_at}
use Rattle.statements.specs.Display.{no_advancing, display, after_no_advancing, display_reader}
use Rattle.statements.specs.Spelling as g
use Rattle.statements.proofs.Standing.{stands}

finds_no_advancing : Finds no_advancing after_no_advancing
unfolding after_no_advancing
finds_no_advancing = record {
  found = λ i after e.
      let f = finds_also (word w.No) (after_word w.No) w.Advancing (finds_word w.No) in
      (past_word w.With i, past_does w.With i, f.found (past_word w.With i) after e);
  stands = λ i after s.
      let f = finds_also (word w.No) (after_word w.No) w.Advancing (finds_word w.No) in
      ap (λ x. also_after w.Advancing (after_word w.No x)) (past_is w.With i s.0 s.1) ∙ f.stands s.0 after s.2;
}

no_advancing_shrinks : (i rest : List Token) → no_advancing i rest → length rest ≤ length i
no_advancing_shrinks i rest s =
    let a = skip_shrinks w.With i s.0 s.1 in
    let b = word_shrinks w.No s.0 s.2.0 s.2.1 in
    let c = word_shrinks w.Advancing s.2.0 rest s.2.2 in omega arith

module _ (operands : List Operand) (advancing : Bool) where
  pub display_shrinks : (i rest : List Token) → display operands advancing i rest → length rest < length i
  display_shrinks i rest (i1, verb, (i2, shown, out)) =
      let a = word_shrinks w.Display i i1 verb in
      let b = operands_shrink operands i1 i2 shown in
      let c = left_out_shrinks no_advancing_shrinks advancing i2 rest out in omega arith

  pub display_stands : (i rest : List Token) → display operands advancing i rest → verb_at i ≡ Some v.Display
  display_stands i rest s = stands w.Display i s.0 s.1

  pub display_complete : {Allowed : Halt → Type 0} (i rest : List Token) → display operands advancing i rest
      → Answers Allowed (display_reader i) (verb.TextStatement (text.Display operands advancing)) rest
  unfolding display_reader
  display_complete i rest (i1, verb, (i2, shown, out)) =
      step (read.expect w.Display i) _ (word_complete w.Display tt i i1 verb)
      (step (read.several operand_reader begins_operand i1) _ (operands_complete operands i1 i2 shown)
      (step (read.left_out after_no_advancing i2) _ (left_out_complete finds_no_advancing advancing i2 rest out)
      (Reached refl)))

pub display_sound : (depth : ℕ) (p : Statement → Part) → Sound (g.verb_line depth p) display_reader
unfolding display_reader
display_sound depth p x i rest e =
    unstep (read.expect w.Display i) _ e (λ u i1 is1 e1.
    unstep (read.several operand_reader begins_operand i1) _ e1 (λ shown i2 is2 e2.
    unstep (read.left_out after_no_advancing i2) _ e2 (λ advancing i3 is3 e3.
    subst (λ y. g.verb_line depth p y i rest) (value e3) (
      i1,
      word_sound w.Display u i i1 is1,
      (i2, operands_sound shown i1 i2 is2, left_out_sound finds_no_advancing advancing i2 rest (last is3 e3)),
    ))))
