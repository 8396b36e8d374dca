-- IF: what is read is spelled, and what is spelled is read.
use Rattle.std.proofs.Common.{◌≡◌, ◌<◌, ℕ, List, length, Option, Some, refl, subst, arith}
use Rattle.tokens.specs.declared.reserved.Reserved.TheVariants as w
use Rattle.tokens.specs.declared.token.Token.{Token}
use Rattle.source_tree.specs.declared.condition.Condition.{Condition}
use Rattle.source_tree.specs.declared.conditional_statement.ConditionalStatement.TheVariants.{If}
use Rattle.source_tree.specs.declared.statement.Verb.TheVariants as verb
use Rattle.source_tree.specs.declared.statement.Statement.{Statement}
use Rattle.grammar.specs.declared.fault.Halt.{Halt}
use Rattle.grammar.specs.Parts.{Part, word}
use Rattle.grammar.specs.Reading as read
use Rattle.grammar.specs.Reading.{Parser}
use Rattle.grammar.specs.Phrases.{phrase}
use Rattle.grammar.proofs.Outcomes.{Answers, Reached, step, unstep, value, last}
use Rattle.grammar.proofs.Looking.{finds_word}
use Rattle.grammar.proofs.Lists.{Sound, Complete, Shrinks}
use Rattle.grammar.proofs.Parts.{word_sound, word_complete, word_shrinks, skip_sound, skip_complete, skip_shrinks}
use Rattle.grammar.proofs.Phrases.{phrase_shrinks, phrase_sound, phrase_complete}
use Rattle.conditions.specs.Conditions.{condition, condition_reader}
use Rattle.conditions.proofs.Exact.Conditions.{condition_sound, condition_shrinks}
use Rattle.statements.specs.declared.verb.VerbWord.TheVariants as v
use Rattle.statements.specs.Verbs.{verb_at}
use Rattle.statements.specs.Branching.{conditional_statement, otherwise_reader, conditional_reader}
use Rattle.statements.specs.Spelling as g
use Rattle.statements.specs.Reading as r
use Rattle.statements.proofs.Standing.{stands}
use Rattle.statements.proofs.StatementLists.{statements_sound}

module _ (statements : List Statement → Part) where
  pub branching_stands : (depth : ℕ) (asked : Condition) (done : List Statement) (otherwise : Option (List Statement))
      (i rest : List Token)
      → conditional_statement depth statements (If asked done otherwise) i rest → verb_at i ≡ Some v.If
  branching_stands depth asked done otherwise i rest s = stands w.If i s.0 s.1

  pub branching_shrinks : (depth : ℕ) → Shrinks statements
      → (asked : Condition) (done : List Statement) (otherwise : Option (List Statement)) (i rest : List Token)
      → conditional_statement depth statements (If asked done otherwise) i rest → length rest < length i
  branching_shrinks depth each asked done otherwise i rest
      (i1, verb, (i2, asks, (i3, then_word, (i4, inner, (i5, other, end))))) =
      let a = word_shrinks w.If i i1 verb in
      let b = condition_shrinks depth asked i1 i2 asks in
      let c = skip_shrinks w.Then i2 i3 then_word in
      let d = each done i3 i4 inner in
      let e = phrase_shrinks statements (word w.Else) (word_shrinks w.Else) each otherwise i4 i5 other in
      let f = skip_shrinks w.EndIf i5 rest end in omega arith

  module _ (reader : Parser (List Statement)) where
    -- ELSE belongs to the innermost IF that can take it
    otherwise_sound : Sound statements reader → Sound (phrase statements (word w.Else)) (otherwise_reader reader)
    unfolding otherwise_reader
    otherwise_sound each = phrase_sound statements reader (finds_word w.Else) each

    module _ (Allowed : Halt → Type 0) (each : Complete Allowed statements reader) where
      otherwise_complete : Complete Allowed (phrase statements (word w.Else)) (otherwise_reader reader)
      unfolding otherwise_reader
      otherwise_complete = phrase_complete statements reader Allowed each (finds_word w.Else)

      pub branching_complete : (depth depth' : ℕ) → Complete Allowed (condition depth') (condition_reader depth)
          → (asked : Condition) (done : List Statement) (otherwise : Option (List Statement)) (i rest : List Token)
          → conditional_statement depth' statements (If asked done otherwise) i rest
          → Answers Allowed (conditional_reader depth reader i) (verb.ConditionalStatement (If asked done otherwise))
          rest
      unfolding conditional_reader
      branching_complete depth depth' asks asked done otherwise i rest
          (i1, verb, (i2, is, (i3, then_word, (i4, inner, (i5, other, end))))) =
          step (read.expect w.If i) _ (word_complete w.If tt i i1 verb)
          (step (condition_reader depth i1) _ (asks asked i1 i2 is)
          (step (read.skip w.Then i2) _ (skip_complete w.Then tt i2 i3 then_word)
          (step (reader i3) _ (each done i3 i4 inner)
          (step (otherwise_reader reader i4) _ (otherwise_complete otherwise i4 i5 other)
          (step (read.skip w.EndIf i5) _ (skip_complete w.EndIf tt i5 rest end) (Reached refl))))))

pub branching_sound : (depth : ℕ) (p : Statement → Part) (nested : Parser Statement) → Sound p nested
    → Sound (g.verb_line depth p) (conditional_reader depth (r.statements nested))
unfolding conditional_reader
branching_sound depth p nested each x i rest e =
    unstep (read.expect w.If i) _ e (λ u i1 is1 e1.
    unstep (condition_reader depth i1) _ e1 (λ asked i2 is2 e2.
    unstep (read.skip w.Then i2) _ e2 (λ v i3 is3 e3.
    unstep (r.statements nested i3) _ e3 (λ done i4 is4 e4.
    unstep (otherwise_reader (r.statements nested) i4) _ e4 (λ otherwise i5 is5 e5.
    unstep (read.skip w.EndIf i5) _ e5 (λ t i6 is6 e6.
    subst (λ y. g.verb_line depth p y i rest) (value e6) (
      i1,
      word_sound w.If u i i1 is1,
      (
        i2,
        condition_sound depth asked i1 i2 is2,
        (
          i3,
          skip_sound w.Then v i2 i3 is3,
          (
            i4,
            statements_sound p nested each done i3 i4 is4,
            (
              i5,
              otherwise_sound (g.statements p) (r.statements nested) (statements_sound p nested each) otherwise i4 i5
                  is5,
              skip_sound w.EndIf t i5 rest (last is6 e6),
            ),
          ),
        ),
      ),
    )))))))
