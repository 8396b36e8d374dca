-- IF: its rule, and how it is read; EVALUATE, the other statement of its family, has a file of its own.
use Rattle.std.specs.Prelude.{ℕ, List, Option}
use Rattle.tokens.specs.declared.reserved.Reserved.TheVariants as w
use Rattle.source_tree.specs.declared.conditional_statement.ConditionalStatement.{ConditionalStatement}
use Rattle.source_tree.specs.declared.conditional_statement.ConditionalStatement.TheVariants.{If, Evaluate}
use Rattle.source_tree.specs.declared.statement.Verb.{Verb}
use Rattle.source_tree.specs.declared.statement.Verb.TheVariants as verb
use Rattle.source_tree.specs.declared.statement.Statement.{Statement}
use Rattle.grammar.specs.Parts.{Part, ◌then◌, optional, word}
use Rattle.grammar.specs.Reading.{Parser, ◌>>=◌, ◌>>◌, pure, after_word, expect, skip}
use Rattle.grammar.specs.Phrases.{phrase, phrase_reader}
use Rattle.conditions.specs.Conditions.{condition, condition_reader}
use Rattle.statements.specs.Evaluate.{evaluate_statement}

-- IF c [THEN] s [ELSE s] [END-IF] (COBOL-85, Nucleus, "The IF statement"); or EVALUATE. `depth` is how deep a condition may nest.
abbrev pub conditional_statement : ℕ → (List Statement → Part) → ConditionalStatement Statement → Part
conditional_statement depth statements (If asked done otherwise) =
    word w.If then condition depth asked then optional (word w.Then) then statements done
    then phrase statements (word w.Else) otherwise then optional (word w.EndIf)
conditional_statement depth statements (Evaluate one) = evaluate_statement depth statements one

unfoldable pub otherwise_reader : {S : Type 0} → Parser (List S) → Parser (Option (List S))
otherwise_reader statements = phrase_reader statements (after_word w.Else)

unfoldable pub conditional_reader : {S : Type 0} → ℕ → Parser (List S) → Parser (Verb S)
conditional_reader depth statements = do
  expect w.If
  asked ← condition_reader depth
  skip w.Then
  done ← statements
  otherwise ← otherwise_reader statements
  skip w.EndIf
  pure (verb.ConditionalStatement (If asked done otherwise))
