-- EVALUATE: its rule, and how it is read.
use Rattle.std.specs.Prelude.{ℕ, Bool, List, [], ◌∷◌, Option, is_some, ◌&&◌, not}
use Rattle.tokens.specs.declared.reserved.Reserved.TheVariants as w
use Rattle.tokens.specs.declared.token.Token.{Token}
use Rattle.source_tree.specs.declared.evaluate_statement.When.{When}
use Rattle.source_tree.specs.declared.evaluate_statement.Selected.{Selected}
use Rattle.source_tree.specs.declared.evaluate_statement.Evaluate.{Evaluate}
use Rattle.source_tree.specs.declared.conditional_statement.ConditionalStatement.TheVariants as branch
use Rattle.source_tree.specs.declared.statement.Verb.{Verb}
use Rattle.source_tree.specs.declared.statement.Verb.TheVariants as verb
use Rattle.source_tree.specs.declared.statement.Statement.{Statement}
use Rattle.grammar.specs.Parts as g
use Rattle.grammar.specs.Parts.{Part, ◌then◌, ◌but◌, nowhere, optional, lookahead, word}
use Rattle.grammar.specs.Reading as r
use Rattle.grammar.specs.Reading.{Parser, Words, ◌>>=◌, ◌>>◌, pure, after_word, also_after, begins_word, expect, skip}
use Rattle.grammar.specs.Phrases.{phrase, phrase_reader}
use Rattle.conditions.specs.Evaluate.{subject, subject_reader, object, object_reader}

-- ---- subjects, and the objects of a WHEN

abbrev pub also_item : {A : Type 0} → (A → Part) → A → Part
also_item p one = word w.Also then p one

-- p [ALSO p]...
abbrev pub also_list : {A : Type 0} → (A → Part) → List A → Part
also_list p [] = nowhere
also_list p (first ∷ more) = p first then g.any (also_item p) (lookahead (begins_word w.Also)) more

-- ---- WHEN

abbrev pub when_other : Part
when_other = word w.When then word w.Other

-- WHEN ob [ALSO ob]...
abbrev pub when : ℕ → When → Part
when depth one = g.verb w.When one.place then also_list (object depth) one.objects

-- WHEN OTHER is no WHEN with objects.
abbrev pub when_begins : Part
when_begins = lookahead (begins_word w.When) but when_other

-- {WHEN ob [ALSO ob]...}... s
abbrev pub when_group : ℕ → (List Statement → Part) → Selected Statement → Part
when_group depth statements one = g.several (when depth) when_begins one.whens then statements one.statements

-- EVALUATE su [ALSO su]... {{WHEN ob [ALSO ob]...}... s}... [WHEN OTHER s] [END-EVALUATE] (COBOL-85, Nucleus, "The EVALUATE
-- statement"). `depth` is how deep what its subjects and objects hold may nest.
abbrev pub evaluate_statement : ℕ → (List Statement → Part) → Evaluate Statement → Part
evaluate_statement depth statements one =
    word w.Evaluate then also_list (subject depth) one.subjects then g.several (when_group depth statements) when_begins one.selected
    then phrase statements when_other one.other then optional (word w.EndEvaluate)

-- ---- reading

unfoldable pub also_item_reader : {A : Type 0} → Parser A → Parser A
also_item_reader one = expect w.Also >> one

unfoldable pub listed_reader : {A : Type 0} → Parser A → Parser (List A)
listed_reader one = do
  first ← one
  more ← r.any (also_item_reader one) (begins_word w.Also)
  pure (first ∷ more)

unfoldable pub after_when_other : Words
after_when_other i = also_after w.Other (after_word w.When i)

abbrev pub begins_when : List Token → Bool
begins_when i = begins_word w.When i && not (is_some (after_when_other i))

unfoldable pub when_reader : ℕ → Parser When
when_reader depth = do
  place ← r.verb w.When
  objects ← listed_reader (object_reader depth)
  pure (record { place = place; objects = objects })

unfoldable pub selected_reader : {S : Type 0} → ℕ → Parser (List S) → Parser (Selected S)
selected_reader depth statements = do
  whens ← r.several (when_reader depth) begins_when
  done ← statements
  pure (record { whens = whens; statements = done })

unfoldable pub other_reader : {S : Type 0} → Parser (List S) → Parser (Option (List S))
other_reader statements = phrase_reader statements after_when_other

unfoldable pub evaluate_reader : {S : Type 0} → ℕ → Parser (List S) → Parser (Verb S)
evaluate_reader depth statements = do
  expect w.Evaluate
  subjects ← listed_reader (subject_reader depth)
  all ← r.several (selected_reader depth statements) begins_when
  other ← other_reader statements
  skip w.EndEvaluate
  pure (verb.ConditionalStatement (branch.Evaluate (record { subjects = subjects; selected = all; other = other })))
