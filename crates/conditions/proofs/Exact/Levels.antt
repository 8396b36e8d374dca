-- Conditions with AND, or OR, between: what is read is spelled, and what is spelled is read.
use Rattle.std.proofs.Common.{List, refl, sym, ◌∙◌, subst, arith}
use Rattle.tokens.specs.declared.reserved.Reserved.{Reserved}
use Rattle.tokens.specs.declared.reserved.Reserved.TheVariants as w
use Rattle.source_tree.specs.declared.condition.Condition.{Condition}
use Rattle.source_tree.specs.declared.condition.Condition.TheVariants as c
use Rattle.grammar.specs.declared.fault.Halt.{Halt}
use Rattle.grammar.specs.Parts.{Part, lookahead}
use Rattle.grammar.specs.Reading as read
use Rattle.grammar.specs.Reading.{Parser, begins_word, expect}
use Rattle.grammar.proofs.Outcomes.{Answers, Reached, step, unstep, value, last}
use Rattle.grammar.proofs.Looking.{tests_tested, word_begins}
use Rattle.grammar.proofs.Lists as lists
use Rattle.grammar.proofs.Lists.{Sound, Complete, Shrinks, Starts}
use Rattle.grammar.proofs.Parts.{word_sound, word_complete, word_shrinks}
use Rattle.expressions.proofs.Exact.Balance.{Even, word_even, any_even}
use Rattle.conditions.specs.Conditions as g

module _ (between : Reserved) (node : List Condition → Condition) (lower : Condition → Part) where
  further_shrinks : Shrinks lower → Shrinks (g.further_condition between lower)
  further_shrinks each x i rest (i1, first, one) = let a = word_shrinks between i i1 first in let b =
      each x i1 rest one in omega arith

  further_starts : Starts (begins_word between) (g.further_condition between lower)
  further_starts x i rest (i1, first, one) = word_begins between i i1 first

  level_shrinks : Shrinks lower → Shrinks (g.level between node lower)
  level_shrinks each x i rest (first, more, is, (i1, one, others)) =
      let a = each first i i1 one in
      let b = lists.any_shrinks (g.further_condition between lower) (lookahead (begins_word between))
      (further_shrinks each) more i1 rest others in omega arith

  level_even : ((x : Condition) → Even (lower x)) → (x : Condition) → Even (g.level between node lower x)
  level_even each x i rest (first, more, is, (i1, one, others)) n =
      each first i i1 one n ∙ any_even (g.further_condition between lower) (lookahead (begins_word between))
      (λ y j k s m. word_even between j s.0 s.1 m ∙ each y s.0 k s.2 m) more i1 rest others n

  module _ (reader : Parser Condition) where
    further_sound : Sound lower reader
        → Sound (g.further_condition between lower) (g.further_condition_reader between reader)
    unfolding g.further_condition_reader
    further_sound each x i rest e =
        unstep (expect between i) _ e (λ u i1 is1 e1. (i1, word_sound between u i i1 is1, each x i1 rest e1))

    level_sound : Sound lower reader → Sound (g.level between node lower) (g.level_reader between node reader)
    unfolding g.level_reader
    level_sound each x i rest e =
        unstep (reader i) _ e (λ first i1 is1 e1.
        unstep (read.any (g.further_condition_reader between reader) (begins_word between) i1) _ e1 (λ more i2 is2 e2. (
          first,
          more,
          sym (value e2),
          (
            i1,
            each first i i1 is1,
            lists.any_sound (g.further_condition between lower) (g.further_condition_reader between reader)
                (lookahead (begins_word between)) (begins_word between) (tests_tested (begins_word between))
                (further_sound each) more i1 rest (last is2 e2),
          ),
        )))

    module _ (Allowed : Halt → Type 0) (each : Complete Allowed lower reader) (fewer : Shrinks lower) where
      further_complete :
          Complete Allowed (g.further_condition between lower) (g.further_condition_reader between reader)
      unfolding g.further_condition_reader
      further_complete x i rest (i1, first, one) =
          step (expect between i) _ (word_complete between tt i i1 first) (each x i1 rest one)

      level_complete : Complete Allowed (g.level between node lower) (g.level_reader between node reader)
      unfolding g.level_reader
      level_complete x i rest (first, more, is, (i1, one, others)) =
          subst (λ y. Answers Allowed (g.level_reader between node reader i) y rest) (sym is)
          (step (reader i) _ (each first i i1 one)
          (step (read.any (g.further_condition_reader between reader) (begins_word between) i1) _
          (lists.any_complete (g.further_condition between lower) (g.further_condition_reader between reader)
          (lookahead (begins_word between)) (begins_word between) (tests_tested (begins_word between)) Allowed
          further_complete (further_shrinks fewer) further_starts more i1 rest others)
          (Reached refl)))

-- ---- OR between conditions with AND between

module _ (simple : Condition → Part) where
  pub disjunction_shrinks : Shrinks simple → Shrinks (g.disjunction simple)
  disjunction_shrinks fewer = level_shrinks w.Or c.Any (g.conjunction simple) (level_shrinks w.And c.All simple fewer)

  pub disjunction_even : ((x : Condition) → Even (simple x)) → (x : Condition) → Even (g.disjunction simple x)
  disjunction_even each = level_even w.Or c.Any (g.conjunction simple) (level_even w.And c.All simple each)

  module _ (reader : Parser Condition) where
    conjunction_sound : Sound simple reader → Sound (g.conjunction simple) (g.conjunction_reader reader)
    unfolding g.conjunction_reader
    conjunction_sound each = level_sound w.And c.All simple reader each

    pub disjunction_sound : Sound simple reader → Sound (g.disjunction simple) (g.disjunction_reader reader)
    unfolding g.disjunction_reader
    disjunction_sound each =
        level_sound w.Or c.Any (g.conjunction simple) (g.conjunction_reader reader) (conjunction_sound each)

    module _ (Allowed : Halt → Type 0) (each : Complete Allowed simple reader) (fewer : Shrinks simple) where
      conjunction_complete : Complete Allowed (g.conjunction simple) (g.conjunction_reader reader)
      unfolding g.conjunction_reader
      conjunction_complete = level_complete w.And c.All simple reader Allowed each fewer

      pub disjunction_complete : Complete Allowed (g.disjunction simple) (g.disjunction_reader reader)
      unfolding g.disjunction_reader
      disjunction_complete = level_complete w.Or c.Any (g.conjunction simple) (g.conjunction_reader reader) Allowed
          conjunction_complete (level_shrinks w.And c.All simple fewer)
