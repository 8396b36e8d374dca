-- The laws, as they are said to other crates.
use Rattle.std.proofs.Common.{◌≡◌, ◌<◌, ℕ, List, Ok, inl, inr}
use Rattle.std.specs.Prelude.{◌⊎◌, Err}
use Rattle.tokens.specs.declared.token.Token.{Token}
use Rattle.grammar.specs.declared.fault.Halt.{Halt}
use Rattle.grammar.specs.declared.fault.Halt.TheVariants.{TooDeep, Unexpected}
use Rattle.grammar.specs.Parts.{Part}
use Rattle.grammar.specs.Reading.{Outcome, Parser}
use Rattle.grammar.proofs.Outcomes.{Answers, Reached, Halts, Deeper}
use Rattle.grammar.proofs.Lists.{Complete}
use Rattle.expressions.specs.Expressions.{expression_reader}
use Rattle.expressions.specs.Laws.{Only, OnlyToDepth}
use Rattle.expressions.proofs.Exact.Expressions.{expression_complete}

-- no halt is allowed
abbrev pub Never : Halt → Type 0
Never halt = ⊥

reached : {A : Type 0} {reading : Outcome A} {a : A} {rest : List Token} → Answers Never reading a rest
    → reading ≡ Ok (a, rest)
reached (Reached e) = e
reached (Halts halt never e) = absurd never

pub only : {A : Type 0} (p : A → Part) (reader : Parser A) → Complete Never p reader → Only p reader
only p reader complete one from rest s = reached (complete one from rest s)

pub only_to_depth : OnlyToDepth
only_to_depth depth depth' one from rest s = go (expression_complete depth depth' one from rest s)
  where
    go : Answers (Deeper depth depth') (expression_reader depth from) one rest
        → (expression_reader depth from ≡ Ok (one, rest))
        ⊎ ((depth < depth') × (left : ℕ) × (expression_reader depth from ≡ Err (TooDeep left)))
    go (Reached e) = inl e
    go (Halts (TooDeep left) deep e) = inr (deep, left, e)
    go (Halts (Unexpected left) none e) = absurd none
