use Rattle.std.proofs.Common.{◌≡◌, ℕ, ◌<◌, ◌+◌, List, [], ◌∷◌, ◌++◌, Some, None, length, get_or, take, refl, sym, ap}
use Rattle.std.proofs.Common.{◌∙◌}
use Rattle.std.specs.Prelude.{Option}
use Rattle.std.specs.Option.{unwrap_or}
use Rattle.std.proofs.lemmas.List.{map_more}
use Rattle.source_tree.specs.Initializing.{Pattern}
use Rattle.initial_storage.specs.Patterns.{byte_of, bytes_of_pattern}
use Rattle.initial_storage.proofs.initialize_statement.bytes_of.Goals as goal

byte_is : (one : Option ℕ) → unwrap_or one 0 ≡ byte_of one
byte_is None = refl
byte_is (Some byte) = refl

one_more : (pattern : Pattern) (i : ℕ) (d : Option ℕ) (byte : ℕ) (old new : List ℕ) → i < length pattern
    → byte ≡ unwrap_or (get_or pattern i d) 0 → new ≡ old ++ byte ∷ [] → old ≡ bytes_of_pattern (take i pattern)
    → new ≡ bytes_of_pattern (take (i + 1) pattern)
one_more pattern i d byte old new lt is pushed before =
    pushed ∙ ap (λ (l : List ℕ). l ++ byte ∷ []) before
    ∙ ap (λ (n : ℕ). bytes_of_pattern (take i pattern) ++ n ∷ []) (is ∙ byte_is (get_or pattern i d))
    ∙ sym (map_more byte_of pattern i d lt)

pub loop-one-preserved : goal.loop-one-preserved
loop-one-preserved c = one_more c.args.pattern.now c.loop-one.one-index _ _ _ _ c.loop-one-test.true
    c.unwrap_or.ensures c.in_ok-push.ensures.items c.loop-one.invariant
