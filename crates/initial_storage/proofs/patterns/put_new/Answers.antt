use Rattle.std.proofs.Common.{◌≡◌, ℕ, ◌<◌, ◌+◌, List, [], ◌∷◌, ◌++◌, Some, length, get_or, take, sym, ap, ◌∙◌}
use Rattle.std.proofs.Common.{append_assoc}
use Rattle.std.proofs.lemmas.List.{map_more}
use Rattle.source_tree.specs.Initializing.{Pattern, whole_pattern}
use Rattle.initial_storage.proofs.patterns.put_new.Goals as goal

one_more : (bytes : List ℕ) (i d : ℕ) (first old new : Pattern) → i < length bytes
    → new ≡ old ++ Some (get_or bytes i d) ∷ [] → old ≡ first ++ whole_pattern (take i bytes)
    → new ≡ first ++ whole_pattern (take (i + 1) bytes)
one_more bytes i d first old new lt pushed before =
    pushed ∙ ap (λ (l : Pattern). l ++ Some (get_or bytes i d) ∷ []) before
    ∙ append_assoc first (whole_pattern (take i bytes)) (Some (get_or bytes i d) ∷ [])
    ∙ ap (λ (l : Pattern). first ++ l) (sym (map_more (λ (n : ℕ). Some n) bytes i d lt))

pub loop-byte-preserved : goal.loop-byte-preserved
loop-byte-preserved c = one_more c.args.bytes.now c.loop-byte.byte-index _ _ _ _ c.loop-byte-test.true
    c.in_ok-push.ensures.items c.loop-byte.invariant
