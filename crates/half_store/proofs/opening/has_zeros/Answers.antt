use Rattle.std.proofs.Common.{◌≡◌, ◌+◌, ◌==◌, ℕ, List, length, take, drop, take_all, length-drop, ◌∙◌, ap, arith}
use Rattle.std.specs.List.{list_all}
use Rattle.half_store.proofs.opening.has_zeros.Goals as goal

tail : (i n : ℕ) (bytes : List ℕ) → length bytes ≡ i + n → take n (drop i bytes) ≡ drop i bytes
tail i n bytes all = take_all n (drop i bytes) (omega (arith, all, length-drop i bytes))

pub returns : goal.returns
returns c =
    c.are_zeros.ensures ∙ ap (list_all (λ (byte : ℕ). byte == 0)) (tail 8 4068 c.args.payload.now c.told-payload)
