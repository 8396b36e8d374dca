-- One arrival for each key.
use Rattle.std.proofs.Common.{◌≡◌, ◌<◌, ◌+◌, ◌++◌, ℕ, zero, suc, List, [], ◌∷◌, length, take, refl, ap, ◌∙◌, arith}
use Rattle.std.specs.Prelude.{map, slice_index_or}
use Rattle.std.specs.List.{flat_map}
use Rattle.byteorder.specs.Endian.{big_bytes}
use Rattle.records.specs.declared.file_spec.AlternateKey.{AlternateKey}

one_more : (keys : List AlternateKey) (k a : ℕ) → k < length keys → flat_map (big_bytes 8)
    (map (λ key. a) (take (suc k) keys)) ≡ flat_map (big_bytes 8) (map (λ key. a) (take k keys)) ++ big_bytes 8 a
one_more [] k a low = absurd (omega (arith, low))
one_more (key ∷ keys) zero a low = refl
one_more (key ∷ keys) (suc k) a low = ap (λ (l : List ℕ). big_bytes 8 a ++ l) (one_more keys k a (omega (arith, low)))

pub arrivals_more : (keys : List AlternateKey) (k a : ℕ) → k < length keys → flat_map (big_bytes 8)
    (map (λ key. a) (take (k + 1) keys)) ≡ flat_map (big_bytes 8) (map (λ key. a) (take k keys)) ++ big_bytes 8 a
arrivals_more keys k a low = ap (λ (n : ℕ). flat_map (big_bytes 8) (map (λ (key : AlternateKey). a) (take n keys)))
    (let e : k + 1 ≡ suc k = omega arith in e) ∙ one_more keys k a low

-- the arrival under one of them
pub arrival_at : (keys : List AlternateKey) (i a : ℕ) → i < length keys
    → slice_index_or (map (λ (key : AlternateKey). a) keys) i 0 ≡ a
arrival_at [] i a low = absurd (omega (arith, low))
arrival_at (key ∷ keys) zero a low = refl
arrival_at (key ∷ keys) (suc i) a low = arrival_at keys i a (omega (arith, low))
