-- Bytes, once their blocks are on the disk.
use Rattle.std.proofs.Common.{◌≡◌, ◌≢◌, ◌⊎◌, inl, inr, ⊎_elim, ◌<◌, ◌≤◌, ◌+◌, ◌*◌, ◌%◌, ℕ, zero, suc, List, [], ◌∷◌}
use Rattle.std.proofs.Common.{◌++◌, length, take, drop, set, refl, sym, ◌∙◌, ap, subst, arith, get_or-set_same}
use Rattle.std.proofs.Common.{get_or-set_other}
use Rattle.std.proofs.Math.Seq.{take-add}
use Rattle.std.proofs.lemmas.Bool.{cases_eq}
use Rattle.std.proofs.lemmas.List.Elements.{All-push, All-nil}
use Rattle.station.specs.Disk.{Sector, sector_at}
use Rattle.station.specs.Blocks.{SectorsAre, with_all}
use Rattle.station.specs.declared.blocks.Block.{Block}
use Rattle.station.proofs.TwoPhase.{with_all_count}
use Rattle.half_store.specs.Blocks.{block_at, blocks_to}
use Rattle.half_store.specs.Half.{half, start, count, bytes_of_sectors}

with_all_more : (base : List Sector) (blocks : List Block) (b : Block)
    → with_all base (blocks ++ b ∷ []) ≡ set (with_all base blocks) b.sector b.bytes
with_all_more base [] b = refl
with_all_more base (x ∷ blocks) b = with_all_more (set base x.sector x.bytes) blocks b

module _ (base : List Sector) (from : ℕ) (bytes : List ℕ) where
  abbrev staged : ℕ → List Sector
  staged k = with_all base (blocks_to from bytes k)

  more : (k : ℕ) → staged (suc k) ≡ set (staged k) (from + k) (take 4096 (drop (4096 * k) bytes))
  more k = with_all_more base (blocks_to from bytes k) (block_at from bytes k)

  -- all other sectors are the old ones
  pub elsewhere : (k i : ℕ) → (i < from) ⊎ (from + k ≤ i) → sector_at (staged k) i ≡ sector_at base i
  elsewhere zero i out = refl
  elsewhere (suc k) i out =
      ap (λ (l : List Sector). sector_at l i) (more k)
      ∙ get_or-set_other (staged k) (from + k) i (take 4096 (drop (4096 * k) bytes)) []
      (λ e. ⊎_elim (λ lt. omega (arith, e, lt)) (λ le. omega (arith, e, le)) out)
      ∙ elsewhere k i (⊎_elim (λ lt. inl lt) (λ le. inr (omega (arith, le))) out)

  pub there : (k j : ℕ) → j < k → from + k ≤ length base
      → sector_at (staged k) (from + j) ≡ take 4096 (drop (4096 * j) bytes)
  there zero j lt le = absurd (omega (arith, lt))
  there (suc k) j lt le = ap (λ (l : List Sector). sector_at l (from + j)) (more k) ∙ ⊎_elim
      (λ same. subst (λ (m : ℕ). sector_at (set (staged k) (from + k) (take 4096 (drop (4096 * k) bytes))) (from + m)
      ≡ take 4096 (drop (4096 * m) bytes)) (sym same)
      (get_or-set_same (staged k) (from + k) (take 4096 (drop (4096 * k) bytes)) []
      (omega (arith, le, with_all_count base (blocks_to from bytes k)))))
      (λ ne. get_or-set_other (staged k) (from + k) (from + j) (take 4096 (drop (4096 * k) bytes)) []
      (λ e. ne (omega (arith, e))) ∙ there k j (below ne) (omega (arith, le)))
      (cases_eq j k)
    where
      below : j ≢ k → j < k
      below ne = ⊎_elim (λ here. here) (λ e. absurd (ne e)) (last k j lt)
        where
          last : (k j : ℕ) → j < suc k → (j < k) ⊎ (j ≡ k)
          last zero zero lt = inr refl
          last zero (suc j) lt = absurd (omega (arith, lt))
          last (suc k) zero lt = inl (omega arith)
          last (suc k) (suc j) lt =
              ⊎_elim (λ here. inl (omega (arith, here))) (λ e. inr (ap suc e)) (last k j (omega (arith, lt)))

  pub are_at : (n k : ℕ) → from + k ≤ n → SectorsAre (λ s. s < n) (blocks_to from bytes k)
  are_at n zero le = All-nil (λ (b : Block). b.sector < n)
  are_at n (suc k) le = All-push (λ (b : Block). b.sector < n) (blocks_to from bytes k) (block_at from bytes k)
      (are_at n k (omega (arith, le))) (omega (arith, le))

-- sectors that hold these bytes in parts
pub joined_parts : (image : List Sector) (from : ℕ) (bytes : List ℕ) (k : ℕ)
    → ((j : ℕ) → j < k → sector_at image (from + j) ≡ take 4096 (drop (4096 * j) bytes))
    → bytes_of_sectors image from k ≡ take (4096 * k) bytes
joined_parts image from bytes zero each = refl
joined_parts image from bytes (suc k) each =
    ap (λ (l : List ℕ). l ++ sector_at image (from + k))
    (joined_parts image from bytes k (λ j lt. each j (omega (arith, lt))))
    ∙ ap (λ (l : List ℕ). take (4096 * k) bytes ++ l) (each k (omega arith))
    ∙ sym (take-add (4096 * k) 4096 bytes)
    ∙ ap (λ (n : ℕ). take n bytes) (omega arith)

pub joined_same : (one two : List Sector) (from k : ℕ)
    → ((j : ℕ) → j < k → sector_at one (from + j) ≡ sector_at two (from + j))
    → bytes_of_sectors one from k ≡ bytes_of_sectors two from k
joined_same one two from zero each = refl
joined_same one two from (suc k) each =
    ap (λ (l : List ℕ). l ++ sector_at one (from + k)) (joined_same one two from k (λ j lt. each j (omega (arith, lt))))
    ∙ ap (λ (s : Sector). bytes_of_sectors two from k ++ s) (each k (omega arith))

-- so many sectors are enough, and no more than a half
pub enough : (bytes : ℕ) → bytes ≤ 4096 * count bytes
unfolding count
enough bytes = omega arith

pub few : (bytes n : ℕ) → bytes ≤ 4096 * half n → count bytes ≤ half n
unfolding count
few bytes n le = omega (arith, le)

-- a half is after the roots and within the volume
pub behind : (n g : ℕ) → 2 ≤ start n g
unfolding start
behind n g = omega arith

abbrev parity : ℕ → Type 0
parity g = ((g % 2 ≡ 0) × ((g + 1) % 2 ≡ 1)) ⊎ ((g % 2 ≡ 1) × ((g + 1) % 2 ≡ 0))

pub parities : (g : ℕ) → parity g
parities g = ⊎_elim (λ is. inl (is, omega (arith, is))) (λ ne. let odd : g % 2 ≡ 1 =
    omega (arith, ne) in inr (odd, omega (arith, odd))) (cases_eq (g % 2) 0)

at_even : (n g : ℕ) → g % 2 ≡ 0 → start n g ≡ 2
unfolding start
at_even n g is = ap (λ (p : ℕ). 2 + p * half n) is ∙ omega arith

at_odd : (n g : ℕ) → g % 2 ≡ 1 → start n g ≡ 2 + half n
unfolding start
at_odd n g is = ap (λ (p : ℕ). 2 + p * half n) is ∙ omega arith

two_halves : (n : ℕ) → 2 ≤ n → 2 + half n + half n ≤ n
unfolding half
two_halves n le = omega (arith, le)

pub within : (n g : ℕ) → 2 ≤ n → start n g + half n ≤ n
within n g le = ⊎_elim (λ p. omega (arith, at_even n g p.0, two_halves n le))
    (λ p. omega (arith, at_odd n g p.0, two_halves n le)) (parities g)

-- the other half
pub apart : (n g i : ℕ) → start n g ≤ i → i < start n g + half n
    → (i < start n (g + 1)) ⊎ (start n (g + 1) + half n ≤ i)
apart n g i from to = ⊎_elim (λ p. inl (omega (arith, to, at_even n g p.0, at_odd n (g + 1) p.1)))
    (λ p. inr (omega (arith, from, at_odd n g p.0, at_even n (g + 1) p.1))) (parities g)

-- one more block
pub next_block : (from : ℕ) (bytes : List ℕ) (k : ℕ) (before after : List Block) (part : List ℕ)
    → after ≡ before ++ record { sector = from + k; bytes = part } ∷ [] → before ≡ blocks_to from bytes k
    → part ≡ take 4096 (drop (4096 * k) bytes) → after ≡ blocks_to from bytes (k + 1)
next_block from bytes k before after part is so_far cut =
    is ∙ ap (λ (l : List Block). l ++ record { sector = from + k; bytes = part } ∷ []) so_far
    ∙ ap (λ (l : List ℕ). blocks_to from bytes k ++ record { sector = from + k; bytes = l } ∷ []) cut
    ∙ ap (blocks_to from bytes) (let e : suc k ≡ k + 1 = omega arith in e)

pub half_less : (n : ℕ) → half n ≤ n
unfolding half
half_less n = omega arith

pub counted_enough : (bytes : ℕ) → 4096 * count bytes ≤ bytes + 4095
unfolding count
counted_enough bytes = omega arith

-- one more sector was read
pub sector_more : (image : List Sector) (from k : ℕ) (so_far part all : List ℕ) → all ≡ so_far ++ part
    → so_far ≡ bytes_of_sectors image from k → part ≡ sector_at image (from + k)
    → all ≡ bytes_of_sectors image from (k + 1)
sector_more image from k so_far part all added before here =
    added ∙ ap (λ (l : List ℕ). l ++ part) before
    ∙ ap (λ (l : List ℕ). bytes_of_sectors image from k ++ l) here
    ∙ ap (bytes_of_sectors image from) (let e : suc k ≡ k + 1 = omega arith in e)
