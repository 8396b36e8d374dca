-- The first line of a text, and the others.
use Rattle.std.proofs.Common.{◌≡◌, ◌<◌, ◌≤◌, ◌+◌, cond, Bool, true, false, not, ℕ, suc, List, [], ◌∷◌, length, take}
use Rattle.std.proofs.Common.{drop, get_or}
use Rattle.std.specs.Prelude.{◌==◌}
use Rattle.std.proofs.Common.{refl, ap, subst, sym, ◌∙◌, arith}
use Rattle.std.specs.List.{position_or_len}
use Rattle.std.proofs.lemmas.List.{drop_more}
use Rattle.std.proofs.lemmas.List.Sums.{prefix_len-drop_all}
use Rattle.volume_copies.specs.Lines.{line_feed, with_first, lines_of}

abbrev pub feed_at : List ℕ → ℕ
feed_at text = position_or_len (λ byte. byte == line_feed) text

-- the first line ends after so many bytes
abbrev Splits : List ℕ → ℕ → Type 0
Splits text n = lines_of text ≡ take n text ∷ lines_of (drop (n + 1) text)

longer : (byte : ℕ) (more : List ℕ) (m n : ℕ) → n ≡ suc m
    → with_first byte (lines_of more) ≡ (byte ∷ take m more) ∷ lines_of (drop (m + 1) more)
    → with_first byte (lines_of more) ≡ take n (byte ∷ more) ∷ lines_of (drop (n + 1) (byte ∷ more))
longer byte more m n is same =
    let e : n + 1 ≡ suc (m + 1) = omega (arith, is) in
    subst (λ (k : ℕ). with_first byte (lines_of more) ≡ take n (byte ∷ more) ∷ lines_of (drop k (byte ∷ more))) (sym e)
    (subst (λ (k : ℕ). with_first byte (lines_of more)
    ≡ take k (byte ∷ more) ∷ lines_of (drop (suc (m + 1)) (byte ∷ more))) (sym is) same)

split_by : (b : Bool) (byte : ℕ) (more : List ℕ) (m : ℕ)
    → with_first byte (lines_of more) ≡ (byte ∷ take m more) ∷ lines_of (drop (m + 1) more)
    → cond b ([] ∷ lines_of more) (with_first byte (lines_of more))
    ≡ take (cond (not b) (1 + m) 0) (byte ∷ more) ∷ lines_of (drop (cond (not b) (1 + m) 0 + 1) (byte ∷ more))
split_by true byte more m same = refl
split_by false byte more m same = longer byte more m (1 + m) (omega arith) same

pub splits : (text : List ℕ) → 0 < length text → Splits text (feed_at text)
splits [] there = absurd (omega (arith, there))
splits (byte ∷ []) there = split_by (byte == line_feed) byte [] 0 refl
splits (byte ∷ (next ∷ more)) there =
    split_by (byte == line_feed) byte (next ∷ more) (feed_at (next ∷ more))
    (ap (with_first byte) (splits (next ∷ more) (omega arith)))

module _ (text : List ℕ) (place x : ℕ) (there : place < length text) (same : x ≡ get_or text place x) where
  feed_there : feed_at (drop place text) ≡ feed_at (x ∷ drop (place + 1) text)
  feed_there = ap feed_at (drop_more text place x there ∙ ap (λ (y : ℕ). y ∷ drop (place + 1) text) (sym same))

  pub feed_here : (x == line_feed) ≡ true → feed_at (drop place text) ≡ 0
  feed_here e = feed_there ∙ ap (λ (b : Bool). cond (not b) (1 + feed_at (drop (place + 1) text)) 0) e

  pub feed_later : (x == line_feed) ≡ false → feed_at (drop place text) ≡ 1 + feed_at (drop (place + 1) text)
  feed_later e = feed_there ∙ ap (λ (b : Bool). cond (not b) (1 + feed_at (drop (place + 1) text)) 0) e

pub feed_past : (text : List ℕ) (place : ℕ) → length text ≤ place → feed_at (drop place text) ≡ 0
feed_past text place all = prefix_len-drop_all (λ byte. not (byte == line_feed)) text place all
