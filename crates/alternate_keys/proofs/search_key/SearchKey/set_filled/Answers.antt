use Rattle.std.proofs.Common.{◌≡◌, ◌≤◌, ◌-◌, ◌++◌, ℕ, zero, suc, List, [], ◌∷◌, length, take, drop}
use Rattle.std.proofs.Common.{ap, sym, subst, ◌∙◌, arith}
use Rattle.std.specs.Prelude.{replicate}
use Rattle.std.proofs.lemmas.List.{take-replicate, drop-replicate}
use Rattle.alternate_keys.specs.Aims.{extended_bytes}
use Rattle.alternate_keys.specs.declared.search_key.SearchKey.TheInside.{Inside}
use Rattle.alternate_keys.proofs.search_key.SearchKey.set_filled.Goals as goal
use Rattle.alternate_keys.proofs.search_key.SearchKey.set_filled.Goals.{then-value-count, else-value-count}

take_over : (front rest : List ℕ) (count : ℕ) → length front ≤ count
    → take count (front ++ rest) ≡ front ++ take (count - length front) rest
take_over [] rest count fits = ap (λ (n : ℕ). take n rest) (omega arith)
take_over (byte ∷ front) rest zero fits = absurd (omega (arith, fits))
take_over (byte ∷ front) rest (suc count) fits =
    let same : count - length front ≡ suc count - length (byte ∷ front) = omega arith in
    ap (λ (l : List ℕ). byte ∷ l) (take_over front rest count (omega (arith, fits)))
    ∙ ap (λ (n : ℕ). byte ∷ (front ++ take n rest)) same

-- The front of an array of one byte is overwritten.
filled : (value front : List ℕ) (count byte : ℕ) → front ≡ value → count ≤ 200 → length value ≤ count
    → take count (front ++ drop (length value) (replicate {A = ℕ} 200 byte)) ≡ extended_bytes count byte value
filled value front count byte same few fits =
    ap (λ (l : List ℕ). take count (l ++ drop (length value) (replicate {A = ℕ} 200 byte))) same
    ∙ ap (λ (l : List ℕ). take count (value ++ l)) (drop-replicate (length value) 200 byte)
    ∙ take_over value (replicate {A = ℕ} (200 - length value) byte) count fits
    ∙ ap (λ (l : List ℕ). value ++ l) (take-replicate (count - length value) (200 - length value) byte (omega arith))

-- The bytes of a whole value are overwritten, and no other is looked at.
whole : (value front rest : List ℕ) (count byte : ℕ) → front ≡ value → count ≤ length value → length value ≤ count
    → take count (front ++ rest) ≡ extended_bytes count byte value
whole value front rest count byte same most fits =
    let none : count - length value ≡ 0 = omega (arith, most) in
    ap (λ (l : List ℕ). take count (l ++ rest)) same ∙ take_over value rest count fits
    ∙ ap (λ (n : ℕ). value ++ take n rest) none ∙ ap (λ (n : ℕ). value ++ replicate {A = ℕ} n byte) (sym none)

pub returns : goal.returns
returns c =
    let value = c.args.value.now in
    let front = c.copy_from_slice.new.self in
    let same : front ≡ value = c.copy_from_slice.ensures.after in
    (elim c.if-value-count.branch [
      | then-value-count w ↦ subst (λ (key : Inside).
          take c.args.count (front ++ drop (length value) key.bytes) ≡ extended_bytes c.args.count c.args.byte value)
          (sym w.self-inside-is)
          (filled value front c.args.count c.args.byte same c.requires.count c.requires.fits)
      | else-value-count w ↦ whole value front (drop (length value) c.if-value-count.self-inside.bytes) c.args.count
          c.args.byte same (omega (arith, w.if-value-count)) c.requires.fits
    ])
