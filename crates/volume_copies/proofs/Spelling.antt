-- The bytes that a line spells, one after the other.
use Rattle.std.proofs.Common.{◌≡◌, ◌<◌, ◌+◌, ℕ, zero, suc, List, [], ◌∷◌, ◌++◌, Result, Ok, Err, length, drop, get_or}
use Rattle.std.proofs.Common.{refl, sym, ap, ◌∙◌, append_assoc, arith}
use Rattle.volume_copies.specs.declared.load_end.LineFault.{LineFault}
use Rattle.volume_copies.specs.Record.{with_byte, byte_step, after_step, bytes_from}
use Rattle.volume_copies.specs.declared.line_record.EscapeState.{EscapeState}
use Rattle.volume_copies.specs.declared.line_record.EscapeState.TheVariants.{Outside}
use Rattle.volume_copies.specs.declared.line_record.ByteStep.{ByteStep}
use Rattle.volume_copies.specs.declared.line_record.ByteStep.TheVariants.{Begins, Spells, Breaks}

-- bytes in front of what is spelled
abbrev pub with_bytes : List ℕ → Result (List ℕ) LineFault → Result (List ℕ) LineFault
with_bytes front (Ok bytes) = Ok (front ++ bytes)
with_bytes front (Err fault) = Err fault

pub with_one_more : (front : List ℕ) (byte : ℕ) (rest : Result (List ℕ) LineFault)
    → with_bytes front (with_byte byte rest) ≡ with_bytes (front ++ byte ∷ []) rest
with_one_more front byte (Ok bytes) = ap Ok (sym (append_assoc front (byte ∷ []) bytes))
with_one_more front byte (Err fault) = refl

-- the byte at a place, and those after it
next_byte : (state : EscapeState) (line : List ℕ) (i : ℕ) → i < length line → bytes_from state (drop i line)
    ≡ after_step (byte_step state (get_or line i 0)) (λ next. bytes_from next (drop (suc i) line))
next_byte state [] i low = absurd (omega (arith, low))
next_byte state (x ∷ xs) zero low = refl
next_byte state (x ∷ xs) (suc i) low = next_byte state xs i (omega (arith, low))

module _ (line front : List ℕ) (state : EscapeState) (i : ℕ) (low : i < length line) where
  does : (step : ByteStep) → byte_step state (get_or line i 0) ≡ step
      → with_bytes front (bytes_from state (drop i line))
      ≡ with_bytes front (after_step step (λ next. bytes_from next (drop (i + 1) line)))
  does step is = ap (with_bytes front) (next_byte state line i low
      ∙ ap (λ (n : ℕ). after_step (byte_step state (get_or line i 0)) (λ next. bytes_from next (drop n line)))
      (let same : suc i ≡ i + 1 = omega arith in same)
      ∙ ap (λ (s : ByteStep). after_step s (λ next. bytes_from next (drop (i + 1) line))) is)

  -- it leaves these bytes and this state
  pub byte_begins : (next after : EscapeState) (items : List ℕ) → byte_step state (get_or line i 0) ≡ Begins next
      → items ≡ front → after ≡ next → with_bytes front (bytes_from state (drop i line))
      ≡ with_bytes items (bytes_from after (drop (i + 1) line))
  byte_begins next after items is same goes = does (Begins next) is
      ∙ ap (λ (l : List ℕ). with_bytes l (bytes_from next (drop (i + 1) line))) (sym same)
      ∙ ap (λ (s : EscapeState). with_bytes items (bytes_from s (drop (i + 1) line))) (sym goes)

  pub byte_spells : (byte : ℕ) (after : EscapeState) (items : List ℕ) → byte_step state (get_or line i 0) ≡ Spells byte
      → items ≡ front ++ byte ∷ [] → after ≡ Outside → with_bytes front (bytes_from state (drop i line))
      ≡ with_bytes items (bytes_from after (drop (i + 1) line))
  byte_spells byte after items is same goes =
      does (Spells byte) is ∙ with_one_more front byte (bytes_from Outside (drop (i + 1) line))
      ∙ ap (λ (l : List ℕ). with_bytes l (bytes_from Outside (drop (i + 1) line))) (sym same)
      ∙ ap (λ (s : EscapeState). with_bytes items (bytes_from s (drop (i + 1) line))) (sym goes)

  pub byte_breaks : (fault : LineFault) → byte_step state (get_or line i 0) ≡ Breaks fault
      → with_bytes front (bytes_from state (drop i line)) ≡ Err fault
  byte_breaks fault is = does (Breaks fault) is
