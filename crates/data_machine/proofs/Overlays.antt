-- Bytes laid over others.
use Rattle.std.proofs.Common.{add-one, ◌≡◌, ℕ, zero, suc, ◌+◌, ◌<◌, ◌≤◌, length, List, [], ◌∷◌, ◌++◌, refl, sym, ◌∙◌}
use Rattle.std.proofs.Common.{ap, arith, take, drop, set, get_or}
use Rattle.std.specs.Prelude.{slice_get}
use Rattle.std.proofs.lemmas.List.{take-append-drop}
use Rattle.source_tree.specs.Initializing.{Pattern, or_old, overlaid}
use Rattle.data_instructions.specs.Table.{replacement_byte, pattern_of}
use Rattle.data_machine.specs.Overlays.{byte_over}

module _ (old : ℕ) where
  -- after the last byte, or mark, nothing changes
  pub past_bytes : (bytes marks : List ℕ) (i : ℕ) → length bytes ≤ i
      → old ≡ byte_over (slice_get (pattern_of bytes marks) i) old
  past_bytes [] marks i h = refl
  past_bytes (byte ∷ bytes) [] i h = refl
  past_bytes (byte ∷ bytes) (mark ∷ marks) zero h = absurd (omega arith)
  past_bytes (byte ∷ bytes) (mark ∷ marks) (suc i) h = past_bytes bytes marks i (omega arith)

  pub past_marks : (bytes marks : List ℕ) (i : ℕ) → length marks ≤ i
      → old ≡ byte_over (slice_get (pattern_of bytes marks) i) old
  past_marks [] marks i h = refl
  past_marks (byte ∷ bytes) [] i h = refl
  past_marks (byte ∷ bytes) (mark ∷ marks) zero h = absurd (omega arith)
  past_marks (byte ∷ bytes) (mark ∷ marks) (suc i) h = past_marks bytes marks i (omega arith)

  -- at a mark of 0 neither
  pub unmarked : (bytes marks : List ℕ) (i : ℕ) → get_or marks i 0 ≡ 0
      → old ≡ byte_over (slice_get (pattern_of bytes marks) i) old
  unmarked [] marks i e = refl
  unmarked (byte ∷ bytes) [] i e = refl
  unmarked (byte ∷ bytes) (mark ∷ marks) zero e = ap (λ n. or_old (replacement_byte n byte) old) (sym e)
  unmarked (byte ∷ bytes) (mark ∷ marks) (suc i) e = unmarked bytes marks i e

  pub marked_there : (bytes marks : List ℕ) (i : ℕ) → i < length bytes → i < length marks → (get_or marks i 0 ≡ 0 → ⊥)
      → get_or bytes i 0 ≡ byte_over (slice_get (pattern_of bytes marks) i) old
  marked_there [] marks i h k e = absurd (omega arith)
  marked_there (byte ∷ bytes) [] i h k e = absurd (omega arith)
  marked_there (byte ∷ bytes) (zero ∷ marks) zero h k e = absurd (e refl)
  marked_there (byte ∷ bytes) (suc n ∷ marks) zero h k e = refl
  marked_there (byte ∷ bytes) (mark ∷ marks) (suc i) h k e = marked_there bytes marks i (omega arith) (omega arith) e

set_same : (xs : List ℕ) (i : ℕ) → set xs i (get_or xs i 0) ≡ xs
set_same [] i = refl
set_same (x ∷ xs) zero = refl
set_same (x ∷ xs) (suc i) = ap (λ ys. x ∷ ys) (set_same xs i)

abbrev nothing : Pattern
nothing = []

drop_none : (n : ℕ) → drop n nothing ≡ nothing
drop_none zero = refl
drop_none (suc n) = refl

-- nothing is laid over what is left
all_left : (i j : ℕ) (to : List ℕ) → take i to ++ overlaid (drop j []) (drop i to) ≡ to
all_left i j to = ap (λ (p : Pattern). take i to ++ overlaid p (drop i to)) (drop_none j) ∙ take-append-drop i to

-- one byte more
turn : (i : ℕ) (pattern : Pattern) (to : List ℕ) → i < length to
    → take (suc i) (set to i (byte_over (slice_get pattern i) (get_or to i 0)))
    ++ overlaid (drop (suc i) pattern) (drop (suc i) (set to i (byte_over (slice_get pattern i) (get_or to i 0))))
    ≡ take i to ++ overlaid (drop i pattern) (drop i to)
turn i [] to h = all_left (suc i) (suc i) (set to i (get_or to i 0)) ∙ set_same to i ∙ sym (all_left i i to)
turn i (one ∷ more) [] h = absurd (omega arith)
turn zero (one ∷ more) (x ∷ xs) h = refl
turn (suc i) (one ∷ more) (x ∷ xs) h = ap (λ ys. x ∷ ys) (turn i more xs (omega arith))

pub kept : (i : ℕ) (pattern : Pattern) (to old : List ℕ) (byte : ℕ) → i < length to
    → byte ≡ byte_over (slice_get pattern i) (get_or to i 0) → take i to ++ overlaid (drop i pattern) (drop i to) ≡ old
    → take (i + 1) (set to i byte) ++ overlaid (drop (i + 1) pattern) (drop (i + 1) (set to i byte)) ≡ old
kept i pattern to old byte h is e =
    ap (λ b. take (i + 1) (set to i b) ++ overlaid (drop (i + 1) pattern) (drop (i + 1) (set to i b))) is
    ∙ ap (λ n. take n (set to i (byte_over (slice_get pattern i) (get_or to i 0)))
    ++ overlaid (drop n pattern) (drop n (set to i (byte_over (slice_get pattern i) (get_or to i 0))))) (add-one i)
    ∙ turn i pattern to h
    ∙ e

over_nothing : (pattern : Pattern) → overlaid pattern [] ≡ []
over_nothing [] = refl
over_nothing (one ∷ more) = refl

-- nothing is left
pub done : (i : ℕ) (pattern : Pattern) (to : List ℕ) → length to ≤ i
    → take i to ++ overlaid (drop i pattern) (drop i to) ≡ to
done i [] to h = all_left i i to
done zero (one ∷ more) [] h = refl
done zero (one ∷ more) (x ∷ xs) h = absurd (omega arith)
done (suc i) (one ∷ more) [] h = over_nothing (drop i more)
done (suc i) (one ∷ more) (x ∷ xs) h = ap (λ ys. x ∷ ys) (done i more xs (omega arith))
