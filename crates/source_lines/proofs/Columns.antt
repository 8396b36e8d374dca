-- The first and the last column of areas A and B that pass a test.
use Rattle.std.proofs.Common.{◌≡◌, ℕ, ◌+◌, ◌-◌, ◌<◌, ◌≤◌, Bool, true, false, List, length, get_or, None, Some, sym, ap}
use Rattle.std.proofs.Common.{◌∙◌, arith, length-drop, nat_lt, cond}
use Rattle.std.specs.List.{position, position_or_len}
use Rattle.std.specs.Option.{option_map}
use Rattle.std.proofs.lemmas.List.{get_or-drop}
use Rattle.std.proofs.lemmas.List.Sums.{position_or_len_is, suffix_len_is}
use Rattle.std.proofs.lemmas.Bool.Decides.{nat_tests}
use Rattle.source_lines.specs.declared.line.Line.{Line}
use Rattle.source_lines.specs.Line.{byte, text, first_column, last_nonblank, is_space}

text_length : (line : Line) → length line.columns ≡ 72 → length (text line) ≡ 65
text_length line whole = simp length-drop (omega arith)

text_at : (line : Line) (k : ℕ) → get_or (text line) k 0 ≡ byte line (8 + k)
text_at line k = get_or-drop 7 line.columns k 0 ∙ ap (λ n. get_or line.columns n 0) (omega arith)

text_before : (line : Line) (column : ℕ) → 8 ≤ column → get_or (text line) (column - 8) 0 ≡ byte line column
text_before line column low = text_at line (column - 8) ∙ ap (byte line) (omega arith)

position_is : (test : ℕ → Bool) (xs : List ℕ) (n m : ℕ) → position_or_len test xs ≡ n → length xs ≡ m
    → position test xs ≡ cond (nat_lt n m) (Some n) None
position_is test xs n m e f = rw (e, f)

module _ (test : ℕ → Bool) (line : Line) (whole : length line.columns ≡ 72) where
  fails_below : (column : ℕ) → ((k : ℕ) → 8 ≤ k → k < column → test (byte line k) ≡ false) → (k : ℕ) → k < column - 8
      → test (get_or (text line) k 0) ≡ false
  fails_below column fails k below = ap test (text_at line k) ∙ fails (8 + k) (omega arith) (omega arith)

  pub column_found : (column : ℕ) → 8 ≤ column → column < 73
      → ((k : ℕ) → 8 ≤ k → k < column → test (byte line k) ≡ false)
      → test (byte line column) ≡ true → Some column ≡ first_column test line
  column_found column low high fails passes =
      let at : position_or_len test (text line) ≡ column - 8 =
      position_or_len_is test (text line) (column - 8) 0 (omega (arith, text_length line whole))
      (fails_below column fails)
      (λ h. ap test (text_before line column low) ∙ passes) in
      let within : nat_lt (column - 8) 65 ≡ true = grind (arith, nat_tests) in
      let found : position test (text line) ≡ Some (column - 8) =
      position_is test (text line) (column - 8) 65 at (text_length line whole)
      ∙ ap (λ b. cond b (Some (column - 8)) None) within in
      let back : 8 + (column - 8) ≡ column = omega arith in
      sym (ap (option_map (λ before. 8 + before)) found ∙ ap Some back)

  pub column_missing : ((k : ℕ) → 8 ≤ k → k < 73 → test (byte line k) ≡ false) → None ≡ first_column test line
  column_missing fails =
      let at : position_or_len test (text line) ≡ 65 =
      position_or_len_is test (text line) 65 0 (omega (arith, text_length line whole)) (fails_below 73 fails)
      (λ h. absurd (omega (arith, text_length line whole))) in
      sym (ap (option_map (λ before. 8 + before)) (position_is test (text line) 65 65 at (text_length line whole)))

pub last_found : (line : Line) → length line.columns ≡ 72 → (column : ℕ) → 7 ≤ column → column < 73
    → ((k : ℕ) → column < k → k < 73 → byte line k ≡ 32) → (7 < column → is_space (byte line column) ≡ false)
    → column ≡ last_nonblank line
last_found line whole column low high blank stops =
    let e = suffix_len_is is_space (text line) (column - 7) 0 (omega (arith, text_length line whole))
    (λ k above below.
    ap is_space (text_at line k ∙ blank (8 + k) (omega arith) (omega (arith, text_length line whole))))
    (λ h. ap is_space (text_at line (column - 7 - 1)) ∙ ap (λ n. is_space (byte line n)) (omega arith)
    ∙ stops (omega arith)) in
    omega (arith, e, text_length line whole)
