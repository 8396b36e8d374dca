-- Filling the columns of a line from its bytes.
use Rattle.std.proofs.Common.{◌≡◌, ℕ, zero, suc, ◌+◌, ◌-◌, ◌<◌, ◌≤◌, ◌%◌, false, List, [], ◌∷◌, ◌++◌, length, take}
use Rattle.std.proofs.Common.{drop, replicate, get_or, set, refl, sym, ap, ◌∙◌, arith, length-append, append_assoc}
use Rattle.std.proofs.Common.{cond, ◌==◌}
use Rattle.std.proofs.lemmas.List as list
use Rattle.source_lines.specs.Line.{without_tabs, tab_width, columns_of}

-- The columns after `index` bytes, of which `filled` columns are filled.
pub record Filled (bytes : List ℕ) (index filled : ℕ) (columns : List ℕ) : Type 0 where
  pub before : List ℕ
  pub room : filled ≤ 72
  pub width : length before ≡ filled
  pub begins : without_tabs 0 bytes ≡ before ++ without_tabs filled (drop index bytes)
  pub columns_are : columns ≡ before ++ replicate (72 - filled) 32

pub filled_none : (bytes columns : List ℕ) → columns ≡ replicate 72 32 → Filled bytes 0 0 columns
filled_none bytes columns e = record { before = []; room = omega arith; width = refl; begins = refl; columns_are = e }

spaces : ℕ → List ℕ
spaces n = replicate n 32

spaces_split : (n m : ℕ) → n ≤ m → spaces m ≡ spaces n ++ spaces (m - n)
unfolding spaces
spaces_split n m h = let e : n + (m - n) ≡ m =
    omega arith in sym (list.replicate-append-replicate n (m - n) 32 ∙ ap (λ k. replicate {A = ℕ} k 32) e)

spaces_first : (n : ℕ) → 0 < n → spaces n ≡ 32 ∷ spaces (n - 1)
unfolding spaces
spaces_first zero h = absurd (omega arith)
spaces_first (suc n) h = let e : n ≡ suc n - 1 = omega arith in ap (λ k. 32 ∷ replicate {A = ℕ} k 32) e

spaces_length : (n : ℕ) → length (spaces n) ≡ n
unfolding spaces
spaces_length n = list.length-replicate n 32

take_filled : (width n : ℕ) (xs : List ℕ) → length xs ≡ n → n ≤ width
    → take width (xs ++ spaces width) ≡ xs ++ spaces (width - n)
take_filled width n xs e h =
    ap (λ s. take width (xs ++ s)) (spaces_split (width - n) width (omega arith))
    ∙ ap (take width) (sym (append_assoc xs (spaces (width - n)) (spaces (width - (width - n)))))
    ∙ list.take_at (xs ++ spaces (width - n)) (spaces (width - (width - n))) width
    (omega (arith, length-append xs (spaces (width - n)), spaces_length (width - n)))

take_full : (width : ℕ) (xs ys zs : List ℕ) → length xs ≡ width → take width (xs ++ ys ++ zs) ≡ xs
take_full width xs ys zs e = ap (take width) (append_assoc xs ys zs) ∙ list.take_at xs (ys ++ zs) width e

next_bytes : (bytes : List ℕ) (index byte : ℕ) → index < length bytes → get_or bytes index 0 ≡ byte
    → drop index bytes ≡ byte ∷ drop (index + 1) bytes
next_bytes bytes index byte h e = list.drop_more bytes index 0 h ∙ ap (λ b. b ∷ drop (index + 1) bytes) e

pub filled_all : (bytes : List ℕ) (index filled : ℕ) (columns : List ℕ) → Filled bytes index filled columns
    → length bytes ≤ index → columns ≡ columns_of bytes
unfolding spaces
filled_all bytes index filled columns f h =
    let e : without_tabs 0 bytes ≡ f.before =
    f.begins ∙ ap (λ r. f.before ++ without_tabs filled r) (list.drop_all index bytes h) ∙ list.append-nil f.before in
    f.columns_are ∙ sym (ap (λ xs. take 72 (xs ++ spaces 72)) e ∙ take_filled 72 filled f.before f.width f.room)

pub filled_full : (bytes : List ℕ) (index filled : ℕ) (columns : List ℕ) → Filled bytes index filled columns
    → filled ≡ 72 → columns ≡ columns_of bytes
unfolding spaces
filled_full bytes index filled columns f h =
    let all : 72 - filled ≡ 0 = omega arith in
    let none : spaces (72 - filled) ≡ [] = ap spaces all in
    f.columns_are ∙ ap (λ s. f.before ++ s) none ∙ list.append-nil f.before
    ∙ sym (ap (λ xs. take 72 (xs ++ spaces 72)) f.begins
    ∙ take_full 72 f.before (without_tabs filled (drop index bytes)) (spaces 72) (f.width ∙ h))

pub filled_tab : (bytes : List ℕ) (index filled : ℕ) (columns : List ℕ) → Filled bytes index filled columns
    → index < length bytes → filled < 72
    → get_or bytes index 0 ≡ 9 → Filled bytes (index + 1) (filled + (8 - filled % 8)) columns
unfolding spaces
filled_tab bytes index filled columns f h room e =
    let k : ℕ = 8 - filled % 8 in
    let fits : k ≤ 72 - filled = omega arith in
    let rest : 72 - filled - k ≡ 72 - (filled + k) = omega arith in
    record {
      before = f.before ++ spaces k;
      room = omega arith;
      width = omega (arith, length-append f.before (spaces k), spaces_length k, f.width);
      begins = f.begins ∙ ap (λ r. f.before ++ without_tabs filled r) (next_bytes bytes index 9 h e)
          ∙ sym (append_assoc f.before (spaces k) (without_tabs (filled + k) (drop (index + 1) bytes)));
      columns_are = f.columns_are
          ∙ ap (λ s. f.before ++ s) (spaces_split k (72 - filled) fits ∙ ap (λ n. spaces k ++ spaces n) rest)
          ∙ sym (append_assoc f.before (spaces k) (spaces (72 - (filled + k))));
    }

pub filled_byte : (bytes : List ℕ) (index filled : ℕ) (columns : List ℕ) → Filled bytes index filled columns
    → index < length bytes → filled < 72
    → {byte : ℕ} → get_or bytes index 0 ≡ byte → (byte == 9) ≡ false
    → Filled bytes (index + 1) (filled + 1) (set columns filled byte)
unfolding spaces
filled_byte bytes index filled columns f h room {byte} is other =
    let rest : 72 - filled - 1 ≡ 72 - (filled + 1) = omega arith in
    let one : spaces (72 - filled) ≡ 32 ∷ spaces (72 - (filled + 1)) =
    spaces_first (72 - filled) (omega arith) ∙ ap (λ n. 32 ∷ spaces n) rest in
    let more : List ℕ = drop (index + 1) bytes in
    record {
      before = f.before ++ byte ∷ [];
      room = omega arith;
      width = list.length_push f.before byte ∙ ap (λ n. n + 1) f.width;
      begins = f.begins ∙ ap (λ r. f.before ++ without_tabs filled r) (next_bytes bytes index byte h is)
          ∙ ap (λ b. f.before ++ (cond b (spaces (tab_width filled)) (byte ∷ [])
          ++ without_tabs (filled + cond b (tab_width filled) 1) more)) other
          ∙ sym (append_assoc f.before (byte ∷ []) (without_tabs (filled + 1) more));
      columns_are = ap (λ s. set s filled byte) (f.columns_are ∙ ap (λ s. f.before ++ s) one)
          ∙ list.set_at f.before 32 (spaces (72 - (filled + 1))) byte filled f.width
          ∙ sym (append_assoc f.before (byte ∷ []) (spaces (72 - (filled + 1))));
    }
