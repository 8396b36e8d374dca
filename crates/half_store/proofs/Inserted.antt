-- A new row among rows in memory.
use Rattle.std.proofs.Common.{◌≡◌, ◌≤◌, ◌<◌, ◌+◌, true, false, ℕ, List, [], ◌∷◌, ◌++◌, length, take, drop, map, get_or}
use Rattle.std.proofs.Common.{append_assoc, refl, sym, ◌∙◌, ap}
use Rattle.std.specs.Ordering.{is_lt}
use Rattle.std.proofs.lemmas.Bool.{cond-true, cond-false}
use Rattle.std.proofs.lemmas.List.{take_more, drop_more, drop_all, map-append}
use Rattle.records.specs.declared.file_spec.Organization.{Organization}
use Rattle.records.specs.Rows.{Row, pair_cmp, prime_pair, named_pair}
use Rattle.records.specs.Changes.{with_row}
use Rattle.file_bytes.specs.declared.stored.StoredRow.{StoredRow}
use Rattle.file_bytes.specs.Stored.{row_of}

-- the new row follows the first k
abbrev pub Passed : Organization → ℕ → List ℕ → List StoredRow → ℕ → Type 0
Passed o number bytes rows k = (new : Row) → prime_pair o new ≡ named_pair o number bytes
    → with_row o new (map row_of rows) ≡ map row_of (take k rows) ++ with_row o new (map row_of (drop k rows))

module _ (o : Organization) (number : ℕ) (bytes : List ℕ) (rows : List StoredRow) where
  pub passed_none : Passed o number bytes rows 0
  passed_none new is = refl

  module _ (k : ℕ) (d : StoredRow) (so_far : Passed o number bytes rows k) (lt : k < length rows) where
    abbrev here : StoredRow
    here = get_or rows k d

    rest : map row_of (drop k rows) ≡ row_of here ∷ map row_of (drop (k + 1) rows)
    rest = ap (map row_of) (drop_more rows k d lt)

    pub passed_more : is_lt (pair_cmp (prime_pair o (row_of here)) (named_pair o number bytes)) ≡ true
        → Passed o number bytes rows (k + 1)
    passed_more less new is =
        let test : is_lt (pair_cmp (prime_pair o (row_of here)) (prime_pair o new)) ≡ true =
        ap (λ p. is_lt (pair_cmp (prime_pair o (row_of here)) p)) is ∙ less in
        so_far new is
        ∙ ap (λ (l : List Row). map row_of (take k rows) ++ with_row o new l) rest
        ∙ ap (λ (l : List Row). map row_of (take k rows) ++ l)
        (cond-true (is_lt (pair_cmp (prime_pair o (row_of here)) (prime_pair o new))) (row_of here
        ∷ with_row o new (map row_of (drop (k + 1) rows))) (new ∷ row_of here ∷ map row_of (drop (k + 1) rows)) test)
        ∙ sym
        (append_assoc (map row_of (take k rows)) (row_of here ∷ []) (with_row o new (map row_of (drop (k + 1) rows))))
        ∙ ap (λ (l : List Row). l ++ with_row o new (map row_of (drop (k + 1) rows)))
        (sym (map-append row_of (take k rows) (here ∷ [])) ∙ ap (map row_of) (sym (take_more rows k d lt)))

    pub passed_here : is_lt (pair_cmp (prime_pair o (row_of here)) (named_pair o number bytes)) ≡ false → (new : Row)
        → prime_pair o new ≡ named_pair o number bytes
        → with_row o new (map row_of rows) ≡ map row_of (take k rows) ++ new ∷ map row_of (drop k rows)
    passed_here less new is =
        let test : is_lt (pair_cmp (prime_pair o (row_of here)) (prime_pair o new)) ≡ false =
        ap (λ p. is_lt (pair_cmp (prime_pair o (row_of here)) p)) is ∙ less in
        so_far new is
        ∙ ap (λ (l : List Row). map row_of (take k rows) ++ with_row o new l) rest
        ∙ ap (λ (l : List Row). map row_of (take k rows) ++ l)
        (cond-false (is_lt (pair_cmp (prime_pair o (row_of here)) (prime_pair o new))) (row_of here
        ∷ with_row o new (map row_of (drop (k + 1) rows))) (new ∷ row_of here ∷ map row_of (drop (k + 1) rows)) test)
        ∙ ap (λ (l : List Row). map row_of (take k rows) ++ new ∷ l) (sym rest)

  pub passed_all : (k : ℕ) → Passed o number bytes rows k → length rows ≤ k → (new : Row)
      → prime_pair o new ≡ named_pair o number bytes
      → with_row o new (map row_of rows) ≡ map row_of (take k rows) ++ new ∷ map row_of (drop k rows)
  passed_all k so_far le new is =
      let none : drop k rows ≡ [] = drop_all k rows le in
      so_far new is ∙ ap (λ (l : List StoredRow). map row_of (take k rows) ++ with_row o new (map row_of l)) none
      ∙ ap (λ (l : List StoredRow). map row_of (take k rows) ++ new ∷ map row_of l) (sym none)
