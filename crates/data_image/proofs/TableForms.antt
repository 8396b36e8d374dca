-- Tables and texts, read and spelled.
use Rattle.std.proofs.Common.{◌≡◌, ℕ, zero, suc, ◌≤◌, false, cond, ltb, List, [], ◌∷◌, ◌++◌, length, take, drop, Ok}
use Rattle.std.proofs.Common.{Err, refl, sym, ap, subst, ◌∙◌, append_assoc, arith}
use Rattle.std.specs.List.{flat_map, AllByRecursion}
use Rattle.std.proofs.lemmas.Bool.{ltb-false, le-ltb}
use Rattle.std.proofs.lemmas.List.{take_at, drop_at, take-append-drop, length-append, length-take}
use Rattle.std.proofs.lemmas.List.Concat.{flat_map-cons}
use Rattle.data_image.specs.declared.fault.ImageFault.TheVariants as faults
use Rattle.data_image.specs.Spelling.{IsBytes, count_bytes, table_bytes, text_bytes, IsCount, IsText, AreSpelled}
use Rattle.data_image.specs.Reading.{ReadResult, ◌>>=◌, count_at, entries_at, table_at, text_at}
use Rattle.data_image.proofs.Forms.{IsBytes-drop, bind_ok, bind_is, guard_ok, ok_is, Takes, takes_then, IsForm, part}
use Rattle.data_image.proofs.Forms.{part_again, Took, form_of}
use Rattle.data_image.proofs.Numbers.{count_form}

module _ {A : Type 0} (read : List ℕ → ReadResult A) (spelled : A → List ℕ) (fits : A → Type 0)
    (form : IsForm read spelled fits) where
  abbrev others_at : ℕ → A × List ℕ → ReadResult (List A)
  others_at n first = entries_at read n first.1 >>= λ others. Ok (first.0 ∷ others.0, others.1)

  -- so many entries were taken, and each fits
  abbrev TakesAll : List ℕ → ℕ → List A × List ℕ → Type 0
  TakesAll bytes n x = Takes bytes (flat_map spelled x.0) x.1 × (length x.0 ≡ n) × AllByRecursion fits x.0

  entries_take : (n : ℕ) (bytes : List ℕ) (x : List A × List ℕ) → IsBytes bytes → entries_at read n bytes ≡ Ok x
      → TakesAll bytes n x
  unfolding entries_at
  entries_take zero bytes x is e =
      subst (TakesAll bytes 0) (ok_is ([], bytes) x e) (record { parts = refl; rest_fits = is }, refl, tt)
  entries_take (suc n) bytes x is e =
      let a = bind_ok (read bytes) (others_at n) x e in
      let b = bind_ok (entries_at read n a.0.1) (λ others. Ok (a.0.0 ∷ others.0, others.1)) x a.2 in
      let first = form.takes bytes a.0.0 a.0.1 is a.1 in
      let second = entries_take n a.0.1 b.0 first.rest_fits b.1 in
      let both = takes_then bytes (spelled a.0.0) a.0.1 (flat_map spelled b.0.0) b.0.1 first second.0 in
      let made : List A × List ℕ = (a.0.0 ∷ b.0.0, b.0.1) in
      let one = form.sound bytes a.0.0 a.0.1 is a.1 in
      subst (TakesAll bytes (suc n)) (ok_is made x b.2) (rw flat_map-cons both, ap suc second.1, (one, second.2))

  entries_again : (xs : List A) (rest : List ℕ) → AllByRecursion fits xs
      → entries_at read (length xs) (flat_map spelled xs ++ rest) ≡ Ok (xs, rest)
  unfolding entries_at
  entries_again [] rest all = refl
  entries_again (x ∷ xs) rest all =
      let regrouped : flat_map spelled (x ∷ xs) ++ rest ≡ spelled x ++ (flat_map spelled xs ++ rest) =
      ap (λ (t : List ℕ). t ++ rest) (flat_map-cons spelled x xs)
      ∙ append_assoc (spelled x) (flat_map spelled xs) rest in
      ap (entries_at read (suc (length xs))) regrouped
      ∙ bind_is (read (spelled x ++ (flat_map spelled xs ++ rest))) (others_at (length xs))
      (x, flat_map spelled xs ++ rest) (form.again x (flat_map spelled xs ++ rest) all.0)
      ∙ bind_is (entries_at read (length xs) (flat_map spelled xs ++ rest)) (λ others. Ok (x ∷ others.0, others.1))
      (xs, rest) (entries_again xs rest all.1)

  pub table_form : IsForm (table_at read) (table_bytes spelled) (AreSpelled fits)
  unfolding table_at
  table_form = record {
    takes = λ bytes xs rest is e.
        let b = bind_ok (count_at bytes) (λ count. entries_at read count.0 count.1) (xs, rest) e in
        let first = count_form.takes bytes b.0.0 b.0.1 is b.1 in
        let second = entries_take b.0.0 b.0.1 (xs, rest) first.rest_fits b.2 in
        subst (λ (n : ℕ). Takes bytes (count_bytes n ++ flat_map spelled xs) rest) (sym second.1)
        (takes_then bytes (count_bytes b.0.0) b.0.1 (flat_map spelled xs) rest first second.0);
    sound = λ bytes xs rest is e.
        let b = bind_ok (count_at bytes) (λ count. entries_at read count.0 count.1) (xs, rest) e in
        let first = count_form.takes bytes b.0.0 b.0.1 is b.1 in
        let second = entries_take b.0.0 b.0.1 (xs, rest) first.rest_fits b.2 in
        (subst IsCount (sym second.1) (count_form.sound bytes b.0.0 b.0.1 is b.1), second.2);
    again = λ xs rest all.
        ap (λ (t : List ℕ). count_at t >>= λ count. entries_at read count.0 count.1)
        (append_assoc (count_bytes (length xs)) (flat_map spelled xs) rest)
        ∙ bind_is (count_at (count_bytes (length xs) ++ (flat_map spelled xs ++ rest)))
        (λ count. entries_at read count.0 count.1) (length xs, flat_map spelled xs ++ rest)
        (count_form.again (length xs) (flat_map spelled xs ++ rest) all.0)
        ∙ entries_again xs rest all.1;
  }

-- ---- texts

abbrev text_from : ℕ × List ℕ → ReadResult (List ℕ)
text_from count =
    cond (ltb (length count.1) count.0) (Err faults.Length) (Ok (take count.0 count.1, drop count.0 count.1))

text_took : (bytes : List ℕ) (x : List ℕ × List ℕ) → IsBytes bytes → text_at bytes ≡ Ok x
    → Took text_bytes IsText bytes x
unfolding text_at
text_took bytes x is e =
    let n = part count_form bytes text_from x is e in
    let g = guard_ok (ltb (length n.rest) n.value) faults.Length (take n.value n.rest, drop n.value n.rest) x n.goes in
    let long : n.value ≤ length n.rest = ltb-false _ _ g.0 in
    let len : length (take n.value n.rest) ≡ n.value = omega (arith, length-take n.value n.rest) in
    let second : Takes n.rest (take n.value n.rest) (drop n.value n.rest) = record {
      parts = sym (take-append-drop n.value n.rest);
      rest_fits = IsBytes-drop n.value n.rest n.takes.rest_fits;
    } in
    let both =
    takes_then bytes (count_bytes n.value) n.rest (take n.value n.rest) (drop n.value n.rest) n.takes second in
    let whole : Takes bytes (text_bytes (take n.value n.rest)) (drop n.value n.rest) =
    subst (λ (k : ℕ). Takes bytes (count_bytes k ++ take n.value n.rest) (drop n.value n.rest)) (sym len) both in
    subst (Took text_bytes IsText bytes) g.1 (whole, subst IsCount (sym len) n.sound)

text_again : (text rest : List ℕ) → IsText text → text_at (text_bytes text ++ rest) ≡ Ok (text, rest)
unfolding text_at
text_again text rest lt =
    let long : ltb (length (text ++ rest)) (length text) ≡ false =
    le-ltb _ _ (omega (arith, length-append text rest)) in
    ap (λ (t : List ℕ). count_at t >>= text_from) (append_assoc (count_bytes (length text)) text rest)
    ∙ part_again count_form (length text) (text ++ rest) text_from lt
    ∙ rw (long, take_at text rest (length text) refl, drop_at text rest (length text) refl) refl

pub text_form : IsForm text_at text_bytes IsText
text_form = form_of text_at text_bytes IsText text_took text_again
