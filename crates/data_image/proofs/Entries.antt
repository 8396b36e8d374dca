-- Reading entries one after the other, as a loop does.
use Rattle.std.proofs.Common.{◌≡◌, ℕ, suc, ◌-◌, ◌+◌, ◌≤◌, ◌<◌, List, [], ◌∷◌, ◌++◌, Ok, Err, refl, sym, ap, ◌∙◌}
use Rattle.std.proofs.Common.{append_assoc, arith, length, take, get_or, All, subst}
use Rattle.std.specs.Prelude.{Option, None, Some}
use Rattle.std.specs.List.{flat_map, AllByRecursion}
use Rattle.std.proofs.lemmas.List.{append-nil, flat_map_more, take_more, take_all}
use Rattle.std.proofs.lemmas.List.Elements.{All-more, recursion_from_All}
use Rattle.answers.specs.Answer.{Fails}
use Rattle.data_image.specs.declared.fault.ImageFault.{ImageFault}
use Rattle.data_image.specs.Spelling.{count_bytes, table_bytes}
use Rattle.data_image.specs.Reading.{ReadResult, ◌>>=◌, entries_at}

-- what was read before, and what is still read
abbrev pub with_front : {A : Type 0} → List A → ReadResult (List A) → ReadResult (List A)
with_front front read = read >>= λ x. Ok (front ++ x.0, x.1)

module _ {A : Type 0} (entry : List ℕ → ReadResult A) where
  regroup : (front : List A) (n : A) (read : ReadResult (List A))
      → with_front front (read >>= λ x. Ok (n ∷ x.0, x.1)) ≡ with_front (front ++ n ∷ []) read
  regroup front n (Ok x) = ap (λ (ns : List A). Ok (ns, x.1)) (simp append_assoc)
  regroup front n (Err f) = refl

  pub goes_on : (front : List A) (count i : ℕ) (bytes : List ℕ) (n : A) (after : List ℕ) (total : ReadResult (List A))
      → i < count → entry bytes ≡ Ok (n, after)
      → with_front front (entries_at entry (count - i) bytes) ≡ total
      → with_front (front ++ n ∷ []) (entries_at entry (count - (i + 1)) after) ≡ total
  unfolding entries_at
  goes_on front count i bytes n after total lt h so_far =
      let k : count - i ≡ suc (count - (i + 1)) = omega arith in
      let one : with_front front (entries_at entry (count - i) bytes)
      ≡ with_front (front ++ n ∷ []) (entries_at entry (count - (i + 1)) after) =
      rw (k, h) (regroup front n (entries_at entry (count - (i + 1)) after)) in
      sym one ∙ so_far

  pub ends : (e : Option ImageFault) (front : List A) (count i : ℕ) (bytes : List ℕ) (total : ReadResult (List A))
      → i < count → Fails e (entry bytes)
      → with_front front (entries_at entry (count - i) bytes) ≡ total → Fails e total
  unfolding entries_at
  ends None front count i bytes total lt h so_far = tt
  ends (Some f) front count i bytes total lt h so_far =
      let k : count - i ≡ suc (count - (i + 1)) = omega arith in
      let one : with_front front (entries_at entry (count - i) bytes) ≡ Err f = rw (k, h) refl in
      sym so_far ∙ one

  pub is_done : (front : List A) (count i : ℕ) (bytes : List ℕ) (total : ReadResult (List A)) → count ≤ i
      → with_front front (entries_at entry (count - i) bytes) ≡ total → total ≡ Ok (front, bytes)
  unfolding entries_at
  is_done front count i bytes total le so_far =
      let k : count - i ≡ 0 = omega arith in
      let one : with_front front (entries_at entry (count - i) bytes) ≡ Ok (front, bytes) =
      rw k (ap (λ (ns : List A). Ok (ns, bytes)) (append-nil front)) in
      sym so_far ∙ one

-- ---- putting entries one after the other

-- what was put, after one entry more
pub puts_more : {A : Type 0} (spelled : A → List ℕ) (xs : List A) (i : ℕ) (x : A) (before now after : List ℕ)
    → i < length xs → x ≡ get_or xs i x → now ≡ before ++ flat_map spelled (take i xs) → after ≡ now ++ spelled x
    → after ≡ before ++ flat_map spelled (take (i + 1) xs)
puts_more {A} spelled xs i x before now after within is so_far e =
    e ∙ ap (λ (bytes : List ℕ). bytes ++ spelled x) so_far ∙ flat_map_more spelled before (take i xs) x
    ∙ ap (λ (ys : List A). before ++ flat_map spelled ys)
    (ap (λ (y : A). take i xs ++ y ∷ []) is ∙ sym (take_more xs i x within))

pub fits_more : {A : Type 0} (fits : A → Type 0) (xs : List A) (i : ℕ) (x : A) → i < length xs → x ≡ get_or xs i x
    → All fits (take i xs) → fits x → All fits (take (i + 1) xs)
fits_more fits xs i x within is so_far h = All-more fits xs i x within so_far (subst fits is h)

-- what was put of a table, after its last entry
pub puts_all : {A : Type 0} (spelled : A → List ℕ) (xs : List A) (i : ℕ) (before counted now : List ℕ)
    → length xs ≤ i → counted ≡ before ++ count_bytes (length xs) → now ≡ counted ++ flat_map spelled (take i xs)
    → now ≡ before ++ table_bytes spelled xs
puts_all {A} spelled xs i before counted now past e so_far =
    so_far ∙ ap (λ (ys : List A). counted ++ flat_map spelled ys) (take_all i xs past)
    ∙ ap (λ (bytes : List ℕ). bytes ++ flat_map spelled xs) e
    ∙ append_assoc before (count_bytes (length xs)) (flat_map spelled xs)

pub fits_all : {A : Type 0} (fits : A → Type 0) (xs : List A) (i : ℕ) → length xs ≤ i → All fits (take i xs)
    → AllByRecursion fits xs
fits_all fits xs i past so_far = recursion_from_All fits xs (subst (All fits) (take_all i xs past) so_far)
