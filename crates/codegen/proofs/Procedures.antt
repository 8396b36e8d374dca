-- Where the codes of paragraphs stand, and which of them are lower than others.
use Rattle.std.proofs.Common.{◌≡◌, ℕ, zero, suc, ◌+◌, ◌-◌, ◌≤◌, ◌<◌, Bool, true, false, List, [], ◌∷◌, ◌++◌, length}
use Rattle.std.proofs.Common.{Some, refl, ap, ◌∙◌, subst, ⊎_elim, arith, length-append}
use Rattle.std.specs.Prelude.{◌&&◌, nat_lt, slice_get}
use Rattle.std.proofs.lemmas.Bool.{ltb-true, lt-ltb}
use Rattle.std.proofs.Math.Nat.{eq-or-lt_of_le}
use Rattle.std.proofs.lemmas.Option.{slice_get_within, same_Some}
use Rattle.source_tree.specs.declared.program.Paragraph.{Paragraph}
use Rattle.source_tree.specs.Procedures.{Range}
use Rattle.source_tree.specs.Setting.{Scope}
use Rattle.code_image.specs.declared.code.Code.{Code}
use Rattle.code_image.specs.declared.instruction.Instruction.{Instruction}
use Rattle.code_image.specs.declared.instruction.Instruction.TheVariants.{Stop}
use Rattle.condition_codegen.specs.Fragments.{Fragment, empty_code, append, in_order}
use Rattle.codegen.specs.Layout.{start_fragment, sentence_fragment, paragraph_fragment, end_fragment}
use Rattle.codegen.proofs.Doing.{end_of}
use Rattle.condition_codegen.proofs.Fragments.{joined_assoc}
use Rattle.codegen.proofs.Standing.{Stands, front, back, first_stands, start_stands}

-- ---- pieces in order, by their numbers

module _ {A : Type 0} (piece : A → Fragment) where
  -- the code before the piece of this number
  abbrev pub code_before : ℕ → List A → Code → Code
  code_before zero all start = start
  code_before (suc n) [] start = start
  code_before (suc n) (one ∷ more) start = code_before n more (append start (piece one start))

  next_code : (n : ℕ) (all : List A) (start : Code) (one : A) → slice_get all n ≡ Some one
      → code_before (suc n) all start ≡ append (code_before n all start) (piece one (code_before n all start))
  next_code n [] start one here = absurd cc
  next_code zero (first ∷ more) start one here = ap (λ (x : A). append start (piece x start)) (same_Some first one here)
  next_code (suc n) (first ∷ more) start one here = next_code n more (append start (piece first start)) one here

  grows : (n : ℕ) (all : List A) (start : Code) → end_of start ≤ end_of (code_before n all start)
  grows zero all start = omega arith
  grows (suc n) [] start = omega arith
  grows (suc n) (one ∷ more) start =
      omega (
        arith,
        length-append start.instructions (piece one start).instructions,
        grows n more (append start (piece one start)),
      )

  rises : (i j : ℕ) (all : List A) (start : Code) → i ≤ j
      → end_of (code_before i all start) ≤ end_of (code_before j all start)
  rises zero j all start le = grows j all start
  rises (suc i) zero all start le = absurd (omega arith)
  rises (suc i) (suc j) [] start le = omega arith
  rises (suc i) (suc j) (one ∷ more) start le = rises i j more (append start (piece one start)) (omega arith)

  -- one code paragraph starts in each
  numbered : (n : ℕ) (all : List A) (start : Code)
      → ((k : ℕ) (one : A) → slice_get all k ≡ Some one → (code : Code) → length (piece one code).starts ≡ 1)
      → n ≤ length all
      → length (code_before n all start).starts ≡ length start.starts + n
  numbered zero all start each le = omega arith
  numbered (suc n) [] start each le = let none : length {A = A} [] ≡ 0 = refl in absurd (omega (arith, none))
  numbered (suc n) (one ∷ more) start each le =
      let more_are : length (one ∷ more) ≡ suc (length more) = refl in
      let rest = numbered n more (append start (piece one start)) (λ k other here. each (suc k) other here)
      (omega (arith, more_are)) in
      omega (arith, rest, length-append start.starts (piece one start).starts, each zero one refl start)

  module _ (whole end : Code) where
    stands_at : (n : ℕ) (all : List A) (start : Code) (one : A) → slice_get all n ≡ Some one
        → Stands whole start (append (in_order piece all start) end)
        → Stands whole (code_before n all start) (piece one (code_before n all start))
    stands_at n [] start one here st = absurd cc
    stands_at zero (first ∷ more) start one here st =
        let a = piece first start in
        let b = in_order piece more (append start a) in
        subst (λ (x : A). Stands whole start (piece x start)) (same_Some first one here)
        (front whole start a (append b end) (subst (Stands whole start) (joined_assoc a b end) st))
    stands_at (suc n) (first ∷ more) start one here st =
        let a = piece first start in
        let b = in_order piece more (append start a) in
        stands_at n more (append start a) one here
        (back whole start a (append b end) (subst (Stands whole start) (joined_assoc a b end) st))

    -- what follows all
    end_stands : (all : List A) (start : Code) (one : Instruction) (others : List Instruction)
        → end.instructions ≡ one ∷ others
        → Stands whole start (append (in_order piece all start) end)
        → slice_get whole.instructions (end_of (code_before (length all) all start)) ≡ Some one
    end_stands [] start one others is st = first_stands whole start (append empty_code end) one others is st
    end_stands (first ∷ more) start one others is st =
        let a = piece first start in
        let b = in_order piece more (append start a) in
        end_stands more (append start a) one others is
        (back whole start a (append b end) (subst (Stands whole start) (joined_assoc a b end) st))

-- ---- paragraphs

-- Where the paragraphs of a program stand, by their numbers.
pub record Laid (whole : Code) (scope : Scope) (all : List Paragraph) : Type 0 where
  -- the code before a paragraph
  pub before : ℕ → Code
  pub begins : end_of (before zero) ≡ 0
  pub stands : (n : ℕ) (one : Paragraph) → slice_get all n ≡ Some one
      → Stands whole (before n) (paragraph_fragment scope one (before n))
  pub next : (n : ℕ) (one : Paragraph) → slice_get all n ≡ Some one
      → before (suc n) ≡ append (before n) (paragraph_fragment scope one (before n))
  pub rises : (i j : ℕ) → i ≤ j → end_of (before i) ≤ end_of (before j)
  pub numbered : (n : ℕ) → n ≤ length all → length (before n).starts ≡ n
  pub starts : (n : ℕ) (one : Paragraph) → slice_get all n ≡ Some one
      → slice_get whole.starts n ≡ Some (end_of (before n))
  pub stops : slice_get whole.instructions (end_of (before (length all))) ≡ Some Stop

-- No code paragraph starts in the sentences of these paragraphs.
pub record AreBare (scope : Scope) (all : List Paragraph) : Type 0 where
  pub by : (n : ℕ) (one : Paragraph) → slice_get all n ≡ Some one → (code : Code)
      → (in_order (sentence_fragment scope) one.sentences code).starts ≡ []

pub laid_out : (whole : Code) (scope : Scope) (all : List Paragraph) (start : Code) → start.starts ≡ []
    → end_of start ≡ 0 → AreBare scope all
    → Stands whole start (append (in_order (paragraph_fragment scope) all start) end_fragment) → Laid whole scope all
laid_out whole scope all start none first bare st =
    let piece = paragraph_fragment scope in
    let single = λ (k : ℕ) (one : Paragraph) (here : slice_get all k ≡ Some one) (code : Code).
    ap (λ (l : List ℕ). length (end_of code ∷ (l ++ []))) (bare.by k one here (append code (start_fragment code))) in
    let before = λ (n : ℕ). code_before piece n all start in
    let stands = λ (n : ℕ) (one : Paragraph) (here : slice_get all n ≡ Some one).
    stands_at piece whole end_fragment n all start one here st in
    let count = λ (n : ℕ) (le : n ≤ length all). numbered piece n all start single le in
    let nothing_before : length start.starts ≡ 0 = ap length none in
    record {
      before = before;
      begins = first;
      stands = stands;
      next = λ n one here. next_code piece n all start one here;
      rises = λ i j le. rises piece i j all start le;
      numbered = λ n le. omega (arith, count n le, nothing_before);
      starts = λ n one here.
          let within : n < length all = slice_get_within all n one here in
          let is : length (before n).starts ≡ n = omega (arith, count n (omega (arith, within)), nothing_before) in
          let sentences =
          in_order (sentence_fragment scope) one.sentences (append (before n) (start_fragment (before n))) in
          subst (λ (k : ℕ). slice_get whole.starts k ≡ Some (end_of (before n))) is
          (start_stands whole (before n) (piece one (before n)) (end_of (before n)) (sentences.starts ++ []) refl
          (stands n one here));
      stops = end_stands piece whole end_fragment all start Stop [] refl st;
    }

-- ---- ranks

-- so many paragraphs, from this one on, are lower
abbrev pub all_below : (ℕ → ℕ) → ℕ → ℕ → ℕ → Bool
all_below height high first zero = true
all_below height high first (suc more) = nat_lt (height first) high && all_below height high (suc first) more

-- the ranges that a paragraph of this rank may perform
abbrev pub below : (ℕ → ℕ) → ℕ → Range → Bool
below height high range = all_below height high range.first (range.last + 1 - range.first)

both_true : (a b : Bool) → (a && b) ≡ true → (a ≡ true) × (b ≡ true)
both_true true true e = (refl, refl)
both_true true false e = absurd cc
both_true false b e = absurd cc

pub is_below : (height : ℕ → ℕ) (high first count q : ℕ) → all_below height high first count ≡ true → first ≤ q
    → q < first + count → height q < high
is_below height high first zero q e le lt = absurd (omega arith)
is_below height high first (suc more) q e le lt =
    let parts = both_true (nat_lt (height first) high) (all_below height high (suc first) more) e in
    ⊎_elim (λ (same : first ≡ q). subst (λ (k : ℕ). height k < high) same (ltb-true (height first) high parts.0))
    (λ (later : first < q). is_below height high (suc first) more q parts.1 (omega arith) (omega arith))
    (eq-or-lt_of_le le)

pub below_is : (height : ℕ → ℕ) (high first count : ℕ) → ((q : ℕ) → first ≤ q → q < first + count → height q < high)
    → all_below height high first count ≡ true
below_is height high first zero h = refl
below_is height high first (suc more) h =
    let now : nat_lt (height first) high ≡ true = lt-ltb (height first) high (h first (omega arith) (omega arith)) in
    let others = below_is height high (suc first) more (λ q le lt. h q (omega arith) (omega arith)) in
    ap (λ (b : Bool). b && all_below height high (suc first) more) now ∙ others
