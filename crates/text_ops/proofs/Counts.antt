-- Counts, one more at each fit.
use Rattle.std.proofs.Common.{◌≡◌, ◌≢◌, ℕ, ◌+◌, ◌<◌, ◌≤◌, ◌==◌, Bool, true, false, cond, eqb, List, ◌∷◌, length}
use Rattle.std.proofs.Common.{slice_index, slice_set, get_or, refl, ap, sym, ◌∙◌, arith, length-set, get_or-set_other}
use Rattle.std.proofs.Common.{get_or-set_same, drop, Some}
use Rattle.std.proofs.lemmas.Bool.{eqb-true}
use Rattle.std.proofs.lemmas.List.Sums.{sum_by-cons}
use Rattle.std.proofs.Math.ListN.{drop_of_length-le}
use Rattle.std.proofs.lemmas.Bool.Decides.{nat_tests}
use Rattle.text_ops.specs.declared.progress.Progress.{Progress}
use Rattle.text_ops.specs.declared.progress.Fitted.{Fitted}
use Rattle.text_ops.specs.Walk.{first_fit, walk, walk_after, size_of, IsFitted}
use Rattle.text_ops.specs.Inspect.{count_of}
use Rattle.text_ops.proofs.Walks.{Goes, goes_from, goes_out, past_fit}

abbrev pub one_more : List ℕ → ℕ → List ℕ
one_more counts number = slice_set counts number (slice_index counts number + 1)

eqb-false : (a b : ℕ) → eqb a b ≡ false → a ≢ b
eqb-false a b e same = grind (arith, nat_tests)

one_at_most : (b : Bool) → cond b 1 0 ≤ 1
one_at_most true = omega arith
one_at_most false = omega arith

-- the count at a number, after one more at another or the same
at_other : (counts : List ℕ) (number k : ℕ) → number < length counts → (b : Bool) → eqb number k ≡ b
    → slice_index (one_more counts number) k ≡ slice_index counts k + cond b 1 0
at_other counts number k h true e =
    let same = eqb-true number k e in
    ap (λ n. get_or (one_more counts number) n 0) (sym same)
    ∙ get_or-set_same counts number (slice_index counts number + 1) 0 h ∙ ap (λ n. slice_index counts n + 1) same
at_other counts number k h false e =
    let ne : k ≢ number = λ same. eqb-false number k e (sym same) in
    get_or-set_other counts number k (slice_index counts number + 1) 0 ne ∙ omega arith

pub small_more : (counts : List ℕ) (number at size : ℕ) → number < length counts → 1 ≤ size
    → ((k : ℕ) → k < length counts → slice_index counts k ≤ at) → (k : ℕ) → k < length (one_more counts number)
    → slice_index (one_more counts number) k ≤ at + size
small_more counts number at size h some small k l =
    let k-in : k < length counts = omega (arith, length-set counts number (slice_index counts number + 1)) in
    let new = at_other counts number k h (eqb number k) refl in
    omega (arith, new, small k k-in, one_at_most (eqb number k))

counted_more : (counts : List ℕ) (fitted : Fitted) (more all whole : List Fitted) → fitted.number < length counts
    → all ≡ fitted ∷ more
    → ((k : ℕ) → k < length counts → slice_index counts k + count_of k all ≡ count_of k whole)
    → (k : ℕ) → k < length (one_more counts fitted.number)
    → slice_index (one_more counts fitted.number) k + count_of k more ≡ count_of k whole
counted_more counts fitted more all whole h e counted k l =
    let k-in : k < length counts =
    omega (arith, length-set counts fitted.number (slice_index counts fitted.number + 1)) in
    let new = at_other counts fitted.number k h (eqb fitted.number k) refl in
    let all-is : count_of k all ≡ cond (eqb fitted.number k) 1 0 + count_of k more =
    ap (count_of k) e ∙ sum_by-cons (λ f. cond (f.number == k) 1 0) fitted more in
    omega (arith, new, all-is, counted k k-in)

-- what is counted up to a place, and the fits from there on, are the whole
pub record TalliesUpTo (texts : List ℕ) (active : List Progress) (at : ℕ) (subject counts : List ℕ)
    (whole : List Fitted) : Type 0 where
  pub sizes : length counts ≡ length active
  pub small : (k : ℕ) → k < length counts → slice_index counts k ≤ at
  pub all : List Fitted
  pub goes : Goes texts active at (drop at subject) all
  pub counted : (k : ℕ) → k < length counts → slice_index counts k + count_of k all ≡ count_of k whole

pub tally_begun : (texts : List ℕ) (active : List Progress) (subject counts : List ℕ) → length counts ≡ length active
    → ((k : ℕ) → k < length counts → slice_index counts k ≡ 0)
    → TalliesUpTo texts active 0 subject counts (walk (length subject) texts active 0 subject)
tally_begun texts active subject counts sizes zero = record {
  sizes = sizes;
  small = λ k l. omega (arith, zero k l);
  all = walk (length subject) texts active 0 subject;
  goes = goes_from texts active 0 subject;
  counted = λ k l. omega (arith, zero k l);
}

-- the entry's count is one more at a fit
pub tally_fit : (texts : List ℕ) (active new : List Progress) (at size : ℕ) (subject rest counts : List ℕ)
    (whole : List Fitted) (fitted : Fitted) → at < length subject → rest ≡ drop at subject
    → Some fitted ≡ first_fit texts active at rest → new ≡ walk_after active (Some fitted) → size ≡ size_of fitted
    → IsFitted (length texts) (length active) at (length rest) fitted → length new ≡ length active
    → TalliesUpTo texts active at subject counts whole
    → TalliesUpTo texts new (at + size) subject (one_more counts fitted.number) whole
tally_fit texts active new at size subject rest counts whole fitted lt rest-is first new-is size-is is same tally =
    let past =
    past_fit texts active new at size subject rest tally.all fitted tally.goes lt rest-is first is.some new-is
    size-is in
    let number : fitted.number < length counts = omega (arith, is.number, tally.sizes) in
    record {
      sizes = length-set counts fitted.number (slice_index counts fitted.number + 1) ∙ tally.sizes ∙ sym same;
      small = small_more counts fitted.number at size number (omega (arith, is.some, size-is)) tally.small;
      all = past.0;
      goes = past.2;
      counted = counted_more counts fitted past.0 tally.all whole number past.1 tally.counted;
    }

-- further on, where nothing was counted
pub tally_later : (texts : List ℕ) (active new : List Progress) (at later : ℕ) (subject counts : List ℕ)
    (whole : List Fitted) (tally : TalliesUpTo texts active at subject counts whole) → at ≤ later
    → length new ≡ length active → Goes texts new later (drop later subject) tally.all
    → TalliesUpTo texts new later subject counts whole
tally_later texts active new at later subject counts whole tally le same goes = record {
  sizes = tally.sizes ∙ sym same;
  small = λ k l. omega (arith, tally.small k l);
  all = tally.all;
  goes = goes;
  counted = tally.counted;
}

-- at the end all are counted
pub tally_ended : (texts : List ℕ) (active : List Progress) (at : ℕ) (subject counts : List ℕ) (whole : List Fitted)
    → length subject ≤ at → TalliesUpTo texts active at subject counts whole → (k : ℕ) → k < length counts
    → slice_index counts k ≡ count_of k whole
tally_ended texts active at subject counts whole le tally k l =
    let none = goes_out texts active at (drop at subject) tally.all tally.goes (drop_of_length-le subject le) in
    let here = tally.counted k l in
    omega (arith, here, ap (count_of k) none)
