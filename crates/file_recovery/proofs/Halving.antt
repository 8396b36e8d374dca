-- A search by halving among rows whose prime keys ascend: those before `low` have lesser ones, those from `high` on
-- greater ones.
use Rattle.std.proofs.Common.{◌≡◌, ◌≤◌, ◌<◌, ◌+◌, ⊎_elim, ℕ, List, length, sym, ap, subst, ◌∙◌, arith}
use Rattle.std.specs.Ordering.{ordering_reverse}
use Rattle.std.specs.declared.cmp.Ordering.TheVariants.{Less, Equal, Greater}
use Rattle.std.proofs.lemmas.Bool.{cases_lt}
use Rattle.std.proofs.lemmas.Cmp.{nat_list_cmp_total, tied_itself}
use Rattle.records.specs.Spec.{Spec}
use Rattle.records.specs.Rows.{Row, bytes_cmp}
use Rattle.file_recovery.specs.Rows.{prime_at, PrimesAscend}

module _ (spec : Spec) (rows : List Row) (value : List ℕ) where
  pub record IsLeft (low high : ℕ) : Type 0 where
    pub below : (k : ℕ) → k < low → bytes_cmp (prime_at spec rows k) value ≡ Less
    pub above : (k : ℕ) → high ≤ k → k < length rows → bytes_cmp (prime_at spec rows k) value ≡ Greater

  pub left_all : (low high : ℕ) → low ≡ 0 → high ≡ length rows → IsLeft low high
  left_all low high none all = record {
    below = λ k lt. absurd (omega (arith, lt, none));
    above = λ k from lt. absurd (omega (arith, from, lt, all));
  }

  module _ (up : PrimesAscend spec rows) (low high middle : ℕ) (left : IsLeft low high)
      (within : middle < length rows) where
    pub left_right : bytes_cmp (prime_at spec rows middle) value ≡ Less → IsLeft (middle + 1) high
    left_right less = record {
      below = λ k lt. ⊎_elim
          (λ (under : k < middle). nat_list_cmp_total.trans (prime_at spec rows k) (prime_at spec rows middle) value
          (up k middle under within) less)
          (λ (from : middle ≤ k).
          let same : middle ≡ k = omega (arith, from, lt) in
          subst (λ (n : ℕ). bytes_cmp (prime_at spec rows n) value ≡ Less) same less)
          (cases_lt k middle);
      above = left.above;
    }

    pub left_left : bytes_cmp (prime_at spec rows middle) value ≡ Greater → IsLeft low middle
    left_left greater = record {
      below = left.below;
      above = λ k from lt. ⊎_elim
          (λ (over : middle < k).
          let first : bytes_cmp value (prime_at spec rows middle) ≡ Less =
          nat_list_cmp_total.antisymm value (prime_at spec rows middle) ∙ ap ordering_reverse greater in
          let second = nat_list_cmp_total.trans value (prime_at spec rows middle) (prime_at spec rows k) first
          (up middle k over lt) in
          nat_list_cmp_total.antisymm (prime_at spec rows k) value ∙ ap ordering_reverse second)
          (λ (to : k ≤ middle).
          let same : middle ≡ k = omega (arith, from, to) in
          subst (λ (n : ℕ). bytes_cmp (prime_at spec rows n) value ≡ Greater) same greater)
          (cases_lt middle k);
    }

  pub none_left : (low high : ℕ) → IsLeft low high → high ≤ low → (k : ℕ) → k < length rows
      → prime_at spec rows k ≡ value → ⊥
  none_left low high left done k lt same =
      let tied : bytes_cmp (prime_at spec rows k) value ≡ Equal =
      ap (λ (x : List ℕ). bytes_cmp x value) same ∙ tied_itself nat_list_cmp_total value in
      ⊎_elim
      (λ (under : k < low). let clash : Equal ≡ Less = sym tied ∙ left.below k under in absurd {0} cc)
      (λ (from : low ≤ k). let clash : Equal ≡ Greater =
      sym tied ∙ left.above k (omega (arith, from, done)) lt in absurd {0} cc)
      (cases_lt k low)
