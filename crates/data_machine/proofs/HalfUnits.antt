-- A number is rounded by one division: half a unit is added before it.
use Rattle.std.proofs.Common.{◌≡◌, ℕ, ◌+◌, ◌-◌, ◌*◌, ◌/◌, ◌%◌, ◌^◌, ◌<◌, ap, sym, ◌∙◌, arith, inl, inr}
use Rattle.std.proofs.lemmas.Bool.{cases_lt}
use Rattle.std.proofs.lemmas.Nat.{div-mul-add, div-add-mod', mod_below}
use Rattle.decimal18.specs.TotalOrder.{ten_pos}
use Rattle.decimal18.specs.Receiver.{carry}
use Rattle.decimal18.specs.declared.receiver.Rounding.{Rounding}
use Rattle.decimal18.specs.declared.receiver.Rounding.TheVariants.{Rounded}
use Rattle.decimal18.proofs.Powers.{split_power}
use Rattle.decimal18.proofs.Rounds.{rounded_up, not_rounded}

half_added : (m k : ℕ) → 0 < k → (m + 5 * 10 ^ (k - 1)) / 10 ^ k ≡ m / 10 ^ k + carry Rounded m k
half_added m k some =
    let u : ℕ = 10 ^ k in
    let h : ℕ = 5 * 10 ^ (k - 1) in
    let unit : u ≡ 10 ^ (k - 1) * 10 = split_power 1 k (omega arith) in
    let whole : m / u * u + m % u ≡ m = div-add-mod' m u in
    let less : m % u < u = mod_below m u (ten_pos k) in
    elim (cases_lt (m % u) h) [
      | inl below ↦
          let none : carry Rounded m k ≡ 0 = not_rounded m k some (omega (arith, whole, below)) in
          let sum : m + h ≡ m / u * u + (m % u + h) = omega (arith, whole) in
          ap (λ n. n / u) sum ∙ div-mul-add (m / u) u (m % u + h) (omega (arith, unit, below)) ∙ omega (arith, none)
      | inr above ↦
          let one : carry Rounded m k ≡ 1 = rounded_up m k some (omega (arith, whole, above)) in
          let sum : m + h ≡ (m / u + 1) * u + (m % u + h - u) = omega (arith, whole, unit, above) in
          ap (λ n. n / u) sum ∙ div-mul-add (m / u + 1) u (m % u + h - u) (omega (arith, unit, less))
          ∙ omega (arith, one)
    ]

pub rounded_by : (rounding : Rounding) (m k u half v : ℕ) → rounding ≡ Rounded → 0 < k → u ≡ 10 ^ k → half ≡ u / 2
    → v ≡ (m + half) / u → v ≡ m / 10 ^ k + carry rounding m k
rounded_by rounding m k u half v r some e f g =
    let unit : 10 ^ k ≡ 10 ^ (k - 1) * 10 = split_power 1 k (omega arith) in
    let five : half ≡ 5 * 10 ^ (k - 1) = omega (arith, unit, e, f) in
    g ∙ ap (λ t. (m + half) / t) e ∙ ap (λ t. (m + t) / 10 ^ k) five ∙ half_added m k some
    ∙ sym (ap (λ t. m / 10 ^ k + carry t m k) r)
