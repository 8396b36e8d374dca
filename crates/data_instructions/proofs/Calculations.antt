-- A calculation finds its numbers where there are as many as it takes, and leaves as many as are known.
use Rattle.std.proofs.Common.{◌≡◌, ℕ, zero, suc, ◌+◌, ◌-◌, ◌≤◌, length, List, [], ◌∷◌, refl, ap, arith, Option, Some}
use Rattle.std.specs.Prelude.{slice_get}
use Rattle.source_tree.specs.declared.expression.Operator.{Operator}
use Rattle.source_tree.specs.declared.expression.Operator.TheVariants as operator
use Rattle.source_tree.specs.Computed.{ArithmeticValue, negate}
use Rattle.source_tree.specs.Arithmetic.{truncated_value}
use Rattle.data_instructions.specs.declared.calculation.Calculation.{Calculation}
use Rattle.data_instructions.specs.declared.calculation.Calculation.TheVariants as c
use Rattle.data_instructions.specs.Table.{by_two, by_one, with_copy, without_newest, calculated_numbers}
use Rattle.data_instructions.specs.Shapes.{taken_by, put_by}

-- There are numbers then, so many less and so many more.
abbrev LeavesNumbers : Option (List ArithmeticValue) → List ArithmeticValue → ℕ → ℕ → Type 0
LeavesNumbers after ns less more =
    (ms : List ArithmeticValue) × (after ≡ Some ms) × (length ms ≡ length ns - less + more)

two_there : (one : Operator) (ns : List ArithmeticValue) → 2 ≤ length ns → LeavesNumbers (by_two one ns) ns 2 1
two_there one [] enough = absurd (omega (arith, enough))
two_there one (y ∷ []) enough = absurd (omega (arith, enough))
two_there one (y ∷ x ∷ ns) enough = (_, refl, omega arith)

one_there : (change : ArithmeticValue → ArithmeticValue) (ns : List ArithmeticValue) → 1 ≤ length ns
    → LeavesNumbers (by_one change ns) ns 1 1
one_there change [] enough = absurd (omega (arith, enough))
one_there change (x ∷ ns) enough = (_, refl, omega arith)

newest_there : (ns : List ArithmeticValue) → 1 ≤ length ns → LeavesNumbers (without_newest ns) ns 1 0
newest_there [] enough = absurd (omega (arith, enough))
newest_there (x ∷ ns) enough = (ns, refl, omega arith)

number_there : (ns : List ArithmeticValue) (depth : ℕ) → depth + 1 ≤ length ns
    → (x : ArithmeticValue) × (slice_get ns depth ≡ Some x)
number_there [] depth enough = absurd (omega (arith, enough))
number_there (x ∷ ns) zero enough = (x, refl)
number_there (x ∷ ns) (suc depth) enough = number_there ns depth (omega (arith, enough))

copy_there : (ns : List ArithmeticValue) (depth : ℕ) → depth + 1 ≤ length ns
    → LeavesNumbers (with_copy (slice_get ns depth) ns) ns (depth + 1) (depth + 2)
copy_there ns depth enough =
    let found = number_there ns depth enough in
    (found.0 ∷ ns, ap (λ o. with_copy o ns) found.1, omega (arith, enough))

pub calculated_there : (one : Calculation) (ns : List ArithmeticValue) → taken_by one ≤ length ns
    → LeavesNumbers (calculated_numbers one ns) ns (taken_by one) (put_by one)
calculated_there c.Add ns enough = two_there operator.Add ns enough
calculated_there c.Subtract ns enough = two_there operator.Subtract ns enough
calculated_there c.Multiply ns enough = two_there operator.Multiply ns enough
calculated_there c.Divide ns enough = two_there operator.Divide ns enough
calculated_there c.Negate ns enough = one_there negate ns enough
calculated_there (c.Truncate scale) ns enough = one_there (truncated_value scale) ns enough
calculated_there (c.Duplicate depth) ns enough = copy_there ns depth enough
calculated_there c.Discard ns enough = newest_there ns enough
