use Rattle.std.proofs.Common.{◌≡◌, ◌≤◌, ℕ, suc, true, List, [], ◌∷◌, length, refl, sym, ◌∙◌, arith}
use Rattle.std.proofs.lemmas.Bool.Decides.{nat_tests}
use Rattle.std.specs.Prelude.{◌==◌}
use Rattle.source_tree.specs.Computed.{ArithmeticValue}
use Rattle.data_machine.proofs.TextLengths.{none_measured}
use Rattle.data_machine.proofs.measuring.measured.Goals as goal

bad : (n : ℕ) → true ≡ (suc n == 0) → 1 ≤ 0
bad n e = grind (arith, nat_tests, e)

none : (xs : List ArithmeticValue) → true ≡ (length xs == 0) → xs ≡ []
none [] e = refl
none (x ∷ xs) e = absurd (omega (arith, bad (length xs) e))

pub returns-then-is_empty : goal.returns-then-is_empty
returns-then-is_empty c =
    none_measured c.args.numbers.now c.args.entries.now
    (none c.args.numbers.now (sym c.if-is_empty.true ∙ c.is_empty.ensures))
