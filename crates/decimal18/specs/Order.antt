-- The order of numbers, whatever their scales (COBOL-85, Nucleus, comparison of numeric operands): a/10^s is below b/10^t
-- exactly where a * 10^t is below b * 10^s.
use Rattle.std.specs.Prelude.{Bool, pos, ◌*ℤ◌, ◌^◌}
use Rattle.std.specs.Ordering.{int_cmp, is_eq}
use Rattle.std.specs.declared.cmp.Ordering.{Ordering}
use Rattle.decimal18.specs.Fraction.{Fraction}

unfoldable pub order : Fraction → Fraction → Ordering
order x y = int_cmp (x.coefficient *ℤ pos (10 ^ y.scale)) (y.coefficient *ℤ pos (10 ^ x.scale))

abbrev pub equals : Fraction → Fraction → Bool
equals x y = is_eq (order x y)
