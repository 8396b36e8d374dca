-- The literals of condition names have the form of literals.
use Rattle.std.specs.Prelude.{◌≡◌, true, List, Option, Some, None}
use Rattle.std.specs.List.{AllByRecursion}
use Rattle.source_tree.specs.declared.literal.Literal.{Literal}
use Rattle.source_tree.specs.declared.entry.ValueRange.{ValueRange}
use Rattle.source_tree.specs.ValueRules.{has_form}

-- the literals of one value, or of a range
abbrev pub HasForms : Literal → Option Literal → Type 0
HasForms from None = has_form from.value ≡ true
HasForms from (Some last) = (has_form from.value ≡ true) × (has_form last.value ≡ true)

abbrev pub AreFormedValues : List ValueRange → Type 0
AreFormedValues = AllByRecursion (λ (one : ValueRange). HasForms one.first one.last)
