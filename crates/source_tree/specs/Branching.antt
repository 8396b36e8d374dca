-- IF and EVALUATE (COBOL-85, Nucleus).
use Rattle.std.specs.Prelude.{Bool, true, false, List, Option}
use Rattle.source_tree.specs.declared.conditional_statement.ConditionalStatement.{ConditionalStatement}
use Rattle.source_tree.specs.declared.conditional_statement.ConditionalStatement.TheVariants as branch
use Rattle.source_tree.specs.Places.{LocatedItem}
use Rattle.source_tree.specs.State.{State, Outcome, in_turn, with_value}
use Rattle.source_tree.specs.Arithmetic.{in_phrase}
use Rattle.source_tree.specs.Conditions.{holds}
use Rattle.source_tree.specs.Evaluate.{evaluate_outcome}

-- the statements of the way that fits
abbrev pub way : {S : Type 0} → (S → State → Outcome) → List S → Option (List S) → Bool → State → Outcome
way run statements otherwise true s = in_turn run statements s
way run statements otherwise false s = in_phrase run otherwise s

abbrev pub conditional_outcome : List LocatedItem → {S : Type 0} → (S → State → Outcome) → ConditionalStatement S → State → Outcome
conditional_outcome items run (branch.If condition statements otherwise) s =
    with_value (holds items condition s.storage) s (λ truth. way run statements otherwise truth s)
conditional_outcome items run (branch.Evaluate one) s = evaluate_outcome items run one s
