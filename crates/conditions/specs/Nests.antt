-- A function value that reads simple conditions to a depth.
use Rattle.std.specs.Prelude.{ℕ, List, Result}
use Rattle.std.specs.declared.alloc.Global.{Global}
use denote.Ref.{MutBor}
use Rattle.tokens.specs.declared.token.Token.{Token}
use Rattle.source_tree.specs.declared.condition.Condition.{Condition}
use Rattle.grammar.specs.declared.fault.ReadFault.{ReadFault}
use Rattle.grammar.specs.Reading.{Reads}
use Rattle.conditions.specs.Conditions.{simple_reader}

pub record Nests (depth : ℕ) (pre : Global → MutBor (List Token) → ℕ → Type 0)
    (post : Global → MutBor (List Token) → ℕ → Result Condition ReadFault → MutBor (List Token) → Type 0) : Type 0 where
  pub callable : (alloc : Global) (old : MutBor (List Token)) → pre alloc old depth
  pub reads : (alloc : Global) (old new : MutBor (List Token)) (r : Result Condition ReadFault) → post alloc old depth r new
      → Reads (simple_reader depth old.now) r new.now
