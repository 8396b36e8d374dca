-- Reading the numbers in parentheses: a reference is made of what is read after its first subscript.
use Rattle.std.proofs.Common.{◌≡◌, ◌∷◌, List, Some, Option, Ok, Err, refl}
use Rattle.tokens.specs.declared.token.Token.{Token}
use Rattle.source_tree.specs.declared.reference.QualifiedName.{QualifiedName}
use Rattle.source_tree.specs.declared.reference.Subscript.{Subscript}
use Rattle.grammar.specs.Reading.{Outcome, Parser, and_then, pure, any, one_token}
use Rattle.expressions.specs.Marks.{right_in}
use Rattle.expressions.specs.Subscripts.{begins_subscript, subscript_reader}
use Rattle.expressions.specs.References.{subscripted_reader, numbers_from_reader, part_behind_reader}

-- a value is made of what the steps after the first give
made : {A B C : Type 0} (first : Outcome A) (f : A → Parser B) (g : A → Parser C) (h : B → C)
    → ((a : A) (i : List Token) → g a i ≡ and_then (f a i) (λ b. pure (h b)))
    → and_then first g ≡ and_then (and_then first f) (λ b. pure (h b))
made (Ok p) f g h e = e p.0 p.1
made (Err halt) f g h e = refl

pub subscripted_by : (item : QualifiedName) (first : Subscript) (i : List Token)
    → subscripted_reader item first i ≡ and_then (numbers_from_reader first i)
    (λ n. pure (record { item = item; subscripts = n.0; part = n.1 }))
unfolding subscripted_reader numbers_from_reader
subscripted_by item first i =
    made (any subscript_reader begins_subscript i) _ _ _
    (λ more i. made (one_token right_in i) _ _ _ (λ u i. made (part_behind_reader i) _ _ _ (λ part i. refl)))
