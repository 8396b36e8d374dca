-- DISPLAY of operands (COBOL-85, Nucleus, "The DISPLAY statement").
use Rattle.std.specs.Prelude.{ℕ, Bool, List, [], ◌∷◌, ◌++◌, Ok}
use Rattle.text_ops.specs.Shown.{shown_bytes}
use Rattle.source_tree.specs.declared.expression.Operand.{Operand}
use Rattle.source_tree.specs.declared.expression.Operand.TheVariants as operand
use Rattle.source_tree.specs.Display.{shown_literal, line_end}
use Rattle.source_tree.specs.Places.{LocatedItem}
use Rattle.source_tree.specs.Storage.{Storage}
use Rattle.source_tree.specs.Evaluated.{Evaluation, ◌>>=◌, evaluation_of}
use Rattle.source_tree.specs.References.{part_of, place_of}

-- A literal is shown as it was written.
abbrev pub shown_operand : List LocatedItem → Operand → Storage → Evaluation (List ℕ)
shown_operand items (operand.Item reference) storage =
    place_of items reference storage >>= (λ place. evaluation_of (shown_bytes place.item.kind (part_of storage place)))
shown_operand items (operand.Literal literal) storage = Ok (shown_literal literal.value)

-- A fault of any operand shows nothing of them (own choice).
abbrev pub shown_operands : List LocatedItem → List Operand → Storage → Evaluation (List ℕ)
shown_operands items [] storage = Ok []
shown_operands items (one ∷ more) storage =
    shown_operand items one storage >>= (λ bytes. shown_operands items more storage >>= (λ others. Ok (bytes ++ others)))

-- The line ends unless NO ADVANCING was written.
abbrev pub displayed_bytes : List LocatedItem → List Operand → Bool → Storage → Evaluation (List ℕ)
displayed_bytes items operands advancing storage = shown_operands items operands storage >>= (λ bytes. Ok (bytes ++ line_end advancing))
