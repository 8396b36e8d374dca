-- What a call returned beside what a definition says. A definition answers `Ok value` or `Err fault`; a call also answers
-- want of memory, of which a definition knows nothing.
use Rattle.std.specs.Prelude.{◌≡◌, Option, None, Some, Result, Ok, Err}

-- An error stands for a fault, or for none, which is want of memory. Then nothing is said.
abbrev pub Fails : {Y F : Type 0} → Option F → Result Y F → Type 0
Fails None says = Unit {0}
Fails (Some fault) says = says ≡ Err fault

-- What was returned, seen by `view`, and with `fault` telling the fault of an error, is what the definition says.
abbrev pub Gives : {X Y E F : Type 0} → (X → Y) → (E → Option F) → Result X E → Result Y F → Type 0
Gives view fault (Ok x) says = says ≡ Ok (view x)
Gives view fault (Err e) says = Fails (fault e) says
