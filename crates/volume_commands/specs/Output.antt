-- What a writer was given of a text.
use Rattle.std.specs.Prelude.{ℕ, List, take, Option, Some, None}
use Rattle.std.specs.Io.KnownBytes.{Keeps, Appends}
use Rattle.volume_commands.specs.declared.dump_command.FileDump.{FileDump}
use Rattle.volume_commands.specs.declared.dump_command.FileDump.TheVariants.{Written, UnknownName}

-- a beginning of it: nothing, a part, or all of it
abbrev pub AppendsBeginning : Option (List ℕ) → Option (List ℕ) → List ℕ → Type 0
AppendsBeginning old new text = (n : ℕ) × Appends old new (take n text)

-- the same of a text that may not be there
abbrev pub AppendsBeginningOf : Option (List ℕ) → Option (List ℕ) → Option (List ℕ) → Type 0
AppendsBeginningOf old new None = Keeps old new
AppendsBeginningOf old new (Some text) = AppendsBeginning old new text

-- The whole dump was written where there is one, and nothing where the name is unknown.
abbrev pub IsDumped : Option (List ℕ) → FileDump → Option (List ℕ) → Option (List ℕ) → Type 0
IsDumped None Written old new = ⊥
IsDumped None UnknownName old new = Keeps old new
IsDumped (Some text) Written old new = Appends old new text
IsDumped (Some text) UnknownName old new = ⊥
