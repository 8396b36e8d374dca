-- What STRING finds out.
use Rattle.std.specs.Prelude.{◌≡◌, ℕ, ◌≤◌, ◌<◌, ◌⊎◌, Bool, List, [], Option, Some, None, Result, Ok, Err}
use Rattle.source_tree.specs.Storage.{Storage}
use Rattle.source_tree.specs.Evaluated.{Evaluation, ◌>>=◌}
use Rattle.source_tree.specs.References.{ItemPlace}
use Rattle.source_tree.specs.Stringing.{Strings, held_position, put_text}
use Rattle.data_instructions.specs.declared.fault.ProgramFault.{ProgramFault}
use Rattle.data_instructions.specs.Faults.{fault_of}
use Rattle.data_instructions.specs.Scratch.{Scratch, Step, Continues}

-- a text put into a receiver from the position on that a pointer holds
abbrev pub put_from : ItemPlace → ItemPlace → List ℕ → Storage → Evaluation Strings
put_from receiver pointer text storage = held_position storage pointer >>= (λ at. put_text receiver (Some pointer) at text storage)

-- what is left after it: the truth is whether there was an overflow, and the line is empty
abbrev pub strung_with : Scratch → Strings → Step
strung_with s after = Continues (record s { storage = after.storage; truth = after.overflow; line = [] })

-- a position, where it is within so many bytes, which count from 1
abbrev pub IsWithinReceiver : Option ℕ → ℕ → ℕ → Type 0
IsWithinReceiver (Some at) size position = (at ≡ position) × (1 ≤ at) × (at ≤ size)
IsWithinReceiver None size position = (position < 1) ⊎ (size < position)

-- the storage, and whether there was an overflow, or a fault
abbrev pub PutsText : Result Bool ProgramFault → Storage → Evaluation Strings → Type 0
PutsText (Ok overflow) new answer = answer ≡ Ok (record { storage = new; overflow = overflow })
PutsText (Err fault) new answer = answer ≡ Err (fault_of fault)
