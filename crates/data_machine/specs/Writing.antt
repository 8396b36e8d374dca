-- What is written to a part of bytes, or of storage, or nothing where there is no answer.
use Rattle.std.specs.Prelude.{◌≡◌, ℕ, ◌+◌, List, ◌++◌, take, drop, Option, Some, None, Result, Ok, Err}
use Rattle.items.specs.declared.fault.DataFault.{DataFault}
use Rattle.source_tree.specs.Storage.{Storage}
use Rattle.source_tree.specs.Evaluated.{Evaluation, Data}
use Rattle.data_machine.specs.Filled.{BufferView}

-- bytes with others in place of so many from an offset on
abbrev pub with_part : List ℕ → ℕ → ℕ → List ℕ → List ℕ
with_part bytes offset size part = take offset bytes ++ part ++ drop (offset + size) bytes

abbrev pub WritesPart : Result (Unit {0}) DataFault → List ℕ → List ℕ → ℕ → ℕ → Option (List ℕ) → Type 0
WritesPart (Ok done) old new offset size answer = (part : List ℕ) × (answer ≡ Some part) × (new ≡ with_part old offset size part)
WritesPart (Err fault) old new offset size answer = (answer ≡ None) × (new ≡ old)

-- the storage that was found out, or fault 90
abbrev pub Stores : Result (Unit {0}) DataFault → Storage → Storage → Evaluation Storage → Type 0
Stores (Ok done) old new answer = answer ≡ Ok new
Stores (Err fault) old new answer = (answer ≡ Err Data) × (new ≡ old)

-- Bytes written after so many, which stay, up to where it is told; or nothing.
abbrev pub WritesBehind : Result ℕ DataFault → ℕ → List ℕ → List ℕ → Option (List ℕ) → Type 0
WritesBehind (Ok end) used old new answer = (bytes : List ℕ) × (answer ≡ Some bytes) × (take end new ≡ take used old ++ bytes)
WritesBehind (Err fault) used old new answer = (answer ≡ None) × (new ≡ old)

-- bytes added at the end, or nothing
abbrev pub Appends : Result (Unit {0}) DataFault → BufferView → BufferView → Option (List ℕ) → Type 0
Appends (Ok done) old new answer = (bytes : List ℕ) × (answer ≡ Some bytes) × (new ≡ record old { bytes = old.bytes ++ bytes })
Appends (Err fault) old new answer = (answer ≡ None) × (new.bytes ≡ old.bytes) × (new.room ≡ old.room)
