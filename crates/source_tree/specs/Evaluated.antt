-- What statements find out from storage, or the fault that ends the run (own choice: COBOL-85 leaves open what happens then).
use Rattle.std.specs.Prelude.{Option, Some, None, Result, Ok, Err}

-- What a program does wrong: bytes that are no number, a subscript out of range, a part that its item lacks, or a file status that nothing
-- in it takes.
pub data Fault : Type 0 where
  Data : Fault
  Subscript : Fault
  Part : Fault
  FileStatus : Fault

abbrev pub Evaluation : Type 0 → Type 0
Evaluation A = Result A Fault

infixl 10 ◌>>=◌
abbrev pub ◌>>=◌ : {A B : Type 0} → Evaluation A → (A → Evaluation B) → Evaluation B
(Ok x) >>= f = f x
(Err fault) >>= f = Err fault

-- A number, or whatever else has to be there. Where the rules are kept, what the tree demands is there.
abbrev pub evaluation_of : {A : Type 0} → Option A → Evaluation A
evaluation_of (Some x) = Ok x
evaluation_of None = Err Data
