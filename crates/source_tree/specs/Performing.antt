-- PERFORM (COBOL-85, Nucleus, "The PERFORM statement").
use Rattle.std.specs.Prelude.{ℕ, zero, suc, min, ℤ, pos, negsuc, ◌≤◌, List, Option, Some, None, Ok}
use Rattle.source_tree.specs.declared.perform_statement.Performed.{Performed}
use Rattle.source_tree.specs.declared.perform_statement.Performed.TheVariants.{Procedures, Statements}
use Rattle.source_tree.specs.declared.perform_statement.Repetition.{Repetition}
use Rattle.source_tree.specs.declared.perform_statement.Repetition.TheVariants as often
use Rattle.source_tree.specs.declared.perform_statement.PerformStatement.{PerformStatement}
use Rattle.source_tree.specs.declared.literal.Integer.{Integer}
use Rattle.source_tree.specs.declared.reference.Reference.{Reference}
use Rattle.source_tree.specs.Integers.{number_of}
use Rattle.decimal18.specs.Fraction.{Fraction}
use Rattle.decimal18.specs.Digits.{integer_of}
use Rattle.source_tree.specs.Storage.{Storage}
use Rattle.source_tree.specs.Evaluated.{Evaluation, ◌>>=◌, evaluation_of}
use Rattle.source_tree.specs.References.{place_of}
use Rattle.source_tree.specs.Computed.{number_at}
use Rattle.source_tree.specs.Places.{LocatedItem}
use Rattle.source_tree.specs.Procedures.{Range, Procedure, range_of}
use Rattle.source_tree.specs.Setting.{Scope}
use Rattle.source_tree.specs.State.{State, Outcome, Done, then_do, in_turn, spend, with_value}
use Rattle.source_tree.specs.Until.{until}

-- Turns of a loop. Each uses one of the budget, at the line of its PERFORM, before what is performed (own choice).
abbrev pub turns : ℕ → ℕ → (State → Outcome) → State → Outcome
turns line zero body s = Done s
turns line (suc more) body s = spend line s (λ t. then_do (body t) (turns line more body))

-- the most turns of a loop (own choice): what eight bytes hold
abbrev pub most_turns : ℕ
most_turns = 18446744073709551615

-- How many turns an integer before TIMES says. None that a text can have is cut: a numeric literal has at most 18 digits
-- (COBOL-85, Nucleus, "Literals").
abbrev pub turns_of : Integer → ℕ
turns_of one = min (number_of one) most_turns

-- How many turns an integer in an item says: zero or less none.
abbrev pub turns_said : ℤ → ℕ
turns_said (pos n) = min n most_turns
turns_said (negsuc n) = 0

-- how many turns a number says; one that is no integer, which no item that is permitted has, is a fault
abbrev pub turns_by : Fraction → Evaluation ℕ
turns_by x = evaluation_of (integer_of x) >>= (λ z. Ok (turns_said z))

-- how many turns an item before TIMES says
abbrev pub turns_in : List LocatedItem → Reference → Storage → Evaluation ℕ
turns_in items one storage = (place_of items one storage >>= number_at storage) >>= turns_by

-- an ASCII digit
abbrev pub IsDigit : ℕ → Type 0
IsDigit byte = (48 ≤ byte) × (byte ≤ 57)

-- How often, as the phrase of a PERFORM at this line says. `items` are those of the program; with UNTIL there are at most `depth` turns,
-- each of which uses one of the budget.
abbrev pub repeat : List LocatedItem → ℕ → ℕ → Repetition → (State → Outcome) → State → Outcome
repeat items depth line often.Once body s = body s
repeat items depth line (often.Times count) body s = turns line (turns_of count) body s
repeat items depth line (often.CountedBy one) body s = with_value (turns_in items one s.storage) s (λ count. turns line count body s)
repeat items depth line (often.Until one) body s = until items line depth one body s

-- Names that name no procedure perform nothing.
abbrev pub performed_range : (Range → State → Outcome) → Option Range → State → Outcome
performed_range range None s = Done s
performed_range range (Some found) s = range found s

-- `run` runs the statements that stand in it, and `range` the paragraphs of a range.
module _ {S : Type 0} (run : S → State → Outcome) (range : Range → State → Outcome) where
  -- what is performed, one time
  abbrev pub body : List Procedure → Performed S → State → Outcome
  body procedures (Procedures first last) s = performed_range range (range_of procedures first last) s
  body procedures (Statements statements) s = in_turn run statements s

  abbrev pub perform_outcome : Scope → ℕ → ℕ → PerformStatement S → State → Outcome
  perform_outcome scope depth line one s = repeat scope.items depth line one.turns (body scope.procedures one.performed) s
