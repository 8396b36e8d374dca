-- What INSPECT does, in an image (own choice).
use Rattle.std.specs.Prelude.{ℕ, ◌==◌, List, [], ◌∷◌, ◌++◌, Option, None, Some, Ok, Err, if◌then◌else◌}
use Rattle.text_ops.specs.declared.entry.Span.{Span}
use Rattle.text_ops.specs.declared.entry.Fit.{Fit}
use Rattle.text_ops.specs.declared.entry.Fit.TheVariants as f
use Rattle.text_ops.specs.declared.entry.Entry.{Entry}
use Rattle.data_instructions.specs.declared.tables.Inspection.{Inspection}
use Rattle.data_image.specs.declared.fault.ImageFault.TheVariants as faults
use Rattle.data_image.specs.Spelling.{short_bytes, table_bytes, FitsFourBytes, AreSpelled}
use Rattle.data_image.specs.Reading.{ReadResult, ◌>>=◌, byte_at, short_at, table_at}

-- where it starts, and its length
abbrev pub span_bytes : Span → List ℕ
span_bytes one = short_bytes one.start ++ short_bytes one.length

-- what an entry fits: one byte, and its text
abbrev pub fit_bytes : Fit → List ℕ
fit_bytes f.Characters = 1 ∷ []
fit_bytes (f.All text) = 2 ∷ span_bytes text
fit_bytes (f.Leading text) = 3 ∷ span_bytes text
fit_bytes (f.First text) = 4 ∷ span_bytes text

-- a text of an entry, where it has it
abbrev pub text_bytes : Option Span → List ℕ
text_bytes None = 0 ∷ []
text_bytes (Some text) = 1 ∷ span_bytes text

abbrev pub entry_bytes : Entry → List ℕ
entry_bytes one = fit_bytes one.fit ++ text_bytes one.before ++ text_bytes one.after ++ text_bytes one.by

abbrev pub inspection_bytes : Inspection → List ℕ
inspection_bytes one =
    short_bytes one.size ++ table_bytes short_bytes one.counters ++ table_bytes entry_bytes one.tallying ++ table_bytes entry_bytes one.replacing

-- its numbers fit their bytes
abbrev pub IsSpanSpelled : Span → Type 0
IsSpanSpelled one = FitsFourBytes one.start × FitsFourBytes one.length

abbrev pub IsFitSpelled : Fit → Type 0
IsFitSpelled f.Characters = Unit {0}
IsFitSpelled (f.All text) = IsSpanSpelled text
IsFitSpelled (f.Leading text) = IsSpanSpelled text
IsFitSpelled (f.First text) = IsSpanSpelled text

abbrev pub IfSpanSpelled : Option Span → Type 0
IfSpanSpelled None = Unit {0}
IfSpanSpelled (Some text) = IsSpanSpelled text

pub record IsEntrySpelled (one : Entry) : Type 0 where
  pub fit : IsFitSpelled one.fit
  pub before : IfSpanSpelled one.before
  pub after : IfSpanSpelled one.after
  pub by : IfSpanSpelled one.by

pub record IsInspectionSpelled (one : Inspection) : Type 0 where
  pub size : FitsFourBytes one.size
  pub counters : AreSpelled FitsFourBytes one.counters
  pub tallying : AreSpelled IsEntrySpelled one.tallying
  pub replacing : AreSpelled IsEntrySpelled one.replacing

-- ---- reading

unfoldable pub span_at : List ℕ → ReadResult Span
span_at bytes = do
  start ← short_at bytes
  length ← short_at start.1
  Ok (record { start = start.0; length = length.0 }, length.1)

-- a fit with its text
abbrev pub fitting_at : (Span → Fit) → List ℕ → ReadResult Fit
fitting_at make bytes = do
  text ← span_at bytes
  Ok (make text.0, text.1)

abbrev pub fit_from : ℕ → List ℕ → ReadResult Fit
fit_from byte bytes =
    if byte == 1 then Ok (f.Characters, bytes)
    else if byte == 2 then fitting_at (λ text. f.All text) bytes
    else if byte == 3 then fitting_at (λ text. f.Leading text) bytes
    else if byte == 4 then fitting_at (λ text. f.First text) bytes
    else Err faults.Value

unfoldable pub fit_at : List ℕ → ReadResult Fit
fit_at bytes = do
  byte ← byte_at bytes
  fit_from byte.0 byte.1

abbrev pub some_at : List ℕ → ReadResult (Option Span)
some_at bytes = do
  text ← span_at bytes
  Ok (Some text.0, text.1)

abbrev pub text_from : ℕ → List ℕ → ReadResult (Option Span)
text_from byte bytes = if byte == 0 then Ok (None, bytes) else if byte == 1 then some_at bytes else Err faults.Value

unfoldable pub text_at : List ℕ → ReadResult (Option Span)
text_at bytes = do
  byte ← byte_at bytes
  text_from byte.0 byte.1

unfoldable pub entry_at : List ℕ → ReadResult Entry
entry_at bytes = do
  fit ← fit_at bytes
  before ← text_at fit.1
  after ← text_at before.1
  by ← text_at after.1
  Ok (record { fit = fit.0; before = before.0; after = after.0; by = by.0 }, by.1)

unfoldable pub inspection_at : List ℕ → ReadResult Inspection
inspection_at bytes = do
  size ← short_at bytes
  counters ← table_at short_at size.1
  tallying ← table_at entry_at counters.1
  replacing ← table_at entry_at tallying.1
  Ok (record { size = size.0; counters = counters.0; tallying = tallying.0; replacing = replacing.0 }, replacing.1)
