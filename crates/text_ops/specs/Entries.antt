-- The entries of INSPECT (COBOL-85, Nucleus), and what a caller sees to.
use Rattle.std.specs.Prelude.{◌≡◌, ◌≤◌, ℕ, ◌+◌, List, slice_range, Option, Some, None}
use Rattle.std.specs.List.{All}
use Rattle.text_ops.specs.declared.entry.Span.{Span}
use Rattle.text_ops.specs.declared.entry.Fit.{Fit}
use Rattle.text_ops.specs.declared.entry.Fit.TheVariants as f
use Rattle.text_ops.specs.declared.entry.Entry.{Entry}

-- The bytes of a span.
abbrev pub bytes_in : List ℕ → Span → List ℕ
bytes_in texts span = slice_range texts span.start (span.start + span.length)

-- The length of what an entry fits.
abbrev pub fit_length : Fit → ℕ
fit_length f.Characters = 1
fit_length (f.All text) = text.length
fit_length (f.Leading text) = text.length
fit_length (f.First text) = text.length

-- A text of one character or more, within the bytes that INSPECT has taken.
pub record IsSpan (size : ℕ) (span : Span) : Type 0 where
  pub some : 1 ≤ span.length
  pub within : span.start + span.length ≤ size

abbrev pub IsFit : ℕ → Fit → Type 0
IsFit size f.Characters = Unit {0}
IsFit size (f.All text) = IsSpan size text
IsFit size (f.Leading text) = IsSpan size text
IsFit size (f.First text) = IsSpan size text

abbrev pub IfSpan : ℕ → Option Span → Type 0
IfSpan size None = Unit {0}
IfSpan size (Some span) = IsSpan size span

-- A replacing text has the size of what it replaces.
abbrev pub IsBy : ℕ → Fit → Option Span → Type 0
IsBy size what None = Unit {0}
IsBy size what (Some span) = IsSpan size span × (span.length ≡ fit_length what)

pub record IsEntry (size : ℕ) (entry : Entry) : Type 0 where
  pub fit : IsFit size entry.fit
  pub before : IfSpan size entry.before
  pub after : IfSpan size entry.after
  pub by : IsBy size entry.fit entry.by

abbrev pub AreWithin : List Entry → ℕ → Type 0
AreWithin entries size = All (IsEntry size) entries
