-- Which characters a fit may begin with.
use Rattle.std.specs.Prelude.{◌≡◌, ◌≤◌, ℕ, Bool, true, false, List, map, length, slice_index, slice_index_or, Option, Some, None}
use Rattle.std.specs.List.{All}
use Rattle.text_ops.specs.Walk.{fits}
use Rattle.text_ops.specs.declared.entry.Span.{Span}
use Rattle.text_ops.specs.declared.entry.Fit.{Fit}
use Rattle.text_ops.specs.declared.entry.Fit.TheVariants as f
use Rattle.text_ops.specs.declared.entry.Entry.{Entry}
use Rattle.text_ops.specs.declared.progress.Progress.{Progress}

-- The text that an entry looks for; CHARACTERS has none.
abbrev pub text_of : Fit → Option Span
text_of f.Characters = None
text_of (f.All text) = Some text
text_of (f.Leading text) = Some text
text_of (f.First text) = Some text

-- A character that isn't marked begins no fit of the entry, however far that has come.
abbrev pub Skips : List ℕ → List Bool → Entry → Type 0
Skips texts marks entry =
    (p : Progress) (at : ℕ) (rest : List ℕ) → p.entry ≡ entry → 1 ≤ length rest → slice_index_or marks (slice_index rest 0) true ≡ false → fits texts p at rest ≡ false

abbrev pub AreMarked : List ℕ → List Bool → List Progress → Type 0
AreMarked texts marks active = All (λ p. Skips texts marks p.entry) active

abbrev pub entries_on : List Progress → List Entry
entries_on active = map (λ p. p.entry) active
