-- The walk of INSPECT through its subject (COBOL-85, Nucleus): which entries fit, and where.
use Rattle.std.specs.Prelude.{◌≡◌, ◌<◌, ◌≤◌, ℕ, zero, suc, ◌+◌, ◌==◌, Bool, ◌&&◌, List, [], ◌∷◌, map, length, drop, slice_set, nat_eq, nat_le, Option, Some, None, if◌then◌else◌}
use Rattle.std.specs.List.{All, starts_with}
use Rattle.std.specs.Option.{option_map}
use Rattle.text_ops.specs.Entries.{bytes_in, fit_length, IsEntry}
use Rattle.text_ops.specs.Places.{first_place}
use Rattle.text_ops.specs.declared.entry.Span.{Span}
use Rattle.text_ops.specs.declared.entry.Fit.{Fit}
use Rattle.text_ops.specs.declared.entry.Fit.TheVariants as f
use Rattle.text_ops.specs.declared.entry.Entry.{Entry}
use Rattle.text_ops.specs.declared.progress.Progress.{Progress}
use Rattle.text_ops.specs.declared.progress.Fitted.{Fitted}

-- ---- where an entry may fit at all, found beforehand

abbrev pub end_of_first : ℕ → ℕ → Option ℕ → ℕ
end_of_first size none None = none
end_of_first size none (Some at) = at + size

abbrev pub place_or : ℕ → Option ℕ → ℕ
place_or none None = none
place_or none (Some at) = at

-- AFTER: after the first occurrence of its text; without one nowhere.
abbrev pub first_place_after : List ℕ → Option Span → List ℕ → ℕ
first_place_after texts None subject = 0
first_place_after texts (Some span) subject = end_of_first span.length (length subject) (first_place (bytes_in texts span) subject)

-- BEFORE: up to the first occurrence of its text; without one everywhere.
abbrev pub end_before : List ℕ → Option Span → List ℕ → ℕ
end_before texts None subject = length subject
end_before texts (Some span) subject = place_or (length subject) (first_place (bytes_in texts span) subject)

abbrev pub initial_progress : List ℕ → List ℕ → Entry → Progress
initial_progress texts subject entry = record {
  entry = entry;
  first = first_place_after texts entry.after subject;
  limit = end_before texts entry.before subject;
}

-- ---- one place

-- The entry's text stands at this place, from which the subject goes on as `rest`. What is found ends before the limit.
abbrev pub fits_at : List ℕ → Progress → Fit → ℕ → List ℕ → Bool
fits_at texts p f.Characters at rest = nat_le p.first at
fits_at texts p (f.All text) at rest = nat_le p.first at && starts_with nat_eq rest (bytes_in texts text)
fits_at texts p (f.Leading text) at rest = (p.first == at) && starts_with nat_eq rest (bytes_in texts text)
fits_at texts p (f.First text) at rest = nat_le p.first at && starts_with nat_eq rest (bytes_in texts text)

abbrev pub fits : List ℕ → Progress → ℕ → List ℕ → Bool
fits texts p at rest = nat_le (at + fit_length p.entry.fit) p.limit && fits_at texts p p.entry.fit at rest

-- After a fit at this place: LEADING fits next right after it, FIRST nowhere.
abbrev pub progress_after : Progress → Fit → ℕ → Progress
progress_after p (f.Leading text) at = record p { first = at + text.length }
progress_after p (f.First text) at = record p { limit = 0 }
progress_after p _ at = p

abbrev pub later : Fitted → Fitted
later fitted = record fitted { number = fitted.number + 1 }

-- The first entry that fits.
abbrev pub first_fit : List ℕ → List Progress → ℕ → List ℕ → Option Fitted
first_fit texts [] at rest = None
first_fit texts (p ∷ more) at rest =
    if fits texts p at rest
    then Some (record { number = 0; progress = p; at = at })
    else option_map later (first_fit texts more at rest)

abbrev pub walk_after : List Progress → Option Fitted → List Progress
walk_after active None = active
walk_after active (Some fitted) = slice_set active fitted.number (progress_after fitted.progress fitted.progress.entry.fit fitted.at)

-- How many places a fit takes.
abbrev pub size_of : Fitted → ℕ
size_of fitted = fit_length fitted.progress.entry.fit

-- ---- all places, from the left: on after what the first entry fits, else one place on. The depth is at least the count of
-- characters that are left.

abbrev pub walk_on : (List Progress → ℕ → List ℕ → List Fitted) → List Progress → ℕ → List ℕ → Option Fitted → List Fitted
walk_on walk active at rest None = walk active (at + 1) (drop 1 rest)
walk_on walk active at rest (Some fitted) =
    fitted ∷ walk (walk_after active (Some fitted)) (at + size_of fitted) (drop (size_of fitted) rest)

unfoldable pub walk : ℕ → List ℕ → List Progress → ℕ → List ℕ → List Fitted
walk zero texts active at rest = []
walk (suc depth) texts active at [] = []
walk (suc depth) texts active at (c ∷ rest) =
    walk_on (walk depth texts) active at (c ∷ rest) (first_fit texts active at (c ∷ rest))

-- All fits of the entries in the subject.
abbrev pub fits_of : List ℕ → List Entry → List ℕ → List Fitted
fits_of texts entries subject = walk (length subject) texts (map (initial_progress texts subject) entries) 0 subject

-- ---- what calls keep of entries on their way, and what is known of a fit among so many, with so much text left

abbrev pub AreActive : List Progress → ℕ → Type 0
AreActive active size = All (λ p. IsEntry size p.entry) active

pub record IsFitted (size : ℕ) (count : ℕ) (place : ℕ) (room : ℕ) (fitted : Fitted) : Type 0 where
  pub number : fitted.number < count
  pub entry : IsEntry size fitted.progress.entry
  pub at : fitted.at ≡ place
  pub some : 1 ≤ size_of fitted
  pub within : size_of fitted ≤ room

-- No entry fits at any of so many places from this one on, where the subject goes on as `rest`.
pub record FitsNone (texts : List ℕ) (active : List Progress) (at : ℕ) (rest : List ℕ) (count : ℕ) : Type 0 where
  pub some : 1 ≤ count
  pub within : count ≤ length rest
  pub none : (k : ℕ) → k < count → first_fit texts active (at + k) (drop k rest) ≡ None
