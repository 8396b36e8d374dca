-- INSPECT over texts (COBOL-85, Nucleus, "The INSPECT statement"): which entries fit where, how often, and what replaces what they fit.
-- The walk goes from the left. At each place the entries are tried in order; the first that fits counts or replaces, and the walk goes on
-- after what it fits, else one place on.
use Rattle.std.specs.Prelude.{ℕ, zero, suc, ◌+◌, ◌-◌, ◌==◌, nat_eq, nat_le, Bool, true, false, ◌&&◌, if◌then◌else◌, List, [], ◌∷◌, ◌++◌, length, map, Option, Some, None}
use Rattle.std.specs.List.{starts_with}
use Rattle.std.specs.Option.{option_map, unwrap_or}
use Rattle.text_ops.specs.Places.{first_place}
use Rattle.source_tree.specs.declared.inspect_statement.Occurrences.{Occurrences}
use Rattle.source_tree.specs.declared.inspect_statement.Occurrences.TheVariants as occurrences

-- ---- entries

-- What an entry looks for: any character, or a text.
pub data Pattern : Type 0 where
  AnyCharacter : Pattern
  Occurrence : Occurrences → List ℕ → Pattern

-- how many characters it fits
abbrev pub pattern_size : Pattern → ℕ
pattern_size AnyCharacter = 1
pattern_size (Occurrence kind text) = length text

-- An entry with its texts. `by` replaces what it fits, and has the same size; under TALLYING it isn't used.
pub record TextEntry : Type 0 where
  pub pattern : Pattern
  pub by : List ℕ
  pub before : Option (List ℕ)
  pub after : Option (List ℕ)

-- ---- limits, found beforehand. Places count from 0.

-- AFTER: right after the first occurrence of its text; without an occurrence nowhere.
abbrev pub first_place_after : Option (List ℕ) → List ℕ → ℕ
first_place_after None subject = 0
first_place_after (Some text) subject = unwrap_or (option_map (λ at. at + length text) (first_place text subject)) (length subject)

-- BEFORE: up to the first occurrence of its text; without an occurrence everywhere.
abbrev pub end_before : Option (List ℕ) → List ℕ → ℕ
end_before None subject = length subject
end_before (Some text) subject = unwrap_or (first_place text subject) (length subject)

-- An entry on its way. The places within its limits are those from `first` on, before `limit`. `fit_ends` has the place right after each of
-- its fits so far, that of the last fit first.
pub record ActiveEntry : Type 0 where
  pub entry : TextEntry
  pub first : ℕ
  pub limit : ℕ
  pub fit_ends : List ℕ

abbrev pub entry_at_start : List ℕ → TextEntry → ActiveEntry
entry_at_start subject one = record {
  entry = one;
  first = first_place_after one.after subject;
  limit = end_before one.before subject;
  fit_ends = [];
}

-- ---- one place

-- ALL may fit anywhere, LEADING only at its first place and then right after its own last fit, FIRST only once.
abbrev pub may_fit : Occurrences → ℕ → List ℕ → ℕ → Bool
may_fit occurrences.All first fit_ends at = true
may_fit occurrences.Leading first [] at = at == first
may_fit occurrences.Leading first (last ∷ others) at = at == last
may_fit occurrences.First first [] at = true
may_fit occurrences.First first (last ∷ others) at = false

-- From this place on the subject is `rest`.
abbrev pub is_met : Pattern → ActiveEntry → ℕ → List ℕ → Bool
is_met AnyCharacter one at rest = true
is_met (Occurrence kind text) one at rest = starts_with nat_eq rest text && may_fit kind one.first one.fit_ends at

-- What an entry fits lies within its limits.
abbrev pub fits : ActiveEntry → ℕ → List ℕ → Bool
fits one at rest =
    nat_le (at + pattern_size one.entry.pattern) one.limit && (nat_le one.first at && is_met one.entry.pattern one at rest)

abbrev pub after_fit : ActiveEntry → ℕ → ActiveEntry
after_fit one at = record one { fit_ends = (at + pattern_size one.entry.pattern) ∷ one.fit_ends }

-- the first entry that fits, and all entries after its fit
pub record FirstFit : Type 0 where
  pub entry : TextEntry
  pub active : List ActiveEntry

abbrev pub with_active_entry : ActiveEntry → FirstFit → FirstFit
with_active_entry one fit = record fit { active = one ∷ fit.active }

abbrev pub first_fit : List ActiveEntry → ℕ → List ℕ → Option FirstFit
first_fit [] at rest = None
first_fit (one ∷ more) at rest =
    if fits one at rest then Some (record { entry = one.entry; active = after_fit one at ∷ more })
    else option_map (with_active_entry one) (first_fit more at rest)

-- ---- all places, from the left

-- the entries in the end, and the text with each fit replaced
pub record WalkResult : Type 0 where
  pub active : List ActiveEntry
  pub text : List ℕ

abbrev pub after_text : List ℕ → WalkResult → WalkResult
after_text text result = record result { text = text ++ result.text }

abbrev pub walk_on : (List ActiveEntry → ℕ → ℕ → WalkResult) → List ActiveEntry → ℕ → ℕ → Option FirstFit → WalkResult
walk_on walk active at c None = after_text (c ∷ []) (walk active (at + 1) 0)
walk_on walk active at c (Some fit) =
    after_text fit.entry.by (walk fit.active (at + 1) (pattern_size fit.entry.pattern - 1))

-- The last number is how many characters from here on still belong to the last fit.
unfoldable pub walk : List ℕ → List ActiveEntry → ℕ → ℕ → WalkResult
walk [] active at inside = record { active = active; text = [] }
walk (c ∷ rest) active at (suc inside) = walk rest active (at + 1) inside
walk (c ∷ rest) active at zero = walk_on (walk rest) active at c (first_fit active at (c ∷ rest))

abbrev pub whole_walk : List TextEntry → List ℕ → WalkResult
whole_walk entries subject = walk subject (map (entry_at_start subject) entries) 0 0

-- TALLYING: how often each entry fits.
unfoldable pub tallies : List TextEntry → List ℕ → List ℕ
tallies entries subject = map (λ one. length one.fit_ends) (whole_walk entries subject).active

-- REPLACING: the subject with each fit replaced.
unfoldable pub replaced_subject : List TextEntry → List ℕ → List ℕ
replaced_subject entries subject = (whole_walk entries subject).text
