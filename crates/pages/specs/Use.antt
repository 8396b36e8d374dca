-- Which sectors of a volume are used.
use Rattle.std.specs.Prelude.{◌≡◌, ◌<◌, ◌≤◌, ◌+◌, ◌==◌, ◌||◌, nat_lt, if◌then◌else◌, Bool, true, false, ℕ, zero, suc, List, [], ◌∷◌, ◌++◌, length, slice_index_or, slice_set, Contains}
use Rattle.std.specs.List.{list_any}
use Rattle.pages.specs.Image.{Volume, names}
use Rattle.pages.specs.declared.draft.UseChange.{UseChange}

-- Each sector by its number: the roots and what is named are used, and nothing else.
pub record IsUse (sectors : ℕ) (named : List ℕ) (used : List Bool) : Type 0 where
  pub count : length used ≡ sectors
  pub free : (s : ℕ) → s < sectors → slice_index_or used s false ≡ false → (2 ≤ s) × (Contains named s → ⊥)
  pub unnamed : (s : ℕ) → s < sectors → 2 ≤ s → (Contains named s → ⊥) → slice_index_or used s false ≡ false

-- the use after these turns
abbrev pub use_after : List Bool → List UseChange → List Bool
use_after used [] = used
use_after used (t ∷ turns) = use_after (slice_set used t.sector t.used) turns

-- a name is replaced by another; 0 names no sector
abbrev pub turns_of : ℕ → ℕ → List UseChange
turns_of old new = (if old == 0 then [] else record { sector = old; used = false } ∷ []) ++ (if new == 0 then [] else record { sector = new; used = true } ∷ [])

abbrev pub is_used : List ℕ → ℕ → Bool
is_used named s = nat_lt s 2 || list_any (λ t. t == s) named

-- how many of the sectors below a number are free
abbrev pub free_below : List ℕ → ℕ → ℕ
free_below named zero = 0
free_below named (suc s) = free_below named s + (if is_used named s then 0 else 1)

-- how many sectors of a volume are free
abbrev pub free_count : Volume → ℕ
free_count v = free_below (names v) v.root.sectors
