-- Pages that were changed since the last commit.
use Rattle.std.specs.Prelude.{◌≡◌, ◌≢◌, ◌⊎◌, ◌<◌, ◌+◌, ◌==◌, Bool, not, nat_eq, ℕ, List, [], ◌∷◌, ◌++◌, map, length}
use Rattle.std.specs.Prelude.{slice_set, Option, None, Some, is_some, Contains}
use Rattle.std.specs.List.{All, HoldsAt}
use Rattle.std.specs.declared.hash.FoldHasher.{FoldHasher}
use Rattle.std.specs.declared.hash.BuildHasherDefault.{BuildHasherDefault}
use Rattle.std.specs.HashMap.{HashMap, get}
use Rattle.station.specs.Disk.{Sector}
use Rattle.pages.specs.Image.{Map, IsImageOf}
use Rattle.pages.specs.declared.change.Change.{Change}

-- a list by page number, after these changes, which f reads
abbrev pub list_after : {X : Type 0} → (Option Sector → X) → List X → List Change → List X
list_after f pages [] = pages
list_after f pages (c ∷ changes) = list_after f (slice_set pages c.page (f c.bytes)) changes

-- the pages after them
abbrev pub pages_after : List (Option Sector) → List Change → List (Option Sector)
pages_after pages changes = list_after (λ bytes. bytes) pages changes

-- whether each page is in the map after them, where the table names the sectors of the pages before
abbrev pub mapped_after : List ℕ → List Change → List Bool
mapped_after table changes = list_after is_some (map (λ s. not (s == 0)) table) changes

-- the map of the next generation
abbrev pub next_map : Map → List Change → ℕ → ℕ → Map
next_map m changes mark catalog =
    record { mark = mark; generation = m.generation + 1; catalog = catalog; pages = pages_after m.pages changes }

-- the map before a commit, or after it
abbrev pub BeforeOrAfter : Map → Map → List Sector → Type 0
BeforeOrAfter before after image = IsImageOf image before ⊎ IsImageOf image after

-- the pages that were changed
abbrev pub changed_pages : List Change → List ℕ
changed_pages changes = map (λ c. c.page) changes

-- one page joins those that were changed, or was among them
abbrev pub ChangesPage : List ℕ → ℕ → List ℕ → Type 0
ChangesPage old page new = (Contains old page × (new ≡ old)) ⊎ ((Contains old page → ⊥) × (new ≡ old ++ page ∷ []))

-- places in a list by page number
abbrev pub Places : Type 0
Places = HashMap ℕ ℕ (BuildHasherDefault FoldHasher)

-- each place is that of the page's change, and a page without one has no change
pub record ArePlaced (changes : List Change) (places : Places) : Type 0 where
  pub found : (page i : ℕ) → get nat_eq places page ≡ Some i
      → (i < length changes) × HoldsAt (λ (c : Change). c.page ≡ page) changes i
  pub absent : (page : ℕ) → get nat_eq places page ≡ None → All (λ (c : Change). c.page ≢ page) changes
