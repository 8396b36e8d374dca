-- A chain is followed from its first page on.
use Rattle.std.proofs.Common.{◌≡◌, ⊎_elim, ◌<◌, ◌≤◌, ℕ, zero, suc, List, refl, sym, ap, subst}
use Rattle.std.proofs.Common.{arith}
use Rattle.std.specs.Prelude.{Contains, Option, Some, None}
use Rattle.station.specs.Disk.{Sector}
use Rattle.btree.specs.Moves.{Once}
use Rattle.btree.proofs.Runs.{in_none, in_cases}
use Rattle.chains.specs.Chain.{IsLink, page_at, next_at, Stands, chain_pages}

-- chains from one page on have one number of pages
pub one_length : (pages : List (Option Sector)) (one two first : ℕ) → Stands pages one first → Stands pages two first
    → one ≡ two
one_length pages zero zero first left right = refl
one_length pages zero (suc two) first left right = let some = right.0 in absurd (omega (arith, left, some))
one_length pages (suc one) zero first left right = let some = left.0 in absurd (omega (arith, right, some))
one_length pages (suc one) (suc two) first left right =
    ap suc (one_length pages one two (next_at pages first) left.2 right.2)

-- what stands from a page of a chain on
pub record StandsWithin (pages : List (Option Sector)) (count page : ℕ) : Type 0 where
  pub rest : ℕ
  pub some : 0 < rest
  pub few : rest ≤ count
  pub stands : Stands pages rest page

pub stands_within : (pages : List (Option Sector)) (count first page : ℕ) → Stands pages count first
    → Contains (chain_pages pages count first) page → StandsWithin pages count page
stands_within pages zero first page stands has = absurd (in_none page has)
stands_within pages (suc count) first page stands has =
    ⊎_elim
    (λ same. record {
      rest = suc count;
      some = omega arith;
      few = omega arith;
      stands = subst (λ (n : ℕ). Stands pages (suc count) n) (sym same) stands;
    })
    (λ later.
    let below = stands_within pages count (next_at pages first) page stands.2 later in
    let few = below.few in
    record { rest = below.rest; some = below.some; few = omega arith; stands = below.stands })
    (in_cases first (chain_pages pages count (next_at pages first)) page has)

-- no page stands in a chain twice
pub first_once : (pages : List (Option Sector)) (count first : ℕ) → Stands pages (suc count) first
    → Contains (chain_pages pages count (next_at pages first)) first → ⊥
first_once pages count first stands has =
    let below = stands_within pages count (next_at pages first) first stands.2 has in
    let few = below.few in
    let same = one_length pages below.rest (suc count) first below.stands stands in
    omega arith

pub chain_once : (pages : List (Option Sector)) (count first : ℕ) → Stands pages count first
    → Once (chain_pages pages count first)
chain_once pages zero first stands = tt
chain_once pages (suc count) first stands =
    (first_once pages count first stands, chain_once pages count (next_at pages first) stands.2)

-- each page of a chain is in the map
pub link_there : (page : Option Sector) → IsLink page → page ≡ None → ⊥
link_there None link none = link
link_there (Some bytes) link none = cc

pub first_there : (pages : List (Option Sector)) (count first : ℕ) → 0 < count → Stands pages count first
    → (0 < first) × IsLink (page_at pages first)
first_there pages zero first some stands = absurd (omega arith)
first_there pages (suc count) first some stands = (stands.0, stands.1)

pub chain_there : (pages : List (Option Sector)) (count first page : ℕ) → Stands pages count first
    → Contains (chain_pages pages count first) page → (0 < page) × IsLink (page_at pages page)
chain_there pages count first page stands has =
    let here = stands_within pages count first page stands has in
    first_there pages here.rest page here.some here.stands

pub never_none : (pages : List (Option Sector)) (count first page : ℕ) → Stands pages count first
    → Contains (chain_pages pages count first) page → page_at pages page ≡ None → ⊥
never_none pages count first page stands has none =
    link_there (page_at pages page) (chain_there pages count first page stands has).1 none
