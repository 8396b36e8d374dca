-- A change of other pages leaves a chain as it is.
use Rattle.std.proofs.Common.{◌≡◌, ⊎_elim, ℕ, zero, suc, List, ◌∷◌, ◌++◌, refl, sym, ap, subst, ◌∙◌}
use Rattle.std.specs.Prelude.{Contains, Option}
use Rattle.station.specs.Disk.{Sector}
use Rattle.btree.specs.Moves.{Moves}
use Rattle.btree.specs.Laws.{Apart}
use Rattle.btree.proofs.Runs.{in_head, in_tail}
use Rattle.chains.specs.Chain.{IsLink, next_on, part_on, page_at, next_at, Stands, chain_pages, chain_bytes}
use Rattle.chains.specs.Laws.{KeepsChain}
use Rattle.chains.proofs.Following.{never_none}

-- the pages of some numbers are the same
abbrev pub Same : List (Option Sector) → List (Option Sector) → List ℕ → Type 0
Same before after numbers = (page : ℕ) → Contains numbers page → page_at after page ≡ page_at before page

same_later : (before after : List (Option Sector)) (first : ℕ) (more : List ℕ) → Same before after (first ∷ more)
    → Same before after more
same_later before after first more same page has = same page (in_tail first more page has)

next_still : (before after : List (Option Sector)) (first : ℕ) (more : List ℕ) → Same before after (first ∷ more)
    → next_at after first ≡ next_at before first
next_still before after first more same = ap next_on (same first (in_head first more))

pub stands_still : (before after : List (Option Sector)) (count first : ℕ)
    → Same before after (chain_pages before count first) → Stands before count first → Stands after count first
stands_still before after zero first same stands = stands
stands_still before after (suc count) first same stands =
    let more = chain_pages before count (next_at before first) in (
      stands.0,
      subst IsLink (sym (same first (in_head first more))) stands.1,
      subst (λ (n : ℕ). Stands after count n) (sym (next_still before after first more same))
          (stands_still before after count (next_at before first) (same_later before after first more same) stands.2),
    )

pub pages_still : (before after : List (Option Sector)) (count first : ℕ)
    → Same before after (chain_pages before count first)
    → chain_pages after count first ≡ chain_pages before count first
pages_still before after zero first same = refl
pages_still before after (suc count) first same =
    let more = chain_pages before count (next_at before first) in
    ap (λ (n : ℕ). first ∷ chain_pages after count n) (next_still before after first more same)
    ∙ ap (λ (l : List ℕ). first ∷ l)
    (pages_still before after count (next_at before first) (same_later before after first more same))

pub bytes_still : (before after : List (Option Sector)) (count first : ℕ)
    → Same before after (chain_pages before count first)
    → chain_bytes after count first ≡ chain_bytes before count first
bytes_still before after zero first same = refl
bytes_still before after (suc count) first same =
    let more = chain_pages before count (next_at before first) in
    ap (λ (l : List ℕ). l ++ chain_bytes after count (next_at after first))
    (ap part_on (same first (in_head first more)))
    ∙ ap (λ (n : ℕ). part_on (page_at before first) ++ chain_bytes after count n)
    (next_still before after first more same)
    ∙ ap (λ (l : List ℕ). part_on (page_at before first) ++ l)
    (bytes_still before after count (next_at before first) (same_later before after first more same))

pub chain_stays : (before after : List (Option Sector)) (old new : List ℕ) (count first : ℕ)
    → Moves before old after new → Stands before count first → Apart (chain_pages before count first) old
    → KeepsChain before count first after new
chain_stays before after old new count first moves stands apart =
    let out : Apart (chain_pages before count first) new =
    λ page has joins. ⊎_elim (λ was. apart page has was)
    (λ free. never_none before count first page stands has free.1) (moves.joins page joins) in
    let same : Same before after (chain_pages before count first) =
    λ page has. moves.others page (apart page has) (out page has) in
    record {
      stands = stands_still before after count first same stands;
      same_pages = pages_still before after count first same;
      same_bytes = bytes_still before after count first same;
      apart = out;
    }
