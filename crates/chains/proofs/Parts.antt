-- How far a call has read a chain.
use Rattle.std.proofs.Common.{◌≡◌, ◌⊎◌, ⊎_elim, ◌<◌, ◌≤◌, ◌+◌, ◌-◌, ◌*◌, ℕ, suc, List, [], ◌∷◌, ◌++◌, length}
use Rattle.std.proofs.Common.{take}
use Rattle.std.proofs.Common.{refl, sym, ap, subst, ◌∙◌, arith, length-append, append_assoc}
use Rattle.std.specs.Prelude.{Option, None}
use Rattle.std.proofs.lemmas.Bool.{cases_lt}
use Rattle.std.proofs.lemmas.List.{append-nil, take_all, get_or_past}
use Rattle.station.specs.Disk.{Sector}
use Rattle.chains.specs.Chain.{IsLink, part_on, page_at, next_at, Stands, chain_bytes}
use Rattle.chains.specs.Chain.{pages_for}
use Rattle.chains.specs.Links.{AddsPart}
use Rattle.chains.specs.Changes.{IsRecordOf}
use Rattle.chains.proofs.Following.{link_there}

-- a page of a chain is below the number of pages
pub link_low : (pages : List (Option Sector)) (page : ℕ) → IsLink (page_at pages page) → page < length pages
link_low pages page link = ⊎_elim (λ low. low)
    (λ past. absurd (link_there (page_at pages page) link (get_or_past pages page None past)))
    (cases_lt page (length pages))

-- A call has read so many pages of a chain, and has come to a page.
pub record Follows (pages : List (Option Sector)) (count first page : ℕ) : Type 0 where
  pub on : (more : ℕ) → Stands pages more page → Stands pages (count + more) first
  pub back : (more : ℕ) → Stands pages (count + more) first → Stands pages more page
  pub bytes : (more : ℕ) → chain_bytes pages (count + more) first
      ≡ chain_bytes pages count first ++ chain_bytes pages more page
  pub long : length (chain_bytes pages count first) ≡ count * 4080

pub follows_start : (pages : List (Option Sector)) (first : ℕ) → Follows pages 0 first first
follows_start pages first = record {
  on = λ more stands.
      let same : 0 + more ≡ more = omega arith in subst (λ (n : ℕ). Stands pages n first) (sym same) stands;
  back = λ more stands.
      let same : 0 + more ≡ more = omega arith in subst (λ (n : ℕ). Stands pages n first) same stands;
  bytes = λ more.
      let same : 0 + more ≡ more = omega arith in ap (λ (n : ℕ). chain_bytes pages n first) same;
  long = refl;
}

-- one page more
pub follows_bytes : (pages : List (Option Sector)) (count first page : ℕ) → Follows pages count first page
    → chain_bytes pages (count + 1) first ≡ chain_bytes pages count first ++ part_on (page_at pages page)
follows_bytes pages count first page follows =
    follows.bytes 1
    ∙ ap (λ (l : List ℕ). chain_bytes pages count first ++ l) (append-nil (part_on (page_at pages page)))

pub follows_next : (pages : List (Option Sector)) (count first page next : ℕ) → Follows pages count first page
    → 0 < page → IsLink (page_at pages page) → next ≡ next_at pages page
    → length (part_on (page_at pages page)) ≡ 4080 → Follows pages (count + 1) first next
follows_next pages count first page next follows some link is long =
    let part = part_on (page_at pages page) in
    let more_is : (more : ℕ) → count + suc more ≡ (count + 1) + more = λ more. omega arith in
    let added = follows_bytes pages count first page follows in
    record {
      on = λ more stands. subst (λ (n : ℕ). Stands pages n first) (more_is more)
          (follows.on (suc more) (some, link, subst (λ (n : ℕ). Stands pages more n) is stands));
      back = λ more stands. subst (λ (n : ℕ). Stands pages more n) (sym is)
          (follows.back (suc more) (subst (λ (n : ℕ). Stands pages n first) (sym (more_is more)) stands)).2;
      bytes = λ more. ap (λ (n : ℕ). chain_bytes pages n first) (sym (more_is more)) ∙ follows.bytes (suc more)
          ∙ ap (λ (n : ℕ). chain_bytes pages count first ++ (part ++ chain_bytes pages more n)) (sym is)
          ∙ sym (append_assoc (chain_bytes pages count first) part (chain_bytes pages more next))
          ∙ ap (λ (l : List ℕ). l ++ chain_bytes pages more next) (sym added);
      long = ap length added
          ∙ (let whole = length-append (chain_bytes pages count first) part in let old = follows.long in omega arith);
    }

take_past : (left right : List ℕ) (more : ℕ) → take (length left + more) (left ++ right) ≡ left ++ take more right
take_past [] right more = let same : 0 + more ≡ more = omega arith in ap (λ (n : ℕ). take n right) same
take_past (x ∷ left) right more =
    let same : suc (length left) + more ≡ suc (length left + more) = omega arith in
    ap (λ (n : ℕ). take n (x ∷ (left ++ right))) same ∙ ap (λ (l : List ℕ). x ∷ l) (take_past left right more)

-- the bytes of a record, after those of one page more
pub record_next : (read part now new : List ℕ) (size place end : ℕ) → length read ≡ place * 4080 → length part ≡ 4080
    → place * 4080 < end → end ≤ size → (end ≡ place * 4080 + 4080) ⊎ (end ≡ size) → now ≡ take size read
    → new ≡ now ++ take (end - place * 4080) part → new ≡ take size (read ++ part)
record_next read part now new size place end long whole low within last was is =
    let more = size - place * 4080 in
    let all : size ≡ length read + more = omega (arith, long, low, within) in
    let same : take (end - place * 4080) part ≡ take more part = ⊎_elim
    (λ full. take_all (end - place * 4080) part (omega (arith, whole, full))
    ∙ sym (take_all more part (omega (arith, whole, full, within))))
    (λ ends. ap (λ (n : ℕ). take (n - place * 4080) part) ends)
    last in
    is ∙ ap (λ (l : List ℕ). l ++ take (end - place * 4080) part)
    (was ∙ take_all size read (omega (arith, long, low, within)))
    ∙ ap (λ (l : List ℕ). read ++ l) same
    ∙ sym (ap (λ (n : ℕ). take n (read ++ part)) all ∙ take_past read part more)

pub record_step : (pages : List (Option Sector)) (now new : List ℕ) (size place end first page next : ℕ)
    → Follows pages place first page → place * 4080 < end → end ≤ size
    → (end ≡ place * 4080 + 4080) ⊎ (end ≡ size) → now ≡ take size (chain_bytes pages place first)
    → AddsPart pages page (end - place * 4080) now new next → new ≡ take size (chain_bytes pages (place + 1) first)
record_step pages now new size place end first page next follows low within last was part =
    record_next (chain_bytes pages place first) (part_on (page_at pages page)) now new size place end follows.long
    part.links.long low within last was part.bytes_are
    ∙ ap (take size) (sym (follows_bytes pages place first page follows))

-- a chain of more pages has a page where a call has come to
pub stops_at : (pages : List (Option Sector)) (count place first page : ℕ) → place < count
    → Follows pages place first page → Stands pages count first → (0 < page) × IsLink (page_at pages page)
stops_at pages count place first page low follows stands =
    let more = count - (place + 1) in
    let whole : count ≡ place + suc more = omega arith in
    let here = follows.back (suc more) (subst (λ (n : ℕ). Stands pages n first) whole stands) in
    (here.0, here.1)

-- how many bytes of a record are there, after a part that ends at its place
pub part_ends : (size place end before after : ℕ) → place < pages_for size → place * 4080 < end
    → end ≤ place * 4080 + 4080 → end ≤ size → (end ≡ place * 4080 + 4080) ⊎ (end ≡ size) → before ≡ place * 4080
    → after ≡ before + (end - place * 4080)
    → (place + 1 < pages_for size → after ≡ (place + 1) * 4080) × (pages_for size ≤ place + 1 → after ≡ size)
part_ends size place end before after less low high within last was is = (
  λ more. ⊎_elim (λ full. omega arith) (λ ends. omega arith) last,
  λ all. ⊎_elim (λ full. omega arith) (λ ends. omega arith) last,
)

-- all pages of a chain were read
pub record_whole : (pages : List (Option Sector)) (first page : ℕ) (bytes : List ℕ) (size place : ℕ)
    → place ≡ pages_for size → page ≡ 0 → length bytes ≡ size → Follows pages place first page
    → bytes ≡ take size (chain_bytes pages place first) → IsRecordOf pages first bytes
record_whole pages first page bytes size place all ended long follows is =
    let count : place ≡ pages_for (length bytes) = all ∙ ap pages_for (sym long) in
    let stands : Stands pages place first =
    let same : place + 0 ≡ place = omega arith in
    subst (λ (n : ℕ). Stands pages n first) same (follows.on 0 ended) in
    record {
      stands = subst (λ (n : ℕ). Stands pages n first) count stands;
      bytes_are = is ∙ ap (λ (n : ℕ). take n (chain_bytes pages place first)) (sym long)
          ∙ ap (λ (n : ℕ). take (length bytes) (chain_bytes pages n first)) count;
    }

-- a page whose part was added follows the pages before it
pub follows_added : (pages : List (Option Sector)) (count first page next size : ℕ) (old new : List ℕ)
    → Follows pages count first page → AddsPart pages page size old new next → Follows pages (count + 1) first next
follows_added pages count first page next size old new follows added =
    let links = added.links in
    follows_next pages count first page next follows links.some links.link links.next_is links.long
