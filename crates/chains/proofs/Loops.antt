-- How far a call has come along a chain.
use Rattle.std.proofs.Common.{◌≡◌, ◌<◌, ◌≤◌, ◌+◌, ◌-◌, ◌*◌, ℕ, suc, List, [], length}
use Rattle.std.proofs.Common.{drop}
use Rattle.std.proofs.Common.{set, sym, subst, arith, length-drop}
use Rattle.std.specs.Prelude.{Option, Some, None}
use Rattle.std.proofs.lemmas.List.{drop_all}
use Rattle.station.specs.Disk.{Sector}
use Rattle.chains.specs.Chain.{next_in, next_at, Stands, pages_for, link_bytes}
use Rattle.chains.specs.Links.{IsCut, Sets, PutsLink}
use Rattle.chains.specs.Changes.{Lays, Rewrites, Releases}
use Rattle.chains.proofs.Links.{one_more}
use Rattle.chains.proofs.Fronts.{sets_once, lays_nothing, lays_more, rewrites_nothing, rewrites_more, releases_more}
use Rattle.chains.proofs.Fronts.{rest_stands}

-- nothing is left of a record after its last part
pub none_left : (bytes : List ℕ) (place : ℕ) → pages_for (length bytes) ≤ place → drop (place * 4080) bytes ≡ []
none_left bytes place all = drop_all (place * 4080) bytes (omega arith)

-- how many pages the rest needs
pub pages_left : (bytes : List ℕ) (place : ℕ) → pages_for (length (drop (place * 4080) bytes))
    ≡ pages_for (length bytes) - place
pages_left bytes place = let short = length-drop (place * 4080) bytes in omega arith

-- A record is laid from its end.
pub lays_start : (pages : List (Option Sector)) (bytes : List ℕ) (place : ℕ) → place ≡ pages_for (length bytes)
    → Lays pages (drop (place * 4080) bytes) pages 0
lays_start pages bytes place is =
    subst (λ (l : List ℕ). Lays pages l pages 0) (sym (none_left bytes place (omega arith))) (lays_nothing pages)

pub lays_step : (before mid after : List (Option Sector)) (bytes part : List ℕ) (place at page next : ℕ)
    → at + 1 ≡ place → Lays before (drop (place * 4080) bytes) mid next
    → IsCut (drop (at * 4080) bytes) part (drop ((at + 1) * 4080) bytes) → PutsLink mid next part after page
    → Lays before (drop (at * 4080) bytes) after page
lays_step before mid after bytes part place at page next is laid cut put =
    lays_more before mid after (drop (at * 4080) bytes) part (drop ((at + 1) * 4080) bytes) page next cut
    (subst (λ (n : ℕ). Lays before (drop (n * 4080) bytes) mid next) (sym is) laid) put.sets put.some put.none put.reads

pub lays_end : (before after : List (Option Sector)) (bytes : List ℕ) (place first : ℕ) → place ≡ 0
    → Lays before (drop (place * 4080) bytes) after first → Lays before bytes after first
lays_end before after bytes place first is laid =
    subst (λ (n : ℕ). Lays before (drop (n * 4080) bytes) after first) is laid

-- What is left to be written stands from the page on that a call has come to, and then all is written.
pub record RestToWrite (before : List (Option Sector)) (bytes : List ℕ) (first : ℕ) (now : List (Option Sector))
    (place page : ℕ) : Type 0 where
  pub stands : Stands now (pages_for (length (drop (place * 4080) bytes))) page
  pub goes_on : (after : List (Option Sector)) → Rewrites now (drop (place * 4080) bytes) after page
      → Rewrites before bytes after first

pub writes_start : (before : List (Option Sector)) (bytes : List ℕ) (first : ℕ)
    → Stands before (pages_for (length bytes)) first → RestToWrite before bytes first before 0 first
writes_start before bytes first stands = record { stands = stands; goes_on = λ after written. written }

-- the pages from the one that a call has come to on
pub writes_here : (before : List (Option Sector)) (bytes : List ℕ) (first : ℕ) (now : List (Option Sector))
    (place page more : ℕ) → place + suc more ≡ pages_for (length bytes)
    → RestToWrite before bytes first now place page → Stands now (suc more) page
writes_here before bytes first now place page more is rest =
    let left = pages_left bytes place in
    let count : pages_for (length (drop (place * 4080) bytes)) ≡ suc more = omega (arith, left, is) in
    subst (λ (n : ℕ). Stands now n page) count rest.stands

pub writes_step : (before : List (Option Sector)) (bytes part : List ℕ) (first : ℕ) (now mid : List (Option Sector))
    (place page next : ℕ) → IsCut (drop (place * 4080) bytes) part (drop ((place + 1) * 4080) bytes)
    → next_at now page ≡ next → Sets now page (Some (link_bytes next part)) mid
    → next_in (link_bytes next part) ≡ next → RestToWrite before bytes first now place page
    → RestToWrite before bytes first mid (place + 1) next
writes_step before bytes part first now mid place page next cut is sets reads rest =
    let more = drop ((place + 1) * 4080) bytes in
    let count = one_more (drop (place * 4080) bytes) part more cut in
    let stands : Stands now (suc (pages_for (length more))) page =
    subst (λ (n : ℕ). Stands now n page) count rest.stands in
    record {
      stands = subst (λ (n : ℕ). Stands mid (pages_for (length more)) n) is
          (rest_stands now mid (pages_for (length more)) page (Some (link_bytes next part)) stands sets);
      goes_on = λ after written. rest.goes_on after (rewrites_more now mid after (drop (place * 4080) bytes) part more
          page next cut stands is sets reads written);
    }

pub writes_end : (before : List (Option Sector)) (bytes : List ℕ) (first : ℕ) (now : List (Option Sector))
    (place page : ℕ) → pages_for (length bytes) ≤ place → RestToWrite before bytes first now place page
    → Rewrites before bytes now first
writes_end before bytes first now place page all rest =
    let none = none_left bytes place all in
    let ended : page ≡ 0 = subst (λ (l : List ℕ). Stands now (pages_for (length l)) page) none rest.stands in
    rest.goes_on now (subst (λ (l : List ℕ). Rewrites now l now page) (sym none)
    (subst (λ (n : ℕ). Rewrites now [] now n) (sym ended) (rewrites_nothing now)))

-- What is left to be released stands from the page on that a call has come to, and then all is released.
pub record RestToRelease (before : List (Option Sector)) (count first : ℕ) (now : List (Option Sector))
    (place page : ℕ) : Type 0 where
  pub more : ℕ
  pub is : place + more ≡ count
  pub stands : Stands now more page
  pub goes_on : (after : List (Option Sector)) → Releases now more after page → Releases before count after first

pub releases_start : (before : List (Option Sector)) (count first : ℕ) → Stands before count first
    → RestToRelease before count first before 0 first
releases_start before count first stands =
    record { more = count; is = omega arith; stands = stands; goes_on = λ after released. released }

pub releases_here : (before : List (Option Sector)) (count first : ℕ) (now : List (Option Sector))
    (place page more : ℕ) → place + suc more ≡ count → RestToRelease before count first now place page
    → Stands now (suc more) page
releases_here before count first now place page more is rest =
    let whole = rest.is in
    let same : rest.more ≡ suc more = omega arith in
    subst (λ (n : ℕ). Stands now n page) same rest.stands

pub releases_step : (before : List (Option Sector)) (count first : ℕ) (now mid : List (Option Sector))
    (place page more next : ℕ) → place + suc more ≡ count → next_at now page ≡ next → page < length now
    → mid ≡ set now page None → RestToRelease before count first now place page
    → RestToRelease before count first mid (place + 1) next
releases_step before count first now mid place page more next is named low gone rest =
    let whole = rest.is in
    let same : rest.more ≡ suc more = omega arith in
    let stands : Stands now (suc more) page = subst (λ (n : ℕ). Stands now n page) same rest.stands in
    record {
      more = more;
      is = omega arith;
      stands = subst (λ (n : ℕ). Stands mid more n) named
          (rest_stands now mid more page None stands (sets_once now mid page None low gone));
      goes_on = λ after released. rest.goes_on after (subst (λ (n : ℕ). Releases now n after page) (sym same)
          (releases_more now mid after more page next stands named low gone released));
    }

pub releases_end : (before : List (Option Sector)) (count first : ℕ) (now : List (Option Sector)) (place page : ℕ)
    → count ≤ place → RestToRelease before count first now place page → Releases before count now first
releases_end before count first now place page all rest =
    let whole = rest.is in
    let same : rest.more ≡ 0 = omega arith in
    rest.goes_on now (subst (λ (n : ℕ). Releases now n now page) (sym same) (lays_nothing now).moves)
