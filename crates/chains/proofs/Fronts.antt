-- A page comes in front of a chain, gets another part of the record, or leaves.
use Rattle.std.proofs.Common.{◌≡◌, ⊎_elim, inl, inr, ◌<◌, ◌≤◌, ◌+◌, ℕ, suc, List, [], ◌∷◌, ◌++◌, length, set}
use Rattle.std.proofs.Common.{refl, sym, ap, subst, ◌∙◌, arith, length-set, get_or-set_same, get_or-set_other}
use Rattle.std.specs.Prelude.{Contains, Option, Some, None, Result, Ok, Err, IfOk, OnErr}
use Rattle.station.specs.Disk.{Sector}
use Rattle.pages.specs.Changes.{ChangesPage}
use Rattle.pages.specs.Pages.{IsPage, page_count}
use Rattle.pages.specs.declared.error.PagesError.{PagesError}
use Rattle.pages.specs.declared.page_map.PageMap.{PageMap}
use Rattle.btree.specs.Changes.{pages_of_map}
use Rattle.btree.specs.Moves.{Moves}
use Rattle.btree.proofs.ChangedPages.{changes_count}
use Rattle.btree.proofs.Runs.{in_none, in_cases, in_head, in_tail}
use Rattle.btree.proofs.Clearing.{moves_one, moves_both}
use Rattle.chains.specs.Chain.{IsLink, next_in, next_on, part_on, page_at, next_at, Stands, chain_pages, chain_bytes}
use Rattle.chains.specs.Chain.{pages_for}
use Rattle.chains.specs.Chain.{with_zeros, link_bytes}
use Rattle.chains.specs.Links.{IsCut, Sets, PutsLink}
use Rattle.chains.specs.Changes.{Lays, Rewrites, Releases}
use Rattle.chains.proofs.Following.{first_once, never_none}
use Rattle.chains.proofs.Staying.{Same, stands_still, pages_still, bytes_still}
use Rattle.chains.proofs.Links.{filled, one_more, zeros_front}

-- The page of a number was written.
pub sets_once : (before after : List (Option Sector)) (page : ℕ) (now : Option Sector) → page < length before
    → after ≡ set before page now → Sets before page now after
sets_once before after page now low is = record {
  count = ap length is ∙ length-set before page now;
  here = ap (λ (p : List (Option Sector)). page_at p page) is ∙ get_or-set_same before page now None low;
  others = λ other apart.
      ap (λ (p : List (Option Sector)). page_at p other) is ∙ get_or-set_other before page other now None apart;
}

-- A page that wasn't in the map gets a part of a record.
pub puts_link : (result : Result ℕ PagesError) (old new : PageMap) (next : ℕ) (part bytes : List ℕ)
    → ((image : List Sector) → length (pages_of_map old image) ≡ page_count old) → IfOk result (IsPage old)
    → IfOk result (λ page. (image : List Sector) → page_at (pages_of_map old image) page ≡ None)
    → IfOk result (λ page. (image : List Sector) → pages_of_map new image
    ≡ set (pages_of_map old image) page (Some bytes)) → bytes ≡ link_bytes next part
    → next_in (link_bytes next part) ≡ next → IfOk result
    (λ page. (image : List Sector) → PutsLink (pages_of_map old image) next part (pages_of_map new image) page)
puts_link (Ok page) old new next part bytes count within none map is reads = λ image.
    record {
      some = within.0;
      none = none image;
      reads = reads;
      sets = sets_once (pages_of_map old image) (pages_of_map new image) page (Some (link_bytes next part))
          (omega (arith, within.1, count image))
          (map image ∙ ap (λ (b : Sector). set (pages_of_map old image) page (Some b)) is);
    }
puts_link (Err error) old new next part bytes count within none map is reads = tt

-- At most one page more was changed.
pub changes_one : (result : Result ℕ PagesError) (old new : List ℕ)
    → IfOk result (λ page. ChangesPage old page new) → OnErr result (new ≡ old) → length new ≤ length old + 1
changes_one (Ok page) old new changes_page same = changes_count old page new changes_page
changes_one (Err error) old new changes_page same = omega (arith, ap length same)

-- a chain without the page is as it was
pub sets_apart : (before after : List (Option Sector)) (page : ℕ) (now : Option Sector) (numbers : List ℕ)
    → Sets before page now after → (Contains numbers page → ⊥) → Same before after numbers
sets_apart before after page now numbers sets out other has =
    sets.others other (λ same. out (subst (λ (n : ℕ). Contains numbers n) same has))

-- A page with a part of a record names the chain of the rest.
pub record Fronts (pages : List (Option Sector)) (page next : ℕ) (part : List ℕ) : Type 0 where
  pub some : 0 < page
  pub is : page_at pages page ≡ Some (link_bytes next part)
  pub reads : next_in (link_bytes next part) ≡ next

next_there : (pages : List (Option Sector)) (page next : ℕ) (part : List ℕ) → Fronts pages page next part
    → next_at pages page ≡ next
next_there pages page next part front = ap next_on front.is ∙ front.reads

front_stands : (pages : List (Option Sector)) (page next count : ℕ) (part : List ℕ) → Fronts pages page next part
    → Stands pages count next → Stands pages (suc count) page
front_stands pages page next count part front stands = (
  front.some,
  subst IsLink (sym front.is) refl,
  subst (λ (n : ℕ). Stands pages count n) (sym (next_there pages page next part front)) stands,
)

front_pages : (pages : List (Option Sector)) (page next count : ℕ) (part : List ℕ) → Fronts pages page next part
    → chain_pages pages (suc count) page ≡ page ∷ chain_pages pages count next
front_pages pages page next count part front =
    ap (λ (n : ℕ). page ∷ chain_pages pages count n) (next_there pages page next part front)

front_bytes : (pages : List (Option Sector)) (page next count : ℕ) (part : List ℕ) → Fronts pages page next part
    → chain_bytes pages (suc count) page ≡ filled part ++ chain_bytes pages count next
front_bytes pages page next count part front =
    ap (λ (l : List ℕ). l ++ chain_bytes pages count (next_at pages page)) (ap part_on front.is)
    ∙ ap (λ (n : ℕ). filled part ++ chain_bytes pages count n) (next_there pages page next part front)

-- the chain of a record, from that of its rest
pub record Holds (pages : List (Option Sector)) (bytes : List ℕ) (first : ℕ) (numbers : List ℕ) : Type 0 where
  pub stands : Stands pages (pages_for (length bytes)) first
  pub same : chain_pages pages (pages_for (length bytes)) first ≡ numbers
  pub holds : chain_bytes pages (pages_for (length bytes)) first ≡ with_zeros bytes

front_holds : (pages : List (Option Sector)) (bytes part rest : List ℕ) (page next : ℕ) (numbers : List ℕ)
    → IsCut bytes part rest → Fronts pages page next part → Holds pages rest next numbers
    → Holds pages bytes page (page ∷ numbers)
front_holds pages bytes part rest page next numbers cut front below =
    let more = one_more bytes part rest cut in
    let count = pages_for (length rest) in
    record {
      stands = subst (λ (n : ℕ). Stands pages n page) (sym more)
          (front_stands pages page next count part front below.stands);
      same = ap (λ (n : ℕ). chain_pages pages n page) more ∙ front_pages pages page next count part front
          ∙ ap (λ (l : List ℕ). page ∷ l) below.same;
      holds = ap (λ (n : ℕ). chain_bytes pages n page) more ∙ front_bytes pages page next count part front
          ∙ ap (λ (l : List ℕ). filled part ++ l) below.holds ∙ zeros_front bytes part rest cut;
    }

holds_still : (before after : List (Option Sector)) (bytes : List ℕ) (first : ℕ) (numbers : List ℕ)
    → Same before after numbers → Holds before bytes first numbers → Holds after bytes first numbers
holds_still before after bytes first numbers same held =
    let still : Same before after (chain_pages before (pages_for (length bytes)) first) =
    subst (λ (l : List ℕ). Same before after l) (sym held.same) same in
    record {
      stands = stands_still before after (pages_for (length bytes)) first still held.stands;
      same = pages_still before after (pages_for (length bytes)) first still ∙ held.same;
      holds = bytes_still before after (pages_for (length bytes)) first still ∙ held.holds;
    }

-- The chain of no bytes.
pub lays_nothing : (pages : List (Option Sector)) → Lays pages [] pages 0
lays_nothing pages = record {
  stands = refl;
  holds = refl;
  moves = record {
    count = refl;
    others = λ page was is. refl;
    joins = λ page has. absurd (in_none page has);
    leaves = λ page has. absurd (in_none page has);
  };
}

-- A new page comes in front.
joins_front : (before mid after : List (Option Sector)) (page : ℕ) (now : Option Sector) (numbers : List ℕ)
    → Moves before [] mid numbers → Sets mid page now after → 0 < page → page_at mid page ≡ None
    → (Contains numbers page → ⊥) → Moves before [] after (page ∷ numbers)
joins_front before mid after page now numbers moves sets some none out = record {
  count = sets.count ∙ moves.count;
  others = λ other was is.
      sets.others other (λ same. is (subst (λ (n : ℕ). Contains (page ∷ numbers) n) (sym same) (in_head page numbers)))
      ∙ moves.others other (in_none other) (λ has. is (in_tail page numbers other has));
  joins = λ other has. ⊎_elim
      (λ same. inr (
        subst (λ (n : ℕ). 0 < n) (sym same) some,
        ap (λ (n : ℕ). page_at before n) same ∙ sym (moves.others page (in_none page) out) ∙ none,
      ))
      (λ later. moves.joins other later) (in_cases page numbers other has);
  leaves = λ other has. absurd (in_none other has);
}

pub lays_more : (before mid after : List (Option Sector)) (bytes part rest : List ℕ) (page next : ℕ)
    → IsCut bytes part rest → Lays before rest mid next → Sets mid page (Some (link_bytes next part)) after → 0 < page
    → page_at mid page ≡ None → next_in (link_bytes next part) ≡ next → Lays before bytes after page
lays_more before mid after bytes part rest page next cut laid sets some none reads =
    let numbers = chain_pages mid (pages_for (length rest)) next in
    let out : Contains numbers page → ⊥ =
    λ has. never_none mid (pages_for (length rest)) next page laid.stands has none in
    let front : Fronts after page next part = record { some = some; is = sets.here; reads = reads } in
    let below : Holds mid rest next numbers = record { stands = laid.stands; same = refl; holds = laid.holds } in
    let held = front_holds after bytes part rest page next numbers cut front (holds_still mid after rest next numbers
    (sets_apart mid after page (Some (link_bytes next part)) numbers sets out) below) in
    record {
      stands = held.stands;
      holds = held.holds;
      moves = subst (λ (l : List ℕ). Moves before [] after l) (sym held.same)
          (joins_front before mid after page (Some (link_bytes next part)) numbers laid.moves sets some none out);
    }

-- A page gets another part, and keeps its next page.
pub rewrites_nothing : (pages : List (Option Sector)) → Rewrites pages [] pages 0
rewrites_nothing pages = record {
  stands = refl;
  same = refl;
  holds = refl;
  moves = record {
    count = refl;
    others = λ page was is. refl;
    joins = λ page has. absurd (in_none page has);
    leaves = λ page has. absurd (in_none page has);
  };
}

stays_front : (before mid after : List (Option Sector)) (page : ℕ) (now : Option Sector) (numbers : List ℕ)
    → Sets before page now mid → Moves mid numbers after numbers → Moves before (page ∷ numbers) after (page ∷ numbers)
stays_front before mid after page now numbers sets moves = record {
  count = moves.count ∙ sets.count;
  others = λ other was is.
      moves.others other (λ has. was (in_tail page numbers other has)) (λ has. was (in_tail page numbers other has))
      ∙ sets.others other
      (λ same. was (subst (λ (n : ℕ). Contains (page ∷ numbers) n) (sym same) (in_head page numbers)));
  joins = λ other has. inl has;
  leaves = λ other has. inl has;
}

pub rewrites_more : (before mid after : List (Option Sector)) (bytes part rest : List ℕ) (page next : ℕ)
    → IsCut bytes part rest → Stands before (suc (pages_for (length rest))) page → next_at before page ≡ next
    → Sets before page (Some (link_bytes next part)) mid → next_in (link_bytes next part) ≡ next
    → Rewrites mid rest after next
    → Rewrites before bytes after page
rewrites_more before mid after bytes part rest page next cut stands is sets reads written =
    let count = pages_for (length rest) in
    let link = link_bytes next part in
    let numbers = chain_pages before count next in
    let out : Contains numbers page → ⊥ =
    λ has. first_once before count page stands (subst (λ (n : ℕ). Contains (chain_pages before count n) page) (sym is)
    has) in
    let same = pages_still before mid count next (sets_apart before mid page (Some link) numbers sets out) in
    let moves : Moves mid numbers after numbers =
    subst (λ (l : List ℕ). Moves mid l after l) same written.moves in
    let front : Fronts after page next part =
    record { some = stands.0; is = moves.others page out out ∙ sets.here; reads = reads } in
    let held = front_holds after bytes part rest page next numbers cut front
    (record { stands = written.stands; same = written.same ∙ same; holds = written.holds }) in
    let more = one_more bytes part rest cut in
    let own : chain_pages before (pages_for (length bytes)) page ≡ page ∷ numbers =
    ap (λ (n : ℕ). chain_pages before n page) more ∙ ap (λ (n : ℕ). page ∷ chain_pages before count n) is in
    record {
      stands = held.stands;
      same = held.same ∙ sym own;
      holds = held.holds;
      moves = subst (λ (l : List ℕ). Moves before l after l) (sym own)
          (stays_front before mid after page (Some link) numbers sets moves);
    }

-- The first page leaves.
pub releases_more : (before mid after : List (Option Sector)) (count page next : ℕ) → Stands before (suc count) page
    → next_at before page ≡ next → page < length before → mid ≡ set before page None → Releases mid count after next
    → Releases before (suc count) after page
releases_more before mid after count page next stands is low gone released =
    let numbers = chain_pages before count (next_at before page) in
    let sets = sets_once before mid page None low gone in
    let same = pages_still before mid count (next_at before page)
    (sets_apart before mid page None numbers sets (first_once before count page stands)) in
    let others : Moves mid numbers after [] =
    subst (λ (l : List ℕ). Moves mid l after []) same
    (subst (λ (n : ℕ). Moves mid (chain_pages mid count n) after []) (sym is) released) in
    moves_both before mid after (page ∷ []) numbers (moves_one before mid page low gone) others

-- and the rest of the chain stands after it
pub rest_stands : (before mid : List (Option Sector)) (count page : ℕ) (now : Option Sector)
    → Stands before (suc count) page → Sets before page now mid → Stands mid count (next_at before page)
rest_stands before mid count page now stands sets =
    stands_still before mid count (next_at before page)
    (sets_apart before mid page now (chain_pages before count (next_at before page)) sets
    (first_once before count page stands)) stands.2
