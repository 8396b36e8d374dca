-- What the cache holds stays right.
use Rattle.std.proofs.Common.{◌≡◌, ◌<◌, zero, suc, ◌⊎◌, ⊎_elim, inl, inr, ℕ, Bool, List, [], ◌∷◌, ◌++◌, length, get_or}
use Rattle.std.proofs.Common.{cond, true, false, refl, sym, ◌∙◌, ap, subst, arith, Bor}
use Rattle.std.specs.Prelude.{option_copied, Option, Some, None, is_some, Contains, IsSome, IfNone, IfSome, nat_eq}
use Rattle.std.specs.Prelude.{option_map, slice_get}
use Rattle.std.specs.List.{All, IsDistinct}
use Rattle.std.specs.Map.{lookup, lookup_entry, remove_entry, keys_of}
use Rattle.std.specs.Option.{option_map_or}
use Rattle.std.specs.Cmp.{nat_eq_equiv}
use Rattle.std.proofs.lemmas.Bool.{eqb-true, false≢true}
use Rattle.std.proofs.lemmas.List.{get_or-map, get_or_default, length-map}
use Rattle.std.proofs.lemmas.List.Elements.{Contains-append_cases, Contains-append_left, Contains-append_right}
use Rattle.std.proofs.lemmas.Map.{lookup-remove_entry}
use Rattle.std.proofs.lemmas.Map.Views.{IsSome-lookup_from_Contains}
use Rattle.station.specs.Disk.{Sector, sector_at}
use Rattle.lru.specs.LruCache.{LruCache, lru_cache, promoted, put_entries}
use Rattle.lru.proofs.Pairs.{lookup-lookup_entry}
use Rattle.lru.proofs.Splits.{Contains-head}
use Rattle.lru.proofs.CallerLemmas.{Contains-lookup, Contains-promoted, Contains-remove_entry, Contains-put_entries}
use Rattle.pages.specs.Cache.{IsCacheOf, is_first, Recalls, StaysOut, ComesIn, CachesPage, KeepsChanges, Gathers}
use Rattle.pages.specs.Changes.{pages_after, changed_pages, ChangesPage}
use Rattle.pages.specs.declared.change.Change.{Change}
use Rattle.pages.proofs.Edits.{changed_at, away_same, is_only, only_same}
use Rattle.pages.specs.Image.{NamesOnce, pages_in, page_at}

-- a page of the cache is the page
pub hit_page :
    (pages : List (Option Sector)) (changed : List ℕ) (entries : List (ℕ × Sector)) (page : ℕ) (bytes : Sector)
    → IsCacheOf pages changed entries → lookup (nat_eq page) entries ≡ Some bytes → Some bytes ≡ get_or pages page None
hit_page pages changed entries page bytes is found =
    let there = Contains-lookup (nat_eq page) entries bytes found in
    sym (ap (λ (p : ℕ). get_or pages p None) (eqb-true page there.0 there.2) ∙ is.right (there.0, bytes) there.1)

no_entry : (entries : List (ℕ × Sector)) (test : ℕ → Bool) → lookup test entries ≡ None
    → lookup_entry test entries ≡ None
no_entry [] test none = refl
no_entry (e ∷ entries) test none = (elim (test e.0) as (λ b. test e.0 ≡ b → lookup_entry test (e ∷ entries) ≡ None) [
  | true ↦ λ is. let h = rw is at none in cc
  | false ↦ λ is. rw is (no_entry entries test (rw is at none))
]) refl

-- an entry that isn't there stays out
pub promoted_none : (entries : List (ℕ × Sector)) (page : ℕ) → lookup (nat_eq page) entries ≡ None
    → promoted (nat_eq page) entries ≡ entries
promoted_none entries page none = rw (no_entry entries (nat_eq page) none) refl

-- a look-up that finds nothing leaves the cache
pub missed : (cache new : LruCache ℕ Sector) (page : ℕ) (found : Option Sector)
    → found ≡ lookup (nat_eq page) cache.entries → new ≡ lru_cache (promoted (nat_eq page) cache.entries) cache.cap
    → IfNone found (new ≡ cache)
missed cache new page None is after =
    after ∙ ap (λ (es : List (ℕ × Sector)). lru_cache es cache.cap) (promoted_none cache.entries page (sym is))
missed cache new page (Some bytes) is after = tt

-- an entry that is there becomes the first one
put_first : (found : Option (ℕ × Sector)) (entries rest : List (ℕ × Sector))
    → is_some (option_map (λ (e : ℕ × Sector). e.1) found) ≡ true
    → option_map (λ (e : ℕ × Sector). e.1) (slice_get (option_map_or (λ e. e ∷ rest) found entries) 0)
    ≡ option_map (λ (e : ℕ × Sector). e.1) found
put_first None entries rest is = absurd (false≢true is)
put_first (Some e) entries rest is = refl

pub promoted_first : (entries : List (ℕ × Sector)) (page : ℕ) → is_some (lookup (nat_eq page) entries) ≡ true
    → option_map (λ (e : ℕ × Sector). e.1) (slice_get (promoted (nat_eq page) entries) 0)
    ≡ lookup (nat_eq page) entries
promoted_first entries page is =
    let same = lookup-lookup_entry (nat_eq page) entries in
    put_first (lookup_entry (nat_eq page) entries) entries (remove_entry (nat_eq page) entries) (ap is_some same ∙ is)
    ∙ same

-- the first entry is found, and it is the first one as it is
pub first_found : (entries : List (ℕ × Sector)) (page : ℕ) → is_first page entries ≡ true
    → is_some (lookup (nat_eq page) entries) ≡ true
first_found [] page is = absurd (false≢true is)
first_found (e ∷ entries) page is = rw is refl

pub first_stays : (entries : List (ℕ × Sector)) (page : ℕ) → is_first page entries ≡ true
    → promoted (nat_eq page) entries ≡ entries
first_stays [] page is = absurd (false≢true is)
first_stays (e ∷ entries) page is = rw is refl

pub after_promoted : (pages : List (Option Sector)) (changed : List ℕ) (entries : List (ℕ × Sector)) (page : ℕ)
    → IsCacheOf pages changed entries → IsCacheOf pages changed (promoted (nat_eq page) entries)
after_promoted pages changed entries page is = record {
  right = λ e has. is.right e (Contains-promoted (nat_eq page) entries e has);
  unchanged = λ e has. is.unchanged e (Contains-promoted (nat_eq page) entries e has);
}

-- the key that was put is the page
put_key : (entries : List (ℕ × Sector)) (page : ℕ) (e : ℕ × Sector)
    → (e.0 ≡ page) ⊎ ((w : Sector) × Contains entries (e.0, w) × (nat_eq page e.0 ≡ true)) → e.0 ≡ page
put_key entries page e (inl is) = is
put_key entries page e (inr was) = sym (eqb-true page e.0 was.2)

pub after_put : (pages : List (Option Sector)) (changed : List ℕ) (cache : LruCache ℕ Sector)
    (page : ℕ) (bytes : Sector) → get_or pages page None ≡ Some bytes → (Contains changed page → ⊥)
    → IsCacheOf pages changed cache.entries → IsCacheOf pages changed (put_entries nat_eq cache page bytes)
after_put pages changed cache page bytes here away is = record {
  right = λ e has. ⊎_elim (λ was. is.right e was)
      (λ put. ap (λ (p : ℕ). get_or pages p None) (put_key cache.entries page e put.1) ∙ here
      ∙ ap (λ (b : Sector). Some b) (sym put.0))
      (Contains-put_entries nat_eq cache page bytes e has);
  unchanged = λ e has. ⊎_elim (λ was. is.unchanged e was)
      (λ put changed_pages. away (subst (Contains changed) (put_key cache.entries page e put.1) changed_pages))
      (Contains-put_entries nat_eq cache page bytes e has);
}

pub after_kept : (pages : List (Option Sector)) (changed : List ℕ) (old new : LruCache ℕ Sector)
    (page : ℕ) (bytes : Sector) → get_or pages page None ≡ Some bytes → (Contains changed page → ⊥)
    → IsCacheOf pages changed old.entries → CachesPage page bytes old new → IsCacheOf pages changed new.entries
after_kept pages changed old new page bytes here away is kept = ⊎_elim
    (λ same. subst (λ (l : LruCache ℕ Sector). IsCacheOf pages changed l.entries) (sym same) is)
    (λ put. subst (λ (l : LruCache ℕ Sector). IsCacheOf pages changed l.entries) (sym put)
    (after_put pages changed old page bytes here away is))
    kept

-- the page of an entry of the table
entry_page : (image : List Sector) (table : List ℕ) (page : ℕ)
    → get_or (pages_in image table) page None ≡ page_at image (get_or table page 0)
entry_page image [] page = refl
entry_page image (s ∷ table) zero = refl
entry_page image (s ∷ table) (suc n) = entry_page image table n

sector_page : (image : List Sector) (sector : ℕ) → 0 < sector → page_at image sector ≡ Some (sector_at image sector)
sector_page image zero some = absurd (omega (arith, some))
sector_page image (suc s) some = refl

-- a page whose sector is there is what the sector holds
pub named_page : (image : List Sector) (table : List ℕ) (page sector : ℕ) → sector ≡ get_or table page 0 → 0 < sector
    → get_or (pages_in image table) page None ≡ Some (sector_at image sector)
named_page image table page sector is some =
    entry_page image table page ∙ ap (λ (s : ℕ). page_at image s) (sym is) ∙ sector_page image sector some

-- a page without a sector is none
pub missing_page : (image : List Sector) (table : List ℕ) (page : ℕ) → get_or table page 0 ≡ 0
    → get_or (pages_in image table) page None ≡ None
missing_page image table page none = entry_page image table page ∙ ap (λ (s : ℕ). page_at image s) none

no_sector : (image : List Sector) (sector : ℕ) → page_at image sector ≡ None → sector ≡ 0
no_sector image zero none = refl
no_sector image (suc s) none = cc

-- and one that isn't there has none
pub unnamed_page : (image : List Sector) (table : List ℕ) (page : ℕ) → get_or (pages_in image table) page None ≡ None
    → get_or table page 0 ≡ 0
unnamed_page image table page none = no_sector image (get_or table page 0) (sym (entry_page image table page) ∙ none)

-- what a search without a result tells
pub none_found : {A : Type 0} (found : Option A) (Told : Type 0) → is_some found ≡ false → IfNone found Told → Told
none_found None Told none told = told
none_found (Some x) Told none told = absurd (false≢true (sym none))

pub recalls_kept : (old new : LruCache ℕ Sector) (page : ℕ) (bytes : Sector) → lookup (nat_eq page) old.entries ≡ None
    → CachesPage page bytes old new → Recalls page (Some bytes) old new
recalls_kept old new page bytes none kept =
    ⊎_elim (λ same. StaysOut none same) (λ put. ComesIn bytes none refl put) kept

-- the key of an entry
key_there : (entries : List (ℕ × Sector)) (e : ℕ × Sector) → Contains entries e → Contains (keys_of entries) e.0
key_there entries e has = (
  has.0,
  omega (arith, has.1, length-map entries (λ (f : ℕ × Sector). f.0)),
  get_or-map (λ (f : ℕ × Sector). f.0) entries has.0 e e.0 has.1 ∙ ap (λ (f : ℕ × Sector). f.0) has.2,
)

none_removed : (entries : List (ℕ × Sector)) (page : ℕ) → IsDistinct nat_eq (keys_of entries)
    → lookup (nat_eq page) (remove_entry (nat_eq page) entries) ≡ None
none_removed entries page distinct =
    lookup-remove_entry nat_eq_equiv (nat_eq page) (λ x y is. nat_eq_equiv.congr page x y is) page entries distinct
    ∙ ap (λ b. cond b None (lookup (nat_eq page) entries)) (nat_eq_equiv.refl page)

removed_away : (entries : List (ℕ × Sector)) (page : ℕ) (e : ℕ × Sector) → IsDistinct nat_eq (keys_of entries)
    → Contains (remove_entry (nat_eq page) entries) e → e.0 ≡ page → ⊥
removed_away entries page e distinct has is =
    false≢true (subst (λ (o : Option Sector). IsSome o) (none_removed entries page distinct)
    (subst (λ (p : ℕ). IsSome (lookup (nat_eq p) (remove_entry (nat_eq page) entries))) is
    (IsSome-lookup_from_Contains nat_eq_equiv e.0 (remove_entry (nat_eq page) entries)
    (key_there (remove_entry (nat_eq page) entries) e has))))

at_one : (page other k : ℕ) → k < 1 → get_or (page ∷ []) k other ≡ other → other ≡ page
at_one page other zero lt is = sym is
at_one page other (suc k) lt is = absurd (omega (arith, lt))

in_one : (page other : ℕ) → Contains (page ∷ []) other → other ≡ page
in_one page other has = at_one page other has.0 has.1 has.2

-- a page is changed, and leaves the cache
pub after_removed : (pages : List (Option Sector)) (old new : List ℕ) (entries : List (ℕ × Sector)) (page : ℕ)
    → IsDistinct nat_eq (keys_of entries) → ChangesPage old page new → IsCacheOf pages old entries
    → IsCacheOf pages new (remove_entry (nat_eq page) entries)
after_removed pages old new entries page distinct changes_page is = record {
  right = λ e has. is.right e (Contains-remove_entry (nat_eq page) entries e has);
  unchanged = λ e has changed_pages. ⊎_elim
      (λ same. is.unchanged e (Contains-remove_entry (nat_eq page) entries e has)
      (subst (λ (l : List ℕ). Contains l e.0) same.1 changed_pages))
      (λ more. ⊎_elim (is.unchanged e (Contains-remove_entry (nat_eq page) entries e has))
      (λ last. removed_away entries page e distinct has (in_one page e.0 last))
      (Contains-append_cases old (page ∷ []) e.0 (subst (λ (l : List ℕ). Contains l e.0) more.1 changed_pages)))
      changes_page;
}

-- an entry that was put has its key and its value
put_entry : (entries : List (ℕ × Sector)) (page : ℕ) (bytes : Sector) (e : ℕ × Sector)
    → (e.1 ≡ bytes) × ((e.0 ≡ page) ⊎ ((w : Sector) × Contains entries (e.0, w) × (nat_eq page e.0 ≡ true)))
    → (page ≡ e.0) × (bytes ≡ e.1)
put_entry entries page bytes e put = (sym (put_key entries page e put.1), sym put.0)

-- a change among them changes its page
change_there : (changes : List Change) (c : Change) (page : ℕ) → Contains changes c → c.page ≡ page
    → Contains (changed_pages changes) page
change_there changes c page has is = changed_at changes has.0 page c has.1 (ap (λ (x : Change). x.page) has.2 ∙ is)

-- and its bytes are the page
change_now : (pages : List (Option Sector)) (changes : List Change) (c : Change) (e : ℕ × Sector)
    → NamesOnce (changed_pages changes) → All (λ (c : Change). (0 < c.page) × (c.page < length pages)) changes
    → Contains changes c → c.page ≡ e.0 → c.bytes ≡ Some e.1 → get_or (pages_after pages changes) e.0 None ≡ Some e.1
change_now pages changes c e once bounds has page bytes =
    let i = has.0 in
    let same : get_or changes i c ≡ c = has.2 in
    let low = bounds i c has.1 in
    let number : (get_or changes i c).page ≡ e.0 = ap (λ (x : Change). x.page) same ∙ page in
    let only = is_only changes e.0 i once (λ none. omega (arith, none, number, low.0)) has.1
    (λ d. ap (λ (x : Change). x.page) (get_or_default changes i d c has.1) ∙ number) in
    only_same (λ (o : Option Sector). o) pages changes e.0 i None c only (omega (arith, number, low.1))
    ∙ ap (λ (x : Change). x.bytes) same ∙ bytes

-- a change without bytes, or one whose page was kept or not
pub keeps_none : (c : Change) (cache : LruCache ℕ Sector) → KeepsChanges (c ∷ []) cache cache
keeps_none c cache = record { capacity = refl; entries = λ e has. inl has }

pub keeps_one : (c : Change) (bytes : Sector) (old new : LruCache ℕ Sector) → c.bytes ≡ Some bytes
    → CachesPage c.page bytes old new → KeepsChanges (c ∷ []) old new
keeps_one c bytes old new is kept = ⊎_elim
    (λ same. subst (KeepsChanges (c ∷ []) old) (sym same) (keeps_none c old))
    (λ put. subst (KeepsChanges (c ∷ []) old) (sym put) (record {
      capacity = refl;
      entries = λ e has. ⊎_elim (λ was. inl was)
          (λ new_one. let here = put_entry old.entries c.page bytes e new_one in
          inr (c, Contains-head c [], here.0, is ∙ ap (λ (b : Sector). Some b) here.1))
          (Contains-put_entries nat_eq old c.page bytes e has);
    }))
    kept

-- one change more
pub keeps_more : (changes : List Change) (c : Change) (old between new : LruCache ℕ Sector)
    → KeepsChanges changes old between → KeepsChanges (c ∷ []) between new → KeepsChanges (changes ++ c ∷ []) old new
keeps_more changes c old between new first then = record {
  capacity = then.capacity ∙ first.capacity;
  entries = λ e there. ⊎_elim
      (λ was. ⊎_elim (λ before. inl before)
      (λ one. inr (one.0, Contains-append_left changes (c ∷ []) one.0 one.1, one.2, one.3)) (first.entries e was))
      (λ one. inr (one.0, Contains-append_right changes (c ∷ []) one.0 one.1, one.2, one.3))
      (then.entries e there);
}

-- the changes as pages of the map
pub gathers : (pages : List (Option Sector)) (changes : List Change) (old new : LruCache ℕ Sector)
    → NamesOnce (changed_pages changes) → All (λ (c : Change). (0 < c.page) × (c.page < length pages)) changes
    → KeepsChanges changes old new → Gathers (changed_pages changes) (pages_after pages changes) old new
gathers pages changes old new once bounds keeps = record {
  capacity = keeps.capacity;
  entries = λ e has. ⊎_elim (λ was. inl was)
      (λ one. inr
      (change_there changes one.0 e.0 one.1 one.2, change_now pages changes one.0 e once bounds one.1 one.2 one.3))
      (keeps.entries e has);
}

-- After a commit of what was changed the cache is that of the new pages.
pub after_commit : (pages after : List (Option Sector)) (changes left : List Change) (old new : LruCache ℕ Sector)
    → after ≡ pages_after pages changes → left ≡ [] → Gathers (changed_pages changes) (pages_after pages changes) old
    new → IsCacheOf pages (changed_pages changes) old.entries → IsCacheOf after (changed_pages left) new.entries
after_commit pages after changes left old new next none gathered is = record {
  right = λ e has. ap (λ (l : List (Option Sector)). get_or l e.0 None) next ∙ ⊎_elim
      (λ was. away_same (λ (o : Option Sector). o) pages changes e.0 None
      (λ k d lt same. is.unchanged e was (changed_at changes k e.0 d lt same)) ∙ is.right e was)
      (λ one. one.1)
      (gathered.entries e has);
  unchanged = λ e has.
      subst (λ (l : List Change). Contains (changed_pages l) e.0 → ⊥) (sym none) (λ there. omega (arith, there.1));
}

-- what is seen of a page is the page
pub viewed : (seen : Option (Bor Sector)) (page : Option Sector) → option_copied seen ≡ page
    → IfSome seen (λ bytes. page ≡ Some bytes.now)
viewed None page is = tt
viewed (Some bytes) page is = sym is

-- a page of the cache is the page, where it wasn't changed
pub held_page : (pages : List (Option Sector)) (changed : List ℕ) (entries : List (ℕ × Sector)) (page : ℕ)
    (now : Option Sector) (seen : Option (Bor Sector)) → IsCacheOf pages changed entries →
    option_copied seen ≡ lookup (nat_eq page) entries → now ≡ get_or pages page None
    → IfSome seen (λ bytes. now ≡ Some bytes.now)
held_page pages changed entries page now None cache seen same = tt
held_page pages changed entries page now (Some bytes) cache seen same =
    same ∙ sym (hit_page pages changed entries page bytes.now cache (sym seen))
