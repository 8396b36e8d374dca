-- One page of the changed ones, set and read.
use Rattle.std.proofs.Common.{◌≡◌, ◌≢◌, inr, ◌<◌, ℕ, zero, suc, List, [], ◌∷◌, ◌++◌, ◌==◌, not, length, map, set}
use Rattle.std.proofs.Common.{get_or, refl, sym, ◌∙◌, ap, subst, arith, get_or-set_other, get_or-set_same, length-set}
use Rattle.std.specs.Prelude.{Option, Some, None, Contains, is_some, IfNone, false, true}
use Rattle.std.specs.List.{All}
use Rattle.std.proofs.lemmas.Bool.{false≢true, ne_eqb}
use Rattle.std.proofs.lemmas.List.{set_comm, set-set, set-get_or, map-set, map_push, get_or-map, length-map}
use Rattle.std.proofs.lemmas.List.Elements.{All-head, All-tail}
use Rattle.station.specs.Disk.{Sector}
use Rattle.pages.specs.declared.change.Change.{Change}
use Rattle.pages.specs.Image.{NamesOnce, page_at, pages_in}
use Rattle.pages.specs.Changes.{list_after, mapped_after}
use Rattle.pages.proofs.Marking.{push_once}

abbrev pub Away : ℕ → List Change → Type 0
Away page changes = All (λ (c : Change). c.page ≢ page) changes

pub length-applied : {X : Type 0} (f : Option Sector → X) (pages : List X) (changes : List Change)
    → length (list_after f pages changes) ≡ length pages
length-applied f pages [] = refl
length-applied f pages (c ∷ changes) =
    length-applied f (set pages c.page (f c.bytes)) changes ∙ length-set pages c.page (f c.bytes)

-- a page that no change has
pub away_same : {X : Type 0} (f : Option Sector → X) (pages : List X) (changes : List Change) (page : ℕ) (d : X)
    → Away page changes → get_or (list_after f pages changes) page d ≡ get_or pages page d
away_same f pages [] page d away = refl
away_same f pages (c ∷ changes) page d away =
    away_same f (set pages c.page (f c.bytes)) changes page d (All-tail (λ (x : Change). x.page ≢ page) c changes away)
    ∙ get_or-set_other pages c.page page (f c.bytes) d
    (λ e. All-head (λ (x : Change). x.page ≢ page) c changes away (sym e))

away_set : {X : Type 0} (f : Option Sector → X) (pages : List X) (changes : List Change) (page : ℕ) (x : X)
    → Away page changes → list_after f (set pages page x) changes ≡ set (list_after f pages changes) page x
away_set f pages [] page x away = refl
away_set f pages (c ∷ changes) page x away =
    ap (λ l. list_after f l changes)
    (set_comm pages page c.page x (f c.bytes) (λ e. All-head (λ (y : Change). y.page ≢ page) c changes away (sym e)))
    ∙ away_set f (set pages c.page (f c.bytes)) changes page x (All-tail (λ (y : Change). y.page ≢ page) c changes away)

-- the one change of a page
pub record IsOnly (changes : List Change) (page i : ℕ) : Type 0 where
  pub low : i < length changes
  pub here : (d : Change) → (get_or changes i d).page ≡ page
  pub only : (k : ℕ) (d : Change) → k < length changes → (get_or changes k d).page ≡ page → k ≡ i

only_tail : (c : Change) (changes : List Change) (page i : ℕ) → IsOnly (c ∷ changes) page (suc i)
    → IsOnly changes page i
only_tail c changes page i only = record {
  low = omega (arith, only.low);
  here = λ d. only.here d;
  only = λ k d lt is. omega (arith, only.only (suc k) d (omega (arith, lt)) is);
}

only_away : (c : Change) (changes : List Change) (page : ℕ) → IsOnly (c ∷ changes) page 0 → Away page changes
only_away c changes page only = λ k d lt is. omega (arith, only.only (suc k) d (omega (arith, lt)) is)

-- it is replaced
pub only_set : {X : Type 0} (f : Option Sector → X) (pages : List X) (changes : List Change) (page i : ℕ) (new : Change)
    → IsOnly changes page i → new.page ≡ page
    → list_after f pages (set changes i new) ≡ set (list_after f pages changes) page (f new.bytes)
only_set f pages [] page i new only same = absurd (omega (arith, only.low))
only_set f pages (c ∷ changes) page zero new only same =
    let away = only_away c changes page only in
    ap (λ (p : ℕ). list_after f (set pages p (f new.bytes)) changes) same
    ∙ ap (λ l. list_after f l changes) (sym (ap (λ (p : ℕ). set (set pages p (f c.bytes)) page (f new.bytes))
    (only.here c) ∙ set-set pages page (f c.bytes) (f new.bytes)))
    ∙ away_set f (set pages c.page (f c.bytes)) changes page (f new.bytes) away
only_set f pages (c ∷ changes) page (suc i) new only same =
    only_set f (set pages c.page (f c.bytes)) changes page i new (only_tail c changes page i only) same

-- it is what the page has
pub only_same : {X : Type 0} (f : Option Sector → X) (pages : List X) (changes : List Change)
    (page i : ℕ) (d : X) (e : Change) → IsOnly changes page i → page < length pages
    → get_or (list_after f pages changes) page d ≡ f (get_or changes i e).bytes
only_same f pages changes page i d e only low =
    ap (λ l. get_or l page d) (sym (ap (list_after f pages) (set-get_or changes i e))
    ∙ only_set f pages changes page i (get_or changes i e) only (only.here e))
    ∙ get_or-set_same (list_after f pages changes) page (f (get_or changes i e).bytes) d
    (omega (arith, low, length-applied f pages changes))

-- each page is changed once
pub is_only : (changes : List Change) (page i : ℕ) → NamesOnce (map (λ (c : Change). c.page) changes) → page ≢ 0
    → i < length changes → ((d : Change) → (get_or changes i d).page ≡ page) → IsOnly changes page i
is_only changes page i once some low here = record {
  low = low;
  here = here;
  only = λ k d lt is. once k i (omega (arith, lt, length-map changes (λ (c : Change). c.page)))
      (omega (arith, low, length-map changes (λ (c : Change). c.page)))
      (λ none. some (sym is ∙ sym (get_or-map (λ (c : Change). c.page) changes k d 0 lt) ∙ none))
      (get_or-map (λ (c : Change). c.page) changes k d 0 lt ∙ is ∙ sym (here d)
      ∙ sym (get_or-map (λ (c : Change). c.page) changes i d 0 low));
}

pub same_changed : (changes : List Change) (i : ℕ) (new d : Change)
    → i < length changes → new.page ≡ (get_or changes i d).page
    → map (λ (c : Change). c.page) (set changes i new) ≡ map (λ (c : Change). c.page) changes
same_changed changes i new d low same =
    map-set (λ (c : Change). c.page) changes i new
    ∙ ap (λ (p : ℕ). set (map (λ (c : Change). c.page) changes) i p)
    (same ∙ sym (get_or-map (λ (c : Change). c.page) changes i d 0 low))
    ∙ set-get_or (map (λ (c : Change). c.page) changes) i 0

pub away_changed : (changes : List Change) (page : ℕ) → Away page changes
    → Contains (map (λ (c : Change). c.page) changes) page → ⊥
away_changed [] page away has = omega (arith, has.1)
away_changed (x ∷ changes) page away has =
    let count = length-map (x ∷ changes) (λ (c : Change). c.page) in
    let lt : has.0 < length (x ∷ changes) = omega (arith, has.1, count) in
    away has.0 x lt (sym (get_or-map (λ (c : Change). c.page) (x ∷ changes) has.0 x page lt) ∙ has.2)

pub push_changed : (changes : List Change) (new : Change) → NamesOnce (map (λ (c : Change). c.page) changes)
    → Away new.page changes → NamesOnce (map (λ (c : Change). c.page) (changes ++ new ∷ []))
push_changed changes new once away = subst NamesOnce (sym (map_push (λ (c : Change). c.page) changes new))
    (push_once (map (λ (c : Change). c.page) changes) new.page once (inr (away_changed changes new.page away)))

pub changed_at : (changes : List Change) (i page : ℕ) (d : Change) → i < length changes
    → (get_or changes i d).page ≡ page → Contains (map (λ (c : Change). c.page) changes) page
changed_at changes i page d low here = (
  i,
  omega (arith, low, length-map changes (λ (c : Change). c.page)),
  get_or-map (λ (c : Change). c.page) changes i d page low ∙ here,
)

pub none_from : {T : Type 0} (o : Option T) → is_some o ≡ false → o ≡ None
none_from None is = refl
none_from (Some x) is = absurd (false≢true (sym is))

kept_here : (image : List Sector) (s : ℕ) → is_some (page_at image s) ≡ not (s == 0)
kept_here image zero = refl
kept_here image (suc s) = sym (ap not (ne_eqb (suc s) 0 (λ e. omega (arith, e))))

kept_before : (image : List Sector) (table : List ℕ)
    → map is_some (pages_in image table) ≡ map (λ s. not (s == 0)) table
kept_before image [] = refl
kept_before image (s ∷ table) = rw (kept_here image s) (rw (kept_before image table) refl)

kept_after : (pages : List (Option Sector)) (changes : List Change)
    → map is_some (list_after (λ o. o) pages changes) ≡ list_after is_some (map is_some pages) changes
kept_after pages [] = refl
kept_after pages (c ∷ changes) = kept_after (set pages c.page c.bytes) changes
    ∙ ap (λ l. list_after is_some l changes) (map-set is_some pages c.page c.bytes)

some_at : (pages : List (Option Sector)) (page : ℕ)
    → get_or (map is_some pages) page false ≡ is_some (get_or pages page None)
some_at [] page = refl
some_at (x ∷ pages) zero = refl
some_at (x ∷ pages) (suc page) = some_at pages page

-- whether a page is in the map
pub kept_at : (image : List Sector) (table : List ℕ) (changes : List Change) (page : ℕ)
    → get_or (mapped_after table changes) page false ≡ is_some
    (get_or (list_after (λ o. o) (pages_in image table) changes) page None)
kept_at image table changes page =
    ap (λ l. get_or l page false) (ap (λ l. list_after is_some l changes) (sym (kept_before image table))
    ∙ sym (kept_after (pages_in image table) changes))
    ∙ some_at (list_after (λ o. o) (pages_in image table) changes) page

-- what follows where there is none
pub if_none : {T P Q : Type 0} (o : Option T) → (P → Q) → IfNone o P → IfNone o Q
if_none None f p = f p
if_none (Some x) f p = p

-- a page number that isn't used
pub unused_none : (image : List Sector) (table : List ℕ) (changes : List Change) (page : ℕ)
    → get_or (mapped_after table changes) page false ≡ false
    → get_or (list_after (λ o. o) (pages_in image table) changes) page None ≡ None
unused_none image table changes page is =
    none_from (get_or (list_after (λ o. o) (pages_in image table) changes) page None)
    (sym (kept_at image table changes page) ∙ is)

pub used_some : (image : List Sector) (table : List ℕ) (changes : List Change) (page : ℕ)
    → get_or (mapped_after table changes) page false ≡ true
    → get_or (list_after (λ o. o) (pages_in image table) changes) page None ≡ None → ⊥
used_some image table changes page is none =
    false≢true (sym (ap is_some none) ∙ sym (kept_at image table changes page) ∙ is)
