-- Two changes one after the other: of the pages of lower levels, and then of some pages of the level above them.
use Rattle.std.proofs.Common.{◌≡◌, ◌⊎◌, inl, inr, ⊎_elim, ℕ, List, ◌++◌, sym, ◌∙◌}
use Rattle.std.specs.Prelude.{Contains, Option, None, slice_index_or}
use Rattle.std.proofs.lemmas.List.Elements.{Contains-append_left, Contains-append_right, Contains-append_cases}
use Rattle.station.specs.Disk.{Sector}
use Rattle.btree.specs.Moves.{Moves, Once}
use Rattle.btree.proofs.Runs.{Apart, in_or_not, once_left, once_right, once_apart, once_append}

-- the page of a number, or none
abbrev pub sector_of : List (Option Sector) → ℕ → Option Sector
sector_of pages page = slice_index_or pages page None

-- each of these pages is in the map
abbrev pub There : List (Option Sector) → List ℕ → Type 0
There pages list = (page : ℕ) → Contains list page → sector_of pages page ≡ None → ⊥

-- each of these pages is the same in both
abbrev pub Kept : List (Option Sector) → List (Option Sector) → List ℕ → Type 0
Kept pages after list = (page : ℕ) → Contains list page → sector_of after page ≡ sector_of pages page

-- `low` are the pages of the lower levels, then `low'`; `kept` are those of the level above that stay, and `own` those
-- that change, then `own'`
pub record Turned (one two three : List (Option Sector)) (kept own low own' low' : List ℕ) : Type 0 where
  pub lower : Moves one low two low'
  pub upper : Moves two own three own'
  pub kept_there : There one kept
  pub own_there : There one own
  pub low_there : There two low'
  pub kept_own : Apart kept own
  pub kept_low : Apart kept low
  pub own_low : Apart own low

-- a page that was there, and not in the lower levels, isn't in them afterwards
pub not_lower : (one two : List (Option Sector)) (list low low' : List ℕ) → Moves one low two low' → There one list
    → Apart list low → Apart list low'
not_lower one two list low low' moves there apart page has joined =
    ⊎_elim (λ was. apart page has was) (λ fresh. there page has fresh.1) (moves.joins page joined)

pub kept_by : (one two : List (Option Sector)) (list low low' : List ℕ) → Moves one low two low' → There one list
    → Apart list low → Kept one two list
kept_by one two list low low' moves there apart page has =
    moves.others page (apart page has) (not_lower one two list low low' moves there apart page has)

pub there_after : (one two : List (Option Sector)) (list : List ℕ) → Kept one two list → There one list → There two list
there_after one two list kept there page has none = there page has (sym (kept page has) ∙ none)

-- the pages of the new run aren't in the new lower levels
own_low' : (one two three : List (Option Sector)) (kept own low own' low' : List ℕ)
    → Turned one two three kept own low own' low' → Apart own' low'
own_low' one two three kept own low own' low' t page has lower =
    ⊎_elim (λ was. not_lower one two own low low' t.lower t.own_there t.own_low page was lower)
    (λ fresh. t.low_there page lower fresh.1) (t.upper.joins page has)

kept_own' : (one two three : List (Option Sector)) (kept own low own' low' : List ℕ)
    → Turned one two three kept own low own' low' → Apart kept own'
kept_own' one two three kept own low own' low' t page has new =
    ⊎_elim (λ was. t.kept_own page has was)
    (λ fresh. there_after one two kept (kept_by one two kept low low' t.lower t.kept_there t.kept_low) t.kept_there page
    has fresh.1)
    (t.upper.joins page new)

-- what stays in the level above
pub kept_stays : (one two three : List (Option Sector)) (kept own low own' low' : List ℕ)
    → Turned one two three kept own low own' low' → Kept one three kept
kept_stays one two three kept own low own' low' t page has =
    t.upper.others page (t.kept_own page has) (kept_own' one two three kept own low own' low' t page has)
    ∙ kept_by one two kept low low' t.lower t.kept_there t.kept_low page has

-- what the lower levels became
pub low_stays : (one two three : List (Option Sector)) (kept own low own' low' : List ℕ)
    → Turned one two three kept own low own' low' → Kept two three low'
low_stays one two three kept own low own' low' t page has =
    t.upper.others page (λ was. not_lower one two own low low' t.lower t.own_there t.own_low page was has)
    (λ new. own_low' one two three kept own low own' low' t page new has)

-- both changes together, for lists of the same numbers
pub moves_both : (one two three : List (Option Sector)) (kept own low own' low' : List ℕ)
    → Turned one two three kept own low own' low' → (all all' : List ℕ)
    → ((page : ℕ) → Contains all page → Contains kept page ⊎ (Contains own page ⊎ Contains low page))
    → ((page : ℕ) → Contains kept page ⊎ (Contains own page ⊎ Contains low page) → Contains all page)
    → ((page : ℕ) → Contains all' page → Contains kept page ⊎ (Contains own' page ⊎ Contains low' page))
    → ((page : ℕ) → Contains kept page ⊎ (Contains own' page ⊎ Contains low' page) → Contains all' page)
    → Moves one all three all'
moves_both one two three kept own low own' low' t all all' out in' out' into = record {
  count = t.upper.count ∙ t.lower.count;
  others = λ page before after.
      t.upper.others page (λ has. before (in' page (inr (inl has)))) (λ has. after (into page (inr (inl has))))
      ∙ t.lower.others page (λ has. before (in' page (inr (inr has)))) (λ has. after (into page (inr (inr has))));
  joins = λ page has. ⊎_elim
      (λ stays. inl (in' page (inl stays)))
      (λ rest. ⊎_elim
      (λ new. ⊎_elim
      (λ was. inl (in' page (inr (inl was))))
      (λ fresh. ⊎_elim
      (λ was. inl (in' page (inr (inr was))))
      (λ out. inr (fresh.0, sym (t.lower.others page out (λ lower. t.low_there page lower fresh.1)) ∙ fresh.1))
      (in_or_not low page))
      (t.upper.joins page new))
      (λ lower. ⊎_elim (λ was. inl (in' page (inr (inr was)))) (λ fresh. inr fresh) (t.lower.joins page lower))
      rest)
      (out' page has);
  leaves = λ page has. ⊎_elim
      (λ stays. inl (into page (inl stays)))
      (λ rest. ⊎_elim
      (λ was. ⊎_elim (λ new. inl (into page (inr (inl new)))) (λ gone. inr gone) (t.upper.leaves page was))
      (λ was. ⊎_elim
      (λ lower. inl (into page (inr (inr lower))))
      (λ gone. ⊎_elim
      (λ new. inl (into page (inr (inl new))))
      (λ out. inr (t.upper.others page (λ own. t.own_low page own was) out ∙ gone))
      (in_or_not own' page))
      (t.lower.leaves page was))
      rest)
      (out page has);
}

-- no page stands twice afterwards
pub once_both : (one two three : List (Option Sector)) (left right own low own' low' : List ℕ)
    → Turned one two three (left ++ right) own low own' low'
    → Once (left ++ (own ++ right)) → Once own' → Once low' → Once ((left ++ (own' ++ right)) ++ low')
once_both one two three left right own low own' low' t once new lower =
    let away = kept_own' one two three (left ++ right) own low own' low' t in
    let down = not_lower one two (left ++ right) low low' t.lower t.kept_there t.kept_low in
    let tail = once_right left (own ++ right) once in
    let behind = once_append own' right new (once_right own right tail)
    (λ page has stays. away page (Contains-append_right left right page stays) has) in
    let level = once_append left (own' ++ right) (once_left left (own ++ right) once) behind
    (λ page has rest. ⊎_elim
    (λ own. away page (Contains-append_left left right page has) own)
    (λ stays. once_apart left (own ++ right) once page has (Contains-append_right own right page stays))
    (Contains-append_cases own' right page rest)) in
    once_append (left ++ (own' ++ right)) low' level lower
    (λ page has under. ⊎_elim
    (λ stays. down page (Contains-append_left left right page stays) under)
    (λ rest. ⊎_elim
    (λ mid. own_low' one two three (left ++ right) own low own' low' t page mid under)
    (λ stays. down page (Contains-append_right left right page stays) under)
    (Contains-append_cases own' right page rest))
    (Contains-append_cases left (own' ++ right) page has))
