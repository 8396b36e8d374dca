-- A change of one tree of a forest leaves the others.
use Rattle.std.proofs.Common.{◌≡◌, inl, inr, ⊎_elim, ℕ, List, [], ◌∷◌, ◌++◌, sym, subst, ◌∙◌}
use Rattle.std.specs.Prelude.{Contains, Option}
use Rattle.std.specs.List.{All}
use Rattle.std.proofs.lemmas.List.Elements.{All-head, All-tail, All-cons, All-nil, All-append, Contains-append_left}
use Rattle.std.proofs.lemmas.List.Elements.{Contains-append_right, Contains-append_cases}
use Rattle.std.proofs.lemmas.Grind.{flat_map-append}
use Rattle.station.specs.Disk.{Sector}
use Rattle.btree.specs.Tree.{pages_of}
use Rattle.btree.specs.Laws.{Apart}
use Rattle.btree.specs.Moves.{Moves, Once}
use Rattle.btree.proofs.Runs.{in_none, in_or_not, once_left, once_right, once_apart, once_append}
use Rattle.btree.proofs.Stays.{tree_stays}
use Rattle.chains.specs.Rows.{chains_of}
use Rattle.chains.proofs.Rows.{rows_stay}
use Rattle.volume_format.specs.Chained.{form_of}
use Rattle.volume_format.specs.Forest.{TreeLevels, IsForest, IsTreeIn, stored_entries, pages_within, pages_under}

-- The trees around one that changed.
pub record Around (after : List (Option Sector)) (new : List ℕ) (trees : List TreeLevels) : Type 0 where
  pub grow : All (IsTreeIn after) trees
  pub apart : Apart (pages_within trees) new

-- The pages of a tree and those of its chains may be listed in either order.
pub swapped : (one two : List ℕ) (page : ℕ) → Contains (one ++ two) page → Contains (two ++ one) page
swapped one two page has =
    ⊎_elim (Contains-append_right two one page) (Contains-append_left two one page)
    (Contains-append_cases one two page has)

pub once_swapped : (one two : List ℕ) → Once (one ++ two) → Once (two ++ one)
once_swapped one two once = once_append two one (once_right one two once) (once_left one two once)
    (λ page right left. once_apart one two once page left right)

pub moves_swapped : (before after : List (Option Sector)) (one two three four : List ℕ)
    → Moves before (one ++ two) after (three ++ four) → Moves before (two ++ one) after (four ++ three)
moves_swapped before after one two three four moves = record {
  count = moves.count;
  others = λ page was is.
      moves.others page (λ has. was (swapped one two page has)) (λ has. is (swapped three four page has));
  joins = λ page has.
      ⊎_elim (λ was. inl (swapped one two page was)) (λ free. inr free)
      (moves.joins page (swapped four three page has));
  leaves = λ page has.
      ⊎_elim (λ is. inl (swapped three four page is)) (λ none. inr none) (moves.leaves page (swapped two one page has));
}

-- what is known of a tree with its chains after a change of other pages
pub record Stays (after : List (Option Sector)) (new : List ℕ) (t : TreeLevels) : Type 0 where
  pub grows : IsTreeIn after t
  pub apart : Apart (pages_under t) new

-- the pages of a tree, and those of its chains as they are in the map
listed : (pages : List (Option Sector)) (t : TreeLevels) → IsTreeIn pages t → (page : ℕ)
    → Contains (pages_of t.levels ++ chains_of (form_of t.record_bytes) pages (stored_entries t)) page
    → Contains (pages_under t) page
listed pages t grows page has = swapped (pages_of t.levels) t.chains page
    (subst (λ (l : List ℕ). Contains (pages_of t.levels ++ l) page) (sym grows.chains_are) has)

back : (pages : List (Option Sector)) (t : TreeLevels) → IsTreeIn pages t → (page : ℕ) → Contains (pages_under t) page
    → Contains (pages_of t.levels ++ chains_of (form_of t.record_bytes) pages (stored_entries t)) page
back pages t grows page has = subst (λ (l : List ℕ). Contains (pages_of t.levels ++ l) page) grows.chains_are
    (swapped t.chains (pages_of t.levels) page has)

pub planted_stays : (before after : List (Option Sector)) (old new : List ℕ) (t : TreeLevels)
    → Moves before old after new → IsTreeIn before t → Apart (pages_under t) old → Stays after new t
planted_stays before after old new t moves grows apart =
    let form = form_of t.record_bytes in
    let stands = tree_stays t.tree.layout before after old new t.tree.root t.levels moves grows.stands
    (λ page has. apart page (Contains-append_right t.chains (pages_of t.levels) page has)) in
    let rows = rows_stay form before after old new (pages_of t.levels) (stored_entries t) grows.chained moves
    (λ page has. apart page (listed before t grows page has)) in
    record {
      grows = record {
        stands = stands.0;
        chained = rows.rows;
        chains_are = grows.chains_are ∙ sym rows.same_pages;
        entries_are = grows.entries_are ∙ sym rows.seen_as;
      };
      apart = λ page has. rows.apart page (back before t grows page has);
    }

around : (before after : List (Option Sector)) (old new : List ℕ) (trees : List TreeLevels) → Moves before old after new
    → All (IsTreeIn before) trees → Apart (pages_within trees) old → Around after new trees
around before after old new [] moves grow apart =
    record { grow = All-nil (IsTreeIn after); apart = λ page has. absurd (in_none page has) }
around before after old new (t ∷ trees) moves grow apart =
    let here = planted_stays before after old new t moves (All-head (IsTreeIn before) t trees grow)
    (λ page has. apart page (Contains-append_left (pages_under t) (pages_within trees) page has)) in
    let more = around before after old new trees moves (All-tail (IsTreeIn before) t trees grow)
    (λ page has. apart page (Contains-append_right (pages_under t) (pages_within trees) page has)) in
    record {
      grow = All-cons (IsTreeIn after) t trees here.grows more.grow;
      apart = λ page has. ⊎_elim (here.apart page) (more.apart page)
          (Contains-append_cases (pages_under t) (pages_within trees) page has);
    }

pub all_left : {X : Type 0} (P : X → Type 0) (xs ys : List X) → All P (xs ++ ys) → All P xs
all_left P [] ys all = All-nil P
all_left P (x ∷ xs) ys all =
    All-cons P x xs (All-head P x (xs ++ ys) all) (all_left P xs ys (All-tail P x (xs ++ ys) all))

pub all_right : {X : Type 0} (P : X → Type 0) (xs ys : List X) → All P (xs ++ ys) → All P ys
all_right P [] ys all = all
all_right P (x ∷ xs) ys all = all_right P xs ys (All-tail P x (xs ++ ys) all)

pub once_of : (pages : List (Option Sector)) (t : TreeLevels) → IsTreeIn pages t → Once (pages_under t)
once_of pages t grows = once_swapped (pages_of t.levels) t.chains
    (subst (λ (l : List ℕ). Once (pages_of t.levels ++ l)) (sym grows.chains_are) grows.chained.once)

within : (left right : List TreeLevels) (t : TreeLevels)
    → pages_within (left ++ t ∷ right) ≡ pages_within left ++ (pages_under t ++ pages_within right)
within left right t = flat_map-append pages_under left (t ∷ right)

pub forest_moves : (before after : List (Option Sector)) (left right : List TreeLevels) (old new : TreeLevels) →
    IsForest before (left ++ old ∷ right) → Moves before (pages_under old) after (pages_under new)
    → IsTreeIn after new →
    IsForest after (left ++ new ∷ right)
forest_moves before after left right old new forest moves grows =
    let L = pages_within left in
    let R = pages_within right in
    let O = pages_under old in
    let N = pages_under new in
    let once : Once (L ++ (O ++ R)) = subst Once (within left right old) forest.once in
    let l_all : Apart L (O ++ R) = once_apart L (O ++ R) once in
    let o_r : Apart O R = once_apart O R (once_right L (O ++ R) once) in
    let l_r : Apart L R = λ page one two. l_all page one (Contains-append_right O R page two) in
    let lefts = around before after O N left moves (all_left (IsTreeIn before) left (old ∷ right) forest.grow)
    (λ page one two. l_all page one (Contains-append_left O R page two)) in
    let rights = around before after O N right moves (All-tail (IsTreeIn before) old right
    (all_right (IsTreeIn before) left (old ∷ right) forest.grow)) (λ page one two. o_r page two one) in
    record {
      grow = All-append (IsTreeIn after) left (new ∷ right) lefts.grow
          (All-cons (IsTreeIn after) new right grows rights.grow);
      once = subst Once (sym (within left right new))
          (once_append L (N ++ R) (once_left L (O ++ R) once)
          (once_append N R (once_of after new grows) (once_right O R (once_right L (O ++ R) once))
          (λ page one two. rights.apart page two one))
          (λ page one two. ⊎_elim (lefts.apart page one) (l_r page one) (Contains-append_cases N R page two)));
      covered = λ page some. subst (λ (ns : List ℕ). Contains ns page) (sym (within left right new))
          (⊎_elim
          (λ has. Contains-append_right L (N ++ R) page (Contains-append_left N R page has))
          (λ out.
          ⊎_elim
          (λ was. ⊎_elim (λ has. absurd (out has)) (λ none. absurd (some none)) (moves.leaves page was))
          (λ other.
          let same = moves.others page other out in
          let has : Contains (L ++ (O ++ R)) page = subst (λ (ns : List ℕ). Contains ns page) (within left right old)
          (forest.covered page (λ none. some (same ∙ none))) in
          ⊎_elim (λ one. Contains-append_left L (N ++ R) page one)
          (λ rest. ⊎_elim (λ two. absurd (other two)) (λ three. Contains-append_right L (N ++ R) page
          (Contains-append_right N R page three)) (Contains-append_cases O R page rest))
          (Contains-append_cases L (O ++ R) page has))
          (in_or_not O page))
          (in_or_not N page));
    }
