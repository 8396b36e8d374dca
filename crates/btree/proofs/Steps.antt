-- One level of a change: a run of its nodes is replaced.
use Rattle.std.proofs.Common.{◌≡◌, ◌⊎◌, inl, inr, ⊎_elim, ℕ, List, [], ◌∷◌, ◌++◌, map, refl, sym, ◌∙◌, ap, subst}
use Rattle.std.specs.Prelude.{Contains, Option}
use Rattle.std.specs.List.{All}
use Rattle.std.proofs.lemmas.List.Elements.{Contains-append_left, Contains-append_right, Contains-append_cases}
use Rattle.std.proofs.lemmas.List.Elements.{All-append}
use Rattle.station.specs.Disk.{Sector}
use Rattle.btree_pages.specs.declared.row_layout.RowLayout.{RowLayout}
use Rattle.btree_pages.specs.declared.row_layout.Kind.{Kind}
use Rattle.btree_pages.specs.declared.row_layout.Kind.TheVariants.{Leaf, Inner}
use Rattle.btree.specs.Tree.{TreeNode, row_of, rows_of, IsOnPage, AreJoinedLevels, pages_of}
use Rattle.btree.specs.Moves.{Moves, Once, numbers_of, Became, ReplacesNodes}
use Rattle.btree.proofs.Runs.{in_none, once_left, once_right, once_apart}
use Rattle.btree.proofs.Shifts.{There, Turned, kept_by, kept_stays, low_stays, moves_both, once_both}
use Rattle.btree.proofs.Splices.{numbers_append, Named, rows_replaced, all_still, joined_still, all_there, joined_there}
use Rattle.btree.proofs.Splices.{all_left, all_right}

-- the numbers of a level with a run in it
pub numbers_around : (before run after : List TreeNode)
    → numbers_of (before ++ (run ++ after)) ≡ numbers_of before ++ (numbers_of run ++ numbers_of after)
numbers_around before run after =
    numbers_append before (run ++ after) ∙ ap (λ x. numbers_of before ++ x) (numbers_append run after)

out_of : (a b c d : List ℕ) (page : ℕ) → Contains ((a ++ (b ++ c)) ++ d) page
    → Contains (a ++ c) page ⊎ (Contains b page ⊎ Contains d page)
out_of a b c d page has =
    ⊎_elim
    (λ level. ⊎_elim (λ left. inl (Contains-append_left a c page left)) (λ rest. ⊎_elim (λ mid. inr (inl mid))
    (λ right. inl (Contains-append_right a c page right)) (Contains-append_cases b c page rest))
    (Contains-append_cases a (b ++ c) page level))
    (λ low. inr (inr low))
    (Contains-append_cases (a ++ (b ++ c)) d page has)

into : (a b c d : List ℕ) (page : ℕ) → Contains (a ++ c) page ⊎ (Contains b page ⊎ Contains d page)
    → Contains ((a ++ (b ++ c)) ++ d) page
into a b c d page has =
    ⊎_elim
    (λ stays. Contains-append_left (a ++ (b ++ c)) d page (⊎_elim (λ left. Contains-append_left a (b ++ c) page left)
    (λ right. Contains-append_right a (b ++ c) page (Contains-append_right b c page right))
    (Contains-append_cases a c page stays)))
    (λ rest. ⊎_elim (λ mid. Contains-append_left (a ++ (b ++ c)) d page (Contains-append_right a (b ++ c) page
    (Contains-append_left b c page mid))) (λ low. Contains-append_right (a ++ (b ++ c)) d page low) rest)
    has

-- What a step stands on: the level before it, the pages of lower levels before and after it, and the run that replaces
-- another.
pub record Step (layout : RowLayout) (kind : Kind) (one two three : List (Option Sector))
    (before run run' after : List TreeNode) (low low' : List ℕ) : Type 0 where
  pub stand : All (IsOnPage layout one kind) (before ++ (run ++ after))
  pub once : Once (numbers_of (before ++ (run ++ after)) ++ low)
  pub lower : Moves one low two low'
  pub low_there : There two low'
  pub low_once : Once low'
  pub own : ReplacesNodes layout kind two run three run'

pub turned : (layout : RowLayout) (kind : Kind) (one two three : List (Option Sector)) (before run run' after :
    List TreeNode) (low low' : List ℕ) → Step layout kind one two three before run run' after low low'
    → Turned one two three (numbers_of before ++ numbers_of after) (numbers_of run) low (numbers_of run') low'
turned layout kind one two three before run run' after low low' s =
    let level : Once ((numbers_of before ++ (numbers_of run ++ numbers_of after)) ++ low) =
    subst (λ x. Once (x ++ low)) (numbers_around before run after) s.once in
    let own_level = once_left (numbers_of before ++ (numbers_of run ++ numbers_of after)) low level in
    let down = once_apart (numbers_of before ++ (numbers_of run ++ numbers_of after)) low level in
    let behind = once_right (numbers_of before) (numbers_of run ++ numbers_of after) own_level in
    let rest = all_right (IsOnPage layout one kind) before (run ++ after) s.stand in
    record {
      lower = s.lower;
      upper = s.own.moves;
      kept_there = λ page has none. ⊎_elim
          (λ left. all_there layout one kind before (all_left (IsOnPage layout one kind) before (run ++ after) s.stand)
          page left none)
          (λ right.
          all_there layout one kind after (all_right (IsOnPage layout one kind) run after rest) page right none)
          (Contains-append_cases (numbers_of before) (numbers_of after) page has);
      own_there = all_there layout one kind run (all_left (IsOnPage layout one kind) run after rest);
      low_there = s.low_there;
      kept_own = λ page has mid. ⊎_elim
          (λ left. once_apart (numbers_of before) (numbers_of run ++ numbers_of after) own_level page left
          (Contains-append_left (numbers_of run) (numbers_of after) page mid))
          (λ right. once_apart (numbers_of run) (numbers_of after) behind page mid right)
          (Contains-append_cases (numbers_of before) (numbers_of after) page has);
      kept_low = λ page has under. down page (⊎_elim
          (λ left. Contains-append_left (numbers_of before) (numbers_of run ++ numbers_of after) page left)
          (λ right. Contains-append_right (numbers_of before) (numbers_of run ++ numbers_of after) page
          (Contains-append_right (numbers_of run) (numbers_of after) page right))
          (Contains-append_cases (numbers_of before) (numbers_of after) page has)) under;
      own_low = λ page has under. down page (Contains-append_right (numbers_of before) (numbers_of run
          ++ numbers_of after) page (Contains-append_left (numbers_of run) (numbers_of after) page has)) under;
    }

pub step_moves : (layout : RowLayout) (kind : Kind) (one two three : List (Option Sector)) (before run run' after :
    List TreeNode) (low low' : List ℕ) → Step layout kind one two three before run run' after low low'
    → Moves one (numbers_of (before ++ (run ++ after)) ++ low) three (numbers_of (before ++ (run' ++ after)) ++ low')
step_moves layout kind one two three before run run' after low low' s =
    subst (λ x. Moves one (x ++ low) three (numbers_of (before ++ (run' ++ after)) ++ low'))
    (sym (numbers_around before run after))
    (subst (λ x. Moves one ((numbers_of before ++ (numbers_of run ++ numbers_of after)) ++ low) three (x ++ low'))
    (sym (numbers_around before run' after))
    (moves_both one two three (numbers_of before ++ numbers_of after) (numbers_of run) low (numbers_of run') low'
    (turned layout kind one two three before run run' after low low' s)
    ((numbers_of before ++ (numbers_of run ++ numbers_of after)) ++ low)
    ((numbers_of before ++ (numbers_of run' ++ numbers_of after)) ++ low')
    (out_of (numbers_of before) (numbers_of run) (numbers_of after) low)
    (into (numbers_of before) (numbers_of run) (numbers_of after) low)
    (out_of (numbers_of before) (numbers_of run') (numbers_of after) low')
    (into (numbers_of before) (numbers_of run') (numbers_of after) low')))

pub step_once : (layout : RowLayout) (kind : Kind) (one two three : List (Option Sector)) (before run run' after :
    List TreeNode) (low low' : List ℕ) → Step layout kind one two three before run run' after low low'
    → Once (numbers_of (before ++ (run' ++ after)) ++ low')
step_once layout kind one two three before run run' after low low' s =
    let level : Once ((numbers_of before ++ (numbers_of run ++ numbers_of after)) ++ low) =
    subst (λ x. Once (x ++ low)) (numbers_around before run after) s.once in
    subst (λ x. Once (x ++ low')) (sym (numbers_around before run' after))
    (once_both one two three (numbers_of before) (numbers_of after) (numbers_of run) low (numbers_of run') low'
    (turned layout kind one two three before run run' after low low' s)
    (once_left (numbers_of before ++ (numbers_of run ++ numbers_of after)) low level) s.own.once s.low_once)

pub step_stand : (layout : RowLayout) (kind : Kind) (one two three : List (Option Sector)) (before run run' after :
    List TreeNode) (low low' : List ℕ) → Step layout kind one two three before run run' after low low'
    → All (IsOnPage layout three kind) (before ++ (run' ++ after))
step_stand layout kind one two three before run run' after low low' s =
    let kept = kept_stays one two three (numbers_of before ++ numbers_of after) (numbers_of run) low (numbers_of run')
    low' (turned layout kind one two three before run run' after low low' s) in
    let rest = all_right (IsOnPage layout one kind) before (run ++ after) s.stand in
    All-append (IsOnPage layout three kind) before (run' ++ after)
    (all_still layout one three kind before (λ page has. kept page (Contains-append_left (numbers_of before)
    (numbers_of after) page has)) (all_left (IsOnPage layout one kind) before (run ++ after) s.stand))
    (All-append (IsOnPage layout three kind) run' after s.own.stand
    (all_still layout one three kind after (λ page has. kept page (Contains-append_right (numbers_of before)
    (numbers_of after) page has)) (all_right (IsOnPage layout one kind) run after rest)))

-- The step, where the levels below became others, which the new level names.
pub step_by : (layout : RowLayout) (one two three : List (Option Sector))
    (before run run' after lower lower' : List TreeNode) (more more' : List (List TreeNode))
    → AreJoinedLevels layout one ((before ++ (run ++ after)) ∷ lower ∷ more)
    → Once (pages_of ((before ++ (run ++ after)) ∷ lower ∷ more))
    → Became layout one (lower ∷ more) two (lower' ∷ more')
    → ReplacesNodes layout Inner two run three run'
    → rows_of (before ++ (run' ++ after)) ≡ map (row_of layout) lower'
    → Became layout one ((before ++ (run ++ after)) ∷ lower ∷ more) three ((before ++ (run' ++ after)) ∷ lower' ∷ more')
step_by layout one two three before run run' after lower lower' more more' joined once low own names =
    let under = pages_of (lower ∷ more) in
    let under' = pages_of (lower' ∷ more') in
    let s : Step layout Inner one two three before run run' after under under' =
    record {
      stand = joined.0;
      once = once;
      lower = low.moves;
      low_there = joined_there layout two (lower' ∷ more') low.joined;
      low_once = low.once;
      own = own;
    } in
    record {
      joined = (
        step_stand layout Inner one two three before run run' after under under' s,
        names,
        joined_still layout two three (lower' ∷ more')
            (low_stays one two three (numbers_of before ++ numbers_of after) (numbers_of run) under (numbers_of run')
            under' (turned layout Inner one two three before run run' after under under' s))
            low.joined,
      );
      once = step_once layout Inner one two three before run run' after under under' s;
      moves = step_moves layout Inner one two three before run run' after under under' s;
    }

-- The step, where the next level's `low` became `low'`.
pub step : (layout : RowLayout) (one two three : List (Option Sector)) (before run run' after lower_before low low'
    lower_after : List TreeNode) (more more' : List (List TreeNode)) (left right : List (List ℕ))
    → AreJoinedLevels layout one ((before ++ (run ++ after)) ∷ (lower_before ++ (low ++ lower_after)) ∷ more)
    → Once (pages_of ((before ++ (run ++ after)) ∷ (lower_before ++ (low ++ lower_after)) ∷ more))
    → Became layout one ((lower_before ++ (low ++ lower_after)) ∷ more) two
    ((lower_before ++ (low' ++ lower_after)) ∷ more')
    → ReplacesNodes layout Inner two run three run'
    → Named layout before run run' lower_before low low' left right
    → Became layout one ((before ++ (run ++ after)) ∷ (lower_before ++ (low ++ lower_after)) ∷ more) three
    ((before ++ (run' ++ after)) ∷ (lower_before ++ (low' ++ lower_after)) ∷ more')
step layout one two three before run run' after lower_before low low' lower_after more more' left right joined once
    lower own named =
    step_by layout one two three before run run' after (lower_before ++ (low ++ lower_after))
    (lower_before ++ (low' ++ lower_after)) more more' joined once lower own
    (rows_replaced layout before run run' after lower_before low low' lower_after left right named joined.1)

-- The step at the leaves.
pub step_leaves : (layout : RowLayout) (one three : List (Option Sector)) (before run run' after : List TreeNode)
    → All (IsOnPage layout one Leaf) (before ++ (run ++ after)) → Once (pages_of ((before ++ (run ++ after)) ∷ []))
    → ReplacesNodes layout Leaf one run three run'
    → Became layout one ((before ++ (run ++ after)) ∷ []) three ((before ++ (run' ++ after)) ∷ [])
step_leaves layout one three before run run' after stand once own =
    let s : Step layout Leaf one one three before run run' after [] [] =
    record {
      stand = stand;
      once = once;
      lower = record {
        count = refl;
        others = λ page was is. refl;
        joins = λ page has. absurd (in_none page has);
        leaves = λ page has. absurd (in_none page has);
      };
      low_there = λ page has none. in_none page has;
      low_once = tt;
      own = own;
    } in
    record {
      joined = step_stand layout Leaf one one three before run run' after [] [] s;
      once = step_once layout Leaf one one three before run run' after [] [] s;
      moves = step_moves layout Leaf one one three before run run' after [] [] s;
    }

-- A page of the run that a step replaces is, after the lower levels changed, as it was.
pub own_kept : (layout : RowLayout) (one two : List (Option Sector)) (before run after : List TreeNode)
    (lower lower' : List (List TreeNode))
    → All (IsOnPage layout one Inner) (before ++ (run ++ after)) → Once (pages_of ((before ++ (run ++ after)) ∷ lower))
    → Became layout one lower two lower'
    → All (IsOnPage layout two Inner) (before ++ (run ++ after))
own_kept layout one two before run after lower lower' stand once low =
    all_still layout one two Inner (before ++ (run ++ after))
    (kept_by one two (numbers_of (before ++ (run ++ after)))
    (pages_of lower) (pages_of lower') low.moves (all_there layout one Inner (before ++ (run ++ after)) stand)
    (once_apart (numbers_of (before ++ (run ++ after))) (pages_of lower) once))
    stand
