-- All chains of a tree are released, one after the other, and then the pages of the tree.
use Rattle.std.proofs.Common.{◌≡◌, ◌<◌, ◌+◌, ◌++◌, ℕ, suc, List, [], ◌∷◌, length, refl, sym, ap, subst, ◌∙◌}
use Rattle.std.proofs.Common.{arith}
use Rattle.std.proofs.Common.{inl, append_assoc, length-append}
use Rattle.std.specs.Prelude.{Contains, Option, Some, None}
use Rattle.std.specs.List.{All}
use Rattle.std.proofs.lemmas.Grind.{flat_map-append}
use Rattle.std.proofs.lemmas.List.{append-nil}
use Rattle.std.proofs.lemmas.List.Elements.{All-head, All-tail, All-append, Contains-append_left}
use Rattle.station.specs.Disk.{Sector}
use Rattle.btree_pages.specs.Keys.{Ascend}
use Rattle.btree.specs.Tree.{TreeNode, IsTreeOrEmpty, pages_of}
use Rattle.btree.specs.Entries.{Entry, first_entry, first_entry_after}
use Rattle.btree.specs.Laws.{keys_listed}
use Rattle.btree.specs.Moves.{Moves, Once}
use Rattle.btree.specs.Rooted.{RootedTree}
use Rattle.btree.proofs.Ascending.{entry_at, first_at, next_at}
use Rattle.btree.proofs.Clearing.{moves_none, moves_both}
use Rattle.btree.proofs.Runs.{once_apart}
use Rattle.btree.proofs.Stays.{tree_stays}
use Rattle.btree.proofs.There.{tree_ascends}
use Rattle.chains.specs.Rows.{HasChain, HasRows, chain_of, chains_of}
use Rattle.chains.proofs.Rows.{rows_release}
use Rattle.volume_format.specs.Chained.{form_of}
use Rattle.volume_format.specs.Forest.{TreeLevels, IsTreeIn, IsForest, pages_under, pages_within, tree_levels}
use Rattle.volume_format.proofs.Forests.{all_left, all_right, forest_moves}
use Rattle.volume_format.proofs.Whole.{whole_grows}
use Rattle.row_trees.specs.RowTree.{ChainedTree, IsRowTreeAmong}
use Rattle.row_trees.proofs.Among.{Stands, stored_in, chains_in, planted_as, pages_planted, forest_among}

-- the entry after one of a list whose keys ascend
at_own : (done : List Entry) (entry : Entry) (more : List Entry)
    → entry_at (length done) (done ++ (entry ∷ more)) ≡ Some entry
at_own [] entry more = refl
at_own (first ∷ done) entry more = at_own done entry more

at_next : (done : List Entry) (entry : Entry) (more : List Entry)
    → entry_at (suc (length done)) (done ++ (entry ∷ more)) ≡ entry_at 0 more
at_next [] entry more = refl
at_next (first ∷ done) entry more = at_next done entry more

pub after_own : (done : List Entry) (entry : Entry) (more : List Entry)
    → Ascend (keys_listed (done ++ (entry ∷ more)))
    → first_entry_after (done ++ (entry ∷ more)) entry.key ≡ first_entry more
after_own done entry more ascend =
    next_at (done ++ (entry ∷ more)) (length done) entry ascend (at_own done entry more) ∙ at_next done entry more
    ∙ sym (first_at more)

-- After some chains were released: the entries that still have theirs, of which the first one is next.
pub record Releasing (before : List (Option Sector)) (rows : ChainedTree) (levels : List (List TreeNode))
    (now : List (Option Sector)) (place : ℕ) (next : Option Entry) : Type 0 where
  pub gone : List ℕ
  pub done : List Entry
  pub rest : List Entry
  pub all : stored_in rows levels ≡ done ++ rest
  pub count : length done ≡ place
  pub next_is : next ≡ first_entry rest
  pub tree : IsTreeOrEmpty rows.tree.layout now rows.tree.root levels
  pub rows_are : HasRows (form_of rows.record_bytes) now (pages_of levels) rest
  pub left : gone ++ chains_of (form_of rows.record_bytes) now rest ≡ chains_in before rows levels
  pub moves : Moves before gone now []

pub releases_start : (before : List (Option Sector)) (rows : ChainedTree) (levels : List (List TreeNode))
    (next : Option Entry) → Stands before rows levels → next ≡ first_entry (stored_in rows levels)
    → Releasing before rows levels before 0 next
releases_start before rows levels next stands is = record {
  gone = [];
  done = [];
  rest = stored_in rows levels;
  all = refl;
  count = refl;
  next_is = is;
  tree = stands.tree;
  rows_are = stands.has;
  left = refl;
  moves = moves_none before;
}

-- the entry that is next, and those after it
pub record NextChain (before : List (Option Sector)) (rows : ChainedTree) (levels : List (List TreeNode))
    (now : List (Option Sector)) (place : ℕ) (entry : Entry) : Type 0 where
  pub state : Releasing before rows levels now place (Some entry)
  pub more : List Entry
  pub rest_is : state.rest ≡ entry ∷ more

next_of : (before : List (Option Sector)) (rows : ChainedTree) (levels : List (List TreeNode))
    (now : List (Option Sector)) (place : ℕ) (entry : Entry)
    (state : Releasing before rows levels now place (Some entry))
    (rest : List Entry) → Some entry ≡ first_entry rest → state.rest ≡ rest
    → NextChain before rows levels now place entry
next_of before rows levels now place entry state [] is same = let never : Some entry ≡ None = is in cc
next_of before rows levels now place entry state (other ∷ more) is same =
    let own : entry ≡ other = cc in
    record { state = state; more = more; rest_is = same ∙ ap (λ (e : Entry). e ∷ more) (sym own) }

pub next_chain : (before : List (Option Sector)) (rows : ChainedTree) (levels : List (List TreeNode))
    (now : List (Option Sector)) (place : ℕ) (entry : Entry) → Releasing before rows levels now place (Some entry)
    → NextChain before rows levels now place entry
next_chain before rows levels now place entry state =
    next_of before rows levels now place entry state state.rest state.next_is refl

-- its chain stands
pub next_stands : (before : List (Option Sector)) (rows : ChainedTree) (levels : List (List TreeNode))
    (now : List (Option Sector)) (place : ℕ) (entry : Entry) → Releasing before rows levels now place (Some entry)
    → HasChain (form_of rows.record_bytes) now entry
next_stands before rows levels now place entry state =
    let here = next_chain before rows levels now place entry state in
    let P : Entry → Type 0 = HasChain (form_of rows.record_bytes) now in
    All-head P entry here.more (subst (λ (l : List Entry). All P l) here.rest_is here.state.rows_are.stand)

-- and after it was released, the tree stands, and the next one is the entry after it
released_tree : (rows : ChainedTree) (levels : List (List TreeNode)) (now after : List (Option Sector)) (entry : Entry)
    (more : List Entry) → IsTreeOrEmpty rows.tree.layout now rows.tree.root levels
    → HasRows (form_of rows.record_bytes) now (pages_of levels) (entry ∷ more)
    → Moves now (chain_of (form_of rows.record_bytes) now entry) after []
    → IsTreeOrEmpty rows.tree.layout after rows.tree.root levels
released_tree rows levels now after entry more tree has moves =
    let own = chain_of (form_of rows.record_bytes) now entry in
    let later = chains_of (form_of rows.record_bytes) now more in
    (tree_stays rows.tree.layout now after own [] rows.tree.root levels moves tree
    (λ page top mine. once_apart (pages_of levels) (own ++ later) has.once page top
    (Contains-append_left own later page mine))).0

pub releases_tree : (before : List (Option Sector)) (rows : ChainedTree) (levels : List (List TreeNode))
    (now after : List (Option Sector)) (place : ℕ) (entry : Entry) → Releasing before rows levels now place (Some entry)
    → Moves now (chain_of (form_of rows.record_bytes) now entry) after []
    → IsTreeOrEmpty rows.tree.layout after rows.tree.root levels
releases_tree before rows levels now after place entry state moves =
    let here = next_chain before rows levels now place entry state in
    released_tree rows levels now after entry here.more state.tree
    (subst (HasRows (form_of rows.record_bytes) now (pages_of levels)) here.rest_is here.state.rows_are) moves

releases_more : (before : List (Option Sector)) (rows : ChainedTree) (levels : List (List TreeNode))
    (now after : List (Option Sector)) (gone : List ℕ) (done : List Entry) (entry : Entry) (more : List Entry)
    (next : Option Entry)
    → stored_in rows levels ≡ done ++ (entry ∷ more)
    → IsTreeOrEmpty rows.tree.layout now rows.tree.root levels
    → HasRows (form_of rows.record_bytes) now (pages_of levels) (entry ∷ more)
    → gone ++ chains_of (form_of rows.record_bytes) now (entry ∷ more) ≡ chains_in before rows levels
    → Moves before gone now [] → Moves now (chain_of (form_of rows.record_bytes) now entry) after []
    → next ≡ first_entry_after (stored_in rows levels) entry.key
    → Releasing before rows levels after (suc (length done)) next
releases_more before rows levels now after gone done entry more next all tree has left moves released is =
    let form = form_of rows.record_bytes in
    let own = chain_of form now entry in
    let later = chains_of form now more in
    let kept = rows_release form now after (pages_of levels) entry more has released in
    record {
      gone = gone ++ own;
      done = done ++ entry ∷ [];
      rest = more;
      all = all ∙ sym (append_assoc done (entry ∷ []) more);
      count = length-append done (entry ∷ []) ∙ (let e : length done + 1 ≡ suc (length done) = omega arith in e);
      next_is = is ∙ ap (λ (l : List Entry). first_entry_after l entry.key) all
          ∙ after_own done entry more
          (subst (λ (l : List Entry). Ascend (keys_listed l)) all
          (tree_ascends rows.tree.layout now rows.tree.root levels tree));
      tree = released_tree rows levels now after entry more tree has released;
      rows_are = kept.rows;
      left = ap (λ (l : List ℕ). (gone ++ own) ++ l) kept.same_pages ∙ append_assoc gone own later ∙ left;
      moves = moves_both before now after gone own moves released;
    }

pub releases_step : (before : List (Option Sector)) (rows : ChainedTree) (levels : List (List TreeNode))
    (now after : List (Option Sector)) (place : ℕ) (entry : Entry) (next : Option Entry)
    → Releasing before rows levels now place (Some entry)
    → Moves now (chain_of (form_of rows.record_bytes) now entry) after []
    → next ≡ first_entry_after (stored_in rows levels) entry.key
    → Releasing before rows levels after (suc place) next
releases_step before rows levels now after place entry next state released is =
    let form = form_of rows.record_bytes in
    let here = next_chain before rows levels now place entry state in
    let was = here.state in
    subst (λ (n : ℕ). Releasing before rows levels after (suc n) next) was.count
    (releases_more before rows levels now after was.gone was.done entry here.more next
    (was.all ∙ ap (λ (l : List Entry). was.done ++ l) here.rest_is) was.tree
    (subst (HasRows form now (pages_of levels)) here.rest_is was.rows_are)
    (ap (λ (l : List Entry). was.gone ++ chains_of form now l) (sym here.rest_is) ∙ was.left) was.moves released is)

-- there is a next one before the end
none_left : (rest : List Entry) → None ≡ first_entry rest → length rest ≡ 0
none_left [] is = refl
none_left (entry ∷ more) is = let never : None ≡ Some entry = is in cc

pub releases_some : (before : List (Option Sector)) (rows : ChainedTree) (levels : List (List TreeNode))
    (now : List (Option Sector)) (place : ℕ) → Releasing before rows levels now place None
    → place < length (stored_in rows levels) → ⊥
releases_some before rows levels now place state low =
    let all : length (stored_in rows levels) ≡ length state.done + length state.rest =
    ap (λ (l : List Entry). length l) state.all ∙ length-append state.done state.rest in
    let none = none_left state.rest state.next_is in
    let count = state.count in
    omega (arith, all, none, count, low)

no_rest : (done rest : List Entry) (n : ℕ) → length (done ++ rest) ≡ n → length done ≡ n → rest ≡ []
no_rest done [] n all count = refl
no_rest done (entry ∷ more) n all count =
    let both = length-append done (entry ∷ more) in absurd (omega (arith, all, count, both))

pub releases_end : (before : List (Option Sector)) (rows : ChainedTree) (levels : List (List TreeNode))
    (now : List (Option Sector)) (place : ℕ) (next : Option Entry) → Releasing before rows levels now place next
    → place ≡ length (stored_in rows levels) → Moves before (chains_in before rows levels) now []
releases_end before rows levels now place next state is =
    let form = form_of rows.record_bytes in
    let none : state.rest ≡ [] = no_rest state.done state.rest place
    (ap (λ (l : List Entry). length l) (sym state.all) ∙ sym is) state.count in
    let gone : state.gone ≡ chains_in before rows levels = sym (append-nil state.gone)
    ∙ ap (λ (l : List Entry). state.gone ++ chains_of form now l) (sym none) ∙ state.left in
    subst (λ (l : List ℕ). Moves before l now []) gone state.moves

-- A tree without pages leaves a forest.
same_within : (left right : List TreeLevels) (tree : TreeLevels) → pages_under tree ≡ []
    → pages_within (left ++ tree ∷ right) ≡ pages_within (left ++ right)
same_within left right tree none =
    flat_map-append pages_under left (tree ∷ right)
    ∙ ap (λ (l : List ℕ). pages_within left ++ (l ++ pages_within right)) none
    ∙ sym (flat_map-append pages_under left right)

pub forest_without : (pages : List (Option Sector)) (left right : List TreeLevels) (tree : TreeLevels)
    → IsForest pages (left ++ tree ∷ right) → pages_under tree ≡ [] → IsForest pages (left ++ right)
forest_without pages left right tree forest none =
    let P = IsTreeIn pages in
    let same = same_within left right tree none in
    record {
      grow = All-append P left right (all_left P left (tree ∷ right) forest.grow)
          (All-tail P tree right (all_right P left (tree ∷ right) forest.grow));
      once = subst Once same forest.once;
      covered = λ page some. subst (λ (l : List ℕ). Contains l page) same (forest.covered page some);
    }

-- The chains and then the pages of the tree are gone.
pub chains_gone : (before mid : List (Option Sector)) (rows : ChainedTree) (levels : List (List TreeNode))
    → Stands before rows levels → Moves before (chains_in before rows levels) mid []
    → IsTreeOrEmpty rows.tree.layout mid rows.tree.root levels
chains_gone before mid rows levels stands moves =
    (tree_stays rows.tree.layout before mid (chains_in before rows levels) [] rows.tree.root levels moves stands.tree
    (once_apart (pages_of levels) (chains_in before rows levels) stands.has.once)).0

pub all_gone : (before mid after : List (Option Sector)) (left right : List TreeLevels) (rows : ChainedTree)
    (entries : List Entry) (is : IsRowTreeAmong before left right rows entries)
    → Moves before (chains_in before rows is.planted.levels) mid [] → Moves mid (pages_of is.planted.levels) after []
    → IsForest after (left ++ right)
all_gone before mid after left right rows entries is first second =
    let levels = is.planted.levels in
    let none : RootedTree = record { layout = rows.tree.layout; root = 0 } in
    forest_without after left right (tree_levels none [])
    (forest_moves before after left right (planted_as before rows levels) (tree_levels none [])
    (forest_among before left right rows entries is)
    (subst (λ (l : List ℕ). Moves before l after []) (sym (pages_planted before rows levels))
    (moves_both before mid after (chains_in before rows levels) (pages_of levels) first second))
    (whole_grows after none [] (inl (refl, refl)))) refl
