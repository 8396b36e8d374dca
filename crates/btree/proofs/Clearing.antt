-- Pages that leave the map.
use Rattle.pages.specs.Pages.{KeepsCommitted}
use Rattle.std.proofs.Common.{◌≡◌, inr, ⊎_elim, ◌≤◌, ◌<◌, ◌+◌, ◌^◌, ℕ, List, [], ◌∷◌, ◌++◌, length, map, take, drop}
use Rattle.std.proofs.Common.{set, refl, sym, ap, subst, ◌∙◌, arith, length-set, get_or-set_same, get_or-set_other}
use Rattle.std.specs.Prelude.{Contains, slice_index_or, Option, Some, None}
use Rattle.std.specs.List.{All}
use Rattle.std.proofs.lemmas.List.{map-append, append-nil, take_more, take-append-drop, length-append, length-map}
use Rattle.std.proofs.lemmas.List.{get_or-map}
use Rattle.std.proofs.lemmas.List.Elements.{All-head, All-tail, All-nil, Contains-append_left, Contains-append_right}
use Rattle.std.proofs.lemmas.List.Elements.{Contains-append_cases}
use Rattle.byteorder.specs.Endian.{big_bytes, big_number}
use Rattle.byteorder.specs.Numbers.{big_number-reads_back}
use Rattle.station.specs.Disk.{Sector}
use Rattle.pages.specs.declared.page_map.PageMap.{PageMap}
use Rattle.btree_pages.specs.declared.row_layout.RowLayout.{RowLayout}
use Rattle.btree_pages.specs.declared.row_layout.Kind.{Kind}
use Rattle.btree_pages.specs.declared.row_layout.Kind.TheVariants.{Leaf, Inner}
use Rattle.btree_pages.specs.Node.{Node}
use Rattle.btree_pages.specs.Keys.{child_of}
use Rattle.btree.specs.Tree.{TreeNode, row_of, rows_of, node_at, IsOnPage, pages_of, IsTree}
use Rattle.btree.specs.Laws.{IsSmall}
use Rattle.btree.specs.Propagates.{node_with}
use Rattle.btree.specs.Clears.{HasPages, levels_below, IsDown}
use Rattle.btree.specs.Moves.{Moves, Once, numbers_of}
use Rattle.btree.proofs.Runs.{in_none, in_cases, in_or_not, once_from_pairs, pairs_from_once, once_left, once_right}
use Rattle.btree.proofs.Runs.{once_apart}
use Rattle.btree.proofs.Order.{all_left, all_right}
use Rattle.btree.proofs.Levels.{HasRows, joined_have_rows, rest_of_row}
use Rattle.btree.proofs.Depth.{few_numbers, twice}
use Rattle.btree.proofs.Descents.{kind_read}
use Rattle.btree.proofs.Shifts.{Kept}
use Rattle.btree.proofs.Splices.{rows_append, joined_still}
use Rattle.btree.proofs.TreeNodes.{RootNode}

-- What stays, from call to call.
pub keeps_still : (p : PageMap) → KeepsCommitted p p
keeps_still p = record {
  committed = record { volume = refl; mark = refl; spent = refl };
  catalog = refl;
  agrees = λ disk agrees. agrees;
}

pub keeps_on : (one two three : PageMap) → KeepsCommitted one two → KeepsCommitted two three → KeepsCommitted one three
keeps_on one two three first second = record {
  committed = record {
    volume = second.committed.volume ∙ first.committed.volume;
    mark = second.committed.mark ∙ first.committed.mark;
    spent = second.committed.spent ∙ first.committed.spent;
  };
  catalog = second.catalog ∙ first.catalog;
  agrees = λ disk agrees. second.agrees disk (first.agrees disk agrees);
}

-- No page leaves, one does, and some after others.
pub moves_none : (pages : List (Option Sector)) → Moves pages [] pages []
moves_none pages = record {
  count = refl;
  others = λ page was is. refl;
  joins = λ page has. absurd (in_none page has);
  leaves = λ page has. absurd (in_none page has);
}

pub moves_one : (pages after : List (Option Sector)) (page : ℕ) → page < length pages → after ≡ set pages page None
    → Moves pages (page ∷ []) after []
moves_one pages after page low is = record {
  count = ap length is ∙ length-set pages page None;
  others = λ other was left.
      let apart : other ≡ page → ⊥ = λ same. was (0, omega arith, sym same) in
      ap (λ (p : List (Option Sector)). slice_index_or p other None) is
      ∙ get_or-set_other pages page other None None apart;
  joins = λ other has. absurd (in_none other has);
  leaves = λ other has. inr
      (⊎_elim (λ same. ap (λ (p : List (Option Sector)). slice_index_or p other None) is
      ∙ ap (λ (n : ℕ). slice_index_or (set pages page None) n None) same ∙ get_or-set_same pages page None None low)
      (λ past. absurd (in_none other past)) (in_cases page [] other has));
}

gone_after : (two three : List (Option Sector)) (ys : List ℕ) (page : ℕ) → Moves two ys three []
    → slice_index_or two page None ≡ None → slice_index_or three page None ≡ None
gone_after two three ys page moves none =
    ⊎_elim (λ has. ⊎_elim (λ past. absurd (in_none page past)) (λ gone. gone) (moves.leaves page has))
    (λ out. moves.others page out (in_none page) ∙ none) (in_or_not ys page)

pub moves_both : (one two three : List (Option Sector)) (xs ys : List ℕ) → Moves one xs two [] → Moves two ys three []
    → Moves one (xs ++ ys) three []
moves_both one two three xs ys first second = record {
  count = second.count ∙ first.count;
  others = λ page was left. second.others page (λ has. was (Contains-append_right xs ys page has)) (in_none page)
      ∙ first.others page (λ has. was (Contains-append_left xs ys page has)) (in_none page);
  joins = λ page has. absurd (in_none page has);
  leaves = λ page has. inr
      (⊎_elim (λ left.
      ⊎_elim (λ past. absurd (in_none page past)) (gone_after two three ys page second) (first.leaves page left))
      (λ right. ⊎_elim (λ past. absurd (in_none page past)) (λ gone. gone) (second.leaves page right))
      (Contains-append_cases xs ys page has));
}

pub moves_next : (numbers : List ℕ) (place : ℕ) (one two three : List (Option Sector)) → place < length numbers
    → slice_index_or numbers place 0 < length two → Moves one (take place numbers) two []
    → three ≡ set two (slice_index_or numbers place 0) None → Moves one (take (place + 1) numbers) three []
moves_next numbers place one two three low within first is =
    subst (λ (xs : List ℕ). Moves one xs three []) (sym (take_more numbers place 0 low))
    (moves_both one two three (take place numbers) (slice_index_or numbers place 0 ∷ []) first
    (moves_one two three (slice_index_or numbers place 0) within is))

-- The nodes of some pages, place by place.
pub page_at : (level : List TreeNode) (numbers : List ℕ) (place : ℕ) (none : TreeNode) → numbers_of level ≡ numbers
    → place < length level → (slice_index_or level place none).page ≡ slice_index_or numbers place 0
page_at level numbers place none is low = sym (get_or-map (λ (node : TreeNode). node.page) level place none 0 low)
    ∙ ap (λ (xs : List ℕ). slice_index_or xs place 0) is

pub as_many : (level : List TreeNode) (numbers : List ℕ) → numbers_of level ≡ numbers → length level ≡ length numbers
as_many level numbers is = sym (length-map level (λ (node : TreeNode). node.page)) ∙ ap length is

pub children_more : (layout : RowLayout) (level : List TreeNode) (place : ℕ) (none : TreeNode)
    (rows : List (List ℕ)) (old new : List ℕ) → place < length level → (slice_index_or level place none).rows ≡ rows
    → old ≡ map (child_of layout) (rows_of (take place level))
    → new ≡ old ++ map (child_of layout) rows → new ≡ map (child_of layout) (rows_of (take (place + 1) level))
children_more layout level place none rows old new low same is pushed =
    pushed ∙ ap (λ (xs : List ℕ). xs ++ map (child_of layout) rows) is
    ∙ sym (map-append (child_of layout) (rows_of (take place level)) rows)
    ∙ ap (λ (xs : List (List ℕ)). map (child_of layout) (rows_of (take place level) ++ xs))
    (sym same ∙ sym (append-nil (slice_index_or level place none).rows))
    ∙ ap (map (child_of layout)) (sym (rows_append (take place level) (slice_index_or level place none ∷ []))
    ∙ ap rows_of (sym (take_more level place none low)))

-- The first nodes of a level have no more rows than the level.
rows_of_some : (level : List TreeNode) (place : ℕ) → length (rows_of (take place level)) ≤ length (rows_of level)
rows_of_some level place =
    let all : length (rows_of (take place level)) + length (rows_of (drop place level)) ≡ length (rows_of level) =
    sym (length-append (rows_of (take place level)) (rows_of (drop place level)))
    ∙ ap length (sym (rows_append (take place level) (drop place level)) ∙ ap rows_of (take-append-drop place level)) in
    omega arith

pub few_children : (layout : RowLayout) (level : List TreeNode) (place : ℕ) (children : List ℕ)
    → children ≡ map (child_of layout) (rows_of (take place level)) → length children ≤ length (rows_of level)
few_children layout level place children is =
    let count = ap length is ∙ length-map (rows_of (take place level)) (child_of layout) in
    let some = rows_of_some level place in
    omega arith

-- The first level.
none_there : (layout : RowLayout) (pages : List (Option Sector)) (kind : Kind) (level : List TreeNode)
    (numbers : List ℕ) → numbers_of level ≡ numbers → 0 < length level → All (IsOnPage layout pages kind) level
    → RootNode layout pages (slice_index_or numbers 0 0)
none_there layout pages kind level numbers is some stand = record {
  kind = kind;
  node = slice_index_or level 0 (node_with 0 []);
  page = page_at level numbers 0 (node_with 0 []) is some;
  stands = stand 0 (node_with 0 []) some;
}

pub first_node : (layout : RowLayout) (pages : List (Option Sector)) (numbers : List ℕ) (levels : List (List TreeNode))
    → 0 < length numbers → IsDown layout pages numbers levels → RootNode layout pages (slice_index_or numbers 0 0)
first_node layout pages numbers [] some down = let count = ap length down.top in absurd (omega arith)
first_node layout pages numbers (leaves ∷ []) some down =
    none_there layout pages Leaf leaves numbers down.top.0 down.top.1 down.joined
first_node layout pages numbers (upper ∷ lower ∷ more) some down =
    none_there layout pages Inner upper numbers down.top.0 down.top.1 down.joined.0

first_kind : (layout : RowLayout) (pages : List (Option Sector)) (kind : Kind) (level : List TreeNode) (numbers :
    List ℕ) (node : Node) → numbers_of level ≡ numbers → 0 < length level → All (IsOnPage layout pages kind) level
    → node_at layout pages (slice_index_or numbers 0 0) ≡ Some node → kind ≡ node.kind
first_kind layout pages kind level numbers node is some stand read =
    let none : TreeNode = node_with 0 [] in
    kind_read layout pages kind (slice_index_or level 0 none) (slice_index_or numbers 0 0) node
    (page_at level numbers 0 none is some) (stand 0 none some) read

-- nothing is below leaves
pub below_leaves : (layout : RowLayout) (pages : List (Option Sector)) (numbers : List ℕ)
    (levels : List (List TreeNode)) (node : Node) → 0 < length numbers → IsDown layout pages numbers levels
    → node_at layout pages (slice_index_or numbers 0 0) ≡ Some node → node.kind ≡ Leaf
    → HasPages [] (levels_below levels)
below_leaves layout pages numbers [] node some down read leaf = refl
below_leaves layout pages numbers (leaves ∷ []) node some down read leaf = refl
below_leaves layout pages numbers (upper ∷ lower ∷ more) node some down read leaf =
    let clash : Inner ≡ Leaf =
    first_kind layout pages Inner upper numbers node down.top.0 down.top.1 down.joined.0 read ∙ leaf in
    cc

child_of_row : (layout : RowLayout) (node : TreeNode) → HasRows layout node → node.page < 2 ^ 32
    → child_of layout (row_of layout node) ≡ node.page
child_of_row layout node has small =
    ap (big_number 4) (rest_of_row layout node has ∙ sym (append-nil (big_bytes 4 node.page)))
    ∙ big_number-reads_back 4 node.page [] small

child_numbers : (layout : RowLayout) (level : List TreeNode) → All (HasRows layout) level → All (λ page. page < 2 ^ 32)
    (numbers_of level) → map (child_of layout) (map (row_of layout) level) ≡ numbers_of level
child_numbers layout [] all small = refl
child_numbers layout (node ∷ level) all small =
    let P : ℕ → Type 0 = λ page. page < 2 ^ 32 in
    let page : child_of layout (row_of layout node) ≡ node.page =
    child_of_row layout node (All-head (HasRows layout) node level all)
    (All-head P node.page (numbers_of level) small) in
    ap (λ (n : ℕ). n ∷ map (child_of layout) (map (row_of layout) level)) page
    ∙ ap (λ (xs : List ℕ). node.page ∷ xs) (child_numbers layout level (All-tail (HasRows layout) node level all)
    (All-tail P node.page (numbers_of level) small))

some_names : (layout : RowLayout) (pages : List (Option Sector)) (level lower : List TreeNode) → 0 < length level
    → All (IsOnPage layout pages Inner) level → rows_of level ≡ map (row_of layout) lower → 0 < length lower
some_names layout pages level lower some stand names =
    let count : length (rows_of level) ≡ length lower = ap length names ∙ length-map lower (row_of layout) in
    let double = twice layout pages level stand in
    omega arith

-- the pages below are distinct and in the map, so they are no more than it has numbers
few_names : (layout : RowLayout) (pages : List (Option Sector)) (numbers : List ℕ) (upper lower : List TreeNode) (more :
    List (List TreeNode)) → IsDown layout pages numbers (upper ∷ lower ∷ more) → length (rows_of upper) ≤ length pages
few_names layout pages numbers upper lower more down =
    let B : ℕ → Type 0 = λ page. (0 < page) × (page < length pages) in
    let once : Once (numbers_of lower) =
    once_left (numbers_of lower) (pages_of more) (once_right (numbers_of upper) (pages_of (lower ∷ more)) down.once) in
    let between : All B (numbers_of lower) = all_left B (numbers_of lower) (pages_of more)
    (all_right B (numbers_of upper) (pages_of (lower ∷ more)) down.between) in
    let few : length (numbers_of lower) ≤ length pages = few_numbers (length pages) (numbers_of lower)
    (pairs_from_once (numbers_of lower) once) (λ k d low. (between k d low).1) in
    let pages_below = length-map lower (λ (node : TreeNode). node.page) in
    let names = ap length down.joined.1 ∙ length-map lower (row_of layout) in
    omega arith

-- what is below inner pages
pub record InnerTop (layout : RowLayout) (pages : List (Option Sector)) (numbers : List ℕ)
    (below : List (List TreeNode)) : Type 0 where
  pub level : List TreeNode
  pub stand : All (IsOnPage layout pages Inner) level
  pub is : numbers_of level ≡ numbers
  pub few : length (rows_of level) ≤ length pages
  pub next : IsSmall pages → HasPages (map (child_of layout) (rows_of level)) below

pub below_inner : (layout : RowLayout) (pages : List (Option Sector)) (numbers : List ℕ) (levels : List (List TreeNode))
    (node : Node) → 0 < length numbers → IsDown layout pages numbers levels
    → node_at layout pages (slice_index_or numbers 0 0) ≡ Some node → node.kind ≡ Inner
    → InnerTop layout pages numbers (levels_below levels)
below_inner layout pages numbers [] node some down read inner = let count = ap length down.top in absurd (omega arith)
below_inner layout pages numbers (leaves ∷ []) node some down read inner =
    let clash : Leaf ≡ Inner =
    first_kind layout pages Leaf leaves numbers node down.top.0 down.top.1 down.joined read ∙ inner in
    cc
below_inner layout pages numbers (upper ∷ lower ∷ more) node some down read inner = record {
  level = upper;
  stand = down.joined.0;
  is = down.top.0;
  few = few_names layout pages numbers upper lower more down;
  next = λ few.
      let B : ℕ → Type 0 = λ page. (0 < page) × (page < length pages) in
      let between : All B (numbers_of lower) = all_left B (numbers_of lower) (pages_of more)
      (all_right B (numbers_of upper) (pages_of (lower ∷ more)) down.between) in
      let small : All (λ page. page < 2 ^ 32) (numbers_of lower) = λ k d low. let within =
      (between k d low).1 in omega arith in (
        sym (ap (map (child_of layout)) down.joined.1
            ∙ child_numbers layout lower (joined_have_rows layout pages lower more down.joined.2) small),
        some_names layout pages upper lower down.top.1 down.joined.0 down.joined.1,
      );
}

-- The levels below the first one stay when its pages leave.
pub down_after :
    (layout : RowLayout) (one two : List (Option Sector)) (numbers lower : List ℕ) (levels : List (List TreeNode))
    → IsDown layout one numbers levels → HasPages lower (levels_below levels) → Moves one numbers two []
    → IsDown layout two lower (levels_below levels)
down_after layout one two numbers lower [] down top moves =
    record { top = top; joined = tt; once = tt; between = All-nil (λ page. (0 < page) × (page < length two)) }
down_after layout one two numbers lower (leaves ∷ []) down top moves =
    record { top = top; joined = tt; once = tt; between = All-nil (λ page. (0 < page) × (page < length two)) }
down_after layout one two numbers lower (upper ∷ next ∷ more) down top moves =
    let B : ℕ → Type 0 = λ page. (0 < page) × (page < length one) in
    let kept : Kept one two (pages_of (next ∷ more)) =
    λ page has. moves.others page (λ own. once_apart (numbers_of upper) (pages_of (next ∷ more)) down.once page
    (subst (λ (xs : List ℕ). Contains xs page) (sym down.top.0) own) has) (in_none page) in
    record {
      top = top;
      joined = joined_still layout one two (next ∷ more) kept down.joined.2;
      once = once_right (numbers_of upper) (pages_of (next ∷ more)) down.once;
      between = subst (λ (n : ℕ). All (λ page. (0 < page) × (page < n)) (pages_of (next ∷ more))) (sym moves.count)
          (all_right B (numbers_of upper) (pages_of (next ∷ more)) down.between);
    }

-- then theirs leave
pub cleared_after :
    (layout : RowLayout) (one two three : List (Option Sector)) (numbers : List ℕ) (levels : List (List TreeNode))
    → IsDown layout one numbers levels → Moves one numbers two [] → Moves two (pages_of (levels_below levels)) three []
    → Moves one (pages_of levels) three []
cleared_after layout one two three numbers [] down first second =
    moves_both one two three [] [] (subst (λ (xs : List ℕ). Moves one xs two []) down.top first) second
cleared_after layout one two three numbers (top ∷ more) down first second =
    moves_both one two three (numbers_of top) (pages_of more)
    (subst (λ (xs : List ℕ). Moves one xs two []) (sym down.top.0) first) second

-- each page of the first level has a number of the map
pub top_between : (layout : RowLayout) (pages : List (Option Sector)) (numbers : List ℕ) (levels : List (List TreeNode))
    → IsDown layout pages numbers levels → All (λ page. (0 < page) × (page < length pages)) numbers
top_between layout pages numbers [] down = subst (All (λ page. (0 < page) × (page < length pages))) (sym down.top)
    (All-nil (λ page. (0 < page) × (page < length pages)))
top_between layout pages numbers (top ∷ more) down =
    let B : ℕ → Type 0 = λ page. (0 < page) × (page < length pages) in
    subst (All B) down.top.0 (all_left B (numbers_of top) (pages_of more) down.between)

-- levels without pages are none
pub no_levels : (layout : RowLayout) (pages : List (Option Sector)) (numbers : List ℕ) (levels : List (List TreeNode))
    → numbers ≡ [] → IsDown layout pages numbers levels → levels ≡ []
no_levels layout pages numbers [] none down = refl
no_levels layout pages numbers (top ∷ more) none down =
    let count = as_many top numbers down.top.0 in
    let some = down.top.1 in
    let zero = ap length none in
    absurd (omega arith)

pub fewer_levels :
    (layout : RowLayout) (pages : List (Option Sector)) (numbers : List ℕ) (levels : List (List TreeNode))
    → 0 < length numbers → IsDown layout pages numbers levels → length (levels_below levels) + 1 ≡ length levels
fewer_levels layout pages numbers [] some down = let count = ap length down.top in absurd (omega arith)
fewer_levels layout pages numbers (top ∷ more) some down = omega arith

-- A tree is the levels from its root down.
pub tree_down : (layout : RowLayout) (pages : List (Option Sector)) (root : ℕ) (levels : List (List TreeNode))
    → IsTree layout pages root levels → IsDown layout pages (root ∷ []) levels
tree_down layout pages root [] tree = absurd tree.top
tree_down layout pages root (top ∷ more) tree = record {
  top = (
    ap numbers_of tree.top.1 ∙ ap (λ (page : ℕ). page ∷ []) tree.top.2,
    (let count : length top ≡ 1 = ap length tree.top.1 in omega arith),
  );
  joined = tree.joined;
  once = once_from_pairs (pages_of (top ∷ more)) tree.once;
  between = tree.numbers;
}
