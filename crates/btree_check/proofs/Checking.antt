-- Levels that were checked, one below the other.
use Rattle.std.proofs.Common.{◌≡◌, ◌≤◌, ◌<◌, ◌+◌, ◌^◌, ℕ, Bool, List, [], ◌∷◌, ◌++◌, length, length-append, map, take}
use Rattle.std.proofs.Common.{drop, refl, sym, ap, subst, ◌∙◌, arith}
use Rattle.std.specs.Prelude.{slice_index_or, Option, Some}
use Rattle.std.specs.List.{All}
use Rattle.std.proofs.lemmas.List.{append-nil, length-map, take-map, take-append-drop}
use Rattle.std.proofs.lemmas.List.Elements.{All-head, All-tail, Contains-get_or}
use Rattle.byteorder.specs.Endian.{big_bytes, big_number}
use Rattle.byteorder.specs.Numbers.{big_number-reads_back}
use Rattle.station.specs.Disk.{Sector}
use Rattle.btree_pages.specs.declared.row_layout.RowLayout.{RowLayout}
use Rattle.btree_pages.specs.declared.row_layout.Kind.{Kind}
use Rattle.btree_pages.specs.declared.row_layout.Kind.TheVariants.{Leaf, Inner}
use Rattle.btree_pages.specs.Node.{Node}
use Rattle.btree_pages.specs.Keys.{key_of, child_of}
use Rattle.btree_check.specs.declared.separator.Separator.{Separator}
use Rattle.btree.specs.Tree.{TreeNode, least_key, row_of, rows_of, node_at, node_of, IsOnPage, IsTree, pages_of}
use Rattle.btree.specs.Moves.{numbers_of}
use Rattle.btree.specs.Propagates.{node_with}
use Rattle.btree_check.specs.Walks.{separator_of, separator_in, separator_row, separator_pages, IsUnmarked, CanMark}
use Rattle.btree_check.specs.Walks.{Marks, HasSeparator, IsLevel, Lists, IsUnder, FindsLevels}
use Rattle.btree.proofs.Order.{Up, all_left, all_right}
use Rattle.btree.proofs.Levels.{HasRows, joined_have_rows, key_of_row, rest_of_row}
use Rattle.btree.proofs.Descents.{rows_read, kind_read}
use Rattle.btree.proofs.Runs.{once_from_pairs, pairs_from_once}
use Rattle.btree.proofs.Splices.{joined_there, rows_append}
use Rattle.btree.proofs.Writes.{is_low}
use Rattle.btree_check.proofs.Marking.{can_left, can_right, can_after, marks_append, few_can}
use Rattle.btree_check.proofs.Walking.{level_next, rows_more, named_node}

-- The pages of a level, and its rows in the level above, from its names.
pages_of_separators : (layout : RowLayout) (level : List TreeNode)
    → numbers_of level ≡ separator_pages (map (separator_of layout) level)
pages_of_separators layout [] = refl
pages_of_separators layout (node ∷ level) = ap (λ (xs : List ℕ). node.page ∷ xs) (pages_of_separators layout level)

pub level_pages : (layout : RowLayout) (pages : List (Option Sector)) (kind : Kind) (separators : List Separator)
    (level : List TreeNode) → IsLevel layout pages kind separators level → numbers_of level ≡ separator_pages separators
level_pages layout pages kind separators level is = pages_of_separators layout level ∙ ap separator_pages is.named

rows_of_separators : (layout : RowLayout) (level : List TreeNode)
    → map separator_row (map (separator_of layout) level) ≡ map (row_of layout) level
rows_of_separators layout [] = refl
rows_of_separators layout (node ∷ level) =
    ap (λ (xs : List (List ℕ)). row_of layout node ∷ xs) (rows_of_separators layout level)

-- Levels were found: the leaves, and a level above others.
pub finds_leaves : (layout : RowLayout) (pages : List (Option Sector)) (separators : List Separator)
    (old new : List Bool) (level : List TreeNode) → IsLevel layout pages Leaf separators level
    → Up layout (rows_of level) → Marks old (separator_pages separators) new
    → FindsLevels layout pages separators old new
finds_leaves layout pages separators old new level is up marks = record {
  levels = level ∷ [];
  under = record { joined = is.stand; top = is.named; ascend = up };
  marks = subst (λ (xs : List ℕ). Marks old xs new)
      (sym (append-nil (numbers_of level) ∙ level_pages layout pages Leaf separators level is)) marks;
}

pub finds_above : (layout : RowLayout) (pages : List (Option Sector)) (separators lower : List Separator)
    (old mid new : List Bool) (level : List TreeNode) (levels : List (List TreeNode))
    → IsLevel layout pages Inner separators level → Lists layout (rows_of level) lower
    → Marks old (separator_pages separators) mid → IsUnder layout pages lower levels → Marks mid (pages_of levels) new
    → FindsLevels layout pages separators old new
finds_above layout pages separators lower old mid new level [] is lists first under second = absurd under.top
finds_above layout pages separators lower old mid new level (top ∷ more) is lists first under second = record {
  levels = level ∷ top ∷ more;
  under = record {
    joined = (
      is.stand,
      sym lists.back ∙ ap (map separator_row) (sym under.top) ∙ rows_of_separators layout top,
      under.joined,
    );
    top = is.named;
    ascend = under.ascend;
  };
  marks = marks_append old mid new (numbers_of level) (pages_of (top ∷ more)) (subst (λ (xs : List ℕ). Marks old xs mid)
      (sym (level_pages layout pages Inner separators level is)) first) second;
}

pub finds_inner : (layout : RowLayout) (pages : List (Option Sector)) (separators lower : List Separator)
    (old mid new : List Bool) (level : List TreeNode) → IsLevel layout pages Inner separators level
    → Lists layout (rows_of level) lower
    → Marks old (separator_pages separators) mid → FindsLevels layout pages lower mid new
    → FindsLevels layout pages separators old new
finds_inner layout pages separators lower old mid new level is lists first finds =
    finds_above layout pages separators lower old mid new level finds.levels is lists first finds.under finds.marks

-- The first one of levels.
pub record FirstLevel (layout : RowLayout) (pages : List (Option Sector)) (separators : List Separator)
    (seen : List Bool) : Type 0 where
  pub kind : Kind
  pub level : List TreeNode
  pub is : IsLevel layout pages kind separators level
  pub up : kind ≡ Leaf → Up layout (rows_of level)
  pub few : kind ≡ Inner → length (rows_of level) ≤ length seen
  pub can : CanMark seen (separator_pages separators)

-- its rows name the nodes of the next level, whose pages can be marked
few_rows : (layout : RowLayout) (upper lower : List TreeNode) (more : List ℕ) (seen : List Bool)
    → rows_of upper ≡ map (row_of layout) lower → CanMark seen (numbers_of upper ++ (numbers_of lower ++ more))
    → length (rows_of upper) ≤ length seen
few_rows layout upper lower more seen rows can =
    let count : length (rows_of upper) ≡ length (numbers_of lower) =
    ap length rows ∙ length-map lower (row_of layout) ∙ sym (length-map lower (λ (node : TreeNode). node.page)) in
    let few : length (numbers_of lower) ≤ length seen =
    few_can seen (numbers_of lower)
    (can_left seen (numbers_of lower) more (can_right seen (numbers_of upper) (numbers_of lower ++ more) can)) in
    omega (arith, count, few)

can_first : (layout : RowLayout) (pages : List (Option Sector)) (kind : Kind) (separators : List Separator)
    (seen : List Bool) (level : List TreeNode) (more : List ℕ) → IsLevel layout pages kind separators level
    → CanMark seen (numbers_of level ++ more)
    → CanMark seen (separator_pages separators)
can_first layout pages kind separators seen level more is can =
    subst (CanMark seen) (level_pages layout pages kind separators level is) (can_left seen (numbers_of level) more can)

pub first_level : (layout : RowLayout) (pages : List (Option Sector)) (separators : List Separator) (seen : List Bool)
    (levels : List (List TreeNode)) → IsUnder layout pages separators levels → CanMark seen (pages_of levels)
    → FirstLevel layout pages separators seen
first_level layout pages separators seen [] under can = absurd under.top
first_level layout pages separators seen (leaves ∷ []) under can =
    let is : IsLevel layout pages Leaf separators leaves = record { stand = under.joined; named = under.top } in
    record {
      kind = Leaf;
      level = leaves;
      is = is;
      up = λ leaf. under.ascend;
      few = λ inner. absurd (let clash : Leaf ≡ Inner = inner in cc);
      can = can_first layout pages Leaf separators seen leaves [] is can;
    }
first_level layout pages separators seen (upper ∷ lower ∷ more) under can =
    let is : IsLevel layout pages Inner separators upper = record { stand = under.joined.0; named = under.top } in
    record {
      kind = Inner;
      level = upper;
      is = is;
      up = λ leaf. absurd (let clash : Inner ≡ Leaf = leaf in cc);
      few = λ inner. few_rows layout upper lower (pages_of more) seen under.joined.1 can;
      can = can_first layout pages Inner separators seen upper (pages_of (lower ∷ more)) is can;
    }

-- A level of these separators has these rows.
same_rows : (layout : RowLayout) (pages : List (Option Sector)) (kind other : Kind) (one two : List TreeNode)
    → All (IsOnPage layout pages kind) one → All (IsOnPage layout pages other) two
    → map (separator_of layout) one ≡ map (separator_of layout) two
    → rows_of one ≡ rows_of two
same_rows layout pages kind other [] [] first second same = refl
same_rows layout pages kind other [] (node ∷ two) first second same = cc
same_rows layout pages kind other (node ∷ one) [] first second same = cc
same_rows layout pages kind other (node ∷ one) (twin ∷ two) first second same =
    let separator : separator_of layout node ≡ separator_of layout twin = cc in
    let rest : map (separator_of layout) one ≡ map (separator_of layout) two = cc in
    let rows : node.rows ≡ twin.rows =
    rows_read layout pages kind node twin.page (node_of layout other twin.rows)
    (ap (λ (n : Separator). n.page) separator) (All-head (IsOnPage layout pages kind) node one first)
    (All-head (IsOnPage layout pages other) twin two second).node in
    let tail = same_rows layout pages kind other one two (All-tail (IsOnPage layout pages kind) node one first)
    (All-tail (IsOnPage layout pages other) twin two second) rest in
    ap (λ (xs : List (List ℕ)). xs ++ rows_of one) rows ∙ ap (λ (xs : List (List ℕ)). twin.rows ++ xs) tail

-- The first nodes of a level have no more rows than the level.
rows_so_far : (layout : RowLayout) (pages : List (Option Sector)) (kind : Kind) (separators : List Separator)
    (place : ℕ) (one level : List TreeNode) → IsLevel layout pages kind (take place separators) one
    → IsLevel layout pages kind separators level
    → length (rows_of one) ≤ length (rows_of level)
rows_so_far layout pages kind separators place one level is level_is =
    let first : List TreeNode = take place level in
    let rest : List TreeNode = drop place level in
    let split : first ++ rest ≡ level = take-append-drop place level in
    let stand : All (IsOnPage layout pages kind) first = all_left (IsOnPage layout pages kind) first rest
    (subst (All (IsOnPage layout pages kind)) (sym split) level_is.stand) in
    let named : map (separator_of layout) one ≡ map (separator_of layout) first =
    is.named ∙ ap (take place) (sym level_is.named) ∙ take-map (separator_of layout) place level in
    let same : length (rows_of one) ≡ length (rows_of first) =
    ap length (same_rows layout pages kind kind one first is.stand stand named) in
    let count : length (rows_of level) ≡ length (rows_of first) + length (rows_of rest) =
    ap (λ (nodes : List TreeNode). length (rows_of nodes)) (sym split) ∙ ap length (rows_append first rest)
    ∙ length-append (rows_of first) (rows_of rest) in
    omega (arith, same, count)

pub separators_so_far : (layout : RowLayout) (pages : List (Option Sector)) (kind : Kind) (separators : List Separator)
    (place : ℕ) (was : List TreeNode) (separator : Separator) (rows : List (List ℕ)) (old : List Separator) (count : ℕ)
    (level : List TreeNode) → place < length separators
    → separator ≡ slice_index_or separators place separator → IsLevel layout pages kind (take place separators) was
    → HasSeparator layout pages kind separator rows → Lists layout (rows_of was) old → count ≡ length old + length rows
    → IsLevel layout pages kind separators level
    → count ≤ length (rows_of level)
separators_so_far layout pages kind separators place was separator rows old count level low is was_is named lists
    counted level_is =
    let next : List TreeNode = was ++ node_with separator.page rows ∷ [] in
    let few = rows_so_far layout pages kind separators (place + 1) next level
    (level_next layout pages kind separators place was separator rows low is was_is named) level_is in
    let listed : length old ≡ length (rows_of was) =
    ap length lists.read ∙ length-map (rows_of was) (separator_in layout) in
    let added : length (rows_of next) ≡ length (rows_of was) + length rows =
    ap length (rows_more was separator.page rows) ∙ length-append (rows_of was) rows in
    omega (arith, few, listed, added, counted)

pub separator_in_row : (layout : RowLayout) (node : TreeNode) → HasRows layout node → node.page < 2 ^ 32
    → separator_in layout (row_of layout node) ≡ separator_of layout node
separator_in_row layout node has small =
    let page : child_of layout (row_of layout node) ≡ node.page =
    ap (big_number 4) (rest_of_row layout node has ∙ sym (append-nil (big_bytes 4 node.page)))
    ∙ big_number-reads_back 4 node.page [] small in
    ap (λ (k : List ℕ). record { key = k; page = child_of layout (row_of layout node) }) (key_of_row layout node has)
    ∙ ap (λ (p : ℕ). record { key = least_key layout node; page = p }) page

separators_in_rows : (layout : RowLayout) (level : List TreeNode) → All (HasRows layout) level
    → All (λ page. page < 2 ^ 32) (numbers_of level)
    → map (separator_in layout) (map (row_of layout) level) ≡ map (separator_of layout) level
separators_in_rows layout [] all small = refl
separators_in_rows layout (node ∷ level) all small =
    let P : ℕ → Type 0 = λ page. page < 2 ^ 32 in
    let rest = separators_in_rows layout level (All-tail (HasRows layout) node level all)
    (All-tail P node.page (numbers_of level) small) in
    ap (λ (n : Separator). n ∷ map (separator_in layout) (map (row_of layout) level)) (separator_in_row
    layout node (All-head (HasRows layout) node level all) (All-head P node.page (numbers_of level) small))
    ∙ ap (λ (xs : List Separator). separator_of layout node ∷ xs) rest

-- Where the first one of levels was checked, and is of inner pages, the others are below it.
pub record Others (layout : RowLayout) (pages : List (Option Sector)) (separators : List Separator) (seen : List Bool)
    (count : ℕ) : Type 0 where
  pub levels : List (List TreeNode)
  pub under : IsUnder layout pages separators levels
  pub can : CanMark seen (pages_of levels)
  pub small : All (λ page. page < 2 ^ 32) (pages_of levels)
  pub fewer : length levels + 1 ≡ count

leaf_above : (layout : RowLayout) (pages : List (Option Sector)) (separators : List Separator)
    (level leaves : List TreeNode) → 0 < length separators → IsLevel layout pages Inner separators level
    → IsLevel layout pages Leaf separators leaves → ⊥
leaf_above layout pages [] level leaves some inner leaf = absurd (omega arith)
leaf_above layout pages (separator ∷ separators) level leaves some inner leaf =
    let one = named_node layout pages Inner (separator ∷ separators) 0 separator level (omega arith) refl inner in
    let two = named_node layout pages Leaf (separator ∷ separators) 0 separator leaves (omega arith) refl leaf in
    let page : one.node.page ≡ two.node.page = ap (λ (n : Separator). n.page) (one.named ∙ sym two.named) in
    let kind = kind_read layout pages Inner one.node two.node.page (node_of layout Leaf two.node.rows) page one.stands
    two.stands.node in
    let clash : Inner ≡ Leaf = kind in
    cc

pub other_levels : (layout : RowLayout) (pages : List (Option Sector)) (separators lower : List Separator)
    (old mid : List Bool) (level : List TreeNode) (levels : List (List TreeNode)) → 0 < length separators
    → IsLevel layout pages Inner separators level
    → Lists layout (rows_of level) lower → Marks old (separator_pages separators) mid
    → IsUnder layout pages separators levels → CanMark old (pages_of levels)
    → All (λ page. page < 2 ^ 32) (pages_of levels) → Others layout pages lower mid (length levels)
other_levels layout pages separators lower old mid level [] some is lists marks under can small = absurd under.top
other_levels layout pages separators lower old mid level (leaves ∷ []) some is lists marks under can small =
    absurd
    (leaf_above layout pages separators level leaves some is (record { stand = under.joined; named = under.top }))
other_levels layout pages separators lower old mid level (top ∷ next ∷ more) some is lists marks under can small =
    let P : ℕ → Type 0 = λ page. page < 2 ^ 32 in
    let top_is : IsLevel layout pages Inner separators top = record { stand = under.joined.0; named = under.top } in
    let small_next : All P (pages_of (next ∷ more)) = all_right P (numbers_of top) (pages_of (next ∷ more)) small in
    let rows : rows_of level ≡ map (row_of layout) next =
    same_rows layout pages Inner Inner level top is.stand under.joined.0 (is.named ∙ sym under.top) ∙ under.joined.1 in
    let named : map (separator_in layout) (map (row_of layout) next) ≡ map (separator_of layout) next =
    separators_in_rows layout next (joined_have_rows layout pages next more under.joined.2)
    (all_left P (numbers_of next) (pages_of more) small_next) in
    record {
      levels = next ∷ more;
      under = record {
        joined = under.joined.2;
        top = sym (lists.read ∙ ap (map (separator_in layout)) rows ∙ named);
        ascend = under.ascend;
      };
      can = can_after old mid (numbers_of top) (pages_of (next ∷ more)) (subst (λ (xs : List ℕ). Marks old xs mid)
          (sym (level_pages layout pages Inner separators top top_is)) marks) can;
      small = small_next;
      fewer = omega arith;
    }

-- The tree under a root, whose node is the only one of the first level.
pub tree_found : (layout : RowLayout) (pages : List (Option Sector))
    (root : ℕ) (separator : Separator) (seen : List Bool) (levels : List (List TreeNode)) → separator.page ≡ root
    → IsUnder layout pages (separator ∷ []) levels → CanMark seen (pages_of levels)
    → IsTree layout pages root levels
tree_found layout pages root separator seen [] is under can = absurd under.top
tree_found layout pages root separator seen ([] ∷ more) is under can =
    let top : map (separator_of layout) [] ≡ separator ∷ [] = under.top in cc
tree_found layout pages root separator seen ((node ∷ other ∷ level) ∷ more) is under can =
    let top : map (separator_of layout) (node ∷ other ∷ level) ≡ separator ∷ [] = under.top in cc
tree_found layout pages root separator seen ((node ∷ []) ∷ more) is under can =
    let top : map (separator_of layout) (node ∷ []) ≡ separator ∷ [] = under.top in
    let named : separator_of layout node ≡ separator = cc in
    record {
      top = (node, refl, ap (λ (n : Separator). n.page) named ∙ is);
      joined = under.joined;
      ascend = under.ascend;
      once = pairs_from_once (pages_of ((node ∷ []) ∷ more)) can.once;
      numbers = λ k d low.
          let page : ℕ = slice_index_or (pages_of ((node ∷ []) ∷ more)) k d in (
            can.some k d low,
            is_low pages page (λ none. joined_there layout pages ((node ∷ []) ∷ more) under.joined page
                (Contains-get_or (pages_of ((node ∷ []) ∷ more)) k d low) none),
          );
    }

root_named : (layout : RowLayout) (pages : List (Option Sector)) (root : ℕ) (key : List ℕ) (node : Node) (kind : Kind)
    (top : List TreeNode) (tree_node : TreeNode) → node_at layout pages root ≡ Some node
    → key ≡ key_of layout (slice_index_or node.rows 0 [])
    → top ≡ tree_node ∷ [] → tree_node.page ≡ root → IsOnPage layout pages kind tree_node
    → map (separator_of layout) top ≡ record { key = key; page = root } ∷ []
root_named layout pages root key node kind top tree_node read is only page stands =
    let rows : tree_node.rows ≡ node.rows = rows_read layout pages kind tree_node root node page stands read in
    ap (map (separator_of layout)) only
    ∙ ap (λ (xs : List (List ℕ)). record { key = key_of layout (slice_index_or xs 0 []); page = tree_node.page } ∷ [])
    rows
    ∙ ap (λ (k : List ℕ). record { key = k; page = tree_node.page } ∷ []) (sym is)
    ∙ ap (λ (p : ℕ). record { key = key; page = p } ∷ []) page

pub tree_under : (layout : RowLayout) (pages : List (Option Sector)) (root : ℕ) (key : List ℕ) (node : Node) (levels :
    List (List TreeNode)) → node_at layout pages root ≡ Some node → key ≡ key_of layout (slice_index_or node.rows 0 [])
    → IsTree layout pages root levels → IsUnder layout pages (record { key = key; page = root } ∷ []) levels
tree_under layout pages root key node [] read is tree = absurd tree.top
tree_under layout pages root key node (leaves ∷ []) read is tree = record {
  joined = tree.joined;
  top = root_named layout pages root key node Leaf leaves tree.top.0 read is tree.top.1 tree.top.2 (All-head
      (IsOnPage layout pages Leaf) tree.top.0 [] (subst (All (IsOnPage layout pages Leaf)) tree.top.1 tree.joined));
  ascend = tree.ascend;
}
tree_under layout pages root key node (upper ∷ lower ∷ more) read is tree = record {
  joined = tree.joined;
  top = root_named layout pages root key node Inner upper tree.top.0 read is tree.top.1 tree.top.2 (All-head
      (IsOnPage layout pages Inner) tree.top.0 [] (subst (All (IsOnPage layout pages Inner)) tree.top.1 tree.joined.0));
  ascend = tree.ascend;
}

pub tree_can :
    (layout : RowLayout) (pages : List (Option Sector)) (root : ℕ) (seen : List Bool) (levels : List (List TreeNode))
    → IsTree layout pages root levels → All (IsUnmarked seen) (pages_of levels) → CanMark seen (pages_of levels)
tree_can layout pages root seen levels tree unmarked = record {
  some = λ k d low. (tree.numbers k d low).0;
  unmarked = unmarked;
  once = once_from_pairs (pages_of levels) tree.once;
}
