-- What two neighbours become that are joined, or share their rows.
use Rattle.std.proofs.Common.{◌≡◌, ◌≢◌, inl, inr, ⊎_elim, ◌<◌, ◌≤◌, ◌*◌, ℕ, List, [], ◌∷◌, ◌++◌, length, length-set}
use Rattle.std.proofs.Common.{take, drop, set, refl, sym, ◌∙◌, ap, subst, arith, get_or-set_same, get_or-set_other}
use Rattle.std.proofs.Common.{append_assoc}
use Rattle.std.specs.Prelude.{Contains, Option, Some, None, slice_index_or}
use Rattle.std.specs.List.{All}
use Rattle.std.proofs.lemmas.List.{take-append-drop}
use Rattle.std.proofs.lemmas.List.Elements.{All-nil, All-cons}
use Rattle.station.specs.Disk.{Sector}
use Rattle.btree_pages.specs.declared.row_layout.RowLayout.{RowLayout}
use Rattle.btree_pages.specs.declared.row_layout.Kind.{Kind}
use Rattle.btree_pages.specs.declared.row_layout.Kind.TheVariants.{Leaf, Inner}
use Rattle.btree_pages.specs.RowLayouts.{row_length, capacity}
use Rattle.btree_pages.specs.Node.{Node, IsNode, node_in}
use Rattle.btree_pages.specs.Edits.{with_rows}
use Rattle.btree.specs.Tree.{TreeNode, node_of, fewest, IsOnPage}
use Rattle.btree.specs.Moves.{ReplacesNodes}
use Rattle.btree.specs.Propagates.{node_with}
use Rattle.btree.specs.Changes.{IsIn}
use Rattle.btree.specs.Outcomes.{AreTwo}
use Rattle.btree.specs.Fills.{IsEven}
use Rattle.btree.proofs.Runs.{in_none, in_cases, in_head, in_tail}
use Rattle.btree.proofs.Writes.{Spells, stands_on, spells_node, is_low}

-- The pages after the left one of two was written, and then the right one, or released.
pub record Changed (pages after : List (Option Sector)) (left right : ℕ) (one : List ℕ) (two : Option Sector) :
    Type 0 where
  pub is : after ≡ set (set pages left (Some one)) right two
  pub both : AreTwo pages left right

at_left : (pages after : List (Option Sector)) (left right : ℕ) (one : List ℕ) (two : Option Sector)
    → Changed pages after left right one two → slice_index_or after left None ≡ Some one
at_left pages after left right one two changed =
    ap (λ l. slice_index_or l left None) changed.is
    ∙ get_or-set_other (set pages left (Some one)) right left two None changed.both.apart
    ∙ get_or-set_same pages left (Some one) None (is_low pages left changed.both.left_in)

at_right : (pages after : List (Option Sector)) (left right : ℕ) (one : List ℕ) (two : Option Sector)
    → Changed pages after left right one two → slice_index_or after right None ≡ two
at_right pages after left right one two changed =
    ap (λ l. slice_index_or l right None) changed.is
    ∙ get_or-set_same (set pages left (Some one)) right two None
    (omega (arith, is_low pages right changed.both.right_in, length-set pages left (Some one)))

at_other : (pages after : List (Option Sector)) (left right : ℕ) (one : List ℕ) (two : Option Sector)
    → Changed pages after left right one two → (q : ℕ) → (Contains (left ∷ right ∷ []) q → ⊥)
    → slice_index_or after q None ≡ slice_index_or pages q None
at_other pages after left right one two changed q out =
    ap (λ l. slice_index_or l q None) changed.is
    ∙ get_or-set_other (set pages left (Some one)) right q two None (λ same.
    out (subst (λ x. Contains (left ∷ right ∷ []) x) (sym same) (in_tail left (right ∷ []) right (in_head right []))))
    ∙ get_or-set_other pages left q (Some one) None
    (λ same. out (subst (λ x. Contains (left ∷ right ∷ []) x) (sym same) (in_head left (right ∷ []))))

count_same : (pages after : List (Option Sector)) (left right : ℕ) (one : List ℕ) (two : Option Sector)
    → Changed pages after left right one two → length after ≡ length pages
count_same pages after left right one two changed =
    ap length changed.is ∙ length-set (set pages left (Some one)) right two ∙ length-set pages left (Some one)

-- the left page has the rows of both
pub write_joined : (layout : RowLayout) (kind : Kind) (pages after : List (Option Sector)) (left right : ℕ) (bytes :
    List ℕ) (old other rows : List (List ℕ)) → Changed pages after left right bytes None → Spells layout kind bytes rows
    → ReplacesNodes layout kind pages (node_with left old ∷ node_with right other ∷ []) after (node_with left rows ∷ [])
write_joined layout kind pages after left right bytes old other rows changed spells = record {
  stand = All-cons (IsOnPage layout after kind) (node_with left rows) [] (stands_on layout kind after left bytes rows
      (at_left pages after left right bytes None changed) spells) (All-nil (IsOnPage layout after kind));
  once = ((λ has. in_none left has), tt);
  moves = record {
    count = count_same pages after left right bytes None changed;
    others = λ q was new. at_other pages after left right bytes None changed q was;
    joins = λ q has.
        ⊎_elim (λ same. inl (subst (λ x. Contains (left ∷ right ∷ []) x) (sym same) (in_head left (right ∷ []))))
        (λ past. absurd (in_none q past)) (in_cases left [] q has);
    leaves = λ q has. ⊎_elim
        (λ same. inl (subst (λ x. Contains (left ∷ []) x) (sym same) (in_head left [])))
        (λ rest. ⊎_elim (λ same. inr (ap (λ x. slice_index_or after x None) same ∙ at_right pages after left right bytes
        None changed)) (λ past. absurd (in_none q past)) (in_cases right [] q rest))
        (in_cases left (right ∷ []) q has);
  };
}

-- both pages have rows of both
pub write_shared : (layout : RowLayout) (kind : Kind) (pages after : List (Option Sector)) (left right : ℕ)
    (one two : List ℕ) (old other left_rows right_rows : List (List ℕ)) → Changed pages after left right one (Some two)
    → Spells layout kind one left_rows → Spells layout kind two right_rows
    → ReplacesNodes layout kind pages (node_with left old ∷ node_with right other ∷ []) after
    (node_with left left_rows ∷ node_with right right_rows ∷ [])
write_shared layout kind pages after left right one two old other left_rows right_rows changed left_spells
    right_spells = record {
      stand = All-cons (IsOnPage layout after kind) (node_with left left_rows) (node_with right right_rows ∷ [])
          (stands_on layout kind after left one left_rows (at_left pages after left right one (Some two) changed)
          left_spells)
          (All-cons (IsOnPage layout after kind) (node_with right right_rows) [] (stands_on layout kind after
          right two right_rows (at_right pages after left right one (Some two) changed) right_spells)
          (All-nil (IsOnPage layout after kind)));
      once = (
        (λ has. ⊎_elim (λ same. changed.both.apart same) (λ past. in_none left past) (in_cases right [] left has)),
        ((λ has. in_none right has), tt),
      );
      moves = record {
        count = count_same pages after left right one (Some two) changed;
        others = λ q was new. at_other pages after left right one (Some two) changed q was;
        joins = λ q has. inl has;
        leaves = λ q has. inl has;
      };
    }

-- a page apart from the two is in the map as before
pub still_in : (layout : RowLayout) (kind : Kind) (pages after : List (Option Sector)) (left right : TreeNode)
    (run : List TreeNode) (page : ℕ) → ReplacesNodes layout kind pages (left ∷ right ∷ []) after run
    → left.page ≢ page → right.page ≢ page → IsIn pages page → IsIn after page
still_in layout kind pages after left right run page replaced left_apart right_apart is_in =
    let out : Contains (left.page ∷ right.page ∷ []) page → ⊥ =
    λ has. ⊎_elim (λ same. left_apart (sym same)) (λ rest. ⊎_elim (λ same. right_apart (sym same))
    (λ past. in_none page past) (in_cases right.page [] page rest)) (in_cases left.page (right.page ∷ []) page has) in
    λ none. is_in (sym
    (replaced.moves.others page out (λ has. ⊎_elim out (λ new. is_in new.1) (replaced.moves.joins page has))) ∙ none)

-- the rows of a node have their lengths
pub kind_lengths : (layout : RowLayout) (kind : Kind) (node : Node) → node.layout ≡ layout → node.kind ≡ kind
    → IsNode node → All (λ row. length row ≡ row_length layout kind) node.rows
kind_lengths layout kind node layout_is kind_is is =
    subst (λ (f : RowLayout). All (λ row. length row ≡ row_length f kind) node.rows) layout_is
    (subst (λ (k : Kind). All (λ row. length row ≡ row_length node.layout k) node.rows) kind_is is.lengths)

-- two rows are enough
two_enough : (kind : Kind) (count : ℕ) → 2 ≤ count → fewest kind ≤ count
two_enough Leaf count two = omega (arith, two)
two_enough Inner count two = two

-- these bytes spell a node with two rows at least
pub spells_two : (layout : RowLayout) (kind : Kind) (node : Node) (bytes : List ℕ) → node.layout ≡ layout
    → node.kind ≡ kind → IsNode node → 2 ≤ length node.rows → node_in node.layout bytes ≡ Some node
    → Spells layout kind bytes node.rows
spells_two layout kind node bytes layout_is kind_is is two spelled =
    spells_node (node_of layout kind []) node bytes (record { layout = layout_is; kind = kind_is }) spelled
    (kind_lengths layout kind node layout_is kind_is is) (two_enough kind (length node.rows) two)

-- these spell a leaf with a row at least
pub spells_some : (node : Node) (bytes : List ℕ) → node.kind ≡ Leaf → IsNode node → 0 < length node.rows
    → node_in node.layout bytes ≡ Some node → Spells node.layout Leaf bytes node.rows
spells_some node bytes kind_is is some spelled =
    spells_node (node_of node.layout Leaf []) node bytes (record { layout = refl; kind = kind_is }) spelled
    (kind_lengths node.layout Leaf node refl kind_is is) (omega (arith, some))

-- both neighbours have half of the rows that they have room for, where they share more than one page has room for
pub shared_evenly : (layout : RowLayout) (kind : Kind) (one two : TreeNode) → capacity layout kind ≤ 2 * length one.rows
    → capacity layout kind ≤ 2 * length two.rows → IsEven layout kind (one ∷ two ∷ [])
shared_evenly layout kind one two left right =
    let halved = λ (node : TreeNode). capacity layout kind ≤ 2 * length node.rows in
    inr (All-cons halved one (two ∷ []) left (All-cons halved two [] right (All-nil halved)))

-- rows that were cut in two, of which the upper ones got others after them
pub cut_joined : (place : ℕ) (node left rest all : Node) (other : List (List ℕ))
    → left ≡ with_rows node (take place node.rows) → rest ≡ with_rows node (drop place node.rows)
    → all ≡ with_rows rest (rest.rows ++ other)
    → left.rows ++ all.rows ≡ node.rows ++ other
cut_joined place node left rest all other left_is rest_is all_is =
    ap (λ (n : Node). n.rows ++ all.rows) left_is
    ∙ ap (λ (n : Node). take place node.rows ++ n.rows) all_is
    ∙ ap (λ (n : Node). take place node.rows ++ (n.rows ++ other)) rest_is
    ∙ sym (append_assoc (take place node.rows) (drop place node.rows) other)
    ∙ ap (λ rows. rows ++ other) (take-append-drop place node.rows)
