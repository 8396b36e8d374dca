-- What the pages are after one or two of them were written.
use Rattle.std.proofs.Common.{◌≡◌, ◌≢◌, inl, inr, ⊎_elim, ◌<◌, ◌≤◌, ℕ, List, [], ◌∷◌, ◌++◌, length, length-append, take}
use Rattle.std.proofs.Common.{drop, set, sym, ◌∙◌, ap, subst, arith, get_or-set_same, get_or-set_other, length-set}
use Rattle.std.specs.Prelude.{Contains, Option, Some, None, slice_index_or}
use Rattle.std.specs.List.{All}
use Rattle.std.specs.List.{insert}
use Rattle.std.proofs.lemmas.Bool.{cases_lt}
use Rattle.std.proofs.lemmas.List.{get_or_past}
use Rattle.std.proofs.lemmas.List.Edits.{length-insert}
use Rattle.std.proofs.lemmas.List.Elements.{All-nil, All-cons, All-append, All-take, All-drop}
use Rattle.station.specs.Disk.{Sector}
use Rattle.btree_pages.specs.declared.row_layout.RowLayout.{RowLayout}
use Rattle.btree_pages.specs.declared.row_layout.Kind.{Kind}
use Rattle.btree_pages.specs.RowLayouts.{rest_length, row_length}
use Rattle.btree_pages.specs.Node.{Node, node_in}
use Rattle.btree_pages.specs.Edits.{node_with_row}
use Rattle.btree.specs.Nodes.{SameNode}
use Rattle.btree.specs.Changes.{IsIn, IsLike, CanTake}
use Rattle.btree.specs.Tree.{node_of, node_on, fewest, IsOnPage}
use Rattle.btree.specs.Moves.{Once, ReplacesNodes}
use Rattle.btree.specs.Propagates.{node_with}
use Rattle.btree.proofs.Runs.{in_none, in_cases, in_head, in_tail}
use Rattle.btree.proofs.Splices.{all_left, all_right}

-- these bytes are a page of a tree, with enough rows
pub record Spells (layout : RowLayout) (kind : Kind) (bytes : List ℕ) (rows : List (List ℕ)) : Type 0 where
  pub node : node_in layout bytes ≡ Some (node_of layout kind rows)
  pub lengths : All (λ row. length row ≡ row_length layout kind) rows
  pub enough : fewest kind ≤ length rows

pub stands_on : (layout : RowLayout) (kind : Kind) (pages : List (Option Sector)) (page : ℕ) (bytes : List ℕ)
    (rows : List (List ℕ)) → slice_index_or pages page None ≡ Some bytes → Spells layout kind bytes rows
    → IsOnPage layout pages kind (node_with page rows)
stands_on layout kind pages page bytes rows at spells =
    record { node = ap (node_on layout) at ∙ spells.node; lengths = spells.lengths; enough = spells.enough }

one_once : (page : ℕ) → Once (page ∷ [])
one_once page = ((λ has. in_none page has), tt)

pub write_one : (layout : RowLayout) (kind : Kind) (pages after : List (Option Sector)) (page : ℕ) (bytes : List ℕ)
    (old rows : List (List ℕ))
    → after ≡ set pages page (Some bytes) → page < length pages → Spells layout kind bytes rows
    → ReplacesNodes layout kind pages (node_with page old ∷ []) after (node_with page rows ∷ [])
write_one layout kind pages after page bytes old rows is low spells = record {
  stand = All-cons (IsOnPage layout after kind) (node_with page rows) []
      (stands_on layout kind after page bytes rows (ap (λ l. slice_index_or l page None) is
      ∙ get_or-set_same pages page (Some bytes) None low) spells)
      (All-nil (IsOnPage layout after kind));
  once = one_once page;
  moves = record {
    count = ap length is ∙ length-set pages page (Some bytes);
    others = λ q was new. ap (λ l. slice_index_or l q None) is ∙ get_or-set_other pages page q (Some bytes) None
        (λ same. was (subst (λ x. Contains (page ∷ []) x) (sym same) (in_head page [])));
    joins = λ q has. inl has;
    leaves = λ q has. inl has;
  };
}

-- a page that wasn't in the map
pub write_new : (layout : RowLayout) (kind : Kind) (pages after : List (Option Sector)) (page : ℕ)
    (zeros bytes : List ℕ) (rows : List (List ℕ))
    → after ≡ set (set pages page (Some zeros)) page (Some bytes) → page < length pages → 0 < page
    → slice_index_or pages page None ≡ None → Spells layout kind bytes rows
    → ReplacesNodes layout kind pages [] after (node_with page rows ∷ [])
write_new layout kind pages after page zeros bytes rows is low some none spells =
    let wide : page < length (set pages page (Some zeros)) = omega (arith, length-set pages page (Some zeros)) in
    record {
      stand = All-cons (IsOnPage layout after kind) (node_with page rows) []
          (stands_on layout kind after page bytes rows (ap (λ l. slice_index_or l page None) is
          ∙ get_or-set_same (set pages page (Some zeros)) page (Some bytes) None wide) spells)
          (All-nil (IsOnPage layout after kind));
      once = one_once page;
      moves = record {
        count = ap length is ∙ length-set (set pages page (Some zeros)) page (Some bytes)
            ∙ length-set pages page (Some zeros);
        others = λ q was new.
            let other : q ≢ page = λ same. new (subst (λ x. Contains (page ∷ []) x) (sym same) (in_head page [])) in
            ap (λ l. slice_index_or l q None) is ∙ get_or-set_other (set pages page (Some zeros)) page q (Some bytes)
            None other ∙ get_or-set_other pages page q (Some zeros) None other;
        joins = λ q has.
            ⊎_elim (λ same. inr (subst (λ x. 0 < x) (sym same) some, ap (λ x. slice_index_or pages x None) same ∙ none))
            (λ past. absurd (in_none q past)) (in_cases page [] q has);
        leaves = λ q has. absurd (in_none q has);
      };
    }

-- the pages after two of them were written, of which one is new
pub record WrittenTwo (pages after : List (Option Sector)) (page new : ℕ) (left right : List ℕ) : Type 0 where
  pub zeros : List ℕ
  pub is : after ≡ set (set (set pages new (Some zeros)) page (Some left)) new (Some right)
  pub page_low : page < length pages
  pub new_low : new < length pages
  pub some : 0 < new
  pub there : slice_index_or pages page None ≡ None → ⊥
  pub none : slice_index_or pages new None ≡ None

two_apart : (pages after : List (Option Sector)) (page new : ℕ) (left right : List ℕ)
    → WrittenTwo pages after page new left right → page ≡ new → ⊥
two_apart pages after page new left right w same = w.there (ap (λ x. slice_index_or pages x None) same ∙ w.none)

two_left : (pages after : List (Option Sector)) (page new : ℕ) (left right : List ℕ)
    → WrittenTwo pages after page new left right → slice_index_or after page None ≡ Some left
two_left pages after page new left right w =
    let wide : page < length (set pages new (Some w.zeros)) =
    omega (arith, w.page_low, length-set pages new (Some w.zeros)) in
    ap (λ l. slice_index_or l page None) w.is
    ∙ get_or-set_other (set (set pages new (Some w.zeros)) page (Some left)) new page (Some right) None
    (two_apart pages after page new left right w)
    ∙ get_or-set_same (set pages new (Some w.zeros)) page (Some left) None wide

two_right : (pages after : List (Option Sector)) (page new : ℕ) (left right : List ℕ)
    → WrittenTwo pages after page new left right → slice_index_or after new None ≡ Some right
two_right pages after page new left right w =
    let wide : new < length (set (set pages new (Some w.zeros)) page (Some left)) = omega (
      arith,
      w.new_low,
      length-set pages new (Some w.zeros),
      length-set (set pages new (Some w.zeros)) page (Some left),
    ) in
    ap (λ l. slice_index_or l new None) w.is
    ∙ get_or-set_same (set (set pages new (Some w.zeros)) page (Some left)) new (Some right) None wide

two_others : (pages after : List (Option Sector)) (page new : ℕ) (left right : List ℕ)
    → WrittenTwo pages after page new left right → (q : ℕ) → q ≢ page → q ≢ new
    → slice_index_or after q None ≡ slice_index_or pages q None
two_others pages after page new left right w q not_page not_new =
    ap (λ l. slice_index_or l q None) w.is
    ∙ get_or-set_other (set (set pages new (Some w.zeros)) page (Some left)) new q (Some right) None not_new
    ∙ get_or-set_other (set pages new (Some w.zeros)) page q (Some left) None not_page
    ∙ get_or-set_other pages new q (Some w.zeros) None not_new

pub write_two : (layout : RowLayout) (kind : Kind) (pages after : List (Option Sector)) (page new : ℕ)
    (left right : List ℕ) (old left_rows right_rows : List (List ℕ))
    → WrittenTwo pages after page new left right → Spells layout kind left left_rows
    → Spells layout kind right right_rows
    → ReplacesNodes layout kind pages (node_with page old ∷ []) after
    (node_with page left_rows ∷ node_with new right_rows ∷ [])
write_two layout kind pages after page new left right old left_rows right_rows w one two = record {
  stand = All-cons (IsOnPage layout after kind) (node_with page left_rows) (node_with new right_rows ∷ [])
      (stands_on layout kind after page left left_rows (two_left pages after page new left right w) one)
      (All-cons (IsOnPage layout after kind) (node_with new right_rows) [] (stands_on layout kind after new right
      right_rows (two_right pages after page new left right w) two) (All-nil (IsOnPage layout after kind)));
  once = (
    (λ has. ⊎_elim (λ same. two_apart pages after page new left right w same) (λ past. in_none page past)
        (in_cases new [] page has)),
    one_once new,
  );
  moves = record {
    count = ap length w.is ∙ length-set (set (set pages new (Some w.zeros)) page (Some left)) new (Some right)
        ∙ length-set (set pages new (Some w.zeros)) page (Some left) ∙ length-set pages new (Some w.zeros);
    others = λ q was is. two_others pages after page new left right w q
        (λ same. was (subst (λ x. Contains (page ∷ []) x) (sym same) (in_head page [])))
        (λ same.
        is (subst (λ x. Contains (page ∷ new ∷ []) x) (sym same) (in_tail page (new ∷ []) new (in_head new []))));
    joins = λ q has. ⊎_elim
        (λ same. inl (subst (λ x. Contains (page ∷ []) x) (sym same) (in_head page [])))
        (λ rest. ⊎_elim
        (λ same. inr (subst (λ x. 0 < x) (sym same) w.some, ap (λ x. slice_index_or pages x None) same ∙ w.none))
        (λ past. absurd (in_none q past)) (in_cases new [] q rest))
        (in_cases page (new ∷ []) q has);
    leaves =
        λ q has. ⊎_elim (λ same. inl (subst (λ x. Contains (page ∷ new ∷ []) x) (sym same) (in_head page (new ∷ []))))
        (λ past. absurd (in_none q past)) (in_cases page [] q has);
  };
}

-- a page that is in the map has a number below its count
pub is_low : (pages : List (Option Sector)) (page : ℕ) → IsIn pages page → page < length pages
is_low pages page there =
    ⊎_elim (λ low. low) (λ past. absurd (there (get_or_past pages page None past))) (cases_lt page (length pages))

pub node_is : (layout : RowLayout) (kind : Kind) (node : Node) → node.layout ≡ layout → node.kind ≡ kind
    → node ≡ node_of layout kind node.rows
node_is layout kind node same_layout same_kind =
    ap (λ (f : RowLayout). node_of f node.kind node.rows) same_layout
    ∙ ap (λ (k : Kind). node_of layout k node.rows) same_kind

pub spells_node : (old new : Node) (bytes : List ℕ) → SameNode old new → node_in new.layout bytes ≡ Some new
    → All (λ row. length row ≡ row_length old.layout old.kind) new.rows → fewest old.kind ≤ length new.rows
    → Spells old.layout old.kind bytes new.rows
spells_node old new bytes same spelled lengths enough = record {
  node = ap (λ (layout : RowLayout). node_in layout bytes) (sym same.layout) ∙ spelled
      ∙ ap (λ (node : Node). Some node) (node_is old.layout old.kind new same.layout same.kind);
  lengths = lengths;
  enough = enough;
}

pub insert_lengths : (node : Node) (place : ℕ) (key rest : List ℕ) → length key ≡ node.layout.key_length
    → length rest ≡ rest_length node.layout node.kind
    → All (λ row. length row ≡ row_length node.layout node.kind) node.rows
    → All (λ row. length row ≡ row_length node.layout node.kind) (insert node.rows place (key ++ rest))
insert_lengths node place key rest key_is rest_is all =
    let P = λ (row : List ℕ). length row ≡ row_length node.layout node.kind in
    All-append P (take place node.rows) ((key ++ rest) ∷ drop place node.rows) (All-take P place node.rows all)
    (All-cons P (key ++ rest) (drop place node.rows) (omega (arith, length-append key rest, key_is, rest_is))
    (All-drop P place node.rows all))

-- a page that a row came to is like the one before, and has a row
pub inserted_like : (node new : Node) (place : ℕ) (row : List ℕ) → place ≤ length node.rows
    → new ≡ node_with_row node place row → IsLike node new
inserted_like node new place row low is = record {
  same = record { layout = ap (λ (n : Node). n.layout) is; kind = ap (λ (n : Node). n.kind) is };
  some = omega (arith, ap (λ (n : Node). length n.rows) is, length-insert node.rows place row low);
}

-- a row came into a page with room
pub spells_inserted : (pages : List (Option Sector)) (page : ℕ) (node new : Node) (place : ℕ) (key rest bytes : List ℕ)
    → CanTake pages page node → new ≡ node_with_row node place (key ++ rest) → place ≤ length node.rows
    → length key ≡ node.layout.key_length → length rest ≡ rest_length node.layout node.kind
    → node_in new.layout bytes ≡ Some new → Spells node.layout node.kind bytes new.rows
spells_inserted pages page node new place key rest bytes can is low key_is rest_is spelled =
    let P = λ (row : List ℕ). length row ≡ row_length node.layout node.kind in
    spells_node node new bytes (record { layout = ap (λ (n : Node). n.layout) is; kind = ap (λ (n : Node). n.kind) is })
    spelled
    (subst (λ (n : Node). All P n.rows) (sym is) (insert_lengths node place key rest key_is rest_is can.lengths))
    (subst (λ (n : Node). fewest node.kind ≤ length n.rows) (sym is)
    (omega (arith, can.enough, length-insert node.rows place (key ++ rest) low)))

-- a row came into a full page, which gave rows to another one
pub spells_left : (pages : List (Option Sector)) (page : ℕ) (node left right : Node) (place : ℕ)
    (key rest bytes : List ℕ) → CanTake pages page node → left.rows ++ right.rows ≡ insert node.rows place (key ++ rest)
    → length key ≡ node.layout.key_length → length rest ≡ rest_length node.layout node.kind
    → SameNode node left → fewest node.kind ≤ length left.rows → node_in left.layout bytes ≡ Some left
    → Spells node.layout node.kind bytes left.rows
spells_left pages page node left right place key rest bytes can is key_is rest_is same enough spelled =
    let P = λ (row : List ℕ). length row ≡ row_length node.layout node.kind in
    spells_node node left bytes same spelled (all_left P left.rows right.rows
    (subst (λ rows. All P rows) (sym is) (insert_lengths node place key rest key_is rest_is can.lengths))) enough

pub spells_right : (pages : List (Option Sector)) (page : ℕ) (node left right : Node) (place : ℕ)
    (key rest bytes : List ℕ) → CanTake pages page node → left.rows ++ right.rows ≡ insert node.rows place (key ++ rest)
    → length key ≡ node.layout.key_length → length rest ≡ rest_length node.layout node.kind → SameNode node right
    → fewest node.kind ≤ length right.rows → node_in right.layout bytes ≡ Some right
    → Spells node.layout node.kind bytes right.rows
spells_right pages page node left right place key rest bytes can is key_is rest_is same enough spelled =
    let P = λ (row : List ℕ). length row ≡ row_length node.layout node.kind in
    spells_node node right bytes same spelled (all_right P left.rows right.rows
    (subst (λ rows. All P rows) (sym is) (insert_lengths node place key rest key_is rest_is can.lengths))) enough

-- a node that was put on a new page
pub put_node : (layout : RowLayout) (kind : Kind) (node : Node) (rows : List (List ℕ)) (page : ℕ)
    (old new : List (Option Sector)) → node ≡ node_of layout kind rows
    → (All (λ row. length row ≡ row_length node.layout node.kind) node.rows → fewest node.kind ≤ length node.rows
    → ReplacesNodes node.layout node.kind old [] new (node_with page node.rows ∷ []))
    → All (λ row. length row ≡ row_length layout kind) rows → fewest kind ≤ length rows
    → ReplacesNodes layout kind old [] new (node_with page rows ∷ [])
put_node layout kind node rows page old new is put lengths enough =
    subst (λ (n : Node). All (λ (row : List ℕ). length row ≡ row_length n.layout n.kind) n.rows → fewest n.kind ≤ length
    n.rows → ReplacesNodes n.layout n.kind old [] new (node_with page n.rows ∷ [])) is put lengths enough
