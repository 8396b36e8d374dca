-- The rows of a page that learns what became of a child.
use Rattle.std.proofs.Common.{◌≡◌, ◌<◌, ◌≤◌, ◌+◌, ◌-◌, ℕ, zero, suc, List, [], ◌∷◌, ◌++◌, length, map, take, drop, set}
use Rattle.std.proofs.Common.{refl, sym, ◌∙◌, ap, subst, arith, length-append, length-set}
use Rattle.std.specs.Prelude.{Option, Some, None, MatchOption, slice_index_or}
use Rattle.std.specs.List.{insert}
use Rattle.std.proofs.lemmas.List.{append-nil, set_split, length-take-le, length-drop}
use Rattle.std.proofs.lemmas.List.Edits.{insert-append_right}
use Rattle.std.proofs.lemmas.List.Elements.{All-set}
use Rattle.byteorder.specs.Endian.{big_bytes}
use Rattle.station.specs.Disk.{Sector}
use Rattle.btree_pages.specs.declared.row_layout.RowLayout.{RowLayout}
use Rattle.btree_pages.specs.declared.row_layout.Kind.{Kind}
use Rattle.btree_pages.specs.declared.row_layout.Kind.TheVariants.{Inner}
use Rattle.btree_pages.specs.RowLayouts.{row_length}
use Rattle.btree_pages.specs.Keys.{key_of, rest_of}
use Rattle.btree_pages.specs.Node.{Node}
use Rattle.btree_pages.specs.Edits.{with_key}
use Rattle.btree.specs.declared.split_result.SplitResult.{SplitResult}
use Rattle.btree.specs.declared.split_result.Right.{Right}
use Rattle.btree.specs.Tree.{TreeNode, row_of, rows_of}
use Rattle.btree.specs.Moves.{ReplacesNodes}
use Rattle.btree.specs.Propagates.{node_with, rights_of, run_of}
use Rattle.btree.specs.Changes.{CanStand, UpdatesParent}

-- the row of a child gets another key
pub named_row : (layout : RowLayout) (rows : List (List ℕ)) (place : ℕ) (key : List ℕ) (page : ℕ) → place < length rows
    → rest_of layout (slice_index_or rows place []) ≡ big_bytes 4 page
    → set rows place (key ++ rest_of layout (slice_index_or rows place []))
    ≡ take place rows ++ ((key ++ big_bytes 4 page) ∷ drop (place + 1) rows)
named_row layout rows place key page low is =
    let next : suc place ≡ place + 1 = omega arith in
    set_split rows place (key ++ rest_of layout (slice_index_or rows place [])) low
    ∙ ap (λ (rest : List ℕ). take place rows ++ ((key ++ rest) ∷ drop (suc place) rows)) is
    ∙ ap (λ (n : ℕ). take place rows ++ ((key ++ big_bytes 4 page) ∷ drop n rows)) next

-- and a row follows it
pub named_two : (rows : List (List ℕ)) (place : ℕ) (one two : List ℕ) (behind : List (List ℕ)) → place ≤ length rows
    → insert (take place rows ++ (one ∷ behind)) (place + 1) two ≡ take place rows ++ (one ∷ two ∷ behind)
named_two rows place one two behind low =
    let single : place + 1 - place ≡ 1 = omega arith in
    insert-append_right (take place rows) (one ∷ behind) place (place + 1) two (length-take-le place rows low)
    (omega arith)
    ∙ ap (λ (n : ℕ). take place rows ++ insert (one ∷ behind) n two) single

-- with another key of its length, a node can stand where it stood
pub renamed_stands : (pages : List (Option Sector)) (page : ℕ) (node : Node) (place : ℕ) (key : List ℕ)
    → place < length node.rows → length key ≡ node.layout.key_length → CanStand pages page node
    → CanStand pages page (with_key node place key)
renamed_stands pages page node place key low key_is can =
    let row = slice_index_or node.rows place [] in
    record {
      is_in = can.is_in;
      lengths = All-set (λ (r : List ℕ). length r ≡ row_length node.layout node.kind) node.rows place
          (key ++ rest_of node.layout row)
          (omega (
            arith,
            length-append key (rest_of node.layout row),
            key_is,
            length-drop node.layout.key_length row,
            can.lengths place [] low,
          )) can.lengths;
      enough = omega (arith, can.enough, length-set node.rows place (key ++ rest_of node.layout row));
    }

-- the first row stays where what changes is after it
pub first_same : (place : ℕ) (rows more : List (List ℕ)) → 0 < place → place < length rows
    → slice_index_or (take place rows ++ more) 0 [] ≡ slice_index_or rows 0 []
first_same zero rows more some low = absurd (omega (arith, some))
first_same (suc place) [] more some low = absurd (omega (arith, low))
first_same (suc place) (row ∷ rows) more some low = refl

-- what is told of it
pub updates_as : (layout : RowLayout) (one two : List (Option Sector)) (page : ℕ) (rows : List (List ℕ)) (place : ℕ)
    (low : List TreeNode) (updated : SplitResult) (up : Option SplitResult)
    → ReplacesNodes layout Inner one (node_with page rows ∷ []) two (run_of updated)
    → rows_of (run_of updated) ≡ take place rows ++ (map (row_of layout) low ++ drop (place + 1) rows)
    → updated.page ≡ page → place < length rows
    → MatchOption up ((0 < place) × (updated.right ≡ None)) (λ told. told ≡ updated)
    → UpdatesParent layout one two page rows place low up
updates_as layout one two page rows place low updated (Some told) own is page_is within tells =
    record {
      run = run_of updated;
      own = own;
      rows = is;
      tells = (sym (ap run_of tells), ap (λ (g : SplitResult). g.page) tells ∙ page_is);
    }
updates_as layout one two page rows place low updated None own is page_is within tells =
    let alone : run_of updated ≡ node_with updated.page updated.left.rows ∷ [] =
    ap (λ r. node_with updated.page updated.left.rows ∷ rights_of r) tells.1 in
    let same : updated.left.rows ≡ take place rows ++ (map (row_of layout) low ++ drop (place + 1) rows) =
    sym (ap rows_of alone ∙ append-nil updated.left.rows) ∙ is in
    record {
      run = run_of updated;
      own = own;
      rows = is;
      tells = record {
        node = node_with updated.page updated.left.rows;
        alone = alone;
        page = page_is;
        least = ap (λ (l : List (List ℕ)). key_of layout (slice_index_or l 0 [])) same ∙ ap (key_of layout)
            (first_same place rows (map (row_of layout) low ++ drop (place + 1) rows) tells.0 within);
      };
    }

pub put_again : (layout : RowLayout) (kind : Kind) (old new : List (Option Sector)) (page : ℕ) (rows rows' :
    List (List ℕ)) (run : List TreeNode) → ReplacesNodes layout kind old (node_with page rows' ∷ []) new run
    → ReplacesNodes layout kind old (node_with page rows ∷ []) new run
put_again layout kind old new page rows rows' run r = record { stand = r.stand; once = r.once; moves = r.moves }

-- What a page is updated from: the row at its place names a page that got this key.
pub record ParentUpdates (old : List (Option Sector)) (page : ℕ) (node : Node) (place : ℕ) (key : List ℕ)
    (split : SplitResult) : Type 0 where
  pub inner : node.kind ≡ Inner
  pub place_low : place < length node.rows
  pub layout_is : split.left.layout ≡ node.layout
  pub key_is : key ≡ key_of split.left.layout (slice_index_or split.left.rows 0 [])
  pub key_length : length key ≡ split.left.layout.key_length
  pub can : CanStand old page node
  pub names : rest_of node.layout (slice_index_or node.rows place []) ≡ big_bytes 4 split.page

renamed_can : (old : List (Option Sector)) (page : ℕ) (node : Node) (place : ℕ) (key : List ℕ) (split : SplitResult)
    → ParentUpdates old page node place key split → CanStand old page (with_key node place key)
renamed_can old page node place key split l = renamed_stands old page node place key l.place_low
    (l.key_length ∙ ap (λ (layout : RowLayout). layout.key_length) l.layout_is) l.can

renamed_rows : (old : List (Option Sector)) (page : ℕ) (node : Node) (place : ℕ) (key : List ℕ) (split : SplitResult)
    → ParentUpdates old page node place key split
    → (with_key node place key).rows
    ≡ take place node.rows ++ (row_of node.layout (node_with split.page split.left.rows) ∷ drop (place + 1) node.rows)
renamed_rows old page node place key split l =
    named_row node.layout node.rows place key split.page l.place_low l.names
    ∙ ap (λ (k : List ℕ). take place node.rows ++ ((k ++ big_bytes 4 split.page) ∷ drop (place + 1) node.rows))
    (l.key_is ∙ ap (λ (layout : RowLayout). key_of layout (slice_index_or split.left.rows 0 [])) l.layout_is)

own_inner : (old new : List (Option Sector)) (page : ℕ) (node node' : Node) (place : ℕ) (key : List ℕ)
    (split updated : SplitResult) → ParentUpdates old page node place key split → node' ≡ with_key node place key
    → (CanStand old page node' → ReplacesNodes node'.layout node'.kind old (node_with page node'.rows ∷ []) new
    (run_of updated)) → ReplacesNodes node.layout Inner old (node_with page node.rows ∷ []) new (run_of updated)
own_inner old new page node node' place key split updated l is put =
    let own = subst (λ (n : Node). CanStand old page n → ReplacesNodes n.layout n.kind old (node_with page n.rows ∷ [])
    new (run_of updated)) is put (renamed_can old page node place key split l) in
    put_again node.layout Inner old new page node.rows (with_key node place key).rows (run_of updated)
    (subst (λ (kind : Kind). ReplacesNodes node.layout kind old (node_with page (with_key node place key).rows ∷ []) new
    (run_of updated)) l.inner own)

pub updated_one : (old new : List (Option Sector)) (page : ℕ) (node node' : Node) (place : ℕ)
    (key : List ℕ) (split updated : SplitResult) (up : Option SplitResult) → ParentUpdates old page node place key split
    → node' ≡ with_key node place key
    → (CanStand old page node'
    → ReplacesNodes node'.layout node'.kind old (node_with page node'.rows ∷ []) new (run_of updated))
    → split.right ≡ None → (updated.page ≡ page) × (updated.left ≡ node') × (updated.right ≡ None)
    → MatchOption up ((0 < place) × (updated.right ≡ None)) (λ told. told ≡ updated)
    → UpdatesParent node.layout old new page node.rows place (run_of split) up
updated_one old new page node node' place key split updated up l is put none back tells =
    updates_as node.layout old new page node.rows place (run_of split) updated up
    (own_inner old new page node node' place key split updated l is put)
    (ap (λ r. updated.left.rows ++ rows_of (rights_of r)) back.2 ∙ append-nil updated.left.rows
    ∙ ap (λ (n : Node). n.rows) (back.1 ∙ is) ∙ renamed_rows old page node place key split l
    ∙ ap (λ r. take place node.rows ++ (map (row_of node.layout) (node_with split.page split.left.rows ∷ rights_of r)
    ++ drop (place + 1) node.rows)) (sym none))
    back.0 l.place_low tells

pub updated_two : (old new : List (Option Sector)) (page : ℕ) (node node' : Node) (place : ℕ)
    (key : List ℕ) (split updated : SplitResult) (right : Right) (up : Option SplitResult)
    → ParentUpdates old page node place key split → node' ≡ with_key node place key
    → (CanStand old page node'
    → ReplacesNodes node'.layout node'.kind old (node_with page node'.rows ∷ []) new (run_of updated))
    → split.right ≡ Some right → rows_of (run_of updated) ≡ insert node'.rows (place + 1)
    (row_of node'.layout (node_with right.page right.node.rows)) → updated.page ≡ page
    → MatchOption up ((0 < place) × (updated.right ≡ None)) (λ told. told ≡ updated)
    → UpdatesParent node.layout old new page node.rows place (run_of split) up
updated_two old new page node node' place key split updated right up l is put some rows page_is tells =
    updates_as node.layout old new page node.rows place (run_of split) updated up
    (own_inner old new page node node' place key split updated l is put)
    (rows
    ∙ ap (λ (n : Node). insert n.rows (place + 1) (row_of n.layout (node_with right.page right.node.rows))) is
    ∙ ap (λ rows. insert rows (place + 1) (row_of node.layout (node_with right.page right.node.rows)))
    (renamed_rows old page node place key split l)
    ∙ named_two node.rows place (row_of node.layout (node_with split.page split.left.rows)) (row_of node.layout
    (node_with right.page right.node.rows)) (drop (place + 1) node.rows) (omega (arith, l.place_low))
    ∙ ap (λ r. take place node.rows ++ (map (row_of node.layout) (node_with split.page split.left.rows ∷ rights_of r)
    ++ drop (place + 1) node.rows)) (sym some))
    page_is l.place_low tells
