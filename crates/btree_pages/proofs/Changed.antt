-- A page after a change of its rows.
use Rattle.std.proofs.Common.{◌≡◌, ℕ, ◌+◌, ◌*◌, ◌≤◌, List, ◌++◌, length, drop, slice_index, Some, sym, ap, ◌∙◌, arith}
use Rattle.std.proofs.lemmas.List.{append-nil, drop-append-le, drop_all, drop_at, get_or_append_left, length-drop}
use Rattle.byteorder.specs.Endian.{big_number}
use Rattle.byteorder.specs.Numbers.{big_from-append}
use Rattle.std.proofs.Math.Nat.{mul-le-mul_left}
use Rattle.btree_pages.specs.declared.row_layout.RowLayout.{RowLayout}
use Rattle.btree_pages.specs.declared.row_layout.Kind.{Kind}
use Rattle.btree_pages.specs.RowLayouts.{IsRowLayout, row_length, capacity}
use Rattle.btree_pages.specs.Node.{Node, count_in, kind_in, node_in, rows_in}
use Rattle.btree_pages.specs.Edits.{with_rows}
use Rattle.btree_pages.proofs.Places.{row_has_bytes, rows_fit}
use Rattle.btree_pages.specs.Bytes.{put_at}
use Rattle.btree_pages.proofs.Edited.{put_both}
use Rattle.btree_pages.proofs.Views.{counted, node_of, spelled_node}

-- the change is one of the page's rows
pub changed : (layout : RowLayout) (kind : Kind) (row n m : ℕ) (bytes other : List ℕ) (node : Node)
    (change : Node → List (List ℕ)) → row ≡ row_length layout kind → node_of layout kind n bytes ≡ node
    → rows_in row m other ≡ change (node_of layout kind n bytes)
    → node_of layout kind m other ≡ with_rows node (change node)
changed layout kind row n m bytes other node change er e h =
    ap (λ (k : ℕ). with_rows (node_of layout kind n bytes) (rows_in k m other)) (sym er)
    ∙ ap (λ (rows : List (List ℕ)). with_rows (node_of layout kind n bytes) rows) h
    ∙ ap (λ (one : Node). with_rows one (change one)) e

-- as many rows as a page has room for are at most as many as it has bytes
pub few_rows : (layout : RowLayout) (kind : Kind) (n : ℕ) → IsRowLayout layout → n ≤ capacity layout kind → n ≤ 4080
few_rows layout kind n sound le =
    omega (arith, rows_fit layout kind n sound le, mul-le-mul_left n (row_has_bytes layout kind sound))

-- and stand within them
pub fits_in : (layout : RowLayout) (kind : Kind) (row n : ℕ) → row ≡ row_length layout kind → IsRowLayout layout
    → n ≤ capacity layout kind → n * row ≤ 4080
fits_in layout kind row n e sound le = let fits : n * row_length layout kind ≤ 4080 =
    rows_fit layout kind n sound le in rw e fits

-- room for more rows
pub room_in : (layout : RowLayout) (kind : Kind) (n more : ℕ) (bytes : List ℕ) (node : Node)
    → node_of layout kind n bytes ≡ node → length node.rows + more ≤ capacity node.layout node.kind
    → n + more ≤ capacity layout kind
room_in layout kind n more bytes node e le =
    let rows : n ≡ length node.rows = counted layout kind n bytes node e in
    let room : capacity layout kind ≡ capacity node.layout node.kind =
    ap (λ (one : Node). capacity one.layout one.kind) e in
    omega (arith, rows, room, le)

-- the bytes that a page is written as
pub written : (layout : RowLayout) (kind : Kind) (n : ℕ) (head rows bytes : List ℕ) → bytes ≡ head ++ rows
    → length head ≡ 16 → kind_in (slice_index head 0) ≡ Some kind → big_number 2 (drop 2 head) ≡ n
    → n ≤ capacity layout kind
    → node_in layout bytes ≡ Some (node_of layout kind n rows)
written layout kind n head rows bytes eb eh ek en le =
    let first : slice_index bytes 0 ≡ slice_index head 0 =
    ap (λ (l : List ℕ). slice_index l 0) eb ∙ get_or_append_left head rows 0 0 (omega arith) in
    let number : count_in bytes ≡ big_number 2 (drop 2 head) =
    ap (λ (l : List ℕ). big_number 2 (drop 2 l)) eb
    ∙ ap (big_number 2) (drop-append-le 2 head rows (omega arith))
    ∙ big_from-append 2 (drop 2 head) rows (omega (arith, length-drop 2 head)) in
    let behind : rows ≡ drop 16 bytes = sym (ap (drop 16) eb ∙ drop_at head rows 16 eh) in
    sym (spelled_node layout bytes kind n rows (ap kind_in first ∙ ek) (sym (number ∙ en)) le behind)

pub put_joined : (head rows bytes : List ℕ) → length head ≡ 16 → length rows ≡ 4080 → length bytes ≡ 4096
    → put_at 16 rows (put_at 0 head bytes) ≡ head ++ rows
put_joined head rows bytes eh er eb =
    let at : 16 ≡ 0 + length head = omega arith in
    ap (λ (k : ℕ). put_at k rows (put_at 0 head bytes)) at
    ∙ put_both 0 head rows bytes (omega arith)
    ∙ ap (λ (l : List ℕ). (head ++ rows) ++ l) (drop_all (0 + length head + length rows) bytes (omega arith))
    ∙ append-nil (head ++ rows)
