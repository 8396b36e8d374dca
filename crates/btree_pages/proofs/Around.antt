-- Pages that are written around one row.
use Rattle.std.proofs.Common.{◌≡◌, ◌⊎◌, ℕ, suc, ◌+◌, ◌*◌, ◌<◌, ◌≤◌, List, ◌∷◌, ◌++◌, length, set, take, drop, replicate}
use Rattle.std.proofs.Common.{slice_index, Some, add-one, sym, ap, subst, refl, ◌∙◌, arith}
use Rattle.std.proofs.lemmas.List.{drop_at, length-append, set_split, take_all, take_at}
use Rattle.byteorder.specs.Endian.{big_number}
use Rattle.btree_pages.specs.declared.row_layout.RowLayout.{RowLayout}
use Rattle.btree_pages.specs.declared.row_layout.Kind.{Kind}
use Rattle.btree_pages.specs.RowLayouts.{row_length, capacity}
use Rattle.btree_pages.specs.Node.{HasZeros, Node, kind_in, node_in, rows_in}
use Rattle.btree_pages.specs.Edits.{with_rows}
use Rattle.btree_pages.proofs.Changed.{written}
use Rattle.btree_pages.proofs.Edited.{together}
use Rattle.btree_pages.proofs.Rows.{drop-rows_in, rows_in-append, rows_in-front, rows_in-take, take-rows_in}
use Rattle.btree_pages.proofs.Views.{node_of}
use Rattle.btree_pages.proofs.Zeros.{page_zeros}

-- the rows before a place, and those from it on, where the bytes are cut there
module _ (layout : RowLayout) (kind : Kind) (n : ℕ) (bytes : List ℕ) (node : Node) (place row : ℕ)
    (all : List ℕ) (is : node_of layout kind n bytes ≡ node) (wide : row ≡ row_length layout kind) (low : place ≤ n)
    (room : n * row ≤ length bytes) (whole : all ≡ take (n * row) bytes) where
  row_is : row_length node.layout node.kind ≡ row
  row_is = sym (wide ∙ ap (λ (one : Node). row_length one.layout one.kind) is)

  rows_are : rows_in row n all ≡ node.rows
  rows_are = ap (rows_in row n) whole ∙ rows_in-take row n (n * row) bytes refl room
      ∙ ap (λ (k : ℕ). rows_in k n bytes) wide ∙ ap (λ (one : Node). one.rows) is

  pub cut_before : (before : List ℕ) → before ≡ take (place * row) all → place * row ≤ length all
      → rows_in (row_length node.layout node.kind) place before ≡ take place node.rows
  cut_before before cut le =
      ap (λ (k : ℕ). rows_in k place before) row_is
      ∙ ap (rows_in row place) cut
      ∙ rows_in-take row place (place * row) all refl le
      ∙ sym (take-rows_in row place n all low)
      ∙ ap (take place) rows_are

  pub cut_behind : (behind : List ℕ) (more : ℕ) → behind ≡ drop (place * row) all → n ≡ place + more
      → rows_in (row_length node.layout node.kind) more behind ≡ drop place node.rows
  cut_behind behind more cut en =
      ap (λ (k : ℕ). rows_in k more behind) row_is
      ∙ ap (rows_in row more) cut
      ∙ sym (drop-rows_in row place more n (place * row) all en refl)
      ∙ ap (drop place) rows_are

-- rows before a row, the row, and the rows after it
rows_around : (row n place more : ℕ) (before one behind tail : List ℕ) → n ≡ place + suc more
    → length before ≡ place * row → length one ≡ row → length behind ≡ more * row
    → rows_in row n ((before ++ (one ++ behind)) ++ tail) ≡ rows_in row place before ++ (one ∷ rows_in row more behind)
rows_around row n place more before one behind tail en lb lo lm =
    let whole = together row n place (suc more) en in
    rows_in-front row n (before ++ (one ++ behind)) tail
    (omega (arith, length-append before (one ++ behind), length-append one behind))
    ∙ rows_in-append row place (suc more) n before (one ++ behind) en lb
    ∙ rw (take_at one behind row lo, drop_at one behind row lo) refl

-- a row becomes another
pub set_around : (rows : List (List ℕ)) (place : ℕ) (one : List ℕ) → place < length rows
    → take place rows ++ (one ∷ drop (place + 1) rows) ≡ set rows place one
set_around rows place one lt = rw add-one (sym (set_split rows place one lt))

-- a page of a head and such rows
pub spelled_around : (node : Node) (n place more zeros : ℕ) (head before one behind bytes : List ℕ)
    (front back : List (List ℕ)) → bytes ≡ head ++ ((before ++ (one ++ behind)) ++ replicate zeros 0)
    → length head ≡ 16 → kind_in (slice_index head 0) ≡ Some node.kind → big_number 2 (drop 2 head) ≡ n
    → n ≡ place + suc more → n ≤ capacity node.layout node.kind
    → length before ≡ place * row_length node.layout node.kind
    → rows_in (row_length node.layout node.kind) place before ≡ front → length one ≡ row_length node.layout node.kind
    → length behind ≡ more * row_length node.layout node.kind → rows_in (row_length node.layout node.kind) more
    behind ≡ back → node_in node.layout bytes ≡ Some (with_rows node (front ++ (one ∷ back)))
spelled_around node n place more zeros head before one behind bytes front back is lh kind count en few lb eb lo lm em =
    written node.layout node.kind n head ((before ++ (one ++ behind)) ++ replicate zeros 0) bytes is lh kind count few
    ∙ ap (λ (rows : List (List ℕ)). Some (with_rows node rows))
    (rows_around (row_length node.layout node.kind) n place more before one behind (replicate zeros 0) en lb lo lm)
    ∙ rw (eb, em) refl

-- what names nothing in such a page
pub zeros_around : (node : Node) (zeros : ℕ) (head rows bytes : List ℕ) → bytes ≡ head ++ (rows ++ replicate zeros 0)
    → length head ≡ 16 → ((p : ℕ) → (p ≡ 1) ⊎ (4 ≤ p) → slice_index head p ≡ 0)
    → length node.rows * row_length node.layout node.kind ≡ length rows → HasZeros node bytes
zeros_around node zeros head rows bytes is lh zero long = λ place there.
    page_zeros head rows bytes (length rows) zeros place (is ∙ ap (λ (l : List ℕ). head ++ (l ++ replicate zeros 0))
    (sym (take_all (length rows) rows (omega arith)))) lh (omega arith) zero
    (subst (λ (n : ℕ). (place ≡ 1) ⊎ ((4 ≤ place) × (place < 16)) ⊎ (16 + n ≤ place)) long there)
