-- The bytes of a page that is written whole, and of one that is written around one row.
use Rattle.std.proofs.Common.{◌≡◌, ◌⊎◌, ◌<◌, ◌≤◌, ◌+◌, ◌-◌, ◌*◌, ◌++◌, ◌∷◌, ℕ, suc, List, [], length, take, drop}
use Rattle.std.proofs.Common.{replicate}
use Rattle.std.proofs.Common.{slice_index, Some, ap, sym, subst, ◌∙◌, arith}
use Rattle.std.specs.Prelude.{slice_index_or}
use Rattle.std.proofs.lemmas.List.{length-append, length-set}
use Rattle.std.proofs.lemmas.List.Edits.{length-insert}
use Rattle.byteorder.specs.Endian.{big_number}
use Rattle.btree_pages.specs.declared.row_layout.RowLayout.{RowLayout}
use Rattle.btree_pages.specs.declared.row_layout.Kind.{Kind}
use Rattle.btree_pages.specs.RowLayouts.{IsRowLayout, row_length, capacity}
use Rattle.btree_pages.specs.Keys.{key_of}
use Rattle.btree_pages.specs.Node.{Node, HasZeros, kind_in, node_in, rows_in}
use Rattle.btree_pages.specs.Edits.{with_rows, with_rest, node_with_row}
use Rattle.btree_pages.proofs.Around.{set_around, spelled_around, zeros_around}
use Rattle.btree_pages.proofs.Changed.{written, fits_in}
use Rattle.btree_pages.proofs.Edited.{together}
use Rattle.btree_pages.proofs.Views.{node_of, counted}
use Rattle.btree_pages.proofs.Zeros.{front_rows, page_zeros}

-- a page of a head, the bytes of its rows, and zeros
module _ (layout : RowLayout) (kind : Kind) (count row : ℕ) (bytes head front page : List ℕ) (node : Node)
    (is : node_of layout kind count bytes ≡ node) (wide : row ≡ row_length layout kind) (sound : IsRowLayout layout)
    (few : count ≤ capacity layout kind) (long : length bytes ≡ 4080)
    (cut : front ≡ take (count * row) bytes ++ replicate (4080 - count * row) 0) (joined : page ≡ head ++ front)
    (head_long : length head ≡ 16) where
  low : count * row ≤ length bytes
  low = omega (arith, fits_in layout kind row count wide sound few, long)

  pub whole_reads : kind_in (slice_index head 0) ≡ Some kind → big_number 2 (drop 2 head) ≡ count
      → node_in node.layout page ≡ Some node
  whole_reads head_kind head_count =
      let end : count * row ≡ count * row_length layout kind = ap (λ (n : ℕ). count * n) wide in
      ap (λ (one : Node). node_in one.layout page) (sym is)
      ∙ written layout kind count head front page joined head_long head_kind head_count few
      ∙ ap (λ (l : List (List ℕ)). Some (record { layout = layout; kind = kind; rows = l }))
      (ap (rows_in (row_length layout kind) count) cut
      ∙ front_rows (row_length layout kind) count (count * row) (4080 - count * row) bytes end low)
      ∙ ap (λ (one : Node). Some one) is

  pub whole_zeros : ((p : ℕ) → (p ≡ 1) ⊎ (4 ≤ p) → slice_index head p ≡ 0) → HasZeros node page
  whole_zeros zeros = λ place there.
      let rows : count ≡ length node.rows = counted layout kind count bytes node is in
      let same : length node.rows * row_length node.layout node.kind ≡ count * row =
      sym (ap (λ (n : ℕ). count * n) (wide ∙ ap (λ (one : Node). row_length one.layout one.kind) is)
      ∙ ap (λ (n : ℕ). n * row_length node.layout node.kind) rows) in
      page_zeros head bytes page (count * row) (4080 - count * row) place
      (joined ∙ ap (λ (l : List ℕ). head ++ l) cut) head_long low zeros
      (subst (λ (n : ℕ). (place ≡ 1) ⊎ ((4 ≤ place) × (place < 16)) ⊎ (16 + n ≤ place)) same there)

-- a page of a head, the rows before a row, the row, the rows after it, and zeros
module _ (node : Node) (place : ℕ) (head before key rest behind page : List ℕ)
    (is : page ≡ head ++ ((before ++ ((key ++ rest) ++ behind))
    ++ replicate (4080 - length (before ++ ((key ++ rest) ++ behind))) 0)) (head_long : length head ≡ 16)
    (before_long : length before ≡ place * row_length node.layout node.kind)
    (wide : length key + length rest ≡ row_length node.layout node.kind) where
  abbrev row : ℕ
  row = row_length node.layout node.kind

  abbrev one : List ℕ
  one = key ++ rest

  abbrev all : List ℕ
  all = before ++ (one ++ behind)

  rows_long : (n more : ℕ) → n ≡ place + suc more → length behind ≡ more * row → n * row ≡ length all
  rows_long n more whole behind_long =
      let parts = together row n place (suc more) whole in
      omega (
        arith,
        parts,
        before_long,
        behind_long,
        wide,
        length-append before (one ++ behind),
        length-append one behind,
        length-append key rest,
      )

  reads_around : (n more : ℕ) (front back : List (List ℕ)) → kind_in (slice_index head 0) ≡ Some node.kind
      → big_number 2 (drop 2 head) ≡ n → n ≡ place + suc more → n ≤ capacity node.layout node.kind
      → rows_in row place before ≡ front → length behind ≡ more * row → rows_in row more behind ≡ back
      → node_in node.layout page ≡ Some (with_rows node (front ++ (one ∷ back)))
  reads_around n more front back kind count whole few front_is behind_long back_is =
      spelled_around node n place more (4080 - length all) head before one behind page front back is head_long kind
      count whole few before_long front_is (length-append key rest ∙ wide) behind_long back_is

  -- the row came to the place
  pub inserted_reads : place ≤ length node.rows → length node.rows < capacity node.layout node.kind
      → kind_in (slice_index head 0) ≡ Some node.kind → big_number 2 (drop 2 head) ≡ length node.rows + 1
      → rows_in row place before ≡ take place node.rows → length behind ≡ (length node.rows - place) * row
      → rows_in row (length node.rows - place) behind ≡ drop place node.rows
      → node_in node.layout page ≡ Some (node_with_row node place one)
  inserted_reads low room kind count front_is behind_long back_is =
      reads_around (length node.rows + 1) (length node.rows - place) (take place node.rows) (drop place node.rows) kind
      count (omega (arith, low)) (omega (arith, room)) front_is behind_long back_is

  pub inserted_zeros : place ≤ length node.rows → ((p : ℕ) → (p ≡ 1) ⊎ (4 ≤ p) → slice_index head p ≡ 0)
      → length behind ≡ (length node.rows - place) * row → HasZeros (node_with_row node place one) page
  inserted_zeros low zeros behind_long = zeros_around (node_with_row node place one) (4080 - length all) head all page
      is head_long zeros (ap (λ (k : ℕ). k * row) (length-insert node.rows place one low)
      ∙ rows_long (length node.rows + 1) (length node.rows - place) (omega (arith, low)) behind_long)

  -- the row at the place got another rest
  pub rest_reads : place < length node.rows → length node.rows ≤ capacity node.layout node.kind
      → key ≡ key_of node.layout (slice_index_or node.rows place []) → kind_in (slice_index head 0) ≡ Some node.kind
      → big_number 2 (drop 2 head) ≡ length node.rows → rows_in row place before ≡ take place node.rows
      → length behind ≡ (length node.rows - (place + 1)) * row
      → rows_in row (length node.rows - (place + 1)) behind ≡ drop (place + 1) node.rows
      → node_in node.layout page ≡ Some (with_rest node place rest)
  rest_reads low few key_is kind count front_is behind_long back_is =
      reads_around (length node.rows) (length node.rows - (place + 1)) (take place node.rows)
      (drop (place + 1) node.rows) kind count (omega (arith, low)) few front_is behind_long back_is
      ∙ ap (λ (k : List ℕ). Some
      (with_rows node (take place node.rows ++ ((k ++ rest) ∷ drop (place + 1) node.rows)))) key_is
      ∙ ap (λ (rows : List (List ℕ)). Some (with_rows node rows))
      (set_around node.rows place (key_of node.layout (slice_index_or node.rows place []) ++ rest) low)

  pub rest_zeros : place < length node.rows → ((p : ℕ) → (p ≡ 1) ⊎ (4 ≤ p) → slice_index head p ≡ 0)
      → length behind ≡ (length node.rows - (place + 1)) * row → HasZeros (with_rest node place rest) page
  rest_zeros low zeros behind_long = zeros_around (with_rest node place rest) (4080 - length all) head all page is
      head_long zeros (ap (λ (k : ℕ). k * row)
      (length-set node.rows place (key_of node.layout (slice_index_or node.rows place []) ++ rest))
      ∙ rows_long (length node.rows) (length node.rows - (place + 1)) (omega (arith, low)) behind_long)
