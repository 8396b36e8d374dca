-- An inner page that names two pages.
use Rattle.std.proofs.Common.{◌≡◌, ◌++◌, ◌∷◌, [], ℕ, List, length, length-append, ap, ◌∙◌, arith}
use Rattle.std.specs.Prelude.{slice_index_or}
use Rattle.std.specs.List.{All}
use Rattle.std.proofs.lemmas.List.Elements.{All-cons, All-nil}
use Rattle.byteorder.specs.Endian.{big_bytes}
use Rattle.btree_pages.specs.Edits.{node_with_row}
use Rattle.btree_pages.specs.Keys.{key_of}
use Rattle.btree_pages.specs.Node.{Node}
use Rattle.btree_pages.specs.RowLayouts.{row_length}
use Rattle.btree_pages.specs.declared.row_layout.Kind.TheVariants.{Inner}
use Rattle.btree_pages.specs.declared.row_layout.RowLayout.{RowLayout}
use Rattle.btree.specs.Propagates.{node_with}
use Rattle.btree.specs.Tree.{node_of, row_of}

-- the row of a page, of its least key
named_row : (layout other : RowLayout) (rows : List (List ℕ)) (page : ℕ) (key : List ℕ) → other ≡ layout
    → key ≡ key_of other (slice_index_or rows 0 []) → length key ≡ other.key_length
    → (key ++ big_bytes 4 page ≡ row_of layout (node_with page rows))
    × (length (row_of layout (node_with page rows)) ≡ row_length layout Inner)
named_row layout other rows page key like is count =
    let same : key ≡ key_of layout (slice_index_or rows 0 []) =
    is ∙ ap (λ (f : RowLayout). key_of f (slice_index_or rows 0 [])) like in
    let long : length key ≡ layout.key_length = count ∙ ap (λ (f : RowLayout). f.key_length) like in (
      ap (λ (k : List ℕ). k ++ big_bytes 4 page) same,
      omega (
        arith,
        length-append (key_of layout (slice_index_or rows 0 [])) (big_bytes 4 page),
        ap length same,
        long,
      ),
    )

-- a blank page after the rows of two pages were put into it, and the lengths of these
pub two_named : (layout left_layout right_layout : RowLayout) (left_rows right_rows : List (List ℕ)) (left right : ℕ)
    (first second : List ℕ) (blank one two : Node) → left_layout ≡ layout → right_layout ≡ layout
    → first ≡ key_of left_layout (slice_index_or left_rows 0 []) → length first ≡ left_layout.key_length
    → second ≡ key_of right_layout (slice_index_or right_rows 0 []) → length second ≡ right_layout.key_length
    → blank ≡ node_of layout Inner [] → one ≡ node_with_row blank 0 (first ++ big_bytes 4 left)
    → two ≡ node_with_row one 1 (second ++ big_bytes 4 right)
    → (two ≡ node_of layout Inner
    (row_of layout (node_with left left_rows) ∷ row_of layout (node_with right right_rows) ∷ []))
    × All (λ row. length row ≡ row_length layout Inner)
    (row_of layout (node_with left left_rows) ∷ row_of layout (node_with right right_rows) ∷ [])
two_named layout left_layout right_layout left_rows right_rows left right first second blank one two left_like
    right_like first_is first_long second_is second_long blank_is one_is two_is =
    let low = named_row layout left_layout left_rows left first left_like first_is first_long in
    let high = named_row layout right_layout right_rows right second right_like second_is second_long in
    let lower = row_of layout (node_with left left_rows) in
    let upper = row_of layout (node_with right right_rows) in
    let P = λ (row : List ℕ). length row ≡ row_length layout Inner in (
      two_is ∙ ap (λ (n : Node). node_with_row n 1 (second ++ big_bytes 4 right))
          (one_is ∙ ap (λ (n : Node). node_with_row n 0 (first ++ big_bytes 4 left)) blank_is
          ∙ ap (λ (row : List ℕ). node_with_row (node_of layout Inner []) 0 row) low.0)
          ∙ ap (λ (row : List ℕ). node_with_row (node_of layout Inner (lower ∷ [])) 1 row) high.0,
      All-cons P lower (upper ∷ []) low.1 (All-cons P upper [] high.1 (All-nil P)),
    )
