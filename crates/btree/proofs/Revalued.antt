-- A row of a page got another rest.
use Rattle.std.proofs.Common.{◌≡◌, ◌<◌, ℕ, List, [], ◌∷◌, ◌++◌, length, length-append, set, ◌∙◌, ap, subst, arith}
use Rattle.std.proofs.Common.{length-set}
use Rattle.std.specs.Prelude.{Option, None, slice_index_or}
use Rattle.std.proofs.lemmas.List.{length-take-le}
use Rattle.std.proofs.lemmas.List.Elements.{All-set}
use Rattle.station.specs.Disk.{Sector}
use Rattle.btree_pages.specs.RowLayouts.{rest_length, row_length}
use Rattle.btree_pages.specs.Keys.{key_of}
use Rattle.btree_pages.specs.Node.{Node}
use Rattle.btree_pages.specs.Edits.{with_rest}
use Rattle.btree.specs.declared.split_result.SplitResult.{SplitResult}
use Rattle.btree.specs.Tree.{TreeNode}
use Rattle.btree.specs.Moves.{ReplacesNodes}
use Rattle.btree.specs.Propagates.{node_with, rights_of, run_of}
use Rattle.btree.specs.Changes.{CanStand}

pub rest_stands : (pages : List (Option Sector)) (page : ℕ) (node : Node) (place : ℕ) (rest : List ℕ)
    → place < length node.rows → length rest ≡ rest_length node.layout node.kind → CanStand pages page node
    → CanStand pages page (with_rest node place rest)
rest_stands pages page node place rest low rest_is can =
    let row = slice_index_or node.rows place [] in
    let key_is : length (key_of node.layout row) ≡ node.layout.key_length =
    length-take-le node.layout.key_length row (omega (arith, can.lengths place [] low)) in
    record {
      is_in = can.is_in;
      lengths =
          All-set (λ (r : List ℕ). length r ≡ row_length node.layout node.kind) node.rows place (key_of node.layout row
          ++ rest) (omega (arith, length-append (key_of node.layout row) rest, key_is, rest_is)) can.lengths;
      enough = omega (arith, can.enough, length-set node.rows place (key_of node.layout row ++ rest));
    }

pub put_revalued : (old new : List (Option Sector)) (page : ℕ) (node node' : Node) (place : ℕ)
    (rest : List ℕ) (put : SplitResult) → place < length node.rows → length rest ≡ rest_length node.layout node.kind
    → CanStand old page node → node' ≡ with_rest node place rest
    → (CanStand old page node' → ReplacesNodes node'.layout node'.kind old (node_with page node'.rows ∷ []) new
    (run_of put)) → (put.page ≡ page) × (put.left ≡ node') × (put.right ≡ None)
    → ReplacesNodes node.layout node.kind old (node_with page node.rows ∷ []) new
    (node_with page (set node.rows place (key_of node.layout (slice_index_or node.rows place []) ++ rest)) ∷ [])
put_revalued old new page node node' place rest put low rest_is can is own back =
    let new_rows = set node.rows place (key_of node.layout (slice_index_or node.rows place []) ++ rest) in
    let made = subst (λ (n : Node). CanStand old page n → ReplacesNodes n.layout n.kind old (node_with page n.rows ∷ [])
    new (run_of put)) is own (rest_stands old page node place rest low rest_is can) in
    let run : run_of put ≡ node_with page new_rows ∷ [] =
    ap (λ (p : ℕ). node_with p put.left.rows ∷ rights_of put.right) back.0
    ∙ ap (λ (n : Node). node_with page n.rows ∷ rights_of put.right) (back.1 ∙ is)
    ∙ ap (λ r. node_with page new_rows ∷ rights_of r) back.2 in
    let again = subst (λ (nodes : List TreeNode).
    ReplacesNodes node.layout node.kind old (node_with page new_rows ∷ []) new nodes) run made in
    record { stand = again.stand; once = again.once; moves = again.moves }
