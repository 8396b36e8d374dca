use Rattle.std.proofs.Common.{◌≡◌, ◌≤◌, ◌<◌, ℕ, List, Err, true, length, refl, sym, ◌∙◌}
use Rattle.std.proofs.Common.{subst, arith}
use Rattle.pages.specs.Pages.{is_spent}
use Rattle.pages.specs.declared.error.PagesError.TheVariants.{Spent}
use Rattle.btree_pages.specs.declared.row_layout.Kind.TheVariants.{Inner}
use Rattle.btree_pages.specs.Node.{Node}
use Rattle.btree.specs.Builds.{Builds, rows_of_nodes}
use Rattle.btree.specs.Changes.{pages_of_map}
use Rattle.btree.proofs.Building.{builds_few, builds_more}
use Rattle.btree.proofs.Clearing.{keeps_still, keeps_on}
use Rattle.btree.proofs.Passing.{passed, still_error}
use Rattle.btree.proofs.PlacedLeaves.{none_placed, more_placed, all_placed}
use Rattle.btree.proofs.Writes.{put_node, node_is}
use Rattle.btree.proofs.tree.Tree.build.Goals as goal

-- No leaf is placed before the first turn.
pub loop-turn-init : goal.loop-turn-init
loop-turn-init c = record {
  top = none_placed c.args.layout (pages_of_map c.args.pages.now) c.args.leaves.now c.new-top.result c.new-top.ensures;
  changes = omega arith;
  fills = omega arith;
  keeps = keeps_still c.args.pages.now;
}

pub loop-turn-preserved : goal.loop-turn-preserved
loop-turn-preserved c =
    let loop = c.loop-turn in
    record {
      top = more_placed c.args.layout (pages_of_map c.args.pages.now) (pages_of_map loop.pages)
          (pages_of_map c.put_new.new.pages) c.args.leaves.now c.index-leaves-leaves.result loop.turn loop.root
          c.in_ok-root.root loop.top c.insert_child.new.self c.key.result.now c.loop-turn-test.true
          (sym c.index-leaves-leaves.is) c.requires.leaves c.count-count.ensures.node c.in_ok-root.ensures.pages
          c.key.ensures.key c.key.ensures.length c.insert_child.ensures loop.invariant.top;
      changes = omega (arith, loop.invariant.changes, c.put_new.ensures.changed_pages);
      fills = omega (arith, loop.invariant.fills, c.put_new.ensures.filled);
      keeps = keeps_on _ _ _ loop.invariant.keeps c.put_new.ensures.keeps;
    }

pub returns-then-leaves-le1-clause-built : goal.returns-then-leaves-le1-clause-built
returns-then-leaves-le1-clause-built c = λ up image.
    let loop = c.loop-turn in
    let leaves : List Node = c.args.leaves.now in
    let few : length leaves ≤ 1 = c.if-leaves-le1.true in
    let puts = all_placed c.args.layout (pages_of_map c.args.pages.now image) (pages_of_map loop.pages image) leaves
    loop.turn loop.root loop.top.rows c.loop-turn-test.false (loop.invariant.top.placed image) in
    subst (λ (root : ℕ). Builds c.args.layout (pages_of_map c.args.pages.now image) (rows_of_nodes leaves)
    (pages_of_map loop.pages image) root) (sym c.new.ensures.root)
    (builds_few c.args.layout (pages_of_map c.args.pages.now image) leaves (pages_of_map loop.pages image)
    loop.root loop.top.rows puts.run puts refl few up)

pub returns-clause-built : goal.returns-clause-built
returns-clause-built c = λ up image.
    let loop = c.loop-turn in
    let leaves : List Node = c.args.leaves.now in
    let more : 1 < length leaves = c.if-leaves-le1.false in
    let puts = all_placed c.args.layout (pages_of_map c.args.pages.now image) (pages_of_map loop.pages image) leaves
    loop.turn loop.root loop.top.rows c.loop-turn-test.false (loop.invariant.top.placed image) in
    let own = put_node c.args.layout Inner loop.top loop.top.rows c.in_ok-above.above _ _
    (node_is c.args.layout Inner loop.top loop.invariant.top.like loop.invariant.top.kind)
    (c.in_ok-above.ensures.pages image) loop.invariant.top.lengths
    (omega (arith, loop.invariant.top.count, c.loop-turn-test.false, more)) in
    subst (λ (root : ℕ). Builds c.args.layout (pages_of_map c.args.pages.now image) (rows_of_nodes leaves)
    (pages_of_map c.put_new-2.new.pages image) root) (sym c.new-2.ensures.root)
    (builds_more c.args.layout (pages_of_map c.args.pages.now image) (pages_of_map loop.pages image)
    (pages_of_map c.put_new-2.new.pages image) leaves loop.root c.in_ok-above.above loop.top.rows puts own up)

pub returns-in_err-root-clause-full : goal.returns-in_err-root-clause-full
returns-in_err-root-clause-full c = λ is.
    let told = rw is at c.from_residual.ensures.1 in
    c.in_err-root.ensures.full (cc told)

pub returns-in_err-above-clause-full : goal.returns-in_err-above-clause-full
returns-in_err-above-clause-full c = λ is.
    let told = rw is at c.from_residual-in_err-above.ensures.1 in
    c.in_err-above.ensures.full (cc told)

pub returns-in_err-root-clause-spent : goal.returns-in_err-root-clause-spent
returns-in_err-root-clause-spent c = passed c.from_residual.result c.in_err-root.field-0.0 c.from_residual.ensures.1
    (λ r. r ≡ Err Spent → is_spent c.args.pages.now ≡ true)
    (λ is. sym c.loop-turn.invariant.keeps.committed.spent ∙ c.in_err-root.ensures.spent.0 (still_error is))

pub returns-in_err-above-clause-spent : goal.returns-in_err-above-clause-spent
returns-in_err-above-clause-spent c = passed c.from_residual-in_err-above.result c.in_err-above.field-0.0
    c.from_residual-in_err-above.ensures.1 (λ r. r ≡ Err Spent → is_spent c.args.pages.now ≡ true)
    (λ is. sym c.loop-turn.invariant.keeps.committed.spent ∙ c.in_err-above.ensures.spent.0 (still_error is))

pub returns-in_err-root-clause-keeps : goal.returns-in_err-root-clause-keeps
returns-in_err-root-clause-keeps c = keeps_on c.args.pages.now c.loop-turn.pages c.put_new.new.pages
    c.loop-turn.invariant.keeps c.put_new.ensures.keeps

pub returns-in_err-above-clause-keeps : goal.returns-in_err-above-clause-keeps
returns-in_err-above-clause-keeps c = keeps_on c.args.pages.now c.loop-turn.pages c.put_new-2.new.pages
    c.loop-turn.invariant.keeps c.put_new-2.ensures.keeps

pub returns-clause-keeps : goal.returns-clause-keeps
returns-clause-keeps c = keeps_on c.args.pages.now c.loop-turn.pages c.put_new-2.new.pages
    c.loop-turn.invariant.keeps c.put_new-2.ensures.keeps
