use Rattle.std.proofs.Common.{◌<◌, ℕ, List, [], length, subst, arith}
use Rattle.std.specs.Prelude.{slice_index_or}
use Rattle.std.proofs.lemmas.List.{take_all}
use Rattle.btree.specs.Moves.{Moves}
use Rattle.btree.specs.Changes.{pages_of_map}
use Rattle.btree.proofs.Clearing.{keeps_on, moves_next}
use Rattle.btree.proofs.clear.release_pages.Goals as goal

pub returns-then-page_count-page-clause-damaged : goal.returns-then-page_count-page-clause-damaged
returns-then-page_count-page-clause-damaged c = λ _ image between.
    let loop = c.loop-place in
    let within = (between loop.place 0 c.loop-place-test.true).1 in
    let count = (loop.invariant.moves image).count in
    let pages = c.page_count.ensures.pages image in
    let is = c.page_count.ensures.count in
    let beyond = c.if-page_count-page.true in
    omega arith

pub loop-place-preserved : goal.loop-place-preserved
loop-place-preserved c =
    let loop = c.loop-place in
    record {
      moves = λ image.
          let pages = c.page_count.ensures.pages image in
          let low : slice_index_or c.args.numbers.now loop.place 0 < length (pages_of_map loop.pages image) =
          omega (arith, c.page_count.ensures.count, c.if-page_count-page.false) in
          moves_next c.args.numbers.now loop.place (pages_of_map c.args.pages.now image) (pages_of_map loop.pages image)
          (pages_of_map c.release.new.self image) c.loop-place-test.true low (loop.invariant.moves image)
          (c.in_ok-release.ensures.map image);
      filled = omega (arith, c.release.ensures.filled, loop.invariant.filled);
      keeps = keeps_on _ _ _ loop.invariant.keeps c.release.ensures.keeps;
    }

pub returns-clause-released : goal.returns-clause-released
returns-clause-released c = λ image.
    subst (λ (xs : List ℕ). Moves (pages_of_map c.args.pages.now image) xs (pages_of_map c.loop-place.pages image) [])
    (take_all c.loop-place.place c.args.numbers.now c.loop-place-test.false) (c.loop-place.invariant.moves image)
