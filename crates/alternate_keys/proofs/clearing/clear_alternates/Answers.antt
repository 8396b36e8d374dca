use Rattle.std.proofs.Common.{◌≡◌, ◌<◌, ◌++◌, ℕ, List, [], ◌∷◌, length, drop, Err, refl, sym, ap, subst, ◌∙◌, arith}
use Rattle.std.specs.Prelude.{Option}
use Rattle.station.specs.Disk.{Sector}
use Rattle.pages.specs.Pages.{map_now}
use Rattle.records.specs.declared.fault.StoreFault.TheVariants.{Device, Damaged}
use Rattle.volume_format.specs.Catalog.{Listing}
use Rattle.volume_format.specs.Forest.{TreeLevels, IsForest}
use Rattle.volume_format.specs.Volume.{FileTrees, listing_of}
use Rattle.alternate_keys.specs.Created.{HasStored}
use Rattle.alternate_keys.proofs.Calling.{edits_nothing, edits_then}
use Rattle.alternate_keys.proofs.ClearedKeys.{stored_next, forest_next}
use Rattle.alternate_keys.proofs.Faults.{refused_by_call}
use Rattle.alternate_keys.proofs.Walks.{drop_none}
use Rattle.alternate_keys.proofs.clearing.clear_alternates.Given.{Over}
use Rattle.alternate_keys.proofs.clearing.clear_alternates.Goals as goal
use Rattle.alternate_keys.proofs.clearing.clear_alternates.Goals.{After-clear_tree}

drop_all : {X : Type 0} (xs : List X) → drop (length xs) xs ≡ []
drop_all [] = refl
drop_all (x ∷ xs) = drop_all xs

pub loop-key-init : goal.loop-key-init
loop-key-init g c = record {
  edits = edits_nothing g.D.Device c.args.pages.now c.args.device.now;
  cleared = λ honest agrees kept left right stored forest.
      let before : List (Option Sector) =
      (map_now c.args.pages.now (g.D.Device.state c.args.device.now).disk.present).pages in
      subst (λ (ts : List TreeLevels). IsForest before (left ++ (ts ++ right))) (sym (drop_none kept.alternates))
      forest;
  filled = omega arith;
}

-- the key is one of the file's
low : (g : Over) (c : After-clear_tree g) (kept : FileTrees) → HasStored c.args.value.now kept
    → c.loop-key.key < length kept.named.file.spec.alternates
low g c kept stored =
    let many = c.stored_count-count.ensures.count (listing_of kept) stored.good stored.says in
    let test = c.loop-key-test.true in
    omega (arith, many, test)

pub returns-in_err-clear_tree-clause-damaged : goal.returns-in_err-clear_tree-clause-damaged
returns-in_err-clear_tree-clause-damaged g c = λ honest agrees kept left right stored forest refused.
    let loop = c.loop-key.invariant in
    let at = (goal.at.returns-in_err-clear_tree-clause-damaged g c).After-clear_tree in
    stored_next g.D.Device left right c.loop-key.key (λ left right. c.clear_tree.result ≡ Err Damaged → ⊥) loop.edits
    honest agrees stored
    (low g at kept stored) (loop.cleared honest agrees kept left right stored forest) c.clear_tree.ensures.damaged
    (refused_by_call c.in_err-clear_tree.was c.from_residual.ensures.1 refused)

pub loop-key-preserved : goal.loop-key-preserved
loop-key-preserved g c =
    let loop = c.loop-key.invariant in
    let at = (goal.at.loop-key-preserved g c).After-clear_tree in
    record {
      edits = edits_then g.D.Device ⊥ (c.clear_tree.result ≡ Err Device) ⊥ c.args.pages.now c.loop-key.pages
          c.clear_tree.new.pages c.args.device.now c.loop-key.device c.clear_tree.new.device (λ is. absurd is)
          loop.edits c.clear_tree.ensures.edits;
      cleared = λ honest agrees kept left right stored forest.
          forest_next g.D.Device c.clear_tree.new.pages left right c.loop-key.key loop.edits honest agrees stored
          (low g at kept stored)
          (loop.cleared honest agrees kept left right stored forest) c.in_ok-clear_tree.ensures.cleared;
      filled = omega (arith, loop.filled, c.clear_tree.ensures.filled);
    }

pub returns-clause-cleared : goal.returns-clause-cleared
returns-clause-cleared g c = λ honest agrees kept left right stored forest.
    let loop = c.loop-key in
    let here : List (Option Sector) = (map_now loop.pages (g.D.Device.state c.args.device.now).disk.present).pages in
    let l : Listing = listing_of kept in
    let many : c.stored_count-count.result ≡ length l.spec.alternates =
    c.stored_count-count.ensures.count l stored.good stored.says in
    let count = stored.count in
    let all : loop.key ≡ length kept.alternates = let test = c.loop-key-test.false in let end =
    loop.auto.key-end in omega (arith, many, count, test, end) in
    let none : drop loop.key kept.alternates ≡ [] =
    ap (λ (n : ℕ). drop n kept.alternates) all ∙ drop_all kept.alternates in
    subst (λ (ts : List TreeLevels). IsForest here (left ++ (ts ++ right))) none
    (loop.invariant.cleared honest agrees kept left right stored forest)
