use Rattle.std.proofs.Common.{◌++◌, ℕ, List, sym, subst, arith}
use Rattle.std.specs.Prelude.{Option, OnOk, IfErr}
use Rattle.station.specs.Disk.{Sector}
use Rattle.station.specs.State.{State}
use Rattle.pages.specs.Pages.{map_now, Agrees}
use Rattle.btree.specs.Calls.{pages_on}
use Rattle.records.specs.Files.{NamedFile}
use Rattle.records.specs.Spec.{Spec}
use Rattle.volume_format.specs.Forest.{TreeLevels, IsForest}
use Rattle.volume_format.specs.Volume.{FileTrees, listing_of}
use Rattle.alternate_keys.specs.Faults.{IsReadFault}
use Rattle.alternate_keys.specs.Placed.{HasTrees}
use Rattle.alternate_keys.proofs.FileTrees.{prime_told, good_spec, all_stored}
use Rattle.alternate_keys.proofs.Passing.{passed, spent_before}
use Rattle.alternate_keys.proofs.Calling.{sectors_still}
use Rattle.alternate_keys.proofs.Faults.{refused_by_call}
use Rattle.alternate_keys.proofs.clearing.clear_trees.Given.{Over}
use Rattle.alternate_keys.proofs.clearing.clear_trees.Goals as goal
use Rattle.alternate_keys.proofs.clearing.clear_trees.Goals.{After-clear_alternates}

pub returns-in_err-clear_rows-clause-damaged : goal.returns-in_err-clear_rows-clause-damaged
returns-in_err-clear_rows-clause-damaged g c = λ honest agrees spec named generation left right has refused.
    let told = refused_by_call c.in_err-clear_rows.was c.from_residual.ensures.1 refused in
    let before : List (Option Sector) =
    (map_now c.args.pages.now (g.D.Device.state c.args.device.now).disk.present).pages in
    let kept : FileTrees = has.placed.kept in
    let good = good_spec spec named generation before left right c.args.value.now has in
    let told_prime = prime_told spec named generation before left right c.args.value.now has in
    c.clear_rows.ensures.damaged honest agrees (listing_of kept) kept.prime left (kept.alternates ++ right) good
    has.placed.says (omega arith) told_prime has.placed.is.form has.placed.forest told

-- the trees of the alternate keys are there, after that of the rows is cleared
alternates : (g : Over) (c : After-clear_alternates g) {spec : Spec} {named : NamedFile} {generation : ℕ}
    {left right : List TreeLevels} → g.D.Device.is_honest c.args.device.now
    → Agrees c.args.pages.now (g.D.Device.state c.args.device.now).disk
    → (has : HasTrees spec named generation (pages_on g.D.Device c.args.pages.now c.args.device.now) left right
    c.args.value.now) → IsForest (pages_on g.D.Device c.clear_rows.new.pages c.clear_rows.new.device)
    (left ++ (has.placed.kept.alternates ++ right))
alternates g c {spec} {named} {generation} {left} {right} honest agrees has =
    let kept : FileTrees = has.placed.kept in
    subst (λ (s : State). IsForest (map_now c.clear_rows.new.pages s.disk.present).pages
    (left ++ (kept.alternates ++ right))) (sym (c.clear_rows.ensures.edits.only.state honest))
    (c.in_ok-clear_rows.ensures.cleared honest agrees (listing_of kept) kept.prime left (kept.alternates ++ right)
    (good_spec spec named generation _ left right c.args.value.now has) has.placed.says (omega arith)
    (prime_told spec named generation _ left right c.args.value.now has) has.placed.is.form has.placed.forest)

pub returns-clause-cleared : goal.returns-clause-cleared
returns-clause-cleared g c = λ honest agrees spec named generation left right has.
    let at = (goal.at.returns-clause-cleared g c).After-clear_alternates in
    let edits = c.clear_rows.ensures.edits in
    subst (λ (s : State). OnOk c.clear_alternates.result
    (IsForest (map_now c.clear_alternates.new.pages s.disk.present).pages (left ++ right))) (edits.only.state honest)
    (c.clear_alternates.ensures.cleared (edits.only.honest.0 honest) (edits.agrees honest agrees) has.placed.kept left
    right (all_stored spec named generation _ left right c.args.value.now has) (alternates g at honest agrees has))

pub returns-clause-damaged : goal.returns-clause-damaged
returns-clause-damaged g c = λ honest agrees spec named generation left right has refused.
    let at = (goal.at.returns-clause-damaged g c).After-clear_alternates in
    let edits = c.clear_rows.ensures.edits in
    c.clear_alternates.ensures.damaged (edits.only.honest.0 honest) (edits.agrees honest agrees) has.placed.kept left
    right (all_stored spec named generation _ left right c.args.value.now has) (alternates g at honest agrees has)
    refused

pub returns-in_err-clear_rows-clause-spent : goal.returns-in_err-clear_rows-clause-spent
returns-in_err-clear_rows-clause-spent g c =
    λ is. c.clear_rows.ensures.spent (refused_by_call c.in_err-clear_rows.was c.from_residual.ensures.1 is)

pub returns-in_err-clear_rows-clause-cause : goal.returns-in_err-clear_rows-clause-cause
returns-in_err-clear_rows-clause-cause g c =
    passed c.from_residual.result c.in_err-clear_rows.field-0.0 c.from_residual.ensures.1 (λ r. IfErr r IsReadFault)
    c.in_err-clear_rows.ensures.cause

pub clear_alternates-requires-clause-sectors : goal.clear_alternates-requires-clause-sectors
clear_alternates-requires-clause-sectors g c =
    sectors_still g.D.Device _ c.args.pages.now c.clear_rows.new.pages c.args.device.now c.clear_rows.new.device
    c.clear_rows.ensures.edits.only c.clear_rows.ensures.edits.committed c.requires.sectors

pub returns-clause-spent : goal.returns-clause-spent
returns-clause-spent g c =
    λ is. spent_before c.args.pages.now c.clear_rows.new.pages c.clear_rows.ensures.edits.committed
    (c.clear_alternates.ensures.spent is)
