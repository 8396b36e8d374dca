use Rattle.std.proofs.Common.{◌≡◌, List, [], sym, ◌∙◌, ap, subst}
use Rattle.std.specs.Prelude.{Option}
use Rattle.station.specs.Disk.{Sector}
use Rattle.pages.specs.Image.{Map}
use Rattle.btree.specs.declared.removal_outcome.RemovalOutcome.{RemovalOutcome}
use Rattle.btree.specs.declared.removal_outcome.RemovalOutcome.TheVariants.{Kept}
use Rattle.btree.specs.Changes.{pages_of_map, IsIn}
use Rattle.btree.specs.Shrinks.{ShrinksOn}
use Rattle.btree.proofs.Upward.{ReadNode}
use Rattle.btree.proofs.Downward.{kept_on, never_read, never_led}
use Rattle.std.specs.Prelude.{IfErr, Err}
use Rattle.std.proofs.Common.{inr, true}
use Rattle.station.specs.Calls.{OnlyReads}
use Rattle.station.proofs.Calls.{reads_then}
use Rattle.pages.specs.Pages.{is_spent}
use Rattle.pages.specs.declared.error.PagesError.TheVariants.{Device, Spent}
use Rattle.btree.specs.Refusals.{IsChangeRefusal}
use Rattle.btree.proofs.Passing.{passed, never_ok, still_error}
use Rattle.btree.proofs.Passing.{read_is_change}
use Rattle.btree.proofs.Passing.{reads_where, committed_on, sectors_on}
use Rattle.btree.proofs.ShrinkCalls.{renamed_by, gone_by, joined_by, never_joined_by}
use Rattle.std.proofs.Common.{◌≤◌, ◌+◌, length, arith}
use Rattle.std.specs.Prelude.{IfOk}
use Rattle.std.proofs.lemmas.Result.{IfErr-weaker}
use Rattle.pages.specs.Pages.{changed_pages_of, filled_of}
use Rattle.btree_pages.specs.declared.row_layout.RowLayout.{RowLayout}
use Rattle.btree.specs.Outcomes.{FitsAbove, spare}
use Rattle.btree.proofs.NeighbourCalls.{rest_no_device}
use Rattle.btree.proofs.Passing.{if_refused, rest_is_change}
use Rattle.btree.proofs.ShrinkCalls.{leaves_then}
use Rattle.btree.proofs.shrink.shrink_at.Goals as goal

pub returns-in_err-node-clause-damaged : goal.returns-in_err-node-clause-damaged
returns-in_err-node-clause-damaged g c = λ honest agrees is.
    let told = rw is at c.from_residual.ensures.1 in
    never_read c.args.layout (pages_of_map c.args.pages.now (g.D.Device.state c.args.device.now).disk.present)
    c.args.step c.args.below (c.in_err-node.ensures.damaged honest agrees (cc told))

pub returns-in_err-node-clause-catalog : goal.returns-in_err-node-clause-catalog
returns-in_err-node-clause-catalog g c = ap (λ (m : Map). m.catalog) (c.read_node.ensures.unchanged.map [])

pub returns-in-Kept-clause-shrinks : goal.returns-in-Kept-clause-shrinks
returns-in-Kept-clause-shrinks g c = λ honest agrees.
    let image = (g.D.Device.state c.args.device.now).disk.present in
    let two = pages_of_map c.args.pages.now image in
    let still = ap (λ (m : Map). m.pages) (c.read_node.ensures.unchanged.map image) in
    subst (λ (below : RemovalOutcome).
    ShrinksOn c.args.layout c.args.step two (pages_of_map c.read_node.new.pages image) below Kept) (sym c.in-Kept.is)
    (subst (λ (pages : List (Option Sector)). ShrinksOn c.args.layout c.args.step two pages Kept Kept) (sym still)
    (kept_on c.args.layout two c.args.step))

pub returns-in-Kept-clause-catalog : goal.returns-in-Kept-clause-catalog
returns-in-Kept-clause-catalog g c = ap (λ (m : Map). m.catalog) (c.read_node.ensures.unchanged.map [])

pub returns-in-Renamed-clause-shrinks : goal.returns-in-Renamed-clause-shrinks
returns-in-Renamed-clause-shrinks g c = renamed_by g.D.Device c.args.pages.now c.read_node.new.pages
    c.rename_at.new.pages c.args.device.now c.args.layout c.args.step c.args.below c.in-Renamed.child c.in_ok-node.node
    c.rename_at.result c.read_node.ensures.unchanged c.in_ok-node.ensures.shape.0 c.in_ok-node.ensures.node
    c.in-Renamed.is c.rename_at.ensures.pages

pub returns-in-Renamed-clause-damaged : goal.returns-in-Renamed-clause-damaged
returns-in-Renamed-clause-damaged g c = λ honest agrees is.
    let image = (g.D.Device.state c.args.device.now).disk.present in
    let two = pages_of_map c.args.pages.now image in
    let still = ap (λ (m : Map). m.pages) (c.read_node.ensures.unchanged.map image) in
    let read : ReadNode c.args.layout two c.args.step c.in_ok-node.node =
    record { layout_is = c.in_ok-node.ensures.shape.0; read = c.in_ok-node.ensures.node honest agrees } in
    never_led c.args.layout two c.args.step c.args.below c.in_ok-node.node read
    (λ inner low some is_in. c.rename_at.ensures.damaged is image inner low some
    (subst (λ (pages : List (Option Sector)). IsIn pages c.args.step.page) (sym still) is_in))

pub returns-in-Renamed-clause-catalog : goal.returns-in-Renamed-clause-catalog
returns-in-Renamed-clause-catalog g c =
    c.rename_at.ensures.keeps.catalog ∙ ap (λ (m : Map). m.catalog) (c.read_node.ensures.unchanged.map [])

pub returns-in-Gone-clause-shrinks : goal.returns-in-Gone-clause-shrinks
returns-in-Gone-clause-shrinks g c = gone_by g.D.Device c.args.pages.now c.read_node.new.pages c.lose_at.new.pages
    c.args.device.now c.args.layout c.args.step c.args.below c.in_ok-node.node c.lose_at.result
    c.read_node.ensures.unchanged c.in_ok-node.ensures.shape.0 c.in_ok-node.ensures.node c.in-Gone.is
    c.lose_at.ensures.pages

pub returns-in-Gone-clause-damaged : goal.returns-in-Gone-clause-damaged
returns-in-Gone-clause-damaged g c = λ honest agrees is.
    let image = (g.D.Device.state c.args.device.now).disk.present in
    let two = pages_of_map c.args.pages.now image in
    let still = ap (λ (m : Map). m.pages) (c.read_node.ensures.unchanged.map image) in
    let read : ReadNode c.args.layout two c.args.step c.in_ok-node.node =
    record { layout_is = c.in_ok-node.ensures.shape.0; read = c.in_ok-node.ensures.node honest agrees } in
    never_led c.args.layout two c.args.step c.args.below c.in_ok-node.node read
    (λ inner low some is_in. c.lose_at.ensures.damaged is image inner low some
    (subst (λ (pages : List (Option Sector)). IsIn pages c.args.step.page) (sym still) is_in))

pub returns-in-Gone-clause-catalog : goal.returns-in-Gone-clause-catalog
returns-in-Gone-clause-catalog g c =
    c.lose_at.ensures.keeps.catalog ∙ ap (λ (m : Map). m.catalog) (c.read_node.ensures.unchanged.map [])

pub returns-in-Underfull-clause-shrinks : goal.returns-in-Underfull-clause-shrinks
returns-in-Underfull-clause-shrinks g c = joined_by g.D.Device _ c.args.pages.now c.read_node.new.pages
    c.rebalance_at.new.pages c.args.device.now c.read_node.new.device c.args.layout c.args.step c.args.below
    c.in-Underfull.child c.in_ok-node.node c.rebalance_at.result c.read_node.ensures.unchanged c.read_node.ensures.only
    c.read_node.ensures.agrees c.in_ok-node.ensures.shape.0 c.in_ok-node.ensures.node c.in-Underfull.is
    c.rebalance_at.ensures.rebalances

pub returns-in-Underfull-clause-damaged : goal.returns-in-Underfull-clause-damaged
returns-in-Underfull-clause-damaged g c = λ honest agrees is. never_joined_by g.D.Device _ c.args.pages.now
    c.read_node.new.pages c.args.device.now c.read_node.new.device c.args.layout c.args.step c.args.below
    c.in-Underfull.child c.in_ok-node.node c.read_node.ensures.unchanged c.read_node.ensures.only
    c.read_node.ensures.agrees c.in_ok-node.ensures.shape.0 c.in_ok-node.ensures.node c.in-Underfull.is
    (λ h a. c.rebalance_at.ensures.damaged h a is) honest agrees

pub returns-in-Underfull-clause-catalog : goal.returns-in-Underfull-clause-catalog
returns-in-Underfull-clause-catalog g c =
    c.rebalance_at.ensures.catalog ∙ ap (λ (m : Map). m.catalog) (c.read_node.ensures.unchanged.map [])

pub returns-in_err-node-clause-only : goal.returns-in_err-node-clause-only
returns-in_err-node-clause-only g c = passed c.from_residual.result c.in_err-node.field-0.0 c.from_residual.ensures.1
    (λ r. OnlyReads g.D.Device (r ≡ Err Device) c.args.device.now c.read_node.new.device)
    (reads_where g.D.Device _ _ _ _ (λ is. still_error is) c.in_err-node.ensures.only)

pub returns-in-Kept-clause-only : goal.returns-in-Kept-clause-only
returns-in-Kept-clause-only g c = reads_where g.D.Device _ _ _ _ (λ is. never_ok is) c.read_node.ensures.only

pub returns-in-Underfull-clause-only : goal.returns-in-Underfull-clause-only
returns-in-Underfull-clause-only g c = reads_then g.D.Device _ _ _ _ _ _ (λ is. inr is) c.read_node.ensures.only
    c.rebalance_at.ensures.only

pub returns-in-Renamed-clause-committed : goal.returns-in-Renamed-clause-committed
returns-in-Renamed-clause-committed g c =
    committed_on c.args.pages.now c.read_node.new.pages c.rename_at.new.pages c.read_node.ensures.unchanged.committed
    c.rename_at.ensures.keeps.committed

pub returns-in-Renamed-clause-agrees : goal.returns-in-Renamed-clause-agrees
returns-in-Renamed-clause-agrees g c =
    λ honest agrees. c.rename_at.ensures.keeps.agrees (g.D.Device.state c.read_node.new.device).disk
    (c.read_node.ensures.agrees honest agrees)

pub returns-in-Renamed-clause-spent : goal.returns-in-Renamed-clause-spent
returns-in-Renamed-clause-spent g c =
    λ is. sym c.read_node.ensures.unchanged.committed.spent ∙ c.rename_at.ensures.spent is

pub returns-in-Gone-clause-committed : goal.returns-in-Gone-clause-committed
returns-in-Gone-clause-committed g c =
    committed_on c.args.pages.now c.read_node.new.pages c.lose_at.new.pages c.read_node.ensures.unchanged.committed
    c.lose_at.ensures.keeps.committed

pub returns-in-Gone-clause-agrees : goal.returns-in-Gone-clause-agrees
returns-in-Gone-clause-agrees g c =
    λ honest agrees. c.lose_at.ensures.keeps.agrees (g.D.Device.state c.read_node.new.device).disk
    (c.read_node.ensures.agrees honest agrees)

pub returns-in-Gone-clause-spent : goal.returns-in-Gone-clause-spent
returns-in-Gone-clause-spent g c = λ is. sym c.read_node.ensures.unchanged.committed.spent ∙ c.lose_at.ensures.spent is

pub returns-in-Underfull-clause-committed : goal.returns-in-Underfull-clause-committed
returns-in-Underfull-clause-committed g c =
    committed_on c.args.pages.now c.read_node.new.pages c.rebalance_at.new.pages c.read_node.ensures.unchanged.committed
    c.rebalance_at.ensures.committed

pub returns-in-Underfull-clause-agrees : goal.returns-in-Underfull-clause-agrees
returns-in-Underfull-clause-agrees g c =
    λ honest agrees. c.rebalance_at.ensures.agrees (c.read_node.ensures.only.honest.0 honest)
    (c.read_node.ensures.agrees honest agrees)

pub returns-in-Underfull-clause-spent : goal.returns-in-Underfull-clause-spent
returns-in-Underfull-clause-spent g c =
    λ is. sym c.read_node.ensures.unchanged.committed.spent ∙ c.rebalance_at.ensures.spent is

pub rebalance_at-requires-clause-sectors : goal.rebalance_at-requires-clause-sectors
rebalance_at-requires-clause-sectors g c = sectors_on c.args.pages.now c.read_node.new.pages _ _
    c.read_node.ensures.unchanged.committed.volume c.read_node.ensures.only.sectors c.requires.sectors

pub returns-in_err-node-clause-spent : goal.returns-in_err-node-clause-spent
returns-in_err-node-clause-spent g c = passed c.from_residual.result c.in_err-node.field-0.0 c.from_residual.ensures.1
    (λ r. r ≡ Err Spent → is_spent c.args.pages.now ≡ true)
    (λ is. c.in_err-node.ensures.spent.0 (still_error is))

pub returns-in-Kept-clause-spent : goal.returns-in-Kept-clause-spent
returns-in-Kept-clause-spent g c = λ is. never_ok is

pub returns-in_err-node-clause-cause : goal.returns-in_err-node-clause-cause
returns-in_err-node-clause-cause g c = passed c.from_residual.result c.in_err-node.field-0.0 c.from_residual.ensures.1
    (λ r. IfErr r IsChangeRefusal)
    (read_is_change c.in_err-node.field-0.0 c.in_err-node.ensures.cause)

pub returns-in-Renamed-clause-changed_pages : goal.returns-in-Renamed-clause-changed_pages
returns-in-Renamed-clause-changed_pages g c =
    leaves_then c.rename_at.result (length (changed_pages_of c.rename_at.new.pages))
    (length (changed_pages_of c.read_node.new.pages))
    (length (changed_pages_of c.args.pages.now) + spare c.args.below + 2) 1
    (omega (arith, ap length c.read_node.ensures.unchanged.changed_pages)) c.rename_at.ensures.changed_pages

pub returns-in-Renamed-clause-filled : goal.returns-in-Renamed-clause-filled
returns-in-Renamed-clause-filled g c = leaves_then c.rename_at.result (filled_of c.rename_at.new.pages)
    (filled_of c.read_node.new.pages) (filled_of c.args.pages.now + spare c.args.below + 2) 1
    (omega (arith, c.read_node.ensures.unchanged.filled)) c.rename_at.ensures.filled

pub returns-in-Gone-clause-changed_pages : goal.returns-in-Gone-clause-changed_pages
returns-in-Gone-clause-changed_pages g c = leaves_then c.lose_at.result (length (changed_pages_of c.lose_at.new.pages))
    (length (changed_pages_of c.read_node.new.pages))
    (length (changed_pages_of c.args.pages.now) + spare c.args.below + 2) 1
    (omega (arith, ap length c.read_node.ensures.unchanged.changed_pages)) c.lose_at.ensures.changed_pages

pub returns-in-Gone-clause-filled : goal.returns-in-Gone-clause-filled
returns-in-Gone-clause-filled g c = leaves_then c.lose_at.result (filled_of c.lose_at.new.pages)
    (filled_of c.read_node.new.pages) (filled_of c.args.pages.now + spare c.args.below + 2) 1
    (omega (arith, c.read_node.ensures.unchanged.filled)) c.lose_at.ensures.filled

pub returns-in-Underfull-clause-changed_pages : goal.returns-in-Underfull-clause-changed_pages
returns-in-Underfull-clause-changed_pages g c =
    leaves_then c.rebalance_at.result (length (changed_pages_of c.rebalance_at.new.pages))
    (length (changed_pages_of c.read_node.new.pages))
    (length (changed_pages_of c.args.pages.now) + spare c.args.below + 2) 3
    (omega (arith, ap spare c.in-Underfull.is, ap length c.read_node.ensures.unchanged.changed_pages))
    c.rebalance_at.ensures.changed_pages

pub returns-in-Underfull-clause-filled : goal.returns-in-Underfull-clause-filled
returns-in-Underfull-clause-filled g c = leaves_then c.rebalance_at.result (filled_of c.rebalance_at.new.pages)
    (filled_of c.read_node.new.pages) (filled_of c.args.pages.now + spare c.args.below + 2) 3
    (omega (arith, ap spare c.in-Underfull.is, c.read_node.ensures.unchanged.filled)) c.rebalance_at.ensures.filled

pub returns-in-Renamed-clause-fits : goal.returns-in-Renamed-clause-fits
returns-in-Renamed-clause-fits g c =
    subst (λ (f : RowLayout). IfOk c.rename_at.result (FitsAbove f)) c.in_ok-node.ensures.shape.0
    c.rename_at.ensures.fits

pub returns-in-Renamed-clause-only : goal.returns-in-Renamed-clause-only
returns-in-Renamed-clause-only g c = reads_where g.D.Device _ _ _ _
    (λ is. absurd (rest_no_device c.rename_at.result c.rename_at.ensures.cause is)) c.read_node.ensures.only

pub returns-in-Renamed-clause-cause : goal.returns-in-Renamed-clause-cause
returns-in-Renamed-clause-cause g c = IfErr-weaker c.rename_at.result _ _ rest_is_change c.rename_at.ensures.cause

pub returns-in-Gone-clause-fits : goal.returns-in-Gone-clause-fits
returns-in-Gone-clause-fits g c =
    subst (λ (f : RowLayout). IfOk c.lose_at.result (FitsAbove f)) c.in_ok-node.ensures.shape.0 c.lose_at.ensures.fits

pub returns-in-Gone-clause-only : goal.returns-in-Gone-clause-only
returns-in-Gone-clause-only g c = reads_where g.D.Device _ _ _ _
    (λ is. absurd (rest_no_device c.lose_at.result c.lose_at.ensures.cause is)) c.read_node.ensures.only

pub returns-in-Gone-clause-cause : goal.returns-in-Gone-clause-cause
returns-in-Gone-clause-cause g c = IfErr-weaker c.lose_at.result _ _ rest_is_change c.lose_at.ensures.cause

pub returns-in-Underfull-clause-fits : goal.returns-in-Underfull-clause-fits
returns-in-Underfull-clause-fits g c = c.rebalance_at.ensures.fits

pub returns-in-Kept-clause-damaged : goal.returns-in-Kept-clause-damaged
returns-in-Kept-clause-damaged g c = λ honest agrees is. never_ok is

pub returns-in_err-node-clause-fits : goal.returns-in_err-node-clause-fits
returns-in_err-node-clause-fits g c =
    if_refused c.from_residual.result c.in_err-node.field-0.0 c.from_residual.ensures.1
    (FitsAbove c.args.layout)

pub returns-in_err-node-clause-changed_pages : goal.returns-in_err-node-clause-changed_pages
returns-in_err-node-clause-changed_pages g c =
    if_refused c.from_residual.result c.in_err-node.field-0.0 c.from_residual.ensures.1
    (λ up. length (changed_pages_of c.read_node.new.pages) + spare up
    ≤ length (changed_pages_of c.args.pages.now) + spare c.args.below + 2)

pub returns-in_err-node-clause-filled : goal.returns-in_err-node-clause-filled
returns-in_err-node-clause-filled g c =
    if_refused c.from_residual.result c.in_err-node.field-0.0 c.from_residual.ensures.1
    (λ up. filled_of c.read_node.new.pages + spare up
    ≤ filled_of c.args.pages.now + spare c.args.below + 2)
