use Rattle.std.proofs.Common.{◌≡◌, ◌≢◌, ◌≤◌, ◌+◌, true, List, ℕ, length, refl, sym, ◌∙◌, ap, subst}
use Rattle.std.specs.Prelude.{Ok, Err, IfOk}
use Rattle.std.proofs.lemmas.Result.{IfOk-weaker}
use Rattle.station.specs.Calls.{OnlyReads}
use Rattle.station.proofs.Calls.{reads_nothing}
use Rattle.pages.specs.Image.{Map}
use Rattle.pages.specs.Pages.{is_spent, page_count, changed_pages_of, filled_of}
use Rattle.pages.specs.declared.error.PagesError.TheVariants.{Device, Full, Damaged, Spent, ForeignMark}
use Rattle.btree_pages.specs.declared.row_layout.RowLayout.{RowLayout}
use Rattle.btree.specs.declared.removal_outcome.Child.{Child}
use Rattle.btree.specs.Changes.{pages_of_map}
use Rattle.btree.specs.Outcomes.{FitsAbove, spare}
use Rattle.btree.specs.Reading.{IsReadRefusal}
use Rattle.btree.proofs.Lessening.{has_room, true_or_false}
use Rattle.btree.proofs.NeighbourCalls.{above_at, named_at, never_beside, rebalanced_first, rebalanced_other}
use Rattle.btree.proofs.NeighbourCalls.{before_low, near_low, rest_no_device, rest_no_full, two_at_least}
use Rattle.btree.proofs.Pairing.{first_near, other_near, never_joined, same_catalog}
use Rattle.btree.proofs.Passing.{passed, never_ok, same_error, still_error, damaged_not_device, damaged_not_spent}
use Rattle.btree.proofs.Passing.{reads_where, committed_on, page_stays, was_error}
use Rattle.btree.specs.Results.{LeavesFewChanged, LeavesFewFilled}
use Rattle.btree.proofs.Passing.{if_refused}
use Rattle.std.proofs.Common.{arith}
use Rattle.btree.proofs.rebalance.rebalance_at.Goals as goal

pub returns-then-not-leads-clause-damaged : goal.returns-then-not-leads-clause-damaged
returns-then-not-leads-clause-damaged g c = λ honest agrees is left right inner low some left_some right_some pair.
    let image = (g.D.Device.state c.args.device.now).disk.present in
    true_or_false (c.leads.ensures.is.1 (
      inner,
      low,
      has_room (pages_of_map c.args.pages.now image) (page_count c.args.pages.now) c.args.step.page
          (c.leads.ensures.count image) some pair.own_in,
    )) c.if-not-leads.true

pub returns-then-not-leads-clause-only : goal.returns-then-not-leads-clause-only
returns-then-not-leads-clause-only g c =
    reads_where g.D.Device _ _ _ _ (λ is. damaged_not_device is) (reads_nothing g.D.Device c.args.device.now)

-- The neighbour is the one to the right if the child is the first one.
pub returns-in_err-beside-clause-damaged : goal.returns-in_err-beside-clause-damaged
returns-in_err-beside-clause-damaged g c = λ honest agrees is left right inner low some left_some right_some pair.
    let damaged = was_error c.from_residual.result c.read_kind.result c.in_err-beside.field-0.0 Damaged
    c.from_residual.ensures.1 c.in_err-beside.was is in
    let above = above_at c.read_kind.result c.args.pages.now (g.D.Device.state c.args.device.now).disk.present
    c.args.layout c.args.node c.leads.ensures.count c.leads.ensures.few c.read_kind.ensures.spent
    (λ spent. damaged_not_spent (sym damaged ∙ spent)) c.requires.node inner c.count.ensures.node in
    never_beside _ c.args.layout c.args.lone.node.kind c.kind-kind.result c.args.node c.args.step.page c.args.step.place
    c.args.lone.page c.child-page.result c.near_place.result left right above pair c.kind-kind.ensures
    c.child-page.ensures c.near_place.ensures.first c.near_place.ensures.other
    (c.read_kind.ensures.damaged honest agrees damaged)

pub returns-in_err-beside-clause-only : goal.returns-in_err-beside-clause-only
returns-in_err-beside-clause-only g c =
    passed c.from_residual.result c.in_err-beside.field-0.0 c.from_residual.ensures.1
    (λ r. OnlyReads g.D.Device (r ≡ Err Device) c.args.device.now c.read_kind.new.device)
    (reads_where g.D.Device _ _ _ _ (λ is. still_error is) c.in_err-beside.ensures.only)

pub returns-in_err-beside-clause-catalog : goal.returns-in_err-beside-clause-catalog
returns-in_err-beside-clause-catalog g c = same_catalog _ _ c.read_kind.ensures.unchanged

pub returns-in_err-beside-clause-spent : goal.returns-in_err-beside-clause-spent
returns-in_err-beside-clause-spent g c =
    passed c.from_residual.result c.in_err-beside.field-0.0 c.from_residual.ensures.1
    (λ r. r ≡ Err Spent → is_spent c.args.pages.now ≡ true)
    (λ is. c.in_err-beside.ensures.spent.0 (still_error is))

pub returns-in_err-beside-clause-cause : goal.returns-in_err-beside-clause-cause
returns-in_err-beside-clause-cause g c =
    passed c.from_residual.result c.in_err-beside.field-0.0 c.from_residual.ensures.1
    (λ r. (r ≢ Err Full) × (r ≢ Err ForeignMark)) (
      λ is. subst IsReadRefusal (same_error is) c.in_err-beside.ensures.cause,
      λ is. subst IsReadRefusal (same_error is) c.in_err-beside.ensures.cause,
    )

pub returns-then-step-eq0-clause-damaged : goal.returns-then-step-eq0-clause-damaged
returns-then-step-eq0-clause-damaged g c = λ honest agrees is left right inner low some left_some right_some pair.
    let image = (g.D.Device.state c.args.device.now).disk.present in
    let above = above_at (Ok c.in_ok-beside.beside) c.args.pages.now image c.args.layout c.args.node
    c.leads.ensures.count c.leads.ensures.few c.in_ok-beside.ensures.spent (λ spent. never_ok spent)
    c.requires.node inner c.count.ensures.node in
    let near = first_near _ c.args.layout c.args.lone.node.kind c.args.node c.args.step.page c.args.step.place
    c.args.lone.page left right above c.if-step-eq0.true pair in
    let beside_is = sym (named_at c.args.node _ _ _ c.child-page.ensures
    (c.near_place.ensures.first c.if-step-eq0.true) ∙ near.near_is) in
    never_joined _ (pages_of_map c.read_kind.new.pages image) left.page right.page c.args.lone.page c.child-page.result
    (ap (λ (m : Map). m.pages) (c.read_kind.ensures.unchanged.map image)) near.child_is beside_is near.are.two
    left_some right_some (c.rebalance_pair.ensures.damaged is image)

pub returns-then-step-eq0-clause-rebalances : goal.returns-then-step-eq0-clause-rebalances
returns-then-step-eq0-clause-rebalances g c = λ honest agrees.
    let beside : Child = record { page = c.child-page.result; node = c.in_ok-beside.beside } in
    let image = (g.D.Device.state c.args.device.now).disk.present in
    let above = above_at (Ok c.in_ok-beside.beside) c.args.pages.now image c.args.layout c.args.node
    c.leads.ensures.count c.leads.ensures.few c.in_ok-beside.ensures.spent (λ spent. never_ok spent)
    c.requires.node (c.leads.ensures.is.0 c.if-not-leads.false).0 c.count.ensures.node in
    IfOk-weaker c.rebalance_pair.result _ _ (λ outcome joins left right can pair. rebalanced_first c.args.pages.now
    c.read_kind.new.pages c.rebalance_pair.new.pages image c.args.layout c.args.node c.args.step c.args.lone beside
    c.child-page.result left right outcome (first_near _ c.args.layout c.args.lone.node.kind c.args.node
    c.args.step.page c.args.step.place c.args.lone.page left right above c.if-step-eq0.true pair)
    c.read_kind.ensures.unchanged c.requires.node c.if-step-eq0.true (named_at c.args.node _ _ _
    c.child-page.ensures (c.near_place.ensures.first c.if-step-eq0.true))
    (c.in_ok-beside.ensures.node honest agrees) refl joins) c.rebalance_pair.ensures.joins

pub returns-then-step-eq0-clause-only : goal.returns-then-step-eq0-clause-only
returns-then-step-eq0-clause-only g c = reads_where g.D.Device _ _ _ _
    (λ is. absurd (rest_no_device c.rebalance_pair.result c.rebalance_pair.ensures.cause is)) c.read_kind.ensures.only

pub returns-then-step-eq0-clause-committed : goal.returns-then-step-eq0-clause-committed
returns-then-step-eq0-clause-committed g c =
    committed_on c.args.pages.now c.read_kind.new.pages c.rebalance_pair.new.pages
    c.read_kind.ensures.unchanged.committed c.rebalance_pair.ensures.keeps.committed

pub returns-then-step-eq0-clause-catalog : goal.returns-then-step-eq0-clause-catalog
returns-then-step-eq0-clause-catalog g c =
    c.rebalance_pair.ensures.keeps.catalog ∙ same_catalog _ _ c.read_kind.ensures.unchanged

pub returns-then-step-eq0-clause-agrees : goal.returns-then-step-eq0-clause-agrees
returns-then-step-eq0-clause-agrees g c = λ honest agrees. c.rebalance_pair.ensures.keeps.agrees
    (g.D.Device.state c.read_kind.new.device).disk (c.read_kind.ensures.agrees honest agrees)

pub returns-then-step-eq0-clause-spent : goal.returns-then-step-eq0-clause-spent
returns-then-step-eq0-clause-spent g c =
    λ is. sym c.read_kind.ensures.unchanged.committed.spent ∙ c.rebalance_pair.ensures.spent is

pub returns-then-step-eq0-clause-cause : goal.returns-then-step-eq0-clause-cause
returns-then-step-eq0-clause-cause g c = rest_no_full c.rebalance_pair.result c.rebalance_pair.ensures.cause

pub returns-then-step-eq0-clause-changed_pages : goal.returns-then-step-eq0-clause-changed_pages
returns-then-step-eq0-clause-changed_pages g c = subst (λ (l : List ℕ). IfOk c.rebalance_pair.result
    (λ outcome. length (changed_pages_of c.rebalance_pair.new.pages) + spare outcome ≤ length l + 3))
    c.read_kind.ensures.unchanged.changed_pages c.rebalance_pair.ensures.changed_pages

pub returns-then-step-eq0-clause-filled : goal.returns-then-step-eq0-clause-filled
returns-then-step-eq0-clause-filled g c = subst (λ (n : ℕ). IfOk c.rebalance_pair.result
    (λ outcome. filled_of c.rebalance_pair.new.pages + spare outcome ≤ n + 3))
    c.read_kind.ensures.unchanged.filled c.rebalance_pair.ensures.filled

pub returns-then-step-eq0-clause-fits : goal.returns-then-step-eq0-clause-fits
returns-then-step-eq0-clause-fits g c =
    subst (λ (f : RowLayout). IfOk c.rebalance_pair.result (FitsAbove f)) c.requires.node c.rebalance_pair.ensures.fits

pub returns-clause-damaged : goal.returns-clause-damaged
returns-clause-damaged g c = λ honest agrees is left right inner low some left_some right_some pair.
    let image = (g.D.Device.state c.args.device.now).disk.present in
    let above = above_at (Ok c.in_ok-beside.beside) c.args.pages.now image c.args.layout c.args.node
    c.leads.ensures.count c.leads.ensures.few c.in_ok-beside.ensures.spent (λ spent. never_ok spent)
    c.requires.node inner c.count.ensures.node in
    let near = other_near _ c.args.layout c.args.lone.node.kind c.args.node c.args.step.page c.args.step.place
    c.args.lone.page left right above c.if-step-eq0.false pair in
    let beside_is = sym (named_at c.args.node _ _ _ c.child-page.ensures
    (c.near_place.ensures.other c.if-step-eq0.false) ∙ near.near_is) in
    never_joined _ (pages_of_map c.read_kind.new.pages image) left.page right.page c.child-page.result c.args.lone.page
    (ap (λ (m : Map). m.pages) (c.read_kind.ensures.unchanged.map image)) beside_is near.child_is near.are.two
    left_some right_some (c.rebalance_pair-2.ensures.damaged is image)

pub returns-clause-rebalances : goal.returns-clause-rebalances
returns-clause-rebalances g c = λ honest agrees.
    let beside : Child = record { page = c.child-page.result; node = c.in_ok-beside.beside } in
    let image = (g.D.Device.state c.args.device.now).disk.present in
    let above = above_at (Ok c.in_ok-beside.beside) c.args.pages.now image c.args.layout c.args.node
    c.leads.ensures.count c.leads.ensures.few c.in_ok-beside.ensures.spent (λ spent. never_ok spent)
    c.requires.node (c.leads.ensures.is.0 c.if-not-leads.false).0 c.count.ensures.node in
    IfOk-weaker c.rebalance_pair-2.result _ _ (λ outcome joins left right can pair. rebalanced_other c.args.pages.now
    c.read_kind.new.pages c.rebalance_pair-2.new.pages image c.args.layout c.args.node c.args.step beside c.args.lone
    c.child-page.result left right outcome (other_near _ c.args.layout c.args.lone.node.kind c.args.node
    c.args.step.page c.args.step.place c.args.lone.page left right above c.if-step-eq0.false pair)
    c.read_kind.ensures.unchanged c.requires.node c.if-step-eq0.false (named_at c.args.node _ _ _
    c.child-page.ensures (c.near_place.ensures.other c.if-step-eq0.false))
    (c.in_ok-beside.ensures.node honest agrees) refl (c.in_ok-beside.ensures.shape.1 ∙ c.kind-kind.ensures) joins)
    c.rebalance_pair-2.ensures.joins

pub returns-clause-only : goal.returns-clause-only
returns-clause-only g c = reads_where g.D.Device _ _ _ _
    (λ is. absurd (rest_no_device c.rebalance_pair-2.result c.rebalance_pair-2.ensures.cause is))
    c.read_kind.ensures.only

pub returns-clause-committed : goal.returns-clause-committed
returns-clause-committed g c = committed_on c.args.pages.now c.read_kind.new.pages c.rebalance_pair-2.new.pages
    c.read_kind.ensures.unchanged.committed c.rebalance_pair-2.ensures.keeps.committed

pub returns-clause-catalog : goal.returns-clause-catalog
returns-clause-catalog g c =
    c.rebalance_pair-2.ensures.keeps.catalog ∙ same_catalog _ _ c.read_kind.ensures.unchanged

pub returns-clause-agrees : goal.returns-clause-agrees
returns-clause-agrees g c = λ honest agrees. c.rebalance_pair-2.ensures.keeps.agrees
    (g.D.Device.state c.read_kind.new.device).disk (c.read_kind.ensures.agrees honest agrees)

pub returns-clause-spent : goal.returns-clause-spent
returns-clause-spent g c =
    λ is. sym c.read_kind.ensures.unchanged.committed.spent ∙ c.rebalance_pair-2.ensures.spent is

pub returns-clause-cause : goal.returns-clause-cause
returns-clause-cause g c = rest_no_full c.rebalance_pair-2.result c.rebalance_pair-2.ensures.cause

pub returns-clause-changed_pages : goal.returns-clause-changed_pages
returns-clause-changed_pages g c = subst (λ (l : List ℕ). IfOk c.rebalance_pair-2.result
    (λ outcome. length (changed_pages_of c.rebalance_pair-2.new.pages) + spare outcome ≤ length l + 3))
    c.read_kind.ensures.unchanged.changed_pages c.rebalance_pair-2.ensures.changed_pages

pub returns-clause-filled : goal.returns-clause-filled
returns-clause-filled g c = subst (λ (n : ℕ). IfOk c.rebalance_pair-2.result
    (λ outcome. filled_of c.rebalance_pair-2.new.pages + spare outcome ≤ n + 3))
    c.read_kind.ensures.unchanged.filled c.rebalance_pair-2.ensures.filled

pub returns-clause-fits : goal.returns-clause-fits
returns-clause-fits g c =
    subst (λ (f : RowLayout). IfOk c.rebalance_pair-2.result (FitsAbove f)) c.requires.node
    c.rebalance_pair-2.ensures.fits

pub returns-in_err-beside-clause-fits : goal.returns-in_err-beside-clause-fits
returns-in_err-beside-clause-fits g c =
    if_refused c.from_residual.result c.in_err-beside.field-0.0 c.from_residual.ensures.1
    (FitsAbove c.args.layout)

pub returns-in_err-beside-clause-changed_pages : goal.returns-in_err-beside-clause-changed_pages
returns-in_err-beside-clause-changed_pages g c =
    if_refused c.from_residual.result c.in_err-beside.field-0.0 c.from_residual.ensures.1
    (LeavesFewChanged 3 c.args.pages.now c.read_kind.new.pages)

pub returns-in_err-beside-clause-filled : goal.returns-in_err-beside-clause-filled
returns-in_err-beside-clause-filled g c =
    if_refused c.from_residual.result c.in_err-beside.field-0.0 c.from_residual.ensures.1
    (LeavesFewFilled 3 c.args.pages.now c.read_kind.new.pages)

pub returns-then-not-leads-clause-spent : goal.returns-then-not-leads-clause-spent
returns-then-not-leads-clause-spent g c = λ is. damaged_not_spent is

pub returns-then-not-leads-clause-rebalances : goal.returns-then-not-leads-clause-rebalances
returns-then-not-leads-clause-rebalances g c = λ honest agrees. tt

pub returns-then-not-leads-clause-committed : goal.returns-then-not-leads-clause-committed
returns-then-not-leads-clause-committed g c = record { volume = refl; mark = refl; spent = refl }

pub returns-then-not-leads-clause-agrees : goal.returns-then-not-leads-clause-agrees
returns-then-not-leads-clause-agrees g c = λ honest agrees. agrees

pub returns-then-not-leads-clause-cause : goal.returns-then-not-leads-clause-cause
returns-then-not-leads-clause-cause g c = rest_no_full (Err Damaged) tt

pub returns-then-count-lt2-clause-rebalances : goal.returns-then-count-lt2-clause-rebalances
returns-then-count-lt2-clause-rebalances g c = λ honest agrees. tt

pub returns-then-count-lt2-clause-committed : goal.returns-then-count-lt2-clause-committed
returns-then-count-lt2-clause-committed g c = record { volume = refl; mark = refl; spent = refl }

pub returns-then-count-lt2-clause-agrees : goal.returns-then-count-lt2-clause-agrees
returns-then-count-lt2-clause-agrees g c = λ honest agrees. agrees

pub returns-then-count-lt2-clause-cause : goal.returns-then-count-lt2-clause-cause
returns-then-count-lt2-clause-cause g c = rest_no_full (Err Damaged) tt

pub returns-then-count-lt2-clause-only : goal.returns-then-count-lt2-clause-only
returns-then-count-lt2-clause-only g c =
    reads_where g.D.Device _ _ _ _ (λ is. damaged_not_device is) (reads_nothing g.D.Device c.args.device.now)

pub returns-then-count-lt2-clause-spent : goal.returns-then-count-lt2-clause-spent
returns-then-count-lt2-clause-spent g c = λ is. damaged_not_spent is

pub returns-then-count-lt2-clause-damaged : goal.returns-then-count-lt2-clause-damaged
returns-then-count-lt2-clause-damaged g c = λ honest agrees is left right inner low some left_some right_some pair.
    omega (arith, pair.within, c.count.ensures.rows, c.if-count-lt2.true)

pub returns-in_err-beside-clause-rebalances : goal.returns-in_err-beside-clause-rebalances
returns-in_err-beside-clause-rebalances g c = λ honest agrees.
    if_refused c.from_residual.result c.in_err-beside.field-0.0 c.from_residual.ensures.1 _

pub child-page-requires-clause-inner : goal.child-page-requires-clause-inner
child-page-requires-clause-inner g c = (c.leads.ensures.is.0 c.if-not-leads.false).0

pub child-page-requires-clause-place : goal.child-page-requires-clause-place
child-page-requires-clause-place g c =
    near_low c.args.step.place c.near_place.result (length c.args.node.rows)
    (c.leads.ensures.is.0 c.if-not-leads.false).1 (omega (arith, c.if-count-lt2.false, c.count.ensures.rows))
    c.near_place.ensures.first c.near_place.ensures.other

pub rebalance_pair-requires-clause-page : goal.rebalance_pair-requires-clause-page
rebalance_pair-requires-clause-page g c =
    page_stays c.args.pages.now c.read_kind.new.pages c.args.step.page c.read_kind.ensures.unchanged.committed
    (c.leads.ensures.is.0 c.if-not-leads.false).2

pub rebalance_pair-requires-clause-inner : goal.rebalance_pair-requires-clause-inner
rebalance_pair-requires-clause-inner g c = (c.leads.ensures.is.0 c.if-not-leads.false).0

pub rebalance_pair-requires-clause-place : goal.rebalance_pair-requires-clause-place
rebalance_pair-requires-clause-place g c = omega (arith, c.if-count-lt2.false, c.count.ensures.rows)

pub rebalance_pair-requires-clause-layout : goal.rebalance_pair-requires-clause-layout
rebalance_pair-requires-clause-layout g c = c.requires.lone.0 ∙ sym c.requires.node

pub rebalance_pair-requires-clause-like : goal.rebalance_pair-requires-clause-like
rebalance_pair-requires-clause-like g c = record {
  layout = c.in_ok-beside.ensures.shape.0 ∙ sym c.requires.lone.0;
  kind = c.in_ok-beside.ensures.shape.1 ∙ c.kind-kind.ensures;
}

pub rebalance_pair-requires-clause-many : goal.rebalance_pair-requires-clause-many
rebalance_pair-requires-clause-many g c =
    two_at_least c.kind-kind.result _ _ c.requires.lone.1 c.in_ok-beside.ensures.shape.2

pub rebalance_pair-requires-2-clause-page : goal.rebalance_pair-requires-2-clause-page
rebalance_pair-requires-2-clause-page g c =
    page_stays c.args.pages.now c.read_kind.new.pages c.args.step.page c.read_kind.ensures.unchanged.committed
    (c.leads.ensures.is.0 c.if-not-leads.false).2

pub rebalance_pair-requires-2-clause-inner : goal.rebalance_pair-requires-2-clause-inner
rebalance_pair-requires-2-clause-inner g c = (c.leads.ensures.is.0 c.if-not-leads.false).0

pub rebalance_pair-requires-2-clause-place : goal.rebalance_pair-requires-2-clause-place
rebalance_pair-requires-2-clause-place g c =
    before_low c.args.step.place (length c.args.node.rows) (c.leads.ensures.is.0 c.if-not-leads.false).1
    c.if-step-eq0.false

pub rebalance_pair-requires-2-clause-layout : goal.rebalance_pair-requires-2-clause-layout
rebalance_pair-requires-2-clause-layout g c = c.in_ok-beside.ensures.shape.0 ∙ sym c.requires.node

pub rebalance_pair-requires-2-clause-like : goal.rebalance_pair-requires-2-clause-like
rebalance_pair-requires-2-clause-like g c = record {
  layout = c.requires.lone.0 ∙ sym c.in_ok-beside.ensures.shape.0;
  kind = sym (c.in_ok-beside.ensures.shape.1 ∙ c.kind-kind.ensures);
}

pub rebalance_pair-requires-2-clause-many : goal.rebalance_pair-requires-2-clause-many
rebalance_pair-requires-2-clause-many g c =
    let two = two_at_least c.kind-kind.result (length c.args.lone.node.rows) (length c.in_ok-beside.beside.rows)
    c.requires.lone.1 c.in_ok-beside.ensures.shape.2 in
    omega (arith, two)
