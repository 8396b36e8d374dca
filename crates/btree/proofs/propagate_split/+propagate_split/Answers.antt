use Rattle.std.proofs.Common.{◌≡◌, List, sym, ap, subst, ◌∙◌}
use Rattle.std.specs.Prelude.{Option, Some, None}
use Rattle.std.proofs.lemmas.List.{nil_from_length}
use Rattle.pages.specs.Image.{Map}
use Rattle.btree.specs.declared.split_result.SplitResult.{SplitResult}
use Rattle.btree_pages.specs.declared.row_layout.Kind.{Kind}
use Rattle.btree.specs.Tree.{TreeNode, node_at, IsOnPage}
use Rattle.btree.specs.Path.{PathStep}
use Rattle.btree.specs.Changes.{pages_of_map, PropagatesBy, NeverPropagates}
use Rattle.btree.proofs.Changing.{pages_at}
use Rattle.btree.proofs.StepsUp.{more_way, never_read_way, never_updated_way}
use Rattle.btree.proofs.Upward.{propagates_none, propagates_on, never_below}
use Rattle.std.specs.Prelude.{IfErr, Err}
use Rattle.std.proofs.Common.{true}
use Rattle.pages.specs.Pages.{is_spent}
use Rattle.pages.specs.declared.error.PagesError.TheVariants.{Device, Spent, Full}
use Rattle.btree.specs.Refusals.{IsInsertRefusal}
use Rattle.btree.specs.Reading.{IsReadRefusal}
use Rattle.btree.proofs.Passing.{passed, never_ok, same_error, still_error}
use Rattle.btree.proofs.Passing.{sectors_on}
use Rattle.btree.proofs.Passing.{read_is_insert, parent_is_insert}
use Rattle.pages.specs.Pages.{HasEachPage}
use Rattle.btree.specs.Refusals.{IsParentRefusal}
use Rattle.std.proofs.Common.{◌≤◌, ◌+◌, ◌*◌, ℕ, length}
use Rattle.std.specs.Prelude.{IfSome}
use Rattle.pages.specs.Pages.{changed_pages_of, filled_of}
use Rattle.btree_pages.specs.declared.row_layout.RowLayout.{RowLayout}
use Rattle.btree.specs.Calls.{EditsPages, pages_on}
use Rattle.btree.specs.Changes.{HasKeys}
use Rattle.btree.proofs.EditedPages.{edits_kept, edits_last, edits_none, edits_read, edits_where}
use Rattle.btree.proofs.Passing.{if_refused, few_more, few_below, few_above}
use Rattle.btree.proofs.propagate_split.+propagate_split.Goals as goal

pub returns-in-None-clause-propagates : goal.returns-in-None-clause-propagates
returns-in-None-clause-propagates g t c = λ honest agrees.
    let now = pages_of_map c.args.pages.now (g.D.Device.state c.args.device.now).disk.present in
    subst (λ (path : List PathStep). PropagatesBy c.args.layout path now now (Some c.args.split) (Some c.args.split))
    (sym (nil_from_length c.args.path.now c.in-None.ensures.cases))
    (propagates_none c.args.layout now (Some c.args.split))

pub returns-in_err-told-clause-damaged : goal.returns-in_err-told-clause-damaged
returns-in_err-told-clause-damaged g t c = λ honest agrees is.
    let before = pages_of_map c.args.pages.now (g.D.Device.state c.args.device.now).disk.present in
    let told = rw is at c.from_residual.ensures.1 in
    subst (λ (path : List PathStep). NeverPropagates c.args.layout path before (Some c.args.split))
    (sym c.in-Some.ensures.cases.0)
    (never_below c.args.layout before c.in-Some.pair.0.now c.in-Some.pair.1.now (Some c.args.split)
    (c.in_err-told.ensures.damaged honest agrees (cc told)))

pub returns-in-None-2-clause-propagates : goal.returns-in-None-2-clause-propagates
returns-in-None-2-clause-propagates g t c = λ honest agrees.
    let image = (g.D.Device.state c.args.device.now).disk.present in
    let before = pages_of_map c.args.pages.now image in
    let two = pages_of_map c.propagate_split.new.pages image in
    let rest = c.in-Some.pair.1.now in
    subst (λ (path : List PathStep). PropagatesBy c.args.layout path before two (Some c.args.split) None)
    (sym c.in-Some.ensures.cases.0)
    (propagates_on c.args.layout before two c.in-Some.pair.0.now rest (Some c.args.split)
    (subst (λ (told : Option SplitResult). PropagatesBy c.args.layout rest before two (Some c.args.split) told)
    c.in-None-2.is (c.in_ok-told.ensures.propagates honest agrees)))

pub returns-in_err-node-clause-damaged : goal.returns-in_err-node-clause-damaged
returns-in_err-node-clause-damaged g t c = λ honest agrees is.
    let step = c.in-Some.pair.0.now in
    let told = rw is at c.from_residual-in_err-node.ensures.1 in
    let none = pages_at g.D.Device _ c.propagate_split.new.pages c.args.device.now c.propagate_split.new.device
    (λ pages. (kind : Kind) (node : TreeNode) → node.page ≡ step.page → IsOnPage c.args.layout pages kind node → ⊥)
    c.propagate_split.ensures.edits.only honest (c.propagate_split.ensures.edits.agrees honest agrees)
    (λ h a. c.in_err-node.ensures.damaged h a (cc told)) in
    never_read_way c.args.layout c.args.path.now _ _ step c.in-Some.pair.1.now (Some c.args.split) _ c.in-Some-2.told
    c.in-Some.ensures.cases.0 c.in-Some-2.is (c.in_ok-told.ensures.propagates honest agrees) none

pub returns-in_err-up-clause-damaged : goal.returns-in_err-up-clause-damaged
returns-in_err-up-clause-damaged g t c = λ honest agrees is.
    let image = (g.D.Device.state c.args.device.now).disk.present in
    let step = c.in-Some.pair.0.now in
    let node = c.in_ok-node.node in
    let told = rw is at c.from_residual-in_err-up.ensures.1 in
    let read = pages_at g.D.Device _ c.propagate_split.new.pages c.args.device.now c.propagate_split.new.device
    (λ pages. node_at c.args.layout pages step.page ≡ Some node) c.propagate_split.ensures.edits.only honest
    (c.propagate_split.ensures.edits.agrees honest agrees) c.in_ok-node.ensures.node in
    never_updated_way c.args.layout c.args.path.now _ _ _ step c.in-Some.pair.1.now (Some c.args.split) _
    c.in-Some-2.told node c.in-Some.ensures.cases.0 c.in-Some-2.is (c.in_ok-told.ensures.propagates honest agrees)
    (record { layout_is = c.in_ok-node.ensures.shape.0; read = read })
    (ap (λ (m : Map). m.pages) (c.read_node.ensures.unchanged.map image)) (c.in_err-up.ensures.damaged (cc told) image)

pub returns-clause-propagates : goal.returns-clause-propagates
returns-clause-propagates g t c = λ honest agrees.
    let image = (g.D.Device.state c.args.device.now).disk.present in
    let step = c.in-Some.pair.0.now in
    let node = c.in_ok-node.node in
    let read = pages_at g.D.Device _ c.propagate_split.new.pages c.args.device.now c.propagate_split.new.device
    (λ pages. node_at c.args.layout pages step.page ≡ Some node) c.propagate_split.ensures.edits.only honest
    (c.propagate_split.ensures.edits.agrees honest agrees) c.in_ok-node.ensures.node in
    more_way c.args.layout c.args.path.now _ _ _ (pages_of_map c.update_parent_at.new.pages image) step
    c.in-Some.pair.1.now (Some c.args.split) _ c.in-Some-2.told c.in_ok-up.up node c.in-Some.ensures.cases.0
    c.in-Some-2.is (c.in_ok-told.ensures.propagates honest agrees)
    (record { layout_is = c.in_ok-node.ensures.shape.0; read = read })
    (ap (λ (m : Map). m.pages) (c.read_node.ensures.unchanged.map image)) (c.in_ok-up.ensures.pages image)

pub returns-in_err-told-clause-full : goal.returns-in_err-told-clause-full
returns-in_err-told-clause-full g t c = λ is.
    let told = rw is at c.from_residual.ensures.1 in
    c.in_err-told.ensures.full (cc told)

pub returns-in_err-up-clause-full : goal.returns-in_err-up-clause-full
returns-in_err-up-clause-full g t c = λ is.
    let told = rw is at c.from_residual-in_err-up.ensures.1 in
    c.in_err-up.ensures.full (cc told)

pub read_node-requires-clause-sectors : goal.read_node-requires-clause-sectors
read_node-requires-clause-sectors g t c =
    sectors_on c.args.pages.now c.propagate_split.new.pages _ _ c.propagate_split.ensures.edits.committed.volume
    c.propagate_split.ensures.edits.only.sectors c.requires.sectors

pub returns-in_err-told-clause-spent : goal.returns-in_err-told-clause-spent
returns-in_err-told-clause-spent g t c = passed c.from_residual.result c.in_err-told.field-0.0 c.from_residual.ensures.1
    (λ r. r ≡ Err Spent → is_spent c.args.pages.now ≡ true)
    (λ is. c.in_err-told.ensures.spent (still_error is))

pub returns-in_err-node-clause-spent : goal.returns-in_err-node-clause-spent
returns-in_err-node-clause-spent g t c =
    passed c.from_residual-in_err-node.result c.in_err-node.field-0.0 c.from_residual-in_err-node.ensures.1
    (λ r. r ≡ Err Spent → is_spent c.args.pages.now ≡ true)
    (λ is. sym c.propagate_split.ensures.edits.committed.spent ∙ c.in_err-node.ensures.spent.0 (still_error is))

pub returns-in_err-up-clause-spent : goal.returns-in_err-up-clause-spent
returns-in_err-up-clause-spent g t c =
    passed c.from_residual-in_err-up.result c.in_err-up.field-0.0 c.from_residual-in_err-up.ensures.1
    (λ r. r ≡ Err Spent → is_spent c.args.pages.now ≡ true)
    (λ is. sym (c.read_node.ensures.unchanged.committed.spent ∙ c.propagate_split.ensures.edits.committed.spent)
    ∙ c.in_err-up.ensures.spent (still_error is))

pub returns-in-None-clause-spent : goal.returns-in-None-clause-spent
returns-in-None-clause-spent g t c = λ is. never_ok is

pub returns-in-None-2-clause-spent : goal.returns-in-None-2-clause-spent
returns-in-None-2-clause-spent g t c = λ is. never_ok is

pub returns-clause-spent : goal.returns-clause-spent
returns-clause-spent g t c = λ is. never_ok is

pub returns-in_err-told-clause-cause : goal.returns-in_err-told-clause-cause
returns-in_err-told-clause-cause g t c = passed c.from_residual.result c.in_err-told.field-0.0 c.from_residual.ensures.1
    (λ r. IfErr r IsInsertRefusal)
    (c.in_err-told.ensures.cause)

pub returns-in_err-node-clause-cause : goal.returns-in_err-node-clause-cause
returns-in_err-node-clause-cause g t c =
    passed c.from_residual-in_err-node.result c.in_err-node.field-0.0 c.from_residual-in_err-node.ensures.1
    (λ r. IfErr r IsInsertRefusal)
    (read_is_insert c.in_err-node.field-0.0 c.in_err-node.ensures.cause)

pub returns-in_err-up-clause-cause : goal.returns-in_err-up-clause-cause
returns-in_err-up-clause-cause g t c =
    passed c.from_residual-in_err-up.result c.in_err-up.field-0.0 c.from_residual-in_err-up.ensures.1
    (λ r. IfErr r IsInsertRefusal)
    (parent_is_insert c.in_err-up.field-0.0 c.in_err-up.ensures.cause)

pub returns-in_err-node-clause-full : goal.returns-in_err-node-clause-full
returns-in_err-node-clause-full g t c =
    passed c.from_residual-in_err-node.result c.in_err-node.field-0.0 c.from_residual-in_err-node.ensures.1
    (λ r. r ≡ Err Full → HasEachPage c.read_node.new.pages)
    (λ is. absurd (subst IsReadRefusal (same_error is) c.in_err-node.ensures.cause))

pub returns-in-None-clause-full : goal.returns-in-None-clause-full
returns-in-None-clause-full g t c = λ is. never_ok is

pub returns-in-None-2-clause-full : goal.returns-in-None-2-clause-full
returns-in-None-2-clause-full g t c = λ is. never_ok is

pub returns-clause-full : goal.returns-clause-full
returns-clause-full g t c = λ is. never_ok is

pub returns-in-None-clause-edits : goal.returns-in-None-clause-edits
returns-in-None-clause-edits g t c = edits_where g.D.Device _ _ _ _ _ _ (λ is. never_ok is)
    (edits_none g.D.Device c.args.pages.now c.args.device.now)

pub returns-in_err-told-clause-edits : goal.returns-in_err-told-clause-edits
returns-in_err-told-clause-edits g t c =
    passed c.from_residual.result c.in_err-told.field-0.0 c.from_residual.ensures.1
    (λ r. EditsPages g.D.Device (r ≡ Err Device) c.args.pages.now c.args.device.now c.propagate_split.new.pages
    c.propagate_split.new.device)
    (edits_where g.D.Device _ _ _ _ _ _ (λ is. still_error is) c.in_err-told.ensures.edits)

pub returns-in-None-2-clause-edits : goal.returns-in-None-2-clause-edits
returns-in-None-2-clause-edits g t c =
    edits_where g.D.Device _ _ _ _ _ _ (λ is. never_ok is) c.propagate_split.ensures.edits

pub returns-in_err-node-clause-edits : goal.returns-in_err-node-clause-edits
returns-in_err-node-clause-edits g t c =
    let read = c.in_err-node.ensures in
    passed c.from_residual-in_err-node.result c.in_err-node.field-0.0 c.from_residual-in_err-node.ensures.1
    (λ r. EditsPages g.D.Device (r ≡ Err Device) c.args.pages.now c.args.device.now c.read_node.new.pages
    c.read_node.new.device)
    (edits_last g.D.Device _ _ _ _ _ _ _ _ _ (λ is. still_error is) c.propagate_split.ensures.edits
    (edits_read g.D.Device _ _ _ _ _ read.only read.unchanged read.agrees))

pub returns-in_err-up-clause-edits : goal.returns-in_err-up-clause-edits
returns-in_err-up-clause-edits g t c =
    let read = c.read_node.ensures in
    let seen = edits_last g.D.Device _ _ ⊥ _ _ _ _ _ _ (λ never. absurd never) c.propagate_split.ensures.edits
    (edits_read g.D.Device _ _ _ _ _ read.only read.unchanged read.agrees) in
    passed c.from_residual-in_err-up.result c.in_err-up.field-0.0 c.from_residual-in_err-up.ensures.1
    (λ r. EditsPages g.D.Device (r ≡ Err Device) c.args.pages.now c.args.device.now c.update_parent_at.new.pages
    c.read_node.new.device)
    (edits_kept g.D.Device _ _ _ _ _ _ _
    (λ is. absurd (subst IsParentRefusal (same_error is) c.in_err-up.ensures.cause)) seen
    c.update_parent_at.ensures.keeps)

pub returns-clause-edits : goal.returns-clause-edits
returns-clause-edits g t c =
    let read = c.read_node.ensures in
    let seen = edits_last g.D.Device _ _ ⊥ _ _ _ _ _ _ (λ never. absurd never) c.propagate_split.ensures.edits
    (edits_read g.D.Device _ _ _ _ _ read.only read.unchanged read.agrees) in
    edits_kept g.D.Device _ _ _ _ _ _ _ (λ is. never_ok is) seen c.update_parent_at.ensures.keeps

pub returns-in_err-told-clause-propagates : goal.returns-in_err-told-clause-propagates
returns-in_err-told-clause-propagates g t c =
    λ honest agrees. if_refused c.from_residual.result c.in_err-told.field-0.0 c.from_residual.ensures.1
    (λ up. PropagatesBy c.args.layout c.args.path.now (pages_on g.D.Device c.args.pages.now c.args.device.now)
    (pages_on g.D.Device c.propagate_split.new.pages c.args.device.now) (Some c.args.split) up)

pub returns-in_err-told-clause-keys : goal.returns-in_err-told-clause-keys
returns-in_err-told-clause-keys g t c =
    if_refused c.from_residual.result c.in_err-told.field-0.0 c.from_residual.ensures.1
    (λ up. IfSome up (HasKeys c.args.layout))

pub returns-in_err-node-clause-propagates : goal.returns-in_err-node-clause-propagates
returns-in_err-node-clause-propagates g t c = λ honest agrees.
    if_refused c.from_residual-in_err-node.result c.in_err-node.field-0.0 c.from_residual-in_err-node.ensures.1
    (λ up. PropagatesBy c.args.layout c.args.path.now (pages_on g.D.Device c.args.pages.now c.args.device.now)
    (pages_on g.D.Device c.read_node.new.pages c.args.device.now) (Some c.args.split) up)

pub returns-in_err-node-clause-keys : goal.returns-in_err-node-clause-keys
returns-in_err-node-clause-keys g t c =
    if_refused c.from_residual-in_err-node.result c.in_err-node.field-0.0 c.from_residual-in_err-node.ensures.1
    (λ up. IfSome up (HasKeys c.args.layout))

pub returns-in_err-up-clause-propagates : goal.returns-in_err-up-clause-propagates
returns-in_err-up-clause-propagates g t c = λ honest agrees.
    if_refused c.from_residual-in_err-up.result c.in_err-up.field-0.0 c.from_residual-in_err-up.ensures.1
    (λ up. PropagatesBy c.args.layout c.args.path.now (pages_on g.D.Device c.args.pages.now c.args.device.now)
    (pages_on g.D.Device c.update_parent_at.new.pages c.args.device.now) (Some c.args.split) up)

pub returns-in_err-up-clause-keys : goal.returns-in_err-up-clause-keys
returns-in_err-up-clause-keys g t c =
    if_refused c.from_residual-in_err-up.result c.in_err-up.field-0.0 c.from_residual-in_err-up.ensures.1
    (λ up. IfSome up (HasKeys c.args.layout))

pub returns-in-None-clause-keys : goal.returns-in-None-clause-keys
returns-in-None-clause-keys g t c = c.requires.keys

pub returns-in-None-2-clause-keys : goal.returns-in-None-2-clause-keys
returns-in-None-2-clause-keys g t c = tt

pub returns-clause-keys : goal.returns-clause-keys
returns-clause-keys g t c = subst (λ (f : RowLayout). IfSome c.in_ok-up.up (HasKeys f)) c.in_ok-node.ensures.shape.0
    c.in_ok-up.ensures.keys

pub returns-in-None-clause-damaged : goal.returns-in-None-clause-damaged
returns-in-None-clause-damaged g t c = λ honest agrees is. never_ok is

pub returns-in-None-2-clause-damaged : goal.returns-in-None-2-clause-damaged
returns-in-None-2-clause-damaged g t c = λ honest agrees is. never_ok is

pub returns-clause-damaged : goal.returns-clause-damaged
returns-clause-damaged g t c = λ honest agrees is. never_ok is

pub returns-in-None-clause-changed_pages : goal.returns-in-None-clause-changed_pages
returns-in-None-clause-changed_pages g t c =
    few_more (length (changed_pages_of c.args.pages.now)) (2 * length c.args.path.now)

pub returns-in_err-told-clause-changed_pages : goal.returns-in_err-told-clause-changed_pages
returns-in_err-told-clause-changed_pages g t c = few_below (length (changed_pages_of c.args.pages.now))
    (length (changed_pages_of c.propagate_split.new.pages)) (length c.in-Some.pair.1.now) (length c.args.path.now)
    c.propagate_split.ensures.changed_pages (ap length c.in-Some.ensures.cases.0)

pub returns-in-None-2-clause-changed_pages : goal.returns-in-None-2-clause-changed_pages
returns-in-None-2-clause-changed_pages g t c = few_below (length (changed_pages_of c.args.pages.now))
    (length (changed_pages_of c.propagate_split.new.pages)) (length c.in-Some.pair.1.now) (length c.args.path.now)
    c.propagate_split.ensures.changed_pages (ap length c.in-Some.ensures.cases.0)

pub returns-in_err-node-clause-changed_pages : goal.returns-in_err-node-clause-changed_pages
returns-in_err-node-clause-changed_pages g t c = few_below (length (changed_pages_of c.args.pages.now))
    (length (changed_pages_of c.read_node.new.pages)) (length c.in-Some.pair.1.now) (length c.args.path.now)
    (subst (λ (n : ℕ). n ≤ (length (changed_pages_of c.args.pages.now)) + 2 * length c.in-Some.pair.1.now)
    (sym (ap length c.read_node.ensures.unchanged.changed_pages))
    c.propagate_split.ensures.changed_pages) (ap length c.in-Some.ensures.cases.0)

pub returns-in_err-up-clause-changed_pages : goal.returns-in_err-up-clause-changed_pages
returns-in_err-up-clause-changed_pages g t c = few_above (length (changed_pages_of c.args.pages.now))
    (length (changed_pages_of c.propagate_split.new.pages)) (length (changed_pages_of c.read_node.new.pages))
    (length (changed_pages_of c.update_parent_at.new.pages)) (length c.in-Some.pair.1.now) (length c.args.path.now)
    c.propagate_split.ensures.changed_pages (ap length c.read_node.ensures.unchanged.changed_pages)
    c.update_parent_at.ensures.changed_pages (ap length c.in-Some.ensures.cases.0)

pub returns-clause-changed_pages : goal.returns-clause-changed_pages
returns-clause-changed_pages g t c = few_above (length (changed_pages_of c.args.pages.now))
    (length (changed_pages_of c.propagate_split.new.pages)) (length (changed_pages_of c.read_node.new.pages))
    (length (changed_pages_of c.update_parent_at.new.pages)) (length c.in-Some.pair.1.now) (length c.args.path.now)
    c.propagate_split.ensures.changed_pages (ap length c.read_node.ensures.unchanged.changed_pages)
    c.update_parent_at.ensures.changed_pages (ap length c.in-Some.ensures.cases.0)

pub returns-in-None-clause-filled : goal.returns-in-None-clause-filled
returns-in-None-clause-filled g t c = few_more (filled_of c.args.pages.now) (2 * length c.args.path.now)

pub returns-in_err-told-clause-filled : goal.returns-in_err-told-clause-filled
returns-in_err-told-clause-filled g t c = few_below (filled_of c.args.pages.now)
    (filled_of c.propagate_split.new.pages) (length c.in-Some.pair.1.now) (length c.args.path.now)
    c.propagate_split.ensures.filled (ap length c.in-Some.ensures.cases.0)

pub returns-in-None-2-clause-filled : goal.returns-in-None-2-clause-filled
returns-in-None-2-clause-filled g t c = few_below (filled_of c.args.pages.now)
    (filled_of c.propagate_split.new.pages) (length c.in-Some.pair.1.now) (length c.args.path.now)
    c.propagate_split.ensures.filled (ap length c.in-Some.ensures.cases.0)

pub returns-in_err-node-clause-filled : goal.returns-in_err-node-clause-filled
returns-in_err-node-clause-filled g t c = few_below (filled_of c.args.pages.now)
    (filled_of c.read_node.new.pages) (length c.in-Some.pair.1.now) (length c.args.path.now)
    (subst (λ (n : ℕ). n ≤ (filled_of c.args.pages.now) + 2 * length c.in-Some.pair.1.now)
    (sym (c.read_node.ensures.unchanged.filled))
    c.propagate_split.ensures.filled) (ap length c.in-Some.ensures.cases.0)

pub returns-in_err-up-clause-filled : goal.returns-in_err-up-clause-filled
returns-in_err-up-clause-filled g t c = few_above (filled_of c.args.pages.now)
    (filled_of c.propagate_split.new.pages) (filled_of c.read_node.new.pages)
    (filled_of c.update_parent_at.new.pages) (length c.in-Some.pair.1.now) (length c.args.path.now)
    c.propagate_split.ensures.filled (c.read_node.ensures.unchanged.filled)
    c.update_parent_at.ensures.filled (ap length c.in-Some.ensures.cases.0)

pub returns-clause-filled : goal.returns-clause-filled
returns-clause-filled g t c = few_above (filled_of c.args.pages.now)
    (filled_of c.propagate_split.new.pages) (filled_of c.read_node.new.pages)
    (filled_of c.update_parent_at.new.pages) (length c.in-Some.pair.1.now) (length c.args.path.now)
    c.propagate_split.ensures.filled (c.read_node.ensures.unchanged.filled)
    c.update_parent_at.ensures.filled (ap length c.in-Some.ensures.cases.0)
