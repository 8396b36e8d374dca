use denote.Enum.Bare.{differs_false}
use Rattle.std.proofs.Common.{◌≡◌, sym, ap, ◌∙◌, rules, []}
use Rattle.std.specs.Prelude.{IfErr, slice_index_or}
use Rattle.station.proofs.Calls.{reads_nothing}
use Rattle.pages.specs.declared.error.PagesError.TheVariants.{Device, Damaged, Spent}
use Rattle.btree.specs.Reading.{IsReadRefusal}
use Rattle.btree.proofs.Frames.{unchanged_still}
use Rattle.btree.proofs.Passing.{passed, never_ok, was_error, if_refused, on_refused, reads_where}
use Rattle.btree.proofs.Passing.{damaged_not_device, damaged_not_spent}
use Rattle.btree_check.specs.declared.separator.Separator.{Separator}
use Rattle.btree_pages.specs.Keys.{key_of}
use Rattle.btree_pages.specs.contracts.row_layout.Kind.{the_type}
use Rattle.btree_check.proofs.Walking.{node_named}
use Rattle.btree_check.proofs.check.check_node.Goals as goal

pub returns-clause-node : goal.returns-clause-node
returns-clause-node g c = λ honest agrees.
    let node = c.in_ok-node.node in
    let is : c.kind.result ≡ c.args.kind =
    differs_false the_type (search rules) _ _ (sym c.ne.ensures ∙ c.if-ne.false) in
    let kind : node.kind ≡ c.args.kind = sym c.kind.ensures ∙ is in
    let same : c.key.result.now ≡ c.bytes.result.now = search rules in
    let least : key_of node.layout (slice_index_or node.rows 0 []) ≡ c.args.separator.now.key =
    sym c.key.ensures.key ∙ same ∙ c.bytes.ensures in
    node_named c.args.layout _ c.args.kind c.args.separator.now node (c.in_ok-node.ensures.node honest agrees)
    c.count-count.ensures.node c.in_ok-node.ensures.shape.0 kind
    (search rules) least

-- The device and the map are only read.
pub returns-then-not-mark-clause-only : goal.returns-then-not-mark-clause-only
returns-then-not-mark-clause-only g c = reads_where g.D.Device _ _ _ _ (λ is. damaged_not_device is)
    (reads_nothing g.D.Device c.args.device.now)

pub returns-then-not-mark-clause-unchanged : goal.returns-then-not-mark-clause-unchanged
returns-then-not-mark-clause-unchanged g c = unchanged_still c.args.pages.now

pub returns-in_err-node-clause-only : goal.returns-in_err-node-clause-only
returns-in_err-node-clause-only g c = reads_where g.D.Device _ _ _ _
    (λ is. was_error c.from_residual.result c.read_node.result c.in_err-node.field-0.0 Device
    c.from_residual.ensures.1 c.in_err-node.was is) c.read_node.ensures.only

pub returns-then-ne-clause-only : goal.returns-then-ne-clause-only
returns-then-ne-clause-only g c =
    reads_where g.D.Device _ _ _ _ (λ is. damaged_not_device is) c.read_node.ensures.only

pub returns-then-ne-2-clause-only : goal.returns-then-ne-2-clause-only
returns-then-ne-2-clause-only g c =
    reads_where g.D.Device _ _ _ _ (λ is. damaged_not_device is) c.read_node.ensures.only

pub returns-clause-only : goal.returns-clause-only
returns-clause-only g c = reads_where g.D.Device _ _ _ _ (λ is. never_ok is) c.read_node.ensures.only

-- Why it is refused.
pub returns-then-not-mark-clause-damaged : goal.returns-then-not-mark-clause-damaged
returns-then-not-mark-clause-damaged g c = λ honest agrees is can node named stands.
    c.mark.ensures.refused c.if-not-mark.true can

pub returns-in_err-node-clause-damaged : goal.returns-in_err-node-clause-damaged
returns-in_err-node-clause-damaged g c = λ honest agrees is can node named stands.
    c.read_node.ensures.damaged honest agrees
    (was_error c.from_residual.result c.read_node.result c.in_err-node.field-0.0 Damaged
    c.from_residual.ensures.1 c.in_err-node.was is) c.args.kind node
    (ap (λ (n : Separator). n.page) named) stands

pub returns-in_err-node-clause-node : goal.returns-in_err-node-clause-node
returns-in_err-node-clause-node g c = λ honest agrees.
    if_refused c.from_residual.result c.in_err-node.field-0.0 c.from_residual.ensures.1 _

pub returns-in_err-node-clause-shape : goal.returns-in_err-node-clause-shape
returns-in_err-node-clause-shape g c =
    if_refused c.from_residual.result c.in_err-node.field-0.0 c.from_residual.ensures.1 _

pub returns-in_err-node-clause-marks : goal.returns-in_err-node-clause-marks
returns-in_err-node-clause-marks g c =
    on_refused c.from_residual.result c.in_err-node.field-0.0 c.from_residual.ensures.1 _

pub returns-in_err-node-clause-cause : goal.returns-in_err-node-clause-cause
returns-in_err-node-clause-cause g c = passed c.from_residual.result c.in_err-node.field-0.0 c.from_residual.ensures.1
    (λ r. IfErr r IsReadRefusal) c.in_err-node.ensures.cause

pub returns-in_err-node-clause-spent : goal.returns-in_err-node-clause-spent
returns-in_err-node-clause-spent g c = λ is. c.read_node.ensures.spent.0
    (was_error c.from_residual.result c.read_node.result c.in_err-node.field-0.0 Spent
    c.from_residual.ensures.1 c.in_err-node.was is)

pub returns-then-not-mark-clause-spent : goal.returns-then-not-mark-clause-spent
returns-then-not-mark-clause-spent g c = λ is. damaged_not_spent is

pub returns-then-ne-clause-spent : goal.returns-then-ne-clause-spent
returns-then-ne-clause-spent g c = λ is. damaged_not_spent is

pub returns-then-ne-2-clause-spent : goal.returns-then-ne-2-clause-spent
returns-then-ne-2-clause-spent g c = λ is. damaged_not_spent is

pub returns-clause-damaged : goal.returns-clause-damaged
returns-clause-damaged g c = λ honest agrees is can node named stands. never_ok is

pub returns-clause-spent : goal.returns-clause-spent
returns-clause-spent g c = λ is. never_ok is
