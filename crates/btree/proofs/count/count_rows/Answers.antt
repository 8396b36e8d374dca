use Rattle.std.proofs.Common.{◌≡◌, ◌≤◌, ◌<◌, List, [], Err, true, length, sym, ap, subst, ◌∙◌, arith}
use Rattle.std.proofs.Common.{inr}
use Rattle.std.specs.Prelude.{Option, slice_index_or, IfErr, IfOk}
use Rattle.std.proofs.lemmas.List.{take_all}
use Rattle.std.proofs.lemmas.Result.{err_from_is_err_and}
use Rattle.station.specs.Disk.{Sector}
use Rattle.station.specs.Calls.{OnlyReads}
use Rattle.station.proofs.Calls.{reads_then}
use Rattle.pages.specs.Pages.{is_spent}
use Rattle.pages.specs.declared.error.PagesError.TheVariants.{Device, Damaged, Spent}
use Rattle.btree_pages.specs.declared.row_layout.Kind.TheVariants.{Leaf}
use Rattle.btree.specs.Tree.{TreeNode, IsOnPage, rows_of}
use Rattle.btree.specs.Propagates.{node_with}
use Rattle.btree.specs.Refusals.{IsChangeRefusal}
use Rattle.btree.proofs.Frames.{unchanged_on, same_pages}
use Rattle.btree.proofs.Clearing.{page_at, as_many}
use Rattle.btree.proofs.Passing.{passed, never_ok, still_error}
use Rattle.btree.proofs.Passing.{read_is_change, reads_where, sectors_on}
use Rattle.btree.proofs.CountCalls.{rows_on}
use Rattle.btree.proofs.count.count_rows.Goals as goal

pub returns-in_err-node-clause-unchanged : goal.returns-in_err-node-clause-unchanged
returns-in_err-node-clause-unchanged g c = unchanged_on c.args.pages.now c.loop-place.pages c.read_kind.new.pages
    c.loop-place.invariant.unchanged c.read_kind.ensures.unchanged

pub returns-in_err-node-clause-damaged : goal.returns-in_err-node-clause-damaged
returns-in_err-node-clause-damaged g c = λ honest agrees is level stand numbers.
    let loop = c.loop-place in
    let from = err_from_is_err_and c.from_residual.result c.from_residual.ensures.1 in
    let damaged : c.read_kind.result ≡ Err Damaged = cc in
    let same = same_pages c.args.pages.now loop.pages (g.D.Device.state c.args.device.now)
    (g.D.Device.state loop.device) loop.invariant.unchanged (loop.invariant.only.state honest) in
    let none : TreeNode = node_with 0 [] in
    let here : TreeNode = slice_index_or level loop.place none in
    let count = as_many level c.args.numbers.now numbers in
    let test = c.loop-place-test.true in
    let low : loop.place < length level = omega arith in
    c.read_kind.ensures.damaged (loop.invariant.only.honest.0 honest) (loop.invariant.agrees honest agrees) damaged
    here (page_at level c.args.numbers.now loop.place none numbers low)
    (subst (λ (p : List (Option Sector)). IsOnPage c.args.layout p Leaf here) (sym same) (stand loop.place none low))

pub loop-place-preserved : goal.loop-place-preserved
loop-place-preserved g c =
    let at = c.loop-place.invariant in
    let low : c.loop-place.place < length c.args.numbers.now = let test = c.loop-place-test.true in omega arith in
    record {
      only = reads_then g.D.Device ⊥ _ ⊥ _ _ _ (λ e. absurd e) at.only c.read_kind.ensures.only;
      unchanged = unchanged_on _ _ _ at.unchanged c.read_kind.ensures.unchanged;
      agrees = λ h a. c.read_kind.ensures.agrees (at.only.honest.0 h) (at.agrees h a);
      rows = rows_on g.D.Device ⊥ c.args.pages.now c.loop-place.pages c.args.device.now c.loop-place.device
          c.args.layout c.args.numbers.now c.loop-place.place c.loop-place.count c.count.result c.in_ok-node.node
          at.unchanged at.only at.agrees low c.in_ok-node.ensures.node c.count.ensures.rows at.rows;
      few = let few = at.few in let shape = c.in_ok-node.ensures.shape.2 in omega arith;
    }

-- The device is only read.
pub read_kind-requires-clause-sectors : goal.read_kind-requires-clause-sectors
read_kind-requires-clause-sectors g c = sectors_on c.args.pages.now c.loop-place.pages _ _
    c.loop-place.invariant.unchanged.committed.volume c.loop-place.invariant.only.sectors c.requires.sectors

pub returns-in_err-node-clause-only : goal.returns-in_err-node-clause-only
returns-in_err-node-clause-only g c = passed c.from_residual.result c.in_err-node.field-0.0 c.from_residual.ensures.1
    (λ r. OnlyReads g.D.Device (r ≡ Err Device) c.args.device.now c.read_kind.new.device)
    (reads_then g.D.Device _ _ _ _ _ _ (λ is. inr (still_error is)) c.loop-place.invariant.only
    c.in_err-node.ensures.only)

pub returns-clause-only : goal.returns-clause-only
returns-clause-only g c = reads_where g.D.Device _ _ _ _ (λ is. never_ok is) c.loop-place.invariant.only

pub returns-in_err-node-clause-agrees : goal.returns-in_err-node-clause-agrees
returns-in_err-node-clause-agrees g c = λ honest agrees. c.read_kind.ensures.agrees
    (c.loop-place.invariant.only.honest.0 honest) (c.loop-place.invariant.agrees honest agrees)

pub returns-in_err-node-clause-spent : goal.returns-in_err-node-clause-spent
returns-in_err-node-clause-spent g c = passed c.from_residual.result c.in_err-node.field-0.0 c.from_residual.ensures.1
    (λ r. r ≡ Err Spent → is_spent c.args.pages.now ≡ true)
    (λ is. sym c.loop-place.invariant.unchanged.committed.spent ∙ c.in_err-node.ensures.spent.0 (still_error is))

pub returns-clause-spent : goal.returns-clause-spent
returns-clause-spent g c = λ is. never_ok is

pub returns-clause-damaged : goal.returns-clause-damaged
returns-clause-damaged g c = λ honest agrees is level stand numbers. never_ok is

pub returns-in_err-node-clause-cause : goal.returns-in_err-node-clause-cause
returns-in_err-node-clause-cause g c = passed c.from_residual.result c.in_err-node.field-0.0 c.from_residual.ensures.1
    (λ r. IfErr r IsChangeRefusal) (read_is_change c.in_err-node.field-0.0 c.in_err-node.ensures.cause)

-- A refusal has no count, and at the end each leaf was read.
pub returns-in_err-node-clause-count : goal.returns-in_err-node-clause-count
returns-in_err-node-clause-count g c = λ honest agrees level stand numbers.
    passed c.from_residual.result c.in_err-node.field-0.0 c.from_residual.ensures.1
    (λ r. IfOk r (λ count. count ≡ length (rows_of level))) tt

pub returns-clause-count : goal.returns-clause-count
returns-clause-count g c = λ honest agrees level stand numbers.
    let loop = c.loop-place in
    let count = as_many level c.args.numbers.now numbers in
    let test = c.loop-place-test.false in
    let all : length level ≤ loop.place = omega arith in
    loop.invariant.rows honest agrees level stand numbers
    ∙ ap (λ (l : List TreeNode). length (rows_of l)) (take_all loop.place level all)
