use Rattle.std.proofs.Common.{◌≡◌, ◌<◌, ◌+◌, ℕ, List, [], Err, length, map, sym, subst, ◌∙◌, arith}
use Rattle.std.specs.Prelude.{Option, slice_index_or}
use Rattle.std.proofs.lemmas.Result.{err_from_is_err_and}
use Rattle.station.specs.Disk.{Sector}
use Rattle.station.proofs.Calls.{reads_then}
use Rattle.pages.specs.declared.error.PagesError.TheVariants.{Damaged}
use Rattle.btree_pages.specs.declared.row_layout.Kind.TheVariants.{Inner}
use Rattle.btree_pages.specs.Keys.{child_of}
use Rattle.btree.specs.Tree.{TreeNode, IsOnPage}
use Rattle.btree.specs.Propagates.{node_with}
use Rattle.btree.proofs.Frames.{unchanged_on, same_pages}
use Rattle.btree.proofs.Children.{children_next}
use Rattle.btree.proofs.Clearing.{page_at, as_many, few_children}
use Rattle.std.specs.Prelude.{IfErr, IfOk}
use Rattle.std.proofs.Common.{inr}
use Rattle.station.specs.Calls.{OnlyReads}
use Rattle.pages.specs.declared.error.PagesError.TheVariants.{Device, Spent}
use Rattle.pages.specs.Pages.{is_spent}
use Rattle.std.proofs.Common.{true}
use Rattle.btree.specs.Tree.{rows_of}
use Rattle.btree.specs.Refusals.{IsChangeRefusal}
use Rattle.btree.proofs.Passing.{passed, never_ok, still_error, damaged_not_device, damaged_not_spent, memory_is_put}
use Rattle.btree.proofs.Passing.{put_not_device, put_not_damaged, memory_not_spent}
use Rattle.btree.proofs.Passing.{put_is_rest, rest_is_change, read_is_change, reads_where, sectors_on}
use Rattle.std.proofs.Common.{◌≤◌, ap}
use Rattle.std.proofs.lemmas.List.{take_all}
use Rattle.pages.specs.Pages.{page_count}
use Rattle.btree.proofs.Passing.{if_refused}
use Rattle.btree.proofs.clear.children_of.Goals as goal

pub returns-in_err-node-clause-unchanged : goal.returns-in_err-node-clause-unchanged
returns-in_err-node-clause-unchanged g c = unchanged_on c.args.pages.now c.loop-place.pages c.read_kind.new.pages
    c.loop-place.invariant.unchanged c.read_kind.ensures.unchanged

pub returns-in_err-node-clause-damaged : goal.returns-in_err-node-clause-damaged
returns-in_err-node-clause-damaged g c = λ honest agrees is level stand numbers below.
    let loop = c.loop-place in
    let from = err_from_is_err_and c.from_residual.result c.from_residual.ensures.1 in
    let damaged : c.read_kind.result ≡ Err Damaged = cc in
    let same = same_pages c.args.pages.now loop.pages (g.D.Device.state c.args.device.now)
    (g.D.Device.state loop.device) loop.invariant.unchanged (loop.invariant.only.state honest) in
    let none : TreeNode = node_with 0 [] in
    let here : TreeNode = slice_index_or level loop.place none in
    let count = as_many level c.args.numbers.now numbers in
    let test = c.loop-place-test.true in
    let low : loop.place < length level = omega arith in
    c.read_kind.ensures.damaged (loop.invariant.only.honest.0 honest) (loop.invariant.agrees honest agrees) damaged
    here (page_at level c.args.numbers.now loop.place none numbers low)
    (subst (λ (p : List (Option Sector)). IsOnPage c.args.layout p Inner here) (sym same) (stand loop.place none low))

pub returns-in_err-push_children-clause-unchanged : goal.returns-in_err-push_children-clause-unchanged
returns-in_err-push_children-clause-unchanged g c = unchanged_on c.args.pages.now c.loop-place.pages
    c.read_kind.new.pages c.loop-place.invariant.unchanged c.read_kind.ensures.unchanged

pub returns-then-room-len-clause-unchanged : goal.returns-then-room-len-clause-unchanged
returns-then-room-len-clause-unchanged g c = unchanged_on c.args.pages.now c.loop-place.pages c.read_kind.new.pages
    c.loop-place.invariant.unchanged c.read_kind.ensures.unchanged

pub returns-then-room-len-clause-damaged : goal.returns-then-room-len-clause-damaged
returns-then-room-len-clause-damaged g c = λ honest agrees is level stand numbers below.
    let loop = c.loop-place in
    let node = c.in_ok-node.node in
    let after : List ℕ = c.push_children.new.numbers.items in
    let few = few_children c.args.layout level (loop.place + 1) after (children_next g.D.Device c.args.layout
    c.args.pages.now loop.pages c.args.device.now loop.device c.args.numbers.now loop.place node loop.children.items
    after loop.invariant.unchanged loop.invariant.only loop.invariant.agrees c.loop-place-test.true
    c.in_ok-node.ensures.node c.in_ok-node.ensures.shape.0 c.in_ok-push_children.ensures.numbers
    loop.invariant.children honest agrees level stand numbers) in
    let room = c.page_count-room.ensures.pages (g.D.Device.state c.args.device.now).disk.present in
    let is_room = c.page_count-room.ensures.count in
    let beyond = c.if-room-len.true in
    omega arith

pub loop-place-preserved : goal.loop-place-preserved
loop-place-preserved g c =
    let loop = c.loop-place in
    record {
      only = reads_then g.D.Device _ _ _ _ _ _ (λ e. absurd e) loop.invariant.only c.read_kind.ensures.only;
      unchanged = unchanged_on _ _ _ loop.invariant.unchanged c.read_kind.ensures.unchanged;
      agrees = λ h a. c.read_kind.ensures.agrees (loop.invariant.only.honest.0 h) (loop.invariant.agrees h a);
      children = children_next g.D.Device c.args.layout c.args.pages.now loop.pages c.args.device.now loop.device
          c.args.numbers.now loop.place c.in_ok-node.node loop.children.items c.push_children.new.numbers.items
          loop.invariant.unchanged loop.invariant.only loop.invariant.agrees c.loop-place-test.true
          c.in_ok-node.ensures.node c.in_ok-node.ensures.shape.0 c.in_ok-push_children.ensures.numbers
          loop.invariant.children;
      few = let inside = c.if-room-len.false in omega arith;
    }

pub returns-clause-few : goal.returns-clause-few
returns-clause-few g c =
    let few = c.loop-place.invariant.few in
    let room = c.page_count-room.ensures.count in
    omega arith

-- The device is only read.
pub read_kind-requires-clause-sectors : goal.read_kind-requires-clause-sectors
read_kind-requires-clause-sectors g c = sectors_on c.args.pages.now c.loop-place.pages _ _
    c.loop-place.invariant.unchanged.committed.volume c.loop-place.invariant.only.sectors c.requires.sectors

pub returns-in_err-node-clause-only : goal.returns-in_err-node-clause-only
returns-in_err-node-clause-only g c = passed c.from_residual.result c.in_err-node.field-0.0 c.from_residual.ensures.1
    (λ r. OnlyReads g.D.Device (r ≡ Err Device) c.args.device.now c.read_kind.new.device)
    (reads_then g.D.Device _ _ _ _ _ _ (λ is. inr (still_error is)) c.loop-place.invariant.only
    c.in_err-node.ensures.only)

pub returns-in_err-push_children-clause-only : goal.returns-in_err-push_children-clause-only
returns-in_err-push_children-clause-only g c =
    let x = c.in_err-push_children.field-0.0 in
    passed c.from_residual-in_err-push_children.result x c.from_residual-in_err-push_children.ensures.1
    (λ r. OnlyReads g.D.Device (r ≡ Err Device) c.args.device.now c.read_kind.new.device)
    (reads_then g.D.Device _ _ _ _ _ _
    (λ is. put_not_device x (memory_is_put x c.in_err-push_children.ensures.cause) is)
    c.loop-place.invariant.only c.read_kind.ensures.only)

pub returns-then-room-len-clause-only : goal.returns-then-room-len-clause-only
returns-then-room-len-clause-only g c = reads_then g.D.Device _ _ _ _ _ _ (λ is. damaged_not_device is)
    c.loop-place.invariant.only c.read_kind.ensures.only

pub returns-clause-only : goal.returns-clause-only
returns-clause-only g c = reads_where g.D.Device _ _ _ _ (λ is. never_ok is) c.loop-place.invariant.only

pub returns-in_err-node-clause-agrees : goal.returns-in_err-node-clause-agrees
returns-in_err-node-clause-agrees g c = λ honest agrees. c.read_kind.ensures.agrees
    (c.loop-place.invariant.only.honest.0 honest) (c.loop-place.invariant.agrees honest agrees)

pub returns-in_err-push_children-clause-agrees : goal.returns-in_err-push_children-clause-agrees
returns-in_err-push_children-clause-agrees g c = λ honest agrees. c.read_kind.ensures.agrees
    (c.loop-place.invariant.only.honest.0 honest) (c.loop-place.invariant.agrees honest agrees)

pub returns-then-room-len-clause-agrees : goal.returns-then-room-len-clause-agrees
returns-then-room-len-clause-agrees g c = λ honest agrees. c.read_kind.ensures.agrees
    (c.loop-place.invariant.only.honest.0 honest) (c.loop-place.invariant.agrees honest agrees)

-- Why it is refused.
pub returns-in_err-node-clause-spent : goal.returns-in_err-node-clause-spent
returns-in_err-node-clause-spent g c = passed c.from_residual.result c.in_err-node.field-0.0 c.from_residual.ensures.1
    (λ r. r ≡ Err Spent → is_spent c.args.pages.now ≡ true)
    (λ is. sym c.loop-place.invariant.unchanged.committed.spent ∙ c.in_err-node.ensures.spent.0 (still_error is))

pub returns-in_err-push_children-clause-spent : goal.returns-in_err-push_children-clause-spent
returns-in_err-push_children-clause-spent g c =
    let x = c.in_err-push_children.field-0.0 in
    passed c.from_residual-in_err-push_children.result x c.from_residual-in_err-push_children.ensures.1
    (λ r. r ≡ Err Spent → is_spent c.args.pages.now ≡ true)
    (λ is. memory_not_spent x c.in_err-push_children.ensures.cause is)

pub returns-then-room-len-clause-spent : goal.returns-then-room-len-clause-spent
returns-then-room-len-clause-spent g c = λ is. damaged_not_spent is

pub returns-clause-spent : goal.returns-clause-spent
returns-clause-spent g c = λ is. never_ok is

pub returns-in_err-push_children-clause-damaged : goal.returns-in_err-push_children-clause-damaged
returns-in_err-push_children-clause-damaged g c = λ honest agrees is level stand numbers below.
    let x = c.in_err-push_children.field-0.0 in
    passed c.from_residual-in_err-push_children.result x c.from_residual-in_err-push_children.ensures.1
    (λ r. r ≡ Err Damaged → ⊥) (λ e. put_not_damaged x (memory_is_put x c.in_err-push_children.ensures.cause) e) is

pub returns-clause-damaged : goal.returns-clause-damaged
returns-clause-damaged g c = λ honest agrees is level stand numbers below. never_ok is

pub returns-in_err-node-clause-cause : goal.returns-in_err-node-clause-cause
returns-in_err-node-clause-cause g c = passed c.from_residual.result c.in_err-node.field-0.0 c.from_residual.ensures.1
    (λ r. IfErr r IsChangeRefusal) (read_is_change c.in_err-node.field-0.0 c.in_err-node.ensures.cause)

pub returns-in_err-push_children-clause-cause : goal.returns-in_err-push_children-clause-cause
returns-in_err-push_children-clause-cause g c =
    let x = c.in_err-push_children.field-0.0 in
    passed c.from_residual-in_err-push_children.result x c.from_residual-in_err-push_children.ensures.1
    (λ r. IfErr r IsChangeRefusal)
    (rest_is_change x (put_is_rest x (memory_is_put x c.in_err-push_children.ensures.cause)))

-- A refusal has no children.
pub returns-in_err-node-clause-children : goal.returns-in_err-node-clause-children
returns-in_err-node-clause-children g c = λ honest agrees level stand numbers.
    passed c.from_residual.result c.in_err-node.field-0.0 c.from_residual.ensures.1
    (λ r. IfOk r (λ children. children.items ≡ map (child_of c.args.layout) (rows_of level))) tt

pub returns-in_err-push_children-clause-children : goal.returns-in_err-push_children-clause-children
returns-in_err-push_children-clause-children g c = λ honest agrees level stand numbers.
    passed c.from_residual-in_err-push_children.result c.in_err-push_children.field-0.0
    c.from_residual-in_err-push_children.ensures.1
    (λ r. IfOk r (λ children. children.items ≡ map (child_of c.args.layout) (rows_of level))) tt

pub returns-clause-children : goal.returns-clause-children
returns-clause-children g c = λ honest agrees level stand numbers.
    let loop = c.loop-place in
    let count = as_many level c.args.numbers.now numbers in
    let test = c.loop-place-test.false in
    let all : length level ≤ loop.place = omega (arith, count, test) in
    loop.invariant.children honest agrees level stand numbers
    ∙ ap (λ (l : List TreeNode). map (child_of c.args.layout) (rows_of l)) (take_all loop.place level all)

pub returns-clause-unchanged : goal.returns-clause-unchanged
returns-clause-unchanged g c = c.loop-place.invariant.unchanged

pub returns-clause-agrees : goal.returns-clause-agrees
returns-clause-agrees g c = c.loop-place.invariant.agrees

pub returns-then-room-len-clause-children : goal.returns-then-room-len-clause-children
returns-then-room-len-clause-children g c = λ honest agrees level stand numbers. tt

pub returns-in_err-node-clause-few : goal.returns-in_err-node-clause-few
returns-in_err-node-clause-few g c = if_refused c.from_residual.result c.in_err-node.field-0.0
    c.from_residual.ensures.1 (λ children. length children.items ≤ page_count c.args.pages.now)

pub returns-in_err-push_children-clause-few : goal.returns-in_err-push_children-clause-few
returns-in_err-push_children-clause-few g c =
    if_refused c.from_residual-in_err-push_children.result c.in_err-push_children.field-0.0
    c.from_residual-in_err-push_children.ensures.1 (λ children. length children.items ≤ page_count c.args.pages.now)
