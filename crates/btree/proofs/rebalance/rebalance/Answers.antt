use Rattle.pages.specs.Pages.{page_count}
use Rattle.btree.specs.Changes.{pages_of_map}
use Rattle.btree.proofs.Clearing.{keeps_still}
use Rattle.btree.proofs.JoinedPairs.{put_then_rest, put_undamaged}
use Rattle.btree.proofs.Lessening.{has_room, true_or_false}
use Rattle.btree.proofs.Passing.{damaged_not_spent}
use Rattle.std.proofs.Common.{◌≡◌, ◌∙◌, ap, arith}
use Rattle.btree_pages.specs.RowLayouts.{capacity}
use Rattle.btree_pages.specs.declared.row_layout.RowLayout.{RowLayout}
use Rattle.btree.proofs.rebalance.rebalance.Goals as goal

pub returns-then-not-is_page-clause-damaged : goal.returns-then-not-is_page-clause-damaged
returns-then-not-is_page-clause-damaged c = λ is image left right both.
    true_or_false (c.is_page.ensures.is.1 (has_room (pages_of_map c.args.pages.now image) (page_count c.args.pages.now)
    c.args.left.page (c.is_page.ensures.count image) left both.left_in)) c.if-not-is_page.true

pub returns-then-not-is_page-2-clause-damaged : goal.returns-then-not-is_page-2-clause-damaged
returns-then-not-is_page-2-clause-damaged c = λ is image left right both. true_or_false
    (c.is_page-2.ensures.is.1 (has_room (pages_of_map c.args.pages.now image) (page_count c.args.pages.now)
    c.args.right.page (c.is_page-2.ensures.count image) right both.right_in)) c.if-not-is_page-2.true

pub returns-then-not-is_page-clause-keeps : goal.returns-then-not-is_page-clause-keeps
returns-then-not-is_page-clause-keeps c = keeps_still c.args.pages.now

pub returns-then-not-is_page-clause-spent : goal.returns-then-not-is_page-clause-spent
returns-then-not-is_page-clause-spent c = λ is. damaged_not_spent is

pub returns-then-not-is_page-2-clause-keeps : goal.returns-then-not-is_page-2-clause-keeps
returns-then-not-is_page-2-clause-keeps c = keeps_still c.args.pages.now

pub returns-then-not-is_page-2-clause-spent : goal.returns-then-not-is_page-2-clause-spent
returns-then-not-is_page-2-clause-spent c = λ is. damaged_not_spent is

pub returns-then-count-room-clause-cause : goal.returns-then-count-room-clause-cause
returns-then-count-room-clause-cause c = put_then_rest c.merge.result c.merge.ensures.cause

pub returns-then-count-room-clause-damaged : goal.returns-then-count-room-clause-damaged
returns-then-count-room-clause-damaged c =
    λ is image left right both. put_undamaged c.merge.result c.merge.ensures.cause is

pub returns-clause-cause : goal.returns-clause-cause
returns-clause-cause c = put_then_rest c.redistribute.result c.redistribute.ensures.cause

pub returns-clause-damaged : goal.returns-clause-damaged
returns-clause-damaged c =
    λ is image left right both. put_undamaged c.redistribute.result c.redistribute.ensures.cause is

pub merge-requires-clause-left_page : goal.merge-requires-clause-left_page
merge-requires-clause-left_page c = c.is_page.ensures.is.0 c.if-not-is_page.false

pub merge-requires-clause-right_page : goal.merge-requires-clause-right_page
merge-requires-clause-right_page c = c.is_page-2.ensures.is.0 c.if-not-is_page-2.false

pub redistribute-requires-clause-left_page : goal.redistribute-requires-clause-left_page
redistribute-requires-clause-left_page c = c.is_page.ensures.is.0 c.if-not-is_page.false

pub redistribute-requires-clause-right_page : goal.redistribute-requires-clause-right_page
redistribute-requires-clause-right_page c = c.is_page-2.ensures.is.0 c.if-not-is_page-2.false

pub merge-requires-clause-room : goal.merge-requires-clause-room
merge-requires-clause-room c =
    let node = c.args.left.node in
    let room : c.capacity-room.result ≡ capacity node.layout node.kind = c.capacity-room.ensures
    ∙ ap (λ (l : RowLayout). capacity l c.kind.result) c.layout.ensures ∙ ap (capacity node.layout) c.kind.ensures in
    omega (arith, room, c.count.ensures.rows, c.count-2.ensures.rows, c.if-count-room.true)

pub redistribute-requires-clause-full : goal.redistribute-requires-clause-full
redistribute-requires-clause-full c =
    let node = c.args.left.node in
    let room : c.capacity-room.result ≡ capacity node.layout node.kind = c.capacity-room.ensures
    ∙ ap (λ (l : RowLayout). capacity l c.kind.result) c.layout.ensures ∙ ap (capacity node.layout) c.kind.ensures in
    omega (arith, room, c.count.ensures.rows, c.count-2.ensures.rows, c.if-count-room.false)
