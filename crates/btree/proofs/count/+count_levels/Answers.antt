use Rattle.std.proofs.Common.{◌≡◌, ◌≤◌, ◌-◌, ◌<◌, ℕ, List, length, refl, sym, ap, subst, ◌∙◌, arith, rules, true}
use Rattle.std.proofs.Common.{inr}
use Rattle.std.specs.Prelude.{IfErr, IfOk, Err}
use Rattle.std.specs.Vec.{vec_len}
use Rattle.std.proofs.lemmas.List.{nil_from_length}
use Rattle.std.proofs.lemmas.Result.{IfOk-weaker}
use Rattle.station.specs.Calls.{OnlyReads}
use Rattle.station.proofs.Calls.{reads_then, reads_nothing}
use Rattle.pages.specs.Pages.{is_spent}
use Rattle.pages.specs.declared.error.PagesError.TheVariants.{Device, Spent}
use Rattle.btree.specs.Tree.{TreeNode, rows_of, rows_in_order}
use Rattle.btree.specs.Changes.{pages_of_map}
use Rattle.btree.specs.Clears.{HasPages, levels_below}
use Rattle.btree.specs.Refusals.{IsChangeRefusal}
use Rattle.btree.proofs.Clearing.{no_levels, fewer_levels}
use Rattle.btree.proofs.Counting.{some_in, alone_rows, same_leaves}
use Rattle.btree.proofs.Frames.{unchanged_on}
use Rattle.btree.proofs.Passing.{passed, never_ok, still_error, reads_where, sectors_on}
use Rattle.btree.specs.Calls.{pages_on}
use Rattle.btree.proofs.CountCalls.{of_leaves, of_lower}
use Rattle.btree.proofs.count.+count_levels.Goals as goal

pub returns-then-is_empty-clause-count : goal.returns-then-is_empty-clause-count
returns-then-is_empty-clause-count g t c = λ honest agrees levels few down.
    let pages = pages_of_map c.args.pages.now (g.D.Device.state c.args.device.now).disk.present in
    let zero : length c.args.numbers.now ≡ 0 = search rules in
    let empty = nil_from_length c.args.numbers.now zero in
    let none = no_levels c.args.layout pages c.args.numbers.now levels empty down in
    sym (ap (λ (l : List (List TreeNode)). length (rows_in_order l)) none)

-- No pages are below: the level is one of leaves.
pub returns-then-is_empty-2-clause-count : goal.returns-then-is_empty-2-clause-count
returns-then-is_empty-2-clause-count g t c = λ honest agrees levels few down.
    let some = some_in _ c.args.numbers.now refl (sym c.is_empty.ensures ∙ c.if-is_empty.false) in
    let zero : length c.in_ok-children.children.items ≡ 0 = search rules in
    let found = of_leaves g.D.Device _ c.args.pages.now c.below.new.pages c.args.device.now
    c.below.new.device c.args.layout c.args.numbers.now c.args.numbers.now c.args.numbers.now
    c.in_ok-children.children.items
    (λ level. IfOk c.count_rows.result (λ n. n ≡ length (rows_of level)))
    c.below.ensures.unchanged c.below.ensures.only c.below.ensures.agrees refl refl some
    (nil_from_length c.in_ok-children.children.items zero) c.in_ok-children.ensures.below
    c.count_rows.ensures.count honest agrees levels few down in
    IfOk-weaker c.count_rows.result _ _ (λ n is. is ∙ alone_rows _ _ _ levels found.0) found.1

pub returns-then-is_empty-2-clause-damaged : goal.returns-then-is_empty-2-clause-damaged
returns-then-is_empty-2-clause-damaged g t c = λ honest agrees is levels few down deep.
    let some = some_in _ c.args.numbers.now refl (sym c.is_empty.ensures ∙ c.if-is_empty.false) in
    let zero : length c.in_ok-children.children.items ≡ 0 = search rules in
    (of_leaves g.D.Device _ c.args.pages.now c.below.new.pages c.args.device.now
    c.below.new.device c.args.layout c.args.numbers.now c.args.numbers.now c.args.numbers.now
    c.in_ok-children.children.items
    (λ level. ⊥)
    c.below.ensures.unchanged c.below.ensures.only c.below.ensures.agrees refl refl some
    (nil_from_length c.in_ok-children.children.items zero) c.in_ok-children.ensures.below
    (λ h a. c.count_rows.ensures.damaged h a is) honest agrees levels few down).1

pub returns-clause-count : goal.returns-clause-count
returns-clause-count g t c = λ honest agrees levels few down.
    let children = c.in_ok-children.children in
    let full : vec_len children ≡ length children.items = search rules in
    let some = some_in (vec_len children) children.items full (sym c.is_empty-2.ensures ∙ c.if-is_empty-2.false) in
    let lower = of_lower g.D.Device _ c.args.pages.now c.below.new.pages c.args.device.now
    c.below.new.device c.args.layout c.args.numbers.now c.args.numbers.now c.as_slice.result.now
    (λ levels. IfOk c.count_levels.result (λ n. n ≡ length (rows_in_order levels)))
    c.below.ensures.unchanged c.below.ensures.only c.below.ensures.agrees refl
    (λ h a l small down. subst (λ (n : List ℕ). HasPages n (levels_below l)) (sym c.as_slice.ensures.value)
    (c.in_ok-children.ensures.below h a l small down))
    c.count_levels.ensures.count honest agrees levels few down in
    IfOk-weaker c.count_levels.result _ _
    (λ n is. is ∙ ap length (same_leaves levels c.as_slice.result.now lower.0
    (subst (λ (n : List ℕ). 0 < length n) (sym c.as_slice.ensures.value) some))) lower.1

pub returns-clause-damaged : goal.returns-clause-damaged
returns-clause-damaged g t c = λ honest agrees is levels few down deep.
    let some = some_in _ c.args.numbers.now refl (sym c.is_empty.ensures ∙ c.if-is_empty.false) in
    let count = fewer_levels c.args.layout (pages_on g.D.Device c.args.pages.now c.args.device.now)
    c.args.numbers.now levels some down in
    let lower = of_lower g.D.Device _ c.args.pages.now c.below.new.pages c.args.device.now
    c.below.new.device c.args.layout c.args.numbers.now c.args.numbers.now c.as_slice.result.now
    (λ levels. length levels ≤ c.args.depth - 1 → ⊥)
    c.below.ensures.unchanged c.below.ensures.only c.below.ensures.agrees refl
    (λ h a l small down. subst (λ (n : List ℕ). HasPages n (levels_below l)) (sym c.as_slice.ensures.value)
    (c.in_ok-children.ensures.below h a l small down))
    (λ h a. c.count_levels.ensures.damaged h a is) honest agrees levels few down in
    lower.1 (omega arith)

pub returns-then-is_empty-clause-only : goal.returns-then-is_empty-clause-only
returns-then-is_empty-clause-only g t c =
    reads_where g.D.Device _ _ _ _ (λ is. never_ok is) (reads_nothing g.D.Device c.args.device.now)

pub returns-in_err-children-clause-only : goal.returns-in_err-children-clause-only
returns-in_err-children-clause-only g t c =
    passed c.from_residual.result c.in_err-children.field-0.0 c.from_residual.ensures.1
    (λ r. OnlyReads g.D.Device (r ≡ Err Device) c.args.device.now c.below.new.device)
    (reads_where g.D.Device _ _ _ _ (λ is. still_error is) c.in_err-children.ensures.only)

pub returns-then-is_empty-2-clause-only : goal.returns-then-is_empty-2-clause-only
returns-then-is_empty-2-clause-only g t c = reads_then g.D.Device _ _ _ _ _ _ (λ is. inr is) c.below.ensures.only
    c.count_rows.ensures.only

pub returns-clause-only : goal.returns-clause-only
returns-clause-only g t c = reads_then g.D.Device _ _ _ _ _ _ (λ is. inr is) c.below.ensures.only
    c.count_levels.ensures.only

pub returns-then-is_empty-2-clause-unchanged : goal.returns-then-is_empty-2-clause-unchanged
returns-then-is_empty-2-clause-unchanged g t c = unchanged_on c.args.pages.now c.below.new.pages c.count_rows.new.pages
    c.below.ensures.unchanged c.count_rows.ensures.unchanged

pub returns-clause-unchanged : goal.returns-clause-unchanged
returns-clause-unchanged g t c = unchanged_on c.args.pages.now c.below.new.pages c.count_levels.new.pages
    c.below.ensures.unchanged c.count_levels.ensures.unchanged

pub returns-then-is_empty-2-clause-agrees : goal.returns-then-is_empty-2-clause-agrees
returns-then-is_empty-2-clause-agrees g t c =
    λ honest agrees. c.count_rows.ensures.agrees (c.below.ensures.only.honest.0 honest)
    (c.below.ensures.agrees honest agrees)

pub returns-clause-agrees : goal.returns-clause-agrees
returns-clause-agrees g t c = λ honest agrees. c.count_levels.ensures.agrees (c.below.ensures.only.honest.0 honest)
    (c.below.ensures.agrees honest agrees)

pub count_rows-requires-clause-sectors : goal.count_rows-requires-clause-sectors
count_rows-requires-clause-sectors g t c =
    sectors_on c.args.pages.now c.below.new.pages _ _ c.below.ensures.unchanged.committed.volume
    c.below.ensures.only.sectors c.requires.sectors

pub returns-then-is_empty-clause-spent : goal.returns-then-is_empty-clause-spent
returns-then-is_empty-clause-spent g t c = λ is. never_ok is

pub returns-in_err-children-clause-spent : goal.returns-in_err-children-clause-spent
returns-in_err-children-clause-spent g t c =
    passed c.from_residual.result c.in_err-children.field-0.0 c.from_residual.ensures.1
    (λ r. r ≡ Err Spent → is_spent c.args.pages.now ≡ true)
    (λ is. c.in_err-children.ensures.spent.0 (still_error is))

pub returns-then-is_empty-2-clause-spent : goal.returns-then-is_empty-2-clause-spent
returns-then-is_empty-2-clause-spent g t c =
    λ is. sym c.below.ensures.unchanged.committed.spent ∙ c.count_rows.ensures.spent is

pub returns-clause-spent : goal.returns-clause-spent
returns-clause-spent g t c =
    λ is. sym c.below.ensures.unchanged.committed.spent ∙ c.count_levels.ensures.spent is

pub returns-in_err-children-clause-told : goal.returns-in_err-children-clause-told
returns-in_err-children-clause-told g t c =
    λ was some deep. passed c.from_residual.result c.in_err-children.field-0.0 c.from_residual.ensures.1
    (λ r. r ≡ Err Spent)
    (still_error (c.in_err-children.ensures.spent.1 was))

pub returns-then-is_empty-2-clause-told : goal.returns-then-is_empty-2-clause-told
returns-then-is_empty-2-clause-told g t c =
    λ was some deep. never_ok (sym c.in_ok-children.was ∙ c.below.ensures.spent.1 was)

pub returns-clause-told : goal.returns-clause-told
returns-clause-told g t c = λ was some deep. never_ok (sym c.in_ok-children.was ∙ c.below.ensures.spent.1 was)

pub returns-in_err-children-clause-cause : goal.returns-in_err-children-clause-cause
returns-in_err-children-clause-cause g t c =
    passed c.from_residual.result c.in_err-children.field-0.0 c.from_residual.ensures.1
    (λ r. IfErr r IsChangeRefusal)
    (c.in_err-children.ensures.cause)

pub returns-in_err-children-clause-count : goal.returns-in_err-children-clause-count
returns-in_err-children-clause-count g t c = λ honest agrees levels few down.
    passed c.from_residual.result c.in_err-children.field-0.0 c.from_residual.ensures.1
    (λ r. IfOk r (λ count. count ≡ length (rows_in_order levels))) tt
