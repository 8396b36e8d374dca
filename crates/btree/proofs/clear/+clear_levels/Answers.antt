use Rattle.std.proofs.Common.{◌≡◌, ◌≤◌, ◌<◌, ◌-◌, ℕ, List, [], length, refl, sym, ap, subst, ◌∙◌, arith, rules}
use Rattle.std.specs.Prelude.{Option, OnOk}
use Rattle.std.specs.List.{All}
use Rattle.std.proofs.lemmas.List.{nil_from_length}
use Rattle.std.proofs.lemmas.Result.{on_ok_weaker}
use Rattle.station.specs.Disk.{Sector}
use Rattle.pages.specs.Image.{Map}
use Rattle.btree.specs.Tree.{TreeNode, pages_of}
use Rattle.btree.specs.Moves.{Moves}
use Rattle.btree.specs.Changes.{pages_of_map}
use Rattle.btree.specs.Clears.{HasPages, levels_below}
use Rattle.btree.specs.Calls.{pages_on}
use Rattle.btree.proofs.ClearedLevels.{rest_left}
use Rattle.btree.proofs.Clearing.{moves_none, no_levels, top_between, cleared_after, fewer_levels}
use Rattle.std.specs.Prelude.{IfErr, Err}
use Rattle.std.proofs.Common.{true}
use Rattle.pages.specs.Pages.{is_spent}
use Rattle.pages.specs.declared.error.PagesError.TheVariants.{Device, Spent}
use Rattle.btree.specs.Refusals.{IsChangeRefusal}
use Rattle.btree.proofs.Passing.{passed, never_ok, still_error}
use Rattle.btree.proofs.Passing.{rest_is_change, rest_not_device}
use Rattle.pages.specs.declared.error.PagesError.TheVariants.{Damaged}
use Rattle.btree.specs.Calls.{EditsPages}
use Rattle.btree.proofs.EditedPages.{edits_kept, edits_last, edits_none, edits_read, edits_where}
use Rattle.btree.proofs.Passing.{damaged_not_device, damaged_not_spent, on_refused, was_error}
use Rattle.btree.proofs.clear.+clear_levels.Goals as goal

pub returns-then-is_empty-clause-cleared : goal.returns-then-is_empty-clause-cleared
returns-then-is_empty-clause-cleared g t c = λ honest agrees levels few down.
    let pages = pages_of_map c.args.pages.now (g.D.Device.state c.args.device.now).disk.present in
    let zero : length c.args.numbers.now ≡ 0 = search rules in
    let empty = nil_from_length c.args.numbers.now zero in
    let none = no_levels c.args.layout pages c.args.numbers.now levels empty down in
    subst (λ (l : List (List TreeNode)). Moves pages (pages_of l) pages []) (sym none) (moves_none pages)

pub returns-in_err-release_pages-clause-damaged : goal.returns-in_err-release_pages-clause-damaged
returns-in_err-release_pages-clause-damaged g t c = λ honest agrees is levels few down deep.
    let image = (g.D.Device.state c.args.device.now).disk.present in
    let pages = pages_of_map c.args.pages.now image in
    let told = rw is at c.from_residual-in_err-release_pages.ensures.1 in
    let same = ap (λ (m : Map). m.pages) (c.below.ensures.unchanged.map image) in
    c.in_err-release_pages.ensures.damaged (cc told) image (subst (λ (p : List (Option Sector)).
    All (λ page. (0 < page) × (page < length p)) c.args.numbers.now) (sym same)
    (top_between c.args.layout pages c.args.numbers.now levels down))

pub returns-clause-cleared : goal.returns-clause-cleared
returns-clause-cleared g t c = λ honest agrees levels few down.
    let numbers : List ℕ = c.args.numbers.now in
    let one = pages_on g.D.Device c.args.pages.now c.args.device.now in
    let has = subst (λ (n : List ℕ). HasPages n (levels_below levels)) (sym c.as_slice.ensures.value)
    (c.in_ok-children.ensures.below honest agrees levels few down) in
    let left = rest_left g.D.Device _ c.args.layout c.args.pages.now c.below.new.pages c.release_pages.new.pages
    c.clear_levels.new.pages c.args.device.now c.below.new.device numbers numbers c.as_slice.result.now levels
    (λ before after l. OnOk c.clear_levels.result (Moves before (pages_of l) after [])) c.below.ensures.unchanged
    c.below.ensures.only c.below.ensures.agrees c.release_pages.ensures.keeps refl
    c.in_ok-release_pages.ensures.released honest agrees few down has c.clear_levels.ensures.cleared in
    on_ok_weaker c.clear_levels.result
    (λ second. cleared_after c.args.layout one _ _ numbers levels down left.0 second) left.1

pub returns-clause-damaged : goal.returns-clause-damaged
returns-clause-damaged g t c = λ honest agrees is levels few down deep.
    let numbers : List ℕ = c.args.numbers.now in
    let has = subst (λ (n : List ℕ). HasPages n (levels_below levels)) (sym c.as_slice.ensures.value)
    (c.in_ok-children.ensures.below honest agrees levels few down) in
    let left = rest_left g.D.Device _ c.args.layout c.args.pages.now c.below.new.pages c.release_pages.new.pages
    c.clear_levels.new.pages c.args.device.now c.below.new.device numbers numbers c.as_slice.result.now levels
    (λ before after l. length l ≤ c.args.depth - 1 → ⊥) c.below.ensures.unchanged c.below.ensures.only
    c.below.ensures.agrees c.release_pages.ensures.keeps refl c.in_ok-release_pages.ensures.released honest agrees few
    down has (λ h a. c.clear_levels.ensures.damaged h a is) in
    let some : 0 < length numbers = search rules in
    let count = fewer_levels c.args.layout (pages_on g.D.Device c.args.pages.now c.args.device.now) numbers levels some
    down in
    left.1 (omega arith)

pub returns-in_err-children-clause-spent : goal.returns-in_err-children-clause-spent
returns-in_err-children-clause-spent g t c =
    passed c.from_residual.result c.in_err-children.field-0.0 c.from_residual.ensures.1
    (λ r. r ≡ Err Spent → is_spent c.args.pages.now ≡ true)
    (λ is. c.in_err-children.ensures.spent.0 (still_error is))

pub returns-in_err-release_pages-clause-spent : goal.returns-in_err-release_pages-clause-spent
returns-in_err-release_pages-clause-spent g t c = passed c.from_residual-in_err-release_pages.result
    c.in_err-release_pages.field-0.0 c.from_residual-in_err-release_pages.ensures.1
    (λ r. r ≡ Err Spent → is_spent c.args.pages.now ≡ true)
    (λ is. sym c.below.ensures.unchanged.committed.spent ∙ c.in_err-release_pages.ensures.spent (still_error is))

pub returns-clause-spent : goal.returns-clause-spent
returns-clause-spent g t c =
    λ is. sym (c.release_pages.ensures.keeps.committed.spent ∙ c.below.ensures.unchanged.committed.spent)
    ∙ c.clear_levels.ensures.spent is

pub returns-then-is_empty-clause-spent : goal.returns-then-is_empty-clause-spent
returns-then-is_empty-clause-spent g t c = λ is. never_ok is

pub returns-in_err-children-clause-told : goal.returns-in_err-children-clause-told
returns-in_err-children-clause-told g t c =
    λ was some deep. passed c.from_residual.result c.in_err-children.field-0.0 c.from_residual.ensures.1
    (λ r. r ≡ Err Spent)
    (still_error (c.in_err-children.ensures.spent.1 was))

pub returns-in_err-release_pages-clause-told : goal.returns-in_err-release_pages-clause-told
returns-in_err-release_pages-clause-told g t c =
    λ was some deep. never_ok (sym c.in_ok-children.was ∙ c.below.ensures.spent.1 was)

pub returns-clause-told : goal.returns-clause-told
returns-clause-told g t c = λ was some deep. never_ok (sym c.in_ok-children.was ∙ c.below.ensures.spent.1 was)

pub returns-in_err-children-clause-cause : goal.returns-in_err-children-clause-cause
returns-in_err-children-clause-cause g t c =
    passed c.from_residual.result c.in_err-children.field-0.0 c.from_residual.ensures.1
    (λ r. IfErr r IsChangeRefusal)
    (c.in_err-children.ensures.cause)

pub returns-in_err-release_pages-clause-cause : goal.returns-in_err-release_pages-clause-cause
returns-in_err-release_pages-clause-cause g t c = passed c.from_residual-in_err-release_pages.result
    c.in_err-release_pages.field-0.0 c.from_residual-in_err-release_pages.ensures.1
    (λ r. IfErr r IsChangeRefusal)
    (rest_is_change c.in_err-release_pages.field-0.0 c.in_err-release_pages.ensures.cause)

pub returns-then-is_empty-clause-edits : goal.returns-then-is_empty-clause-edits
returns-then-is_empty-clause-edits g t c = edits_where g.D.Device _ _ _ _ _ _ (λ is. never_ok is)
    (edits_none g.D.Device c.args.pages.now c.args.device.now)

pub returns-then-depth-eq0-clause-edits : goal.returns-then-depth-eq0-clause-edits
returns-then-depth-eq0-clause-edits g t c = edits_where g.D.Device _ _ _ _ _ _ (λ is. damaged_not_device is)
    (edits_none g.D.Device c.args.pages.now c.args.device.now)

pub returns-in_err-children-clause-edits : goal.returns-in_err-children-clause-edits
returns-in_err-children-clause-edits g t c =
    let read = c.in_err-children.ensures in
    passed c.from_residual.result c.in_err-children.field-0.0 c.from_residual.ensures.1
    (λ r. EditsPages g.D.Device (r ≡ Err Device) c.args.pages.now c.args.device.now c.below.new.pages
    c.below.new.device)
    (edits_where g.D.Device _ _ _ _ _ _ (λ is. still_error is)
    (edits_read g.D.Device _ _ _ _ _ read.only read.unchanged read.agrees))

pub returns-in_err-release_pages-clause-edits : goal.returns-in_err-release_pages-clause-edits
returns-in_err-release_pages-clause-edits g t c =
    let read = c.below.ensures in
    passed c.from_residual-in_err-release_pages.result c.in_err-release_pages.field-0.0
    c.from_residual-in_err-release_pages.ensures.1
    (λ r. EditsPages g.D.Device (r ≡ Err Device) c.args.pages.now c.args.device.now c.release_pages.new.pages
    c.below.new.device)
    (edits_kept g.D.Device _ _ _ _ _ _ _
    (λ is. rest_not_device c.in_err-release_pages.field-0.0 c.in_err-release_pages.ensures.cause is)
    (edits_read g.D.Device _ _ _ _ _ read.only read.unchanged read.agrees) c.release_pages.ensures.keeps)

pub returns-clause-edits : goal.returns-clause-edits
returns-clause-edits g t c =
    let read = c.below.ensures in
    edits_last g.D.Device _ _ _ _ _ _ _ _ _ (λ is. is)
    (edits_kept g.D.Device _ ⊥ _ _ _ _ _ (λ never. absurd never)
    (edits_read g.D.Device _ _ _ _ _ read.only read.unchanged read.agrees) c.release_pages.ensures.keeps)
    c.clear_levels.ensures.edits

pub returns-in_err-children-clause-cleared : goal.returns-in_err-children-clause-cleared
returns-in_err-children-clause-cleared g t c = λ honest agrees levels few down.
    on_refused c.from_residual.result c.in_err-children.field-0.0 c.from_residual.ensures.1
    (Moves (pages_on g.D.Device c.args.pages.now c.args.device.now) (pages_of levels)
    (pages_on g.D.Device c.below.new.pages c.args.device.now) [])

pub returns-in_err-release_pages-clause-cleared : goal.returns-in_err-release_pages-clause-cleared
returns-in_err-release_pages-clause-cleared g t c = λ honest agrees levels few down.
    on_refused c.from_residual-in_err-release_pages.result c.in_err-release_pages.field-0.0
    c.from_residual-in_err-release_pages.ensures.1
    (Moves (pages_on g.D.Device c.args.pages.now c.args.device.now) (pages_of levels)
    (pages_on g.D.Device c.release_pages.new.pages c.args.device.now) [])

pub returns-then-is_empty-clause-damaged : goal.returns-then-is_empty-clause-damaged
returns-then-is_empty-clause-damaged g t c = λ honest agrees is. never_ok is

pub returns-then-depth-eq0-clause-cleared : goal.returns-then-depth-eq0-clause-cleared
returns-then-depth-eq0-clause-cleared g t c = λ honest agrees levels few down. tt

pub returns-then-depth-eq0-clause-spent : goal.returns-then-depth-eq0-clause-spent
returns-then-depth-eq0-clause-spent g t c = λ is. damaged_not_spent is

pub returns-clause-cause : goal.returns-clause-cause
returns-clause-cause g t c = c.clear_levels.ensures.cause

pub returns-in_err-children-clause-damaged : goal.returns-in_err-children-clause-damaged
returns-in_err-children-clause-damaged g t c = λ honest agrees is levels few down deep.
    c.below.ensures.damaged honest agrees (was_error c.from_residual.result c.below.result c.in_err-children.field-0.0
    Damaged c.from_residual.ensures.1 c.in_err-children.was is) levels down
