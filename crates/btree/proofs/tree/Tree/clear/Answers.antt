use Rattle.std.proofs.Common.{◌≡◌, [], ◌∷◌, refl, sym, ap, ◌∙◌, arith}
use Rattle.pages.specs.Pages.{is_spent}
use Rattle.pages.specs.declared.error.PagesError.TheVariants.{Damaged, Spent}
use Rattle.btree.specs.Calls.{pages_on}
use Rattle.btree.proofs.ClearedLevels.{root_down}
use Rattle.btree.proofs.Depth.{few_levels}
use Rattle.btree.proofs.NamedTrees.{named_tree}
use Rattle.btree.proofs.SmallMaps.{small_map}
use Rattle.std.specs.Prelude.{IfErr, Err}
use Rattle.std.proofs.Common.{◌≢◌, true}
use Rattle.pages.specs.declared.error.PagesError.TheVariants.{Device}
use Rattle.btree.specs.Refusals.{IsChangeRefusal}
use Rattle.btree.proofs.Passing.{passed, never_ok, still_error, damaged_not_spent}
use Rattle.btree.specs.Calls.{EditsPages}
use Rattle.btree.proofs.EditedPages.{edits_none, edits_where}
use Rattle.btree.proofs.tree.Tree.clear.Goals as goal

pub returns-in_err-clear_levels-clause-damaged : goal.returns-in_err-clear_levels-clause-damaged
returns-in_err-clear_levels-clause-damaged g c = λ honest agrees is levels holds.
    let image = (g.D.Device.state c.args.device.now).disk.present in
    let pages = pages_on g.D.Device c.args.pages.now c.args.device.now in
    let tree = named_tree _ _ _ _ pages levels c.layout-layout.ensures.is c.root-top.ensures c.if-top-eq0.false holds in
    let down = root_down _ pages _ levels _ (c.root-top.result ∷ []) refl refl tree in
    let told = rw is at c.from_residual.ensures.1 in
    let fault : c.in_err-clear_levels.field-0.0 ≡ Damaged = cc told in
    let few = small_map c.args.pages.now image c.page_count-page_count.result (c.page_count-page_count.ensures.pages
    image) c.page_count-page_count.ensures.count c.page_count-page_count.ensures.few (λ spent.
    damaged_not_spent (ap Err (sym fault) ∙ c.in_err-clear_levels.ensures.told spent down.0 (omega arith))) in
    let depth = few_levels _ pages _ levels few tree in
    c.in_err-clear_levels.ensures.damaged honest agrees (ap Err fault) levels few down.1 (omega arith)

pub returns-clause-cleared : goal.returns-clause-cleared
returns-clause-cleared g c = λ honest agrees levels holds.
    let image = (g.D.Device.state c.args.device.now).disk.present in
    let pages = pages_on g.D.Device c.args.pages.now c.args.device.now in
    let tree = named_tree _ _ _ _ pages levels c.layout-layout.ensures.is c.root-top.ensures c.if-top-eq0.false holds in
    let down = root_down _ pages _ levels _ (c.root-top.result ∷ []) refl refl tree in
    let few = small_map c.args.pages.now image c.page_count-page_count.result (c.page_count-page_count.ensures.pages
    image) c.page_count-page_count.ensures.count c.page_count-page_count.ensures.few (λ spent.
    never_ok (sym c.in_ok-clear_levels.was ∙ c.clear_levels.ensures.told spent down.0 (omega arith))) in
    c.in_ok-clear_levels.ensures.cleared honest agrees levels few down.1

pub returns-in_err-clear_levels-clause-cause : goal.returns-in_err-clear_levels-clause-cause
returns-in_err-clear_levels-clause-cause g c = passed c.from_residual.result
    c.in_err-clear_levels.field-0.0 c.from_residual.ensures.1
    (λ r. IfErr r IsChangeRefusal)
    (c.in_err-clear_levels.ensures.cause)

pub returns-in_err-clear_levels-clause-spent : goal.returns-in_err-clear_levels-clause-spent
returns-in_err-clear_levels-clause-spent g c = passed c.from_residual.result
    c.in_err-clear_levels.field-0.0 c.from_residual.ensures.1
    (λ r. r ≡ Err Spent → (is_spent c.args.pages.now ≡ true) × (c.args.self.now.root ≢ 0))
    (λ is. (
      c.in_err-clear_levels.ensures.spent (still_error is),
      λ none. c.if-top-eq0.false (c.root-top.ensures ∙ none),
    ))

pub returns-then-top-eq0-clause-spent : goal.returns-then-top-eq0-clause-spent
returns-then-top-eq0-clause-spent g c = λ is. never_ok is

pub returns-clause-spent : goal.returns-clause-spent
returns-clause-spent g c = λ is. never_ok is

pub returns-then-top-eq0-clause-damaged : goal.returns-then-top-eq0-clause-damaged
returns-then-top-eq0-clause-damaged g c = λ honest agrees is. never_ok is

pub returns-clause-damaged : goal.returns-clause-damaged
returns-clause-damaged g c = λ honest agrees is. never_ok is

pub returns-then-top-eq0-clause-edits : goal.returns-then-top-eq0-clause-edits
returns-then-top-eq0-clause-edits g c =
    edits_where g.D.Device _ _ _ _ _ _ (λ is. never_ok is)
    (edits_none g.D.Device c.args.pages.now c.args.device.now)

pub returns-in_err-clear_levels-clause-edits : goal.returns-in_err-clear_levels-clause-edits
returns-in_err-clear_levels-clause-edits g c =
    let gone = c.in_err-clear_levels.ensures in
    passed c.from_residual.result c.in_err-clear_levels.field-0.0
    c.from_residual.ensures.1
    (λ r. EditsPages g.D.Device (r ≡ Err Device) c.args.pages.now c.args.device.now c.clear_levels.new.pages
    c.clear_levels.new.device)
    (edits_where g.D.Device _ _ _ _ _ _ (λ is. still_error is)
    gone.edits)

pub returns-clause-edits : goal.returns-clause-edits
returns-clause-edits g c =
    let gone = c.clear_levels.ensures in
    edits_where g.D.Device _ _ _ _ _ _ (λ is. never_ok is)
    gone.edits
