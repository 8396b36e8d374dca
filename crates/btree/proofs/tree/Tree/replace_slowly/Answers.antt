use Rattle.std.proofs.Common.{◌≡◌, List, ℕ, sym, subst, ◌∙◌}
use Rattle.std.specs.Prelude.{IfErr, Err}
use Rattle.std.proofs.Common.{◌≢◌, ◌↔◌, ◌≤◌, ◌+◌, true, length}
use Rattle.pages.specs.Pages.{is_spent, changed_pages_of, filled_of}
use Rattle.pages.specs.declared.error.PagesError.TheVariants.{Device, Spent}
use Rattle.btree.specs.Refusals.{IsChangeRefusal}
use Rattle.btree.proofs.Passing.{passed, never_ok, refused_never, still_error}
use Rattle.btree.proofs.Passing.{rest_is_change, search_is_change, rest_not_device}
use Rattle.btree.proofs.Passing.{few_equal, few_same, false_not_true, search_is_change}
use Rattle.btree.proofs.Frames.{unchanged_still}
use Rattle.btree.proofs.ReplaceCalls.{never_unput, none_by, replaced_by}
use Rattle.btree.specs.Calls.{EditsPages}
use Rattle.btree.proofs.EditedPages.{edits_kept, edits_none, edits_read, edits_where}
use Rattle.std.proofs.Common.{refl}
use Rattle.btree.proofs.tree.Tree.replace_slowly.Goals as goal

pub returns-in-Err-clause-missing : goal.returns-in-Err-clause-missing
returns-in-Err-clause-missing g c = λ honest agrees levels holds is.
    let d = c.in_ok-way.field-0 in
    none_by g.D.Device c.args.self.now c.layout-layout.result c.root-top.result c.args.key.now c.args.pages.now
    c.args.device.now d.way.path.items d.way.page d.leaf d.way.right c.in-Err.field-0
    (record { layout_is = c.layout-layout.ensures.is; top_is = c.root-top.ensures; some = c.if-top-eq0.false })
    c.in_ok-way.ensures.way c.in_ok-way.ensures.leaf.0 c.in-Err.ensures.missing c.in-Err.ensures.around honest
    agrees levels holds

pub returns-in_err-put_rest-clause-damaged : goal.returns-in_err-put_rest-clause-damaged
returns-in_err-put_rest-clause-damaged g c = λ honest agrees is.
    let d = c.in_ok-way.field-0 in
    let told = rw is at c.from_residual-in_err-put_rest.ensures.1 in
    never_unput g.D.Device c.args.self.now c.layout-layout.result c.root-top.result c.args.key.now c.args.pages.now
    c.descend.new.pages c.args.device.now d.way.path.items d.way.page d.leaf.rows d.way.right _
    (record { layout_is = c.layout-layout.ensures.is; top_is = c.root-top.ensures; some = c.if-top-eq0.false })
    c.descend.ensures.unchanged c.in_ok-way.ensures.way c.in_err-put_rest.ensures.damaged (cc told) honest agrees

pub returns-clause-replaced : goal.returns-clause-replaced
returns-clause-replaced g c = λ honest agrees levels holds is.
    let d = c.in_ok-way.field-0 in
    replaced_by g.D.Device c.args.self.now c.layout-layout.result c.root-top.result c.args.key.now c.args.pages.now
    c.descend.new.pages c.put_rest.new.pages c.args.device.now c.args.value.now d.way.path.items d.way.page d.leaf
    d.way.right
    c.in-Ok.place
    (record { layout_is = c.layout-layout.ensures.is; top_is = c.root-top.ensures; some = c.if-top-eq0.false })
    c.descend.ensures.unchanged c.in_ok-way.ensures.way c.in_ok-way.ensures.leaf c.in-Ok.ensures.found
    c.in-Ok.ensures.around c.in_ok-put_rest.ensures.pages honest agrees levels holds

pub returns-in_err-put_rest-clause-changed_pages : goal.returns-in_err-put_rest-clause-changed_pages
returns-in_err-put_rest-clause-changed_pages g c =
    subst (λ (l : List ℕ). length (changed_pages_of c.put_rest.new.pages) ≤ length l + 1)
    c.descend.ensures.unchanged.changed_pages c.put_rest.ensures.changed_pages

pub returns-in_err-put_rest-clause-filled : goal.returns-in_err-put_rest-clause-filled
returns-in_err-put_rest-clause-filled g c =
    subst (λ (n : ℕ). filled_of c.put_rest.new.pages ≤ n + 1) c.descend.ensures.unchanged.filled
    c.put_rest.ensures.filled

pub returns-clause-changed_pages : goal.returns-clause-changed_pages
returns-clause-changed_pages g c = subst (λ (l : List ℕ). length (changed_pages_of c.put_rest.new.pages) ≤ length l + 1)
    c.descend.ensures.unchanged.changed_pages c.put_rest.ensures.changed_pages

pub returns-clause-filled : goal.returns-clause-filled
returns-clause-filled g c = subst (λ (n : ℕ). filled_of c.put_rest.new.pages ≤ n + 1) c.descend.ensures.unchanged.filled
    c.put_rest.ensures.filled

pub returns-in_err-way-clause-changed_pages : goal.returns-in_err-way-clause-changed_pages
returns-in_err-way-clause-changed_pages g c = few_equal (changed_pages_of c.args.pages.now)
    (changed_pages_of c.descend.new.pages) 1 c.descend.ensures.unchanged.changed_pages

pub returns-in_err-way-clause-filled : goal.returns-in_err-way-clause-filled
returns-in_err-way-clause-filled g c =
    few_same (filled_of c.args.pages.now) (filled_of c.descend.new.pages) 1 c.descend.ensures.unchanged.filled

pub returns-in-Err-clause-changed_pages : goal.returns-in-Err-clause-changed_pages
returns-in-Err-clause-changed_pages g c = few_equal (changed_pages_of c.args.pages.now)
    (changed_pages_of c.descend.new.pages) 1 c.descend.ensures.unchanged.changed_pages

pub returns-in-Err-clause-filled : goal.returns-in-Err-clause-filled
returns-in-Err-clause-filled g c =
    few_same (filled_of c.args.pages.now) (filled_of c.descend.new.pages) 1 c.descend.ensures.unchanged.filled

pub returns-then-top-eq0-clause-spent : goal.returns-then-top-eq0-clause-spent
returns-then-top-eq0-clause-spent g c =
    (λ is. never_ok is, λ both. absurd (both.1 (sym c.root-top.ensures ∙ c.if-top-eq0.true)))

pub returns-in_err-way-clause-spent : goal.returns-in_err-way-clause-spent
returns-in_err-way-clause-spent g c =
    passed c.from_residual.result c.in_err-way.field-0.0 c.from_residual.ensures.1
    (λ r. (r ≡ Err Spent) ↔ ((is_spent c.args.pages.now ≡ true) × (c.args.self.now.root ≢ 0))) (
      λ is. (c.in_err-way.ensures.spent.0 (still_error is), λ none. c.if-top-eq0.false (c.root-top.ensures ∙ none)),
      λ both. still_error (c.in_err-way.ensures.spent.1 both.0),
    )

pub returns-in-Err-clause-spent : goal.returns-in-Err-clause-spent
returns-in-Err-clause-spent g c =
    (λ is. never_ok is, λ both. never_ok (sym c.in_ok-way.was ∙ c.descend.ensures.spent.1 both.0))

pub returns-clause-spent : goal.returns-clause-spent
returns-clause-spent g c =
    (λ is. never_ok is, λ both. never_ok (sym c.in_ok-way.was ∙ c.descend.ensures.spent.1 both.0))

pub returns-in_err-put_rest-clause-spent : goal.returns-in_err-put_rest-clause-spent
returns-in_err-put_rest-clause-spent g c =
    passed c.from_residual-in_err-put_rest.result c.in_err-put_rest.field-0.0 c.from_residual-in_err-put_rest.ensures.1
    (λ r. (r ≡ Err Spent) ↔ ((is_spent c.args.pages.now ≡ true) × (c.args.self.now.root ≢ 0))) (
      λ is. (
        sym c.descend.ensures.unchanged.committed.spent ∙ c.in_err-put_rest.ensures.spent (still_error is),
        λ none. c.if-top-eq0.false (c.root-top.ensures ∙ none),
      ),
      λ both. never_ok (sym c.in_ok-way.was ∙ c.descend.ensures.spent.1 both.0),
    )

pub returns-in_err-way-clause-cause : goal.returns-in_err-way-clause-cause
returns-in_err-way-clause-cause g c =
    passed c.from_residual.result c.in_err-way.field-0.0 c.from_residual.ensures.1
    (λ r. IfErr r IsChangeRefusal)
    (search_is_change c.layout-layout.result c.in_err-way.field-0.0 c.in_err-way.ensures.cause)

pub returns-in_err-put_rest-clause-cause : goal.returns-in_err-put_rest-clause-cause
returns-in_err-put_rest-clause-cause g c =
    passed c.from_residual-in_err-put_rest.result c.in_err-put_rest.field-0.0 c.from_residual-in_err-put_rest.ensures.1
    (λ r. IfErr r IsChangeRefusal)
    (rest_is_change c.in_err-put_rest.field-0.0 c.in_err-put_rest.ensures.cause)

pub returns-then-top-eq0-clause-damaged : goal.returns-then-top-eq0-clause-damaged
returns-then-top-eq0-clause-damaged g c = λ honest agrees is. never_ok is

pub returns-then-top-eq0-clause-replaced : goal.returns-then-top-eq0-clause-replaced
returns-then-top-eq0-clause-replaced g c = λ honest agrees levels holds is. false_not_true is

pub returns-in-Err-clause-damaged : goal.returns-in-Err-clause-damaged
returns-in-Err-clause-damaged g c = λ honest agrees is. never_ok is

pub returns-in-Err-clause-replaced : goal.returns-in-Err-clause-replaced
returns-in-Err-clause-replaced g c = λ honest agrees levels holds is. false_not_true is

pub returns-clause-damaged : goal.returns-clause-damaged
returns-clause-damaged g c = λ honest agrees is. never_ok is

pub returns-then-top-eq0-clause-same : goal.returns-then-top-eq0-clause-same
returns-then-top-eq0-clause-same g c = λ is. unchanged_still c.args.pages.now

pub returns-clause-missing : goal.returns-clause-missing
returns-clause-missing g c = λ honest agrees levels holds is. false_not_true (sym is)

pub returns-clause-same : goal.returns-clause-same
returns-clause-same g c = λ is. false_not_true (sym is)

pub returns-in_err-way-clause-replaced : goal.returns-in_err-way-clause-replaced
returns-in_err-way-clause-replaced g c =
    λ honest agrees levels holds is. refused_never _ _ _ c.from_residual.ensures.1 is

pub returns-in_err-way-clause-missing : goal.returns-in_err-way-clause-missing
returns-in_err-way-clause-missing g c =
    λ honest agrees levels holds is. refused_never _ _ _ c.from_residual.ensures.1 is

pub returns-in_err-way-clause-same : goal.returns-in_err-way-clause-same
returns-in_err-way-clause-same g c = λ is. refused_never _ _ _ c.from_residual.ensures.1 is

pub returns-in_err-put_rest-clause-replaced : goal.returns-in_err-put_rest-clause-replaced
returns-in_err-put_rest-clause-replaced g c =
    λ honest agrees levels holds is. refused_never _ _ _ c.from_residual-in_err-put_rest.ensures.1 is

pub returns-in_err-put_rest-clause-missing : goal.returns-in_err-put_rest-clause-missing
returns-in_err-put_rest-clause-missing g c =
    λ honest agrees levels holds is. refused_never _ _ _ c.from_residual-in_err-put_rest.ensures.1 is

pub returns-in_err-put_rest-clause-same : goal.returns-in_err-put_rest-clause-same
returns-in_err-put_rest-clause-same g c = λ is. refused_never _ _ _ c.from_residual-in_err-put_rest.ensures.1 is

pub returns-then-top-eq0-clause-edits : goal.returns-then-top-eq0-clause-edits
returns-then-top-eq0-clause-edits g c =
    edits_where g.D.Device _ _ _ _ _ _ (λ is. never_ok is)
    (edits_none g.D.Device c.args.pages.now c.args.device.now)

pub returns-in_err-way-clause-edits : goal.returns-in_err-way-clause-edits
returns-in_err-way-clause-edits g c =
    let way = c.in_err-way.ensures in
    passed c.from_residual.result c.in_err-way.field-0.0 c.from_residual.ensures.1
    (λ r. EditsPages g.D.Device (r ≡ Err Device) c.args.pages.now c.args.device.now c.descend.new.pages
    c.descend.new.device)
    (edits_where g.D.Device _ _ _ _ _ _ (λ is. still_error is)
    (edits_read g.D.Device _ _ _ _ _ way.only way.unchanged way.agrees))

pub returns-in-Err-clause-edits : goal.returns-in-Err-clause-edits
returns-in-Err-clause-edits g c =
    let way = c.descend.ensures in
    edits_where g.D.Device _ _ _ _ _ _ (λ is. never_ok is)
    (edits_read g.D.Device _ _ _ _ _ way.only way.unchanged way.agrees)

pub returns-in_err-put_rest-clause-edits : goal.returns-in_err-put_rest-clause-edits
returns-in_err-put_rest-clause-edits g c =
    let way = c.descend.ensures in
    passed c.from_residual-in_err-put_rest.result c.in_err-put_rest.field-0.0 c.from_residual-in_err-put_rest.ensures.1
    (λ r. EditsPages g.D.Device (r ≡ Err Device) c.args.pages.now c.args.device.now c.put_rest.new.pages
    c.descend.new.device)
    (edits_kept g.D.Device _ _ _ _ _ _ _
    (λ is. rest_not_device c.in_err-put_rest.field-0.0 c.in_err-put_rest.ensures.cause is)
    (edits_read g.D.Device _ _ _ _ _ way.only way.unchanged way.agrees) c.put_rest.ensures.keeps)

pub returns-clause-edits : goal.returns-clause-edits
returns-clause-edits g c =
    let way = c.descend.ensures in
    edits_kept g.D.Device _ _ _ _ _ _ _ (λ is. never_ok is)
    (edits_read g.D.Device _ _ _ _ _ way.only way.unchanged way.agrees) c.put_rest.ensures.keeps

pub returns-then-top-eq0-clause-changed_pages : goal.returns-then-top-eq0-clause-changed_pages
returns-then-top-eq0-clause-changed_pages g c =
    few_equal (changed_pages_of c.args.pages.now) (changed_pages_of c.args.pages.now) 1 refl

pub returns-then-top-eq0-clause-filled : goal.returns-then-top-eq0-clause-filled
returns-then-top-eq0-clause-filled g c =
    few_same (filled_of c.args.pages.now) (filled_of c.args.pages.now) 1 refl

pub returns-in-Err-clause-same : goal.returns-in-Err-clause-same
returns-in-Err-clause-same g c = λ is. c.descend.ensures.unchanged
