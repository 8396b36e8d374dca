use Rattle.std.proofs.Common.{false, ℕ, sym, subst}
use Rattle.std.specs.Prelude.{Option, Some}
use Rattle.btree_pages.specs.declared.row_layout.RowLayout.{RowLayout}
use Rattle.btree.specs.Tree.{IsTreeOrEmpty}
use Rattle.btree.specs.Changes.{pages_of_map}
use Rattle.btree.specs.Removals.{Removes}
use Rattle.std.specs.Prelude.{IfErr, Err}
use Rattle.std.proofs.Common.{◌≡◌, ◌≢◌, ◌↔◌, true, ◌∙◌}
use Rattle.pages.specs.Pages.{is_spent}
use Rattle.pages.specs.declared.error.PagesError.TheVariants.{Device, Spent}
use Rattle.btree.specs.Refusals.{IsChangeRefusal}
use Rattle.btree.proofs.Passing.{passed, never_ok, refused_never, still_error}
use Rattle.btree.proofs.Passing.{false_not_true}
use Rattle.btree.specs.Calls.{EditsPages}
use Rattle.btree.specs.TreeEdits.{OkOnlyIfEditsFew}
use Rattle.btree.proofs.EditedPages.{edits_where, few_named_ok}
use Rattle.btree.proofs.tree.Tree.remove.Goals as goal

pub returns-in_err-removed-clause-damaged : goal.returns-in_err-removed-clause-damaged
returns-in_err-removed-clause-damaged g c = λ honest agrees is levels holds.
    let before = pages_of_map c.args.pages.now (g.D.Device.state c.args.device.now).disk.present in
    let told = rw is at c.from_residual.ensures.1 in
    c.in_err-removed.ensures.damaged honest agrees (cc told) levels
    (subst (λ (f : RowLayout). IsTreeOrEmpty f before c.root-top.result levels) (sym c.layout-layout.ensures.is)
    (subst (λ (r : ℕ). IsTreeOrEmpty c.args.self.now.layout before r levels) (sym c.root-top.ensures) holds))

pub returns-in-Some-clause-removed : goal.returns-in-Some-clause-removed
returns-in-Some-clause-removed g c = λ honest agrees levels holds is.
    let image = (g.D.Device.state c.args.device.now).disk.present in
    let before = pages_of_map c.args.pages.now image in
    let after = pages_of_map c.remove_entry.new.pages image in
    let key = c.args.key.now in
    let raw = c.in_ok-removed.ensures.removed honest agrees levels
    (subst (λ (f : RowLayout). IsTreeOrEmpty f before c.root-top.result levels) (sym c.layout-layout.ensures.is)
    (subst (λ (r : ℕ). IsTreeOrEmpty c.args.self.now.layout before r levels) (sym c.root-top.ensures) holds)) in
    let removed =
    subst (λ (new : Option ℕ). Removes c.layout-layout.result before levels after key new) c.in-Some.is raw in
    subst (λ (r : ℕ). Removes c.args.self.now.layout before levels after key (Some r)) (sym c.set_root.ensures.root)
    (subst (λ (f : RowLayout). Removes f before levels after key (Some c.in-Some.root)) c.layout-layout.ensures.is
    removed)

pub returns-in-Some-clause-spent : goal.returns-in-Some-clause-spent
returns-in-Some-clause-spent g c = (
  λ is. never_ok is,
  λ both. never_ok (sym c.in_ok-removed.was
      ∙ c.remove_entry.ensures.spent.1 (both.0, λ none. both.1 (sym c.root-top.ensures ∙ none))),
)

pub returns-in-Some-clause-damaged : goal.returns-in-Some-clause-damaged
returns-in-Some-clause-damaged g c = λ honest agrees is. never_ok is

pub returns-in-None-clause-spent : goal.returns-in-None-clause-spent
returns-in-None-clause-spent g c = (
  λ is. never_ok is,
  λ both. never_ok (sym c.in_ok-removed.was
      ∙ c.remove_entry.ensures.spent.1 (both.0, λ none. both.1 (sym c.root-top.ensures ∙ none))),
)

pub returns-in-None-clause-damaged : goal.returns-in-None-clause-damaged
returns-in-None-clause-damaged g c = λ honest agrees is. never_ok is

pub returns-in_err-removed-clause-spent : goal.returns-in_err-removed-clause-spent
returns-in_err-removed-clause-spent g c =
    passed c.from_residual.result c.in_err-removed.field-0.0 c.from_residual.ensures.1
    (λ r. (r ≡ Err Spent) ↔ ((is_spent c.args.pages.now ≡ true) × (c.args.self.now.root ≢ 0))) (
      λ is. (
        (c.in_err-removed.ensures.spent.0 (still_error is)).0,
        λ none. (c.in_err-removed.ensures.spent.0 (still_error is)).1 (c.root-top.ensures ∙ none),
      ),
      λ both. still_error (c.in_err-removed.ensures.spent.1 (both.0, λ none. both.1 (sym c.root-top.ensures ∙ none))),
    )

pub returns-in_err-removed-clause-cause : goal.returns-in_err-removed-clause-cause
returns-in_err-removed-clause-cause g c =
    passed c.from_residual.result c.in_err-removed.field-0.0 c.from_residual.ensures.1
    (λ r. IfErr r IsChangeRefusal)
    (c.in_err-removed.ensures.cause)

pub returns-in_err-removed-clause-removed : goal.returns-in_err-removed-clause-removed
returns-in_err-removed-clause-removed g c =
    λ honest agrees levels holds is. refused_never _ _ _ c.from_residual.ensures.1 is

pub returns-in_err-removed-clause-missing : goal.returns-in_err-removed-clause-missing
returns-in_err-removed-clause-missing g c =
    λ honest agrees levels holds is. refused_never _ _ _ c.from_residual.ensures.1 is

pub returns-in_err-removed-clause-same : goal.returns-in_err-removed-clause-same
returns-in_err-removed-clause-same g c = λ is. refused_never _ _ _ c.from_residual.ensures.1 is

pub returns-in-None-clause-removed : goal.returns-in-None-clause-removed
returns-in-None-clause-removed g c = λ honest agrees levels holds is. false_not_true is

pub returns-in-Some-clause-missing : goal.returns-in-Some-clause-missing
returns-in-Some-clause-missing g c = λ honest agrees levels holds is. false_not_true (sym is)

pub returns-in-Some-clause-same : goal.returns-in-Some-clause-same
returns-in-Some-clause-same g c = λ is. false_not_true (sym is)

pub returns-in_err-removed-clause-edits : goal.returns-in_err-removed-clause-edits
returns-in_err-removed-clause-edits g c =
    let cut = c.in_err-removed.ensures in
    passed c.from_residual.result c.in_err-removed.field-0.0 c.from_residual.ensures.1
    (λ r. EditsPages g.D.Device (r ≡ Err Device) c.args.pages.now c.args.device.now c.remove_entry.new.pages
    c.remove_entry.new.device)
    (edits_where g.D.Device _ _ _ _ _ _ (λ is. still_error is)
    cut.edits)

pub returns-in-Some-clause-edits : goal.returns-in-Some-clause-edits
returns-in-Some-clause-edits g c =
    let cut = c.remove_entry.ensures in
    edits_where g.D.Device _ _ _ _ _ _ (λ is. never_ok is)
    cut.edits

pub returns-in-None-clause-edits : goal.returns-in-None-clause-edits
returns-in-None-clause-edits g c =
    let cut = c.remove_entry.ensures in
    edits_where g.D.Device _ _ _ _ _ _ (λ is. never_ok is)
    cut.edits

pub returns-in_err-removed-clause-few : goal.returns-in_err-removed-clause-few
returns-in_err-removed-clause-few g c =
    passed c.from_residual.result c.in_err-removed.field-0.0 c.from_residual.ensures.1
    (λ r. OkOnlyIfEditsFew g.D.Device 42 c.args.self.now c.args.pages.now c.args.device.now c.remove_entry.new.pages r)
    (record { changed_pages = λ honest agrees levels holds. tt; filled = λ honest agrees levels holds. tt })

pub returns-in-Some-clause-few : goal.returns-in-Some-clause-few
returns-in-Some-clause-few g c =
    few_named_ok g.D.Device 42 c.args.self.now c.layout-layout.result c.root-top.result c.args.pages.now
    c.remove_entry.new.pages c.args.device.now true c.layout-layout.ensures.is c.root-top.ensures
    c.in_ok-removed.ensures.changed_pages c.in_ok-removed.ensures.filled

pub returns-in-None-clause-few : goal.returns-in-None-clause-few
returns-in-None-clause-few g c =
    few_named_ok g.D.Device 42 c.args.self.now c.layout-layout.result c.root-top.result c.args.pages.now
    c.remove_entry.new.pages c.args.device.now false c.layout-layout.ensures.is c.root-top.ensures
    c.in_ok-removed.ensures.changed_pages c.in_ok-removed.ensures.filled
