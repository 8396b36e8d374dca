use Rattle.std.proofs.Common.{◌≡◌, ℕ, false, Err, sym, subst}
use Rattle.std.specs.Prelude.{Option, Some}
use Rattle.pages.specs.Pages.{is_spent}
use Rattle.pages.specs.declared.error.PagesError.TheVariants.{Full, Spent}
use Rattle.btree_pages.specs.declared.row_layout.RowLayout.{RowLayout}
use Rattle.btree.specs.Changes.{pages_of_map, Inserts}
use Rattle.btree.proofs.Frames.{false_unless}
use Rattle.btree.proofs.NamedTrees.{same_holds}
use Rattle.std.specs.Prelude.{IfErr}
use Rattle.std.proofs.Common.{◌↔◌, true, ◌∙◌}
use Rattle.pages.specs.declared.error.PagesError.TheVariants.{Device}
use Rattle.btree.specs.Refusals.{IsInsertRefusal}
use Rattle.btree.proofs.Passing.{passed, never_ok, refused_never, still_error}
use Rattle.btree.proofs.Passing.{false_not_true}
use Rattle.btree.specs.Calls.{EditsPages}
use Rattle.btree.proofs.EditedPages.{edits_where, takes_few, takes_few_ok}
use Rattle.btree.proofs.tree.Tree.insert.Goals as goal

pub returns-in_err-added-clause-damaged : goal.returns-in_err-added-clause-damaged
returns-in_err-added-clause-damaged g c = λ honest agrees is levels holds.
    let before = pages_of_map c.args.pages.now (g.D.Device.state c.args.device.now).disk.present in
    let told = rw is at c.from_residual.ensures.1 in
    c.in_err-added.ensures.damaged honest agrees (cc told) levels
    (same_holds _ _ _ _ before levels c.layout-layout.ensures.is c.root-top.ensures holds)

pub returns-in-Some-clause-inserted : goal.returns-in-Some-clause-inserted
returns-in-Some-clause-inserted g c = λ honest agrees levels holds is.
    let image = (g.D.Device.state c.args.device.now).disk.present in
    let before = pages_of_map c.args.pages.now image in
    let after = pages_of_map c.insert_entry.new.pages image in
    let key = c.args.key.now in
    let value = c.args.value.now in
    let raw = c.in_ok-added.ensures.inserted honest agrees levels
    (same_holds _ _ _ _ before levels c.layout-layout.ensures.is c.root-top.ensures holds) in
    let added =
    subst (λ (new : Option ℕ). Inserts c.layout-layout.result before levels after key value new) c.in-Some.is raw in
    subst (λ (r : ℕ). Inserts c.args.self.now.layout before levels after key value (Some r))
    (sym c.set_root.ensures.root)
    (subst (λ (f : RowLayout). Inserts f before levels after key value (Some c.in-Some.root)) c.layout-layout.ensures.is
    added)

pub returns-in-Some-clause-spent : goal.returns-in-Some-clause-spent
returns-in-Some-clause-spent g c =
    (λ is. never_ok is, λ was. never_ok (sym c.in_ok-added.was ∙ c.insert_entry.ensures.spent.1 was))

pub returns-in-Some-clause-damaged : goal.returns-in-Some-clause-damaged
returns-in-Some-clause-damaged g c = λ honest agrees is. never_ok is

pub returns-in-None-clause-spent : goal.returns-in-None-clause-spent
returns-in-None-clause-spent g c =
    (λ is. never_ok is, λ was. never_ok (sym c.in_ok-added.was ∙ c.insert_entry.ensures.spent.1 was))

pub returns-in-None-clause-damaged : goal.returns-in-None-clause-damaged
returns-in-None-clause-damaged g c = λ honest agrees is. never_ok is

pub returns-in_err-added-clause-spent : goal.returns-in_err-added-clause-spent
returns-in_err-added-clause-spent g c = passed c.from_residual.result c.in_err-added.field-0.0 c.from_residual.ensures.1
    (λ r. (r ≡ Err Spent) ↔ (is_spent c.args.pages.now ≡ true))
    (λ is. c.in_err-added.ensures.spent.0 (still_error is), λ was. still_error (c.in_err-added.ensures.spent.1 was))

pub returns-in_err-added-clause-cause : goal.returns-in_err-added-clause-cause
returns-in_err-added-clause-cause g c = passed c.from_residual.result c.in_err-added.field-0.0 c.from_residual.ensures.1
    (λ r. IfErr r IsInsertRefusal)
    (c.in_err-added.ensures.cause)

pub returns-in_err-added-clause-inserted : goal.returns-in_err-added-clause-inserted
returns-in_err-added-clause-inserted g c =
    λ honest agrees levels holds is. refused_never _ _ _ c.from_residual.ensures.1 is

pub returns-in_err-added-clause-there : goal.returns-in_err-added-clause-there
returns-in_err-added-clause-there g c =
    λ honest agrees levels holds is. refused_never _ _ _ c.from_residual.ensures.1 is

pub returns-in_err-added-clause-same : goal.returns-in_err-added-clause-same
returns-in_err-added-clause-same g c = λ is. refused_never _ _ _ c.from_residual.ensures.1 is

pub returns-in-None-clause-inserted : goal.returns-in-None-clause-inserted
returns-in-None-clause-inserted g c = λ honest agrees levels holds is. false_not_true is

pub returns-in-Some-clause-there : goal.returns-in-Some-clause-there
returns-in-Some-clause-there g c = λ honest agrees levels holds is. false_not_true (sym is)

pub returns-in-Some-clause-same : goal.returns-in-Some-clause-same
returns-in-Some-clause-same g c = λ is. false_not_true (sym is)

pub returns-in_err-added-clause-edits : goal.returns-in_err-added-clause-edits
returns-in_err-added-clause-edits g c =
    let ins = c.in_err-added.ensures in
    passed c.from_residual.result c.in_err-added.field-0.0 c.from_residual.ensures.1
    (λ r. EditsPages g.D.Device (r ≡ Err Device) c.args.pages.now c.args.device.now c.insert_entry.new.pages
    c.insert_entry.new.device)
    (edits_where g.D.Device _ _ _ _ _ _ (λ is. still_error is)
    ins.edits)

pub returns-in-Some-clause-edits : goal.returns-in-Some-clause-edits
returns-in-Some-clause-edits g c =
    let ins = c.insert_entry.ensures in
    edits_where g.D.Device _ _ _ _ _ _ (λ is. never_ok is)
    ins.edits

pub returns-in-None-clause-edits : goal.returns-in-None-clause-edits
returns-in-None-clause-edits g c =
    let ins = c.insert_entry.ensures in
    edits_where g.D.Device _ _ _ _ _ _ (λ is. never_ok is)
    ins.edits

pub returns-in_err-added-clause-few : goal.returns-in_err-added-clause-few
returns-in_err-added-clause-few g c =
    let old = c.args.pages.now in
    takes_few g.D.Device 42 c.args.self.now c.layout-layout.result c.root-top.result old c.insert_entry.new.pages
    c.args.device.now c.from_residual.result c.layout-layout.ensures.is c.root-top.ensures
    c.insert_entry.ensures.changed_pages c.insert_entry.ensures.filled
    (λ is. let told = rw is at c.from_residual.ensures.1 in c.in_err-added.ensures.full (cc told))
    (λ is.
    let told = rw is at c.from_residual.ensures.1 in
    let full : c.insert_entry.result ≡ Err Full = cc told in
    false_unless (is_spent old)
    (λ was. let other : c.insert_entry.result ≡ Err Spent = c.insert_entry.ensures.spent.1 was in cc))
    c.few_free.ensures c.insert_entry.ensures.edits.committed

pub returns-in-Some-clause-few : goal.returns-in-Some-clause-few
returns-in-Some-clause-few g c =
    takes_few_ok g.D.Device 42 c.args.self.now c.layout-layout.result c.root-top.result c.args.pages.now
    c.insert_entry.new.pages c.args.device.now true c.layout-layout.ensures.is c.root-top.ensures
    c.insert_entry.ensures.changed_pages c.insert_entry.ensures.filled

pub returns-in-None-clause-few : goal.returns-in-None-clause-few
returns-in-None-clause-few g c =
    takes_few_ok g.D.Device 42 c.args.self.now c.layout-layout.result c.root-top.result c.args.pages.now
    c.insert_entry.new.pages c.args.device.now false c.layout-layout.ensures.is c.root-top.ensures
    c.insert_entry.ensures.changed_pages c.insert_entry.ensures.filled
