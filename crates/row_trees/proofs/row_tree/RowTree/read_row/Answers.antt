use Rattle.std.proofs.Common.{◌≡◌, Bool, inr, true, false, Err, length, refl, sym, ap, subst, ◌∙◌}
use Rattle.std.specs.Prelude.{Ok, OnErr}
use Rattle.pages.specs.Pages.{is_spent}
use Rattle.pages.specs.declared.error.PagesError.TheVariants.{Device, Spent}
use Rattle.btree.specs.Calls.{pages_on}
use Rattle.btree.specs.Places.{if_found}
use Rattle.btree.proofs.Passing.{passed, never_ok, never_err, true_not_false, still_error}
use Rattle.volume_format.proofs.Looks.{looks_blamed, looks_then, looks_past}
use Rattle.row_trees.specs.Reading.{IsRecordLength, ReadsRecord}
use Rattle.row_trees.specs.RowTree.{ChainedTree, IsRowTree}
use Rattle.row_trees.proofs.Among.{stands_alone}
use Rattle.row_trees.proofs.Calling.{looks_by, refused_by_call, told_before}
use Rattle.row_trees.proofs.FoundRows.{none_read, row_read, record_whole}
use Rattle.row_trees.proofs.row_tree.RowTree.read_row.Goals as goal

pub returns-in_err-find-clause-looks : goal.returns-in_err-find-clause-looks
returns-in_err-find-clause-looks g c =
    looks_blamed g.D.Device (c.find.result ≡ Err Device) _ _ _ _ _
    (λ is. refused_by_call c.in_err-find.was c.from_residual.ensures.1 is)
    (looks_by g.D.Device _ _ _ _ _ c.find.ensures.only c.find.ensures.unchanged c.find.ensures.agrees)

pub returns-in_err-find-clause-damaged : goal.returns-in_err-find-clause-damaged
returns-in_err-find-clause-damaged g c = λ honest agrees planted is size whole told.
    let pages = pages_on g.D.Device c.args.pages.now c.args.device.now in
    let view : ChainedTree = record { tree = c.self.inside.tree; record_bytes = c.self.inside.record_bytes } in
    c.find.ensures.damaged honest agrees (refused_by_call c.in_err-find.was c.from_residual.ensures.1 told)
    planted.levels (stands_alone pages view planted
    (subst (λ (t : ChainedTree). IsRowTree pages t planted) (sym c.self.view_is) is)).tree

pub returns-then-not-branch-clause-looks : goal.returns-then-not-branch-clause-looks
returns-then-not-branch-clause-looks g c =
    looks_blamed g.D.Device (c.find.result ≡ Err Device) _ _ _ _ _ (λ is. never_ok is)
    (looks_by g.D.Device _ _ _ _ _ c.find.ensures.only c.find.ensures.unchanged c.find.ensures.agrees)

pub returns-then-not-branch-clause-record : goal.returns-then-not-branch-clause-record
returns-then-not-branch-clause-record g c = λ honest agrees planted is size.
    let pages = pages_on g.D.Device c.args.pages.now c.args.device.now in
    let view : ChainedTree = record { tree = c.self.inside.tree; record_bytes = c.self.inside.record_bytes } in
    none_read pages view planted c.args.key.now c.args.into.now
    (if_found c.in_ok-find.field-0 c.find.new.entry)
    (subst (λ (t : ChainedTree). IsRowTree pages t planted) (sym c.self.view_is) is)
    (c.in_ok-find.ensures.entry honest agrees)
    (ap (λ (b : Bool). if_found b c.find.new.entry) c.if-not-branch.true)

pub returns-in_err-read_record-clause-looks : goal.returns-in_err-read_record-clause-looks
returns-in_err-read_record-clause-looks g c =
    looks_then g.D.Device _ _ _ _ _ _ _ _ _
    (λ is. inr (refused_by_call c.in_err-read_record.was c.from_residual-in_err-read_record.ensures.1 is))
    (looks_by g.D.Device _ _ _ _ _ c.find.ensures.only c.find.ensures.unchanged c.find.ensures.agrees)
    (looks_past g.D.Device _ _ _ _ c.read_record.ensures.only)

pub returns-in_err-read_record-clause-damaged : goal.returns-in_err-read_record-clause-damaged
returns-in_err-read_record-clause-damaged g c = λ honest agrees planted is size whole told.
    record_whole g.D.Device (length c.args.into.now)
    (looks_by g.D.Device _ _ _ _ _ c.find.ensures.only c.find.ensures.unchanged c.find.ensures.agrees) c.self.view_is
    c.in_ok-find.ensures.entry (ap (λ (b : Bool). if_found b c.find.new.entry) c.if-not-branch.false) c.self.invariant
    (c.in_ok-find.ensures.lengths (ap Ok c.if-not-branch.false)) c.read_record.ensures.damaged
    (refused_by_call c.in_err-read_record.was c.from_residual-in_err-read_record.ensures.1 told) honest agrees planted
    is size whole

pub returns-clause-looks : goal.returns-clause-looks
returns-clause-looks g c =
    looks_then g.D.Device _ _ _ _ _ _ _ _ _ (λ is. never_ok is)
    (looks_by g.D.Device _ _ _ _ _ c.find.ensures.only c.find.ensures.unchanged c.find.ensures.agrees)
    (looks_past g.D.Device _ _ _ _ c.read_record.ensures.only)

pub returns-clause-record : goal.returns-clause-record
returns-clause-record g c = λ honest agrees planted is size.
    let pages = pages_on g.D.Device c.args.pages.now c.args.device.now in
    let view : ChainedTree = record { tree = c.self.inside.tree; record_bytes = c.self.inside.record_bytes } in
    let read = told_before g.D.Device _ c.args.pages.now c.find.new.pages c.args.device.now c.find.new.device
    (λ p. IsRecordLength c.args.self.now.record_bytes (length c.args.into.now)
    → ReadsRecord c.args.self.now.record_bytes p c.find.new.entry c.args.into.now c.read_record.new.into) honest agrees
    c.find.ensures.only c.find.ensures.unchanged c.find.ensures.agrees c.in_ok-read_record.ensures.record size in
    row_read pages view planted c.args.key.now c.args.into.now c.read_record.new.into
    (if_found c.in_ok-find.field-0 c.find.new.entry) c.find.new.entry
    (subst (λ (t : ChainedTree). IsRowTree pages t planted) (sym c.self.view_is) is)
    (c.in_ok-find.ensures.entry honest agrees)
    (ap (λ (b : Bool). if_found b c.find.new.entry) c.if-not-branch.false)
    (subst (λ (t : ChainedTree). ReadsRecord t.record_bytes pages c.find.new.entry c.args.into.now
    c.read_record.new.into) (sym c.self.view_is) read)

pub returns-in_err-read_record-clause-kept : goal.returns-in_err-read_record-clause-kept
returns-in_err-read_record-clause-kept g c =
    passed c.from_residual-in_err-read_record.result c.in_err-read_record.field-0.0
    c.from_residual-in_err-read_record.ensures.1 (λ r. OnErr r (c.read_record.new.into ≡ c.args.into.now))
    c.in_err-read_record.ensures.kept

pub returns-in_err-find-clause-spent : goal.returns-in_err-find-clause-spent
returns-in_err-find-clause-spent g c =
    passed c.from_residual.result c.in_err-find.field-0.0 c.from_residual.ensures.1
    (λ r. r ≡ Err Spent → is_spent c.args.pages.now ≡ true)
    (λ is. (c.in_err-find.ensures.spent.0 (still_error is)).0)

pub returns-in_err-read_record-clause-spent : goal.returns-in_err-read_record-clause-spent
returns-in_err-read_record-clause-spent g c =
    passed c.from_residual-in_err-read_record.result c.in_err-read_record.field-0.0
    c.from_residual-in_err-read_record.ensures.1 (λ r. r ≡ Err Spent → is_spent c.args.pages.now ≡ true)
    (λ is. sym c.find.ensures.unchanged.committed.spent ∙ c.in_err-read_record.ensures.spent (still_error is))

pub returns-in_err-find-clause-missing : goal.returns-in_err-find-clause-missing
returns-in_err-find-clause-missing g c = λ is. refl

pub returns-in_err-read_record-clause-missing : goal.returns-in_err-read_record-clause-missing
returns-in_err-read_record-clause-missing g c =
    passed c.from_residual-in_err-read_record.result c.in_err-read_record.field-0.0
    c.from_residual-in_err-read_record.ensures.1 (λ r. r ≡ Ok false → c.read_record.new.into ≡ c.args.into.now)
    (λ is. never_err is)

pub returns-clause-missing : goal.returns-clause-missing
returns-clause-missing g c = λ is. true_not_false is
