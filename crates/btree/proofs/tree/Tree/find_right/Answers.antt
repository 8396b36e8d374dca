use Rattle.std.proofs.Common.{◌≡◌, Bool, true, Err, sym, ap, ◌∙◌}
use Rattle.std.specs.Prelude.{IfErr}
use Rattle.station.specs.Calls.{OnlyReads}
use Rattle.station.proofs.Calls.{reads_nothing}
use Rattle.pages.specs.Pages.{is_spent}
use Rattle.pages.specs.declared.error.PagesError.TheVariants.{Damaged, Device, Spent}
use Rattle.btree.specs.Calls.{pages_on}
use Rattle.btree.specs.Places.{if_found}
use Rattle.btree.specs.Reading.{IsSearchRefusal}
use Rattle.btree.proofs.Answering.{right_is, right_there}
use Rattle.btree.proofs.Finding.{tree_inside, found_with}
use Rattle.btree.proofs.Passing.{passed, never_ok, still_error, was_error, damaged_not_device, damaged_not_spent}
use Rattle.btree.proofs.Passing.{reads_where, read_is_search}
use Rattle.btree.proofs.tree.Tree.find_right.Goals as goal

pub returns-in_err-end-clause-damaged : goal.returns-in_err-end-clause-damaged
returns-in_err-end-clause-damaged g c = λ honest agrees told levels tree passed after around beside.
    let damaged = was_error c.from_residual.result c.search.result c.in_err-end.field-0.0 Damaged
    c.from_residual.ensures.1 c.in_err-end.was told in
    c.search.ensures.damaged honest agrees damaged levels
    (tree_inside c.args.self.now _ _ (pages_on g.D.Device c.args.pages.now c.args.device.now) levels c.self.view_is
    tree)

pub returns-clause-damaged : goal.returns-clause-damaged
returns-clause-damaged g c = λ honest agrees told levels tree passed after around beside.
    let inside = tree_inside c.args.self.now _ _ (pages_on g.D.Device c.args.pages.now c.args.device.now) levels
    c.self.view_is tree in
    right_there c.args.self.now.layout levels passed after c.args.right.now c.in-Some.right c.in-Some.is tree.ascend
    around beside
    (sym (ap (λ (b : Bool). if_found b c.search.new.entry) c.if-end.false) ∙ found_with c.args.self.now
    _ _ levels c.bytes-key.result.now c.in-Some.right c.search.new.entry c.in_ok-end.end.found c.self.view_is
    c.bytes-key.ensures (c.in_ok-end.ensures.finds honest agrees levels inside))

pub returns-then-end-clause-entry : goal.returns-then-end-clause-entry
returns-then-end-clause-entry g c = λ honest agrees levels tree passed after around beside.
    let inside = tree_inside c.args.self.now _ _ (pages_on g.D.Device c.args.pages.now c.args.device.now) levels
    c.self.view_is tree in
    right_is c.args.self.now.layout levels passed after c.args.right.now c.in-Some.right
    (if_found c.in_ok-end.end.found c.search.new.entry) c.in-Some.is tree.ascend around beside
    (found_with c.args.self.now _ _ levels c.bytes-key.result.now c.in-Some.right c.search.new.entry
    c.in_ok-end.end.found c.self.view_is c.bytes-key.ensures (c.in_ok-end.ensures.finds honest agrees levels inside))

pub returns-then-end-clause-leaf : goal.returns-then-end-clause-leaf
returns-then-end-clause-leaf g c = λ honest agrees levels tree found. c.in_ok-end.ensures.leaf honest agrees levels
    (tree_inside c.args.self.now _ _ (pages_on g.D.Device c.args.pages.now c.args.device.now) levels c.self.view_is
    tree)

pub returns-in-None-clause-only : goal.returns-in-None-clause-only
returns-in-None-clause-only g c =
    reads_where g.D.Device _ _ _ _ (λ is. never_ok is) (reads_nothing g.D.Device c.args.device.now)

pub returns-in_err-end-clause-only : goal.returns-in_err-end-clause-only
returns-in_err-end-clause-only g c = passed c.from_residual.result c.in_err-end.field-0.0 c.from_residual.ensures.1
    (λ r. OnlyReads g.D.Device (r ≡ Err Device) c.args.device.now c.search.new.device)
    (reads_where g.D.Device _ _ _ _ (λ is. still_error is) c.in_err-end.ensures.only)

pub returns-clause-only : goal.returns-clause-only
returns-clause-only g c =
    reads_where g.D.Device _ _ _ _ (λ is. damaged_not_device is) c.search.ensures.only

pub returns-then-end-clause-only : goal.returns-then-end-clause-only
returns-then-end-clause-only g c = reads_where g.D.Device _ _ _ _ (λ is. never_ok is) c.search.ensures.only

pub returns-in_err-end-clause-spent : goal.returns-in_err-end-clause-spent
returns-in_err-end-clause-spent g c = passed c.from_residual.result c.in_err-end.field-0.0 c.from_residual.ensures.1
    (λ r. r ≡ Err Spent → is_spent c.args.pages.now ≡ true) (λ is. c.in_err-end.ensures.spent.0 (still_error is))

pub returns-in-None-clause-spent : goal.returns-in-None-clause-spent
returns-in-None-clause-spent g c = λ is. never_ok is

pub returns-clause-spent : goal.returns-clause-spent
returns-clause-spent g c = λ is. damaged_not_spent is

pub returns-then-end-clause-spent : goal.returns-then-end-clause-spent
returns-then-end-clause-spent g c = λ is. never_ok is

pub returns-in_err-end-clause-cause : goal.returns-in_err-end-clause-cause
returns-in_err-end-clause-cause g c = passed c.from_residual.result c.in_err-end.field-0.0 c.from_residual.ensures.1
    (λ r. IfErr r (IsSearchRefusal c.args.self.now.layout))
    (read_is_search c.args.self.now.layout c.in_err-end.field-0.0 c.in_err-end.ensures.cause)

pub returns-in-None-clause-damaged : goal.returns-in-None-clause-damaged
returns-in-None-clause-damaged g c = λ honest agrees is. never_ok is

pub returns-then-end-clause-damaged : goal.returns-then-end-clause-damaged
returns-then-end-clause-damaged g c = λ honest agrees is. never_ok is
