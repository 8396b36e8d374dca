use Rattle.std.proofs.Common.{◌≡◌, ◌≢◌, ◌↔◌, true, Err, refl, sym, ap, subst, ◌∙◌}
use Rattle.std.specs.Prelude.{Ok, IfErr}
use Rattle.station.specs.Calls.{OnlyReads}
use Rattle.station.proofs.Calls.{reads_nothing}
use Rattle.pages.specs.Pages.{is_spent}
use Rattle.pages.specs.declared.error.PagesError.TheVariants.{Damaged, Device, Spent}
use Rattle.btree.specs.Calls.{pages_on}
use Rattle.btree.specs.Entries.{HasLengths}
use Rattle.btree.specs.Reading.{IsSearchRefusal}
use Rattle.btree.specs.Rooted.{RootedTree}
use Rattle.btree.proofs.Finding.{found_with}
use Rattle.btree.proofs.Frames.{rooted_tree}
use Rattle.btree.proofs.Passing.{passed, never_ok, never_err, ok_is, still_error, was_error, reads_where}
use Rattle.btree.proofs.Passing.{read_is_search}
use Rattle.btree.proofs.tree.Tree.find.Goals as goal

pub returns-in_err-end-clause-damaged : goal.returns-in_err-end-clause-damaged
returns-in_err-end-clause-damaged g c = λ honest agrees told levels holds.
    let damaged = was_error c.from_residual.result c.search.result c.in_err-end.field-0.0 Damaged
    c.from_residual.ensures.1 c.in_err-end.was told in
    c.search.ensures.damaged honest agrees damaged levels (rooted_tree c.args.self.now c.self.inside.layout
    c.self.inside.root (pages_on g.D.Device c.args.pages.now c.args.device.now) levels c.self.view_is
    c.if-self-eq0.false holds)

pub returns-clause-entry : goal.returns-clause-entry
returns-clause-entry g c = λ honest agrees levels holds.
    found_with c.args.self.now _ _ levels c.args.key.now c.args.key.now c.search.new.entry c.in_ok-end.end.found
    c.self.view_is refl (c.in_ok-end.ensures.finds honest agrees levels (rooted_tree c.args.self.now
    c.self.inside.layout c.self.inside.root (pages_on g.D.Device c.args.pages.now c.args.device.now) levels
    c.self.view_is c.if-self-eq0.false holds))

pub returns-in_err-end-clause-lengths : goal.returns-in_err-end-clause-lengths
returns-in_err-end-clause-lengths g c =
    passed c.from_residual.result c.in_err-end.field-0.0 c.from_residual.ensures.1
    (λ r. r ≡ Ok true → HasLengths c.args.self.now.layout c.search.new.entry) (λ is. never_err is)

pub returns-clause-lengths : goal.returns-clause-lengths
returns-clause-lengths g c = λ is.
    subst (λ (t : RootedTree). HasLengths t.layout c.search.new.entry) c.self.view_is
    (c.in_ok-end.ensures.lengths (ok_is is))

pub returns-then-self-eq0-clause-only : goal.returns-then-self-eq0-clause-only
returns-then-self-eq0-clause-only g c =
    reads_where g.D.Device _ _ _ _ (λ is. never_ok is) (reads_nothing g.D.Device c.args.device.now)

pub returns-in_err-end-clause-only : goal.returns-in_err-end-clause-only
returns-in_err-end-clause-only g c = passed c.from_residual.result c.in_err-end.field-0.0 c.from_residual.ensures.1
    (λ r. OnlyReads g.D.Device (r ≡ Err Device) c.args.device.now c.search.new.device)
    (reads_where g.D.Device _ _ _ _ (λ is. still_error is) c.in_err-end.ensures.only)

pub returns-then-self-eq0-clause-spent : goal.returns-then-self-eq0-clause-spent
returns-then-self-eq0-clause-spent g c = (
  λ is. never_ok is,
  λ both. absurd (both.1 (sym (ap (λ (t : RootedTree). t.root) c.self.view_is) ∙ c.if-self-eq0.true)),
)

pub returns-in_err-end-clause-spent : goal.returns-in_err-end-clause-spent
returns-in_err-end-clause-spent g c = passed c.from_residual.result c.in_err-end.field-0.0 c.from_residual.ensures.1
    (λ r. (r ≡ Err Spent) ↔ ((is_spent c.args.pages.now ≡ true) × (c.args.self.now.root ≢ 0))) (
      λ is. (
        c.in_err-end.ensures.spent.0 (still_error is),
        λ none. c.if-self-eq0.false (ap (λ (t : RootedTree). t.root) c.self.view_is ∙ none),
      ),
      λ both. still_error (c.in_err-end.ensures.spent.1 both.0),
    )

pub returns-in_err-end-clause-cause : goal.returns-in_err-end-clause-cause
returns-in_err-end-clause-cause g c = passed c.from_residual.result c.in_err-end.field-0.0 c.from_residual.ensures.1
    (λ r. IfErr r (IsSearchRefusal c.args.self.now.layout))
    (read_is_search c.args.self.now.layout c.in_err-end.field-0.0 c.in_err-end.ensures.cause)

pub returns-then-self-eq0-clause-damaged : goal.returns-then-self-eq0-clause-damaged
returns-then-self-eq0-clause-damaged g c = λ honest agrees is. never_ok is

pub returns-clause-only : goal.returns-clause-only
returns-clause-only g c = reads_where g.D.Device _ _ _ _ (λ is. never_ok is) c.search.ensures.only

pub returns-clause-spent : goal.returns-clause-spent
returns-clause-spent g c =
    (λ is. never_ok is, λ both. never_ok (sym c.in_ok-end.was ∙ c.search.ensures.spent.1 both.0))

pub returns-clause-damaged : goal.returns-clause-damaged
returns-clause-damaged g c = λ honest agrees is. never_ok is
