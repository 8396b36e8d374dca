use Rattle.std.proofs.Common.{◌≡◌, ◌≢◌, ◌↔◌, true, Err, inr, sym, ap, subst, ◌∙◌}
use Rattle.std.specs.Prelude.{Ok, IfErr}
use Rattle.station.specs.Calls.{OnlyReads}
use Rattle.station.proofs.Calls.{reads_then, reads_nothing}
use Rattle.pages.specs.Pages.{is_spent}
use Rattle.pages.specs.declared.error.PagesError.TheVariants.{Damaged, Device, Spent}
use Rattle.btree.specs.Calls.{pages_on}
use Rattle.btree.specs.Entries.{HasLengths, entries_of}
use Rattle.btree.specs.Places.{if_found}
use Rattle.btree.specs.Reading.{IsSearchRefusal}
use Rattle.btree.specs.Results.{ReturnsDamaged}
use Rattle.btree.specs.Rooted.{RootedTree}
use Rattle.btree.specs.Sought.{FindsEntry, sought_in}
use Rattle.btree.proofs.Finding.{FoundBy, NoTreeUnder}
use Rattle.btree.proofs.Frames.{rooted_tree, unchanged_on}
use Rattle.btree.proofs.Passing.{passed, never_ok, never_err, ok_is, still_error, was_error, pages_before}
use Rattle.btree.proofs.Passing.{reads_where, sectors_on, read_is_search}
use Rattle.btree.proofs.tree.Tree.find_on.Goals as goal

pub returns-in_err-end-clause-damaged : goal.returns-in_err-end-clause-damaged
returns-in_err-end-clause-damaged g c = λ honest agrees told levels holds.
    let damaged = was_error c.from_residual.result c.search.result c.in_err-end.field-0.0 Damaged
    c.from_residual.ensures.1 c.in_err-end.was told in
    c.search.ensures.damaged honest agrees damaged levels (rooted_tree c.args.self.now c.self.inside.layout
    c.self.inside.root (pages_on g.D.Device c.args.pages.now c.args.device.now) levels c.self.view_is
    c.if-self-eq0.false holds)

pub returns-then-end-clause-entry : goal.returns-then-end-clause-entry
returns-then-end-clause-entry g c = λ honest agrees levels holds.
    let tree = rooted_tree c.args.self.now c.self.inside.layout c.self.inside.root
    (pages_on g.D.Device c.args.pages.now c.args.device.now) levels c.self.view_is c.if-self-eq0.false holds in
    let finds = c.in_ok-end.ensures.finds honest agrees levels tree in
    subst
    (λ (t : RootedTree). if_found true c.search.new.entry ≡ sought_in c.args.sought (entries_of t.layout levels)
    c.args.key.now)
    c.self.view_is (subst (FindsEntry (entries_of c.self.inside.layout levels) c.args.key.now c.args.sought
    c.search.new.entry) c.if-end.true finds)

pub returns-then-end-clause-lengths : goal.returns-then-end-clause-lengths
returns-then-end-clause-lengths g c = λ is.
    subst (λ (t : RootedTree). HasLengths t.layout c.search.new.entry) c.self.view_is
    (c.in_ok-end.ensures.lengths c.if-end.true)

pub returns-in_err-end-clause-lengths : goal.returns-in_err-end-clause-lengths
returns-in_err-end-clause-lengths g c =
    passed c.from_residual.result c.in_err-end.field-0.0 c.from_residual.ensures.1
    (λ r. r ≡ Ok true → HasLengths c.args.self.now.layout c.search.new.entry) (λ is. never_err is)

pub returns-in_err-end-2-clause-unchanged : goal.returns-in_err-end-2-clause-unchanged
returns-in_err-end-2-clause-unchanged g c = unchanged_on c.args.pages.now c.search.new.pages c.search_right.new.pages
    c.search.ensures.unchanged c.search_right.ensures.unchanged

pub returns-in_err-end-2-clause-only : goal.returns-in_err-end-2-clause-only
returns-in_err-end-2-clause-only g c =
    passed c.from_residual-in_err-end-2.result c.in_err-end-2.field-0.0 c.from_residual-in_err-end-2.ensures.1
    (λ r. OnlyReads g.D.Device (r ≡ Err Device) c.args.device.now c.search_right.new.device)
    (reads_then g.D.Device _ _ _ _ _ _ (λ is. inr (still_error is)) c.search.ensures.only
    c.in_err-end-2.ensures.only)

pub returns-in_err-end-2-clause-agrees : goal.returns-in_err-end-2-clause-agrees
returns-in_err-end-2-clause-agrees g c = λ honest agrees. c.search_right.ensures.agrees
    (c.search.ensures.only.honest.0 honest) (c.search.ensures.agrees honest agrees)

pub returns-in_err-end-2-clause-damaged : goal.returns-in_err-end-2-clause-damaged
returns-in_err-end-2-clause-damaged g c = λ honest agrees told levels holds.
    let damaged = was_error c.from_residual-in_err-end-2.result c.search_right.result c.in_err-end-2.field-0.0 Damaged
    c.from_residual-in_err-end-2.ensures.1 c.in_err-end-2.was told in
    pages_before g.D.Device _ c.args.pages.now c.search.new.pages c.args.device.now c.search.new.device
    (NoTreeUnder c.args.self.now (ReturnsDamaged c.search_right.result)) c.search.ensures.unchanged
    c.search.ensures.only c.search.ensures.agrees c.search_right.ensures.damaged honest agrees damaged levels holds

pub returns-in_err-end-2-clause-spent : goal.returns-in_err-end-2-clause-spent
returns-in_err-end-2-clause-spent g c =
    passed c.from_residual-in_err-end-2.result c.in_err-end-2.field-0.0 c.from_residual-in_err-end-2.ensures.1
    (λ r. (r ≡ Err Spent) ↔ ((is_spent c.args.pages.now ≡ true) × (c.args.self.now.root ≢ 0))) (
      λ is. (
        sym c.search.ensures.unchanged.committed.spent ∙ c.in_err-end-2.ensures.spent.0 (still_error is),
        λ none. c.if-self-eq0.false (ap (λ (t : RootedTree). t.root) c.self.view_is ∙ none),
      ),
      λ both. never_ok (sym c.in_ok-end.was ∙ c.search.ensures.spent.1 both.0),
    )

pub returns-in_err-end-2-clause-lengths : goal.returns-in_err-end-2-clause-lengths
returns-in_err-end-2-clause-lengths g c =
    passed c.from_residual-in_err-end-2.result c.in_err-end-2.field-0.0 c.from_residual-in_err-end-2.ensures.1
    (λ r. r ≡ Ok true → HasLengths c.args.self.now.layout c.search_right.new.entry) (λ is. never_err is)

pub returns-in_err-end-2-clause-cause : goal.returns-in_err-end-2-clause-cause
returns-in_err-end-2-clause-cause g c =
    passed c.from_residual-in_err-end-2.result c.in_err-end-2.field-0.0 c.from_residual-in_err-end-2.ensures.1
    (λ r. IfErr r (IsSearchRefusal c.args.self.now.layout)) c.in_err-end-2.ensures.cause

pub returns-clause-only : goal.returns-clause-only
returns-clause-only g c = reads_then g.D.Device _ _ _ _ _ _ (λ is. never_ok is) c.search.ensures.only
    c.search_right.ensures.only

pub returns-clause-unchanged : goal.returns-clause-unchanged
returns-clause-unchanged g c = unchanged_on c.args.pages.now c.search.new.pages c.search_right.new.pages
    c.search.ensures.unchanged c.search_right.ensures.unchanged

pub returns-clause-agrees : goal.returns-clause-agrees
returns-clause-agrees g c = λ honest agrees. c.search_right.ensures.agrees (c.search.ensures.only.honest.0 honest)
    (c.search.ensures.agrees honest agrees)

pub returns-clause-entry : goal.returns-clause-entry
returns-clause-entry g c =
    pages_before g.D.Device _ c.args.pages.now c.search.new.pages c.args.device.now c.search.new.device
    (FoundBy c.args.self.now c.args.key.now c.args.sought (if_found c.in_ok-end-2.end.found
    c.search_right.new.entry)) c.search.ensures.unchanged c.search.ensures.only c.search.ensures.agrees
    c.in_ok-end-2.ensures.entry

pub returns-clause-damaged : goal.returns-clause-damaged
returns-clause-damaged g c = λ honest agrees is. never_ok is

pub returns-clause-spent : goal.returns-clause-spent
returns-clause-spent g c =
    (λ is. never_ok is, λ both. never_ok (sym c.in_ok-end.was ∙ c.search.ensures.spent.1 both.0))

pub returns-clause-lengths : goal.returns-clause-lengths
returns-clause-lengths g c = λ is. c.in_ok-end-2.ensures.lengths (ok_is is)

pub returns-then-self-eq0-clause-only : goal.returns-then-self-eq0-clause-only
returns-then-self-eq0-clause-only g c =
    reads_where g.D.Device _ _ _ _ (λ is. never_ok is) (reads_nothing g.D.Device c.args.device.now)

pub returns-in_err-end-clause-only : goal.returns-in_err-end-clause-only
returns-in_err-end-clause-only g c = passed c.from_residual.result c.in_err-end.field-0.0 c.from_residual.ensures.1
    (λ r. OnlyReads g.D.Device (r ≡ Err Device) c.args.device.now c.search.new.device)
    (reads_where g.D.Device _ _ _ _ (λ is. still_error is) c.in_err-end.ensures.only)

pub returns-then-end-clause-only : goal.returns-then-end-clause-only
returns-then-end-clause-only g c = reads_where g.D.Device _ _ _ _ (λ is. never_ok is) c.search.ensures.only

pub returns-then-self-eq0-clause-spent : goal.returns-then-self-eq0-clause-spent
returns-then-self-eq0-clause-spent g c = (
  λ is. never_ok is,
  λ both. absurd (both.1 (sym (ap (λ (t : RootedTree). t.root) c.self.view_is) ∙ c.if-self-eq0.true)),
)

pub returns-in_err-end-clause-spent : goal.returns-in_err-end-clause-spent
returns-in_err-end-clause-spent g c = passed c.from_residual.result c.in_err-end.field-0.0 c.from_residual.ensures.1
    (λ r. (r ≡ Err Spent) ↔ ((is_spent c.args.pages.now ≡ true) × (c.args.self.now.root ≢ 0))) (
      λ is. (
        c.in_err-end.ensures.spent.0 (still_error is),
        λ none. c.if-self-eq0.false (ap (λ (t : RootedTree). t.root) c.self.view_is ∙ none),
      ),
      λ both. still_error (c.in_err-end.ensures.spent.1 both.0),
    )

pub returns-then-end-clause-spent : goal.returns-then-end-clause-spent
returns-then-end-clause-spent g c =
    (λ is. never_ok is, λ both. never_ok (sym c.in_ok-end.was ∙ c.search.ensures.spent.1 both.0))

pub returns-in_err-end-clause-cause : goal.returns-in_err-end-clause-cause
returns-in_err-end-clause-cause g c = passed c.from_residual.result c.in_err-end.field-0.0 c.from_residual.ensures.1
    (λ r. IfErr r (IsSearchRefusal c.args.self.now.layout))
    (read_is_search c.args.self.now.layout c.in_err-end.field-0.0 c.in_err-end.ensures.cause)

pub returns-then-self-eq0-clause-damaged : goal.returns-then-self-eq0-clause-damaged
returns-then-self-eq0-clause-damaged g c = λ honest agrees is. never_ok is

pub returns-then-end-clause-damaged : goal.returns-then-end-clause-damaged
returns-then-end-clause-damaged g c = λ honest agrees is. never_ok is

pub search_right-requires-clause-sectors : goal.search_right-requires-clause-sectors
search_right-requires-clause-sectors g c =
    sectors_on c.args.pages.now c.search.new.pages _ _ c.search.ensures.unchanged.committed.volume
    c.search.ensures.only.sectors c.requires.sectors

pub search_right-requires-clause-root : goal.search_right-requires-clause-root
search_right-requires-clause-root g c =
    λ none. c.if-self-eq0.false (ap (λ (t : RootedTree). t.root) c.self.view_is ∙ none)
