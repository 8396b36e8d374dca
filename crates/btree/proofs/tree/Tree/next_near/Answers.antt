use Rattle.std.proofs.Common.{◌≡◌, ◌≢◌, ◌↔◌, List, Err, refl, sym, ap, subst, ◌∙◌, true}
use Rattle.std.specs.Prelude.{Some, Ok, IfOk, IfErr}
use Rattle.station.specs.Calls.{OnlyReads}
use Rattle.station.proofs.Calls.{reads_nothing}
use Rattle.pages.specs.Pages.{is_spent}
use Rattle.pages.specs.declared.error.PagesError.TheVariants.{Damaged, Device, Spent}
use Rattle.btree.specs.declared.sought.Sought.TheVariants.{After}
use Rattle.btree.specs.Tree.{TreeNode, IsTree, IsTreeOrEmpty}
use Rattle.btree.specs.Rooted.{RootedTree}
use Rattle.btree.specs.Entries.{HasLengths, entries_of, first_entry_after}
use Rattle.btree.specs.Places.{HasLeaf, if_found}
use Rattle.btree.specs.Calls.{pages_on}
use Rattle.btree.specs.Reading.{IsSearchRefusal}
use Rattle.btree.specs.Results.{ReturnsDamaged}
use Rattle.btree.proofs.Finding.{FoundBy, NoTreeUnder}
use Rattle.btree.proofs.Frames.{unchanged_on, rooted_tree, tree_holds}
use Rattle.btree.proofs.Passing.{passed, never_ok, never_err, ok_is, still_error, was_error, never_true}
use Rattle.btree.proofs.Passing.{pages_noted, reads_where, sectors_on}
use Rattle.btree.proofs.tree.Tree.next_near.Goals as goal

pub returns-then-look_near-clause-entry : goal.returns-then-look_near-clause-entry
returns-then-look_near-clause-entry g c = λ honest agrees levels holds noted.
    let pages = pages_on g.D.Device c.args.pages.now c.args.device.now in
    let tree = rooted_tree c.args.self.now c.self.inside.layout c.self.inside.root pages levels c.self.view_is
    c.if-self-eq0.false holds in
    subst
    (λ (t : RootedTree). Some c.look_near.new.entry ≡ first_entry_after (entries_of t.layout levels) c.args.key.now)
    c.self.view_is
    (c.look_near.ensures.entry c.if-look_near.true (g.D.Device.state c.args.device.now).disk agrees noted levels tree)

pub returns-then-self-eq0-clause-only : goal.returns-then-self-eq0-clause-only
returns-then-self-eq0-clause-only g c =
    reads_where g.D.Device _ _ _ _ (λ is. never_ok is) (reads_nothing g.D.Device c.args.device.now)

pub returns-then-look_near-clause-only : goal.returns-then-look_near-clause-only
returns-then-look_near-clause-only g c =
    reads_where g.D.Device _ _ _ _ (λ is. never_ok is) (reads_nothing g.D.Device c.args.device.now)

pub returns-then-look_near-clause-agrees : goal.returns-then-look_near-clause-agrees
returns-then-look_near-clause-agrees g c =
    λ honest agrees. c.look_near.ensures.keeps.agrees (g.D.Device.state c.args.device.now).disk agrees

pub returns-then-self-eq0-clause-damaged : goal.returns-then-self-eq0-clause-damaged
returns-then-self-eq0-clause-damaged g c = λ honest agrees told. never_ok told.0

pub returns-then-look_near-clause-damaged : goal.returns-then-look_near-clause-damaged
returns-then-look_near-clause-damaged g c = λ honest agrees told. never_ok told.0

pub returns-then-self-eq0-clause-spent : goal.returns-then-self-eq0-clause-spent
returns-then-self-eq0-clause-spent g c = (
  λ is. never_ok is,
  λ both. absurd (both.1 (sym (ap (λ (t : RootedTree). t.root) c.self.view_is) ∙ c.if-self-eq0.true)),
)

pub returns-then-look_near-clause-spent : goal.returns-then-look_near-clause-spent
returns-then-look_near-clause-spent g c =
    (λ is. never_ok is, λ both. never_true (c.look_near.ensures.unspent c.if-look_near.true) both.0)

pub returns-then-look_near-clause-lengths : goal.returns-then-look_near-clause-lengths
returns-then-look_near-clause-lengths g c =
    λ is. subst (λ (t : RootedTree). HasLengths t.layout c.look_near.new.entry) c.self.view_is
    (c.look_near.ensures.lengths c.if-look_near.true)

pub returns-then-self-eq0-clause-place : goal.returns-then-self-eq0-clause-place
returns-then-self-eq0-clause-place g c = λ honest agrees noted. noted

pub returns-then-look_near-clause-place : goal.returns-then-look_near-clause-place
returns-then-look_near-clause-place g c = λ honest agrees noted. noted

pub returns-in_err-end-clause-unchanged : goal.returns-in_err-end-clause-unchanged
returns-in_err-end-clause-unchanged g c = unchanged_on c.args.pages.now c.look_near.new.pages c.search_right.new.pages
    c.look_near.ensures.unchanged c.search_right.ensures.unchanged

pub returns-in_err-end-clause-only : goal.returns-in_err-end-clause-only
returns-in_err-end-clause-only g c = passed c.from_residual.result c.in_err-end.field-0.0 c.from_residual.ensures.1
    (λ r. OnlyReads g.D.Device (r ≡ Err Device) c.args.device.now c.search_right.new.device)
    (reads_where g.D.Device _ _ _ _ (λ is. still_error is) c.in_err-end.ensures.only)

pub returns-in_err-end-clause-agrees : goal.returns-in_err-end-clause-agrees
returns-in_err-end-clause-agrees g c = λ honest agrees. c.search_right.ensures.agrees honest
    (c.look_near.ensures.keeps.agrees (g.D.Device.state c.args.device.now).disk agrees)

pub returns-in_err-end-clause-entry : goal.returns-in_err-end-clause-entry
returns-in_err-end-clause-entry g c = λ honest agrees levels holds noted.
    passed c.from_residual.result c.in_err-end.field-0.0 c.from_residual.ensures.1
    (λ r. IfOk r (λ found. if_found found c.search_right.new.entry
    ≡ first_entry_after (entries_of c.args.self.now.layout levels) c.args.key.now)) tt

pub returns-in_err-end-clause-place : goal.returns-in_err-end-clause-place
returns-in_err-end-clause-place g c = λ honest agrees noted. noted

pub returns-in_err-end-clause-damaged : goal.returns-in_err-end-clause-damaged
returns-in_err-end-clause-damaged g c = λ honest agrees told levels holds.
    let damaged = was_error c.from_residual.result c.search_right.result c.in_err-end.field-0.0 Damaged
    c.from_residual.ensures.1 c.in_err-end.was told.0 in
    pages_noted g.D.Device c.args.pages.now c.look_near.new.pages c.args.device.now
    (NoTreeUnder c.args.self.now (ReturnsDamaged c.search_right.result)) c.look_near.ensures.unchanged
    c.look_near.ensures.keeps c.search_right.ensures.damaged honest agrees damaged levels holds

pub returns-in_err-end-clause-spent : goal.returns-in_err-end-clause-spent
returns-in_err-end-clause-spent g c = passed c.from_residual.result c.in_err-end.field-0.0 c.from_residual.ensures.1
    (λ r. (r ≡ Err Spent) ↔ ((is_spent c.args.pages.now ≡ true) × (c.args.self.now.root ≢ 0))) (
      λ is. (
        sym c.look_near.ensures.unchanged.committed.spent ∙ c.in_err-end.ensures.spent.0 (still_error is),
        λ none. c.if-self-eq0.false (ap (λ (t : RootedTree). t.root) c.self.view_is ∙ none),
      ),
      λ both. still_error (c.in_err-end.ensures.spent.1 (c.look_near.ensures.unchanged.committed.spent ∙ both.0)),
    )

pub returns-in_err-end-clause-lengths : goal.returns-in_err-end-clause-lengths
returns-in_err-end-clause-lengths g c =
    passed c.from_residual.result c.in_err-end.field-0.0 c.from_residual.ensures.1
    (λ r. r ≡ Ok true → HasLengths c.args.self.now.layout c.search_right.new.entry) (λ is. never_err is)

pub returns-in_err-end-clause-cause : goal.returns-in_err-end-clause-cause
returns-in_err-end-clause-cause g c = passed c.from_residual.result c.in_err-end.field-0.0 c.from_residual.ensures.1
    (λ r. IfErr r (IsSearchRefusal c.args.self.now.layout)) c.in_err-end.ensures.cause

pub returns-then-end-clause-unchanged : goal.returns-then-end-clause-unchanged
returns-then-end-clause-unchanged g c = unchanged_on c.args.pages.now c.look_near.new.pages c.search_right.new.pages
    c.look_near.ensures.unchanged c.search_right.ensures.unchanged

pub returns-else-end-clause-unchanged : goal.returns-else-end-clause-unchanged
returns-else-end-clause-unchanged g c = unchanged_on c.args.pages.now c.look_near.new.pages c.search_right.new.pages
    c.look_near.ensures.unchanged c.search_right.ensures.unchanged

pub returns-then-end-clause-only : goal.returns-then-end-clause-only
returns-then-end-clause-only g c = reads_where g.D.Device _ _ _ _ (λ is. never_ok is) c.search_right.ensures.only

pub returns-else-end-clause-only : goal.returns-else-end-clause-only
returns-else-end-clause-only g c = reads_where g.D.Device _ _ _ _ (λ is. never_ok is) c.search_right.ensures.only

pub returns-then-end-clause-agrees : goal.returns-then-end-clause-agrees
returns-then-end-clause-agrees g c = λ honest agrees. c.search_right.ensures.agrees honest
    (c.look_near.ensures.keeps.agrees (g.D.Device.state c.args.device.now).disk agrees)

pub returns-else-end-clause-agrees : goal.returns-else-end-clause-agrees
returns-else-end-clause-agrees g c = λ honest agrees. c.search_right.ensures.agrees honest
    (c.look_near.ensures.keeps.agrees (g.D.Device.state c.args.device.now).disk agrees)

pub returns-then-end-clause-entry : goal.returns-then-end-clause-entry
returns-then-end-clause-entry g c =
    λ honest agrees levels holds noted. pages_noted g.D.Device c.args.pages.now c.look_near.new.pages c.args.device.now
    (FoundBy c.args.self.now c.args.key.now After (if_found c.in_ok-end.end.found c.search_right.new.entry))
    c.look_near.ensures.unchanged c.look_near.ensures.keeps c.in_ok-end.ensures.entry honest agrees levels holds

pub returns-else-end-clause-entry : goal.returns-else-end-clause-entry
returns-else-end-clause-entry g c =
    λ honest agrees levels holds noted. pages_noted g.D.Device c.args.pages.now c.look_near.new.pages c.args.device.now
    (FoundBy c.args.self.now c.args.key.now After (if_found c.in_ok-end.end.found c.search_right.new.entry))
    c.look_near.ensures.unchanged c.look_near.ensures.keeps c.in_ok-end.ensures.entry honest agrees levels holds

pub returns-then-end-clause-place : goal.returns-then-end-clause-place
returns-then-end-clause-place g c = λ honest agrees noted some levels tree.
    let view = subst (λ (t : RootedTree). IsTree t.layout (pages_on g.D.Device c.args.pages.now c.args.device.now)
    t.root levels) c.self.view_is tree in
    pages_noted g.D.Device c.args.pages.now c.look_near.new.pages c.args.device.now
    (λ p. (levels : List (List TreeNode)) → IsTreeOrEmpty c.args.self.now.layout p c.args.self.now.root levels
    → c.in_ok-end.end.found ≡ true → HasLeaf levels c.in_ok-end.end.leaf) c.look_near.ensures.unchanged
    c.look_near.ensures.keeps c.in_ok-end.ensures.leaf honest agrees levels (tree_holds c.args.self.now.layout
    (pages_on g.D.Device c.args.pages.now c.args.device.now) c.args.self.now.root levels view) c.if-end.true

pub returns-else-end-clause-place : goal.returns-else-end-clause-place
returns-else-end-clause-place g c = λ honest agrees noted. noted

pub returns-then-end-clause-damaged : goal.returns-then-end-clause-damaged
returns-then-end-clause-damaged g c = λ honest agrees told. never_ok told.0

pub returns-else-end-clause-damaged : goal.returns-else-end-clause-damaged
returns-else-end-clause-damaged g c = λ honest agrees told. never_ok told.0

pub returns-then-end-clause-spent : goal.returns-then-end-clause-spent
returns-then-end-clause-spent g c = (
  λ is. never_ok is,
  λ both. never_ok (sym c.in_ok-end.was
      ∙ c.search_right.ensures.spent.1 (c.look_near.ensures.unchanged.committed.spent ∙ both.0)),
)

pub returns-else-end-clause-spent : goal.returns-else-end-clause-spent
returns-else-end-clause-spent g c = (
  λ is. never_ok is,
  λ both. never_ok (sym c.in_ok-end.was
      ∙ c.search_right.ensures.spent.1 (c.look_near.ensures.unchanged.committed.spent ∙ both.0)),
)

pub returns-then-end-clause-lengths : goal.returns-then-end-clause-lengths
returns-then-end-clause-lengths g c = λ is. c.in_ok-end.ensures.lengths (ok_is is)

pub returns-else-end-clause-lengths : goal.returns-else-end-clause-lengths
returns-else-end-clause-lengths g c = λ is. c.in_ok-end.ensures.lengths (ok_is is)

pub search_right-requires-clause-sectors : goal.search_right-requires-clause-sectors
search_right-requires-clause-sectors g c = sectors_on c.args.pages.now c.look_near.new.pages _ _
    c.look_near.ensures.unchanged.committed.volume refl c.requires.sectors

pub search_right-requires-clause-root : goal.search_right-requires-clause-root
search_right-requires-clause-root g c =
    λ none. c.if-self-eq0.false (ap (λ (t : RootedTree). t.root) c.self.view_is ∙ none)
