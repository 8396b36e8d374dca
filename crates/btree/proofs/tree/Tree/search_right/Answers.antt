use Rattle.std.proofs.Common.{◌≡◌, Bool, Err, refl, sym, ap, subst, ◌∙◌}
use Rattle.std.specs.Prelude.{IfOk}
use Rattle.std.proofs.lemmas.Result.{IfOk-weaker}
use Rattle.pages.specs.declared.error.PagesError.TheVariants.{Damaged}
use Rattle.btree_pages.specs.declared.row_layout.Kind.TheVariants.{Leaf}
use Rattle.btree.specs.Calls.{pages_on}
use Rattle.btree.specs.Results.{ReturnsDamaged}
use Rattle.btree.specs.Rooted.{RootedTree}
use Rattle.btree.specs.Entries.{entries_of_rows, first_entry}
use Rattle.btree.specs.Propagates.{node_with}
use Rattle.btree.specs.Places.{if_found}
use Rattle.btree.proofs.Frames.{unchanged_on, root_there, rooted_tree, holds_tree}
use Rattle.btree.proofs.Descending.{right_of, leaf_of_way}
use Rattle.btree.proofs.Finding.{LeavesIn}
use Rattle.std.specs.Prelude.{IfErr}
use Rattle.std.proofs.Common.{◌↔◌, inr, true}
use Rattle.station.specs.Calls.{OnlyReads}
use Rattle.station.proofs.Calls.{reads_then}
use Rattle.pages.specs.Pages.{is_spent}
use Rattle.pages.specs.declared.error.PagesError.TheVariants.{Device, Spent}
use Rattle.btree.specs.Reading.{IsSearchRefusal, NoneOfKind}
use Rattle.btree.proofs.Passing.{passed, never_ok, still_error, was_error, pages_before}
use Rattle.btree.proofs.Passing.{reads_where, sectors_on}
use Rattle.btree.proofs.Passing.{read_is_search}
use Rattle.btree.proofs.DescentCalls.{found_by}
use Rattle.btree.proofs.tree.Tree.search_right.Goals as goal

pub returns-in_err-entry_at-clause-unchanged : goal.returns-in_err-entry_at-clause-unchanged
returns-in_err-entry_at-clause-unchanged g c =
    unchanged_on c.args.pages.now c.follow.new.pages c.entry_at.new.pages c.follow.ensures.unchanged
    c.entry_at.ensures.unchanged

pub returns-then-branch-clause-unchanged : goal.returns-then-branch-clause-unchanged
returns-then-branch-clause-unchanged g c =
    unchanged_on c.args.pages.now c.follow.new.pages c.entry_at.new.pages c.follow.ensures.unchanged
    c.entry_at.ensures.unchanged

pub returns-clause-unchanged : goal.returns-clause-unchanged
returns-clause-unchanged g c =
    unchanged_on c.args.pages.now c.entry_at.new.pages c.find_right.new.pages
    (unchanged_on c.args.pages.now c.follow.new.pages c.entry_at.new.pages c.follow.ensures.unchanged
    c.entry_at.ensures.unchanged)
    c.find_right.ensures.unchanged

pub returns-in_err-way-clause-damaged : goal.returns-in_err-way-clause-damaged
returns-in_err-way-clause-damaged g c = λ honest agrees told levels holds.
    let tree = rooted_tree c.args.self.now c.self.inside.layout c.self.inside.root
    (pages_on g.D.Device c.args.pages.now c.args.device.now) levels c.self.view_is
    (root_there c.args.self.now _ _ c.self.view_is c.requires.root) holds in
    let damaged = was_error c.from_residual.result c.follow.result c.in_err-way.field-0.0 Damaged
    c.from_residual.ensures.1 c.in_err-way.was told in
    c.follow.ensures.damaged honest agrees damaged levels tree

pub returns-in_err-entry_at-clause-damaged : goal.returns-in_err-entry_at-clause-damaged
returns-in_err-entry_at-clause-damaged g c = λ honest agrees told levels holds.
    let tree = rooted_tree c.args.self.now c.self.inside.layout c.self.inside.root
    (pages_on g.D.Device c.args.pages.now c.args.device.now) levels c.self.view_is
    (root_there c.args.self.now _ _ c.self.view_is c.requires.root) holds in
    let leads = c.in_ok-way.ensures.way honest agrees levels tree in
    let damaged = was_error c.from_residual-in_err-entry_at.result c.entry_at.result c.in_err-entry_at.field-0.0 Damaged
    c.from_residual-in_err-entry_at.ensures.1 c.in_err-entry_at.was told in
    pages_before g.D.Device _ c.args.pages.now c.follow.new.pages c.args.device.now c.follow.new.device
    (NoneOfKind c.self.inside.layout Leaf c.in_ok-way.way.page (ReturnsDamaged c.entry_at.result))
    c.follow.ensures.unchanged c.follow.ensures.only c.follow.ensures.agrees c.entry_at.ensures.damaged honest agrees
    damaged (node_with c.in_ok-way.way.page leads.rows) refl leads.stands

pub returns-then-branch-clause-entry : goal.returns-then-branch-clause-entry
returns-then-branch-clause-entry g c =
    let way = c.in_ok-way.way in
    found_by g.D.Device _ c.args.pages.now c.follow.new.pages c.args.device.now c.follow.new.device c.args.self.now
    c.self.inside.layout c.self.inside.root c.args.key.now way.path.items way.page way.right c.args.sought
    (if_found c.in_ok-entry_at.field-0 c.entry_at.new.entry) c.entry_at.new.entry c.self.view_is
    (root_there c.args.self.now _ _ c.self.view_is c.requires.root)
    c.follow.ensures.unchanged
    c.follow.ensures.only c.follow.ensures.agrees c.in_ok-way.ensures.way
    (ap (λ (b : Bool). if_found b c.entry_at.new.entry) c.if-branch.true) c.in_ok-entry_at.ensures.entry

pub returns-clause-entry : goal.returns-clause-entry
returns-clause-entry g c = λ honest agrees levels holds.
    let way = c.in_ok-way.way in
    let tree = rooted_tree c.args.self.now c.self.inside.layout c.self.inside.root
    (pages_on g.D.Device c.args.pages.now c.args.device.now) levels c.self.view_is
    (root_there c.args.self.now _ _ c.self.view_is c.requires.root) holds in
    let said = right_of g.D.Device c.args.pages.now c.follow.new.pages c.entry_at.new.pages c.args.device.now
    c.follow.new.device c.entry_at.new.device _ c.args.self.now c.args.key.now levels way.path.items way.page way.right
    c.args.sought (if_found c.in_ok-entry_at.field-0 c.entry_at.new.entry) (λ after. IfOk c.find_right.result (λ end.
    if_found end.found c.find_right.new.entry ≡ first_entry (entries_of_rows c.args.self.now.layout after)))
    _ _ c.self.view_is c.requires.sought c.follow.ensures.unchanged c.follow.ensures.only c.follow.ensures.agrees
    c.entry_at.ensures.unchanged c.entry_at.ensures.only c.entry_at.ensures.agrees
    (ap (λ (b : Bool). if_found b c.entry_at.new.entry) c.if-branch.false) c.in_ok-entry_at.ensures.entry
    c.find_right.ensures.entry honest agrees tree (c.in_ok-way.ensures.way honest agrees levels tree) in
    IfOk-weaker c.find_right.result _ _ (λ end is. is ∙ said.0.is) said.1

pub returns-clause-damaged : goal.returns-clause-damaged
returns-clause-damaged g c = λ honest agrees told levels holds.
    let way = c.in_ok-way.way in
    let tree = rooted_tree c.args.self.now c.self.inside.layout c.self.inside.root
    (pages_on g.D.Device c.args.pages.now c.args.device.now) levels c.self.view_is
    (root_there c.args.self.now _ _ c.self.view_is c.requires.root) holds in
    (right_of g.D.Device c.args.pages.now c.follow.new.pages c.entry_at.new.pages c.args.device.now
    c.follow.new.device c.entry_at.new.device _ c.args.self.now c.args.key.now levels way.path.items way.page way.right
    c.args.sought (if_found c.in_ok-entry_at.field-0 c.entry_at.new.entry) (λ after. ⊥)
    _ _ c.self.view_is c.requires.sought c.follow.ensures.unchanged c.follow.ensures.only c.follow.ensures.agrees
    c.entry_at.ensures.unchanged c.entry_at.ensures.only c.entry_at.ensures.agrees
    (ap (λ (b : Bool). if_found b c.entry_at.new.entry) c.if-branch.false)
    c.in_ok-entry_at.ensures.entry (λ h a. c.find_right.ensures.damaged h a told) honest agrees tree
    (c.in_ok-way.ensures.way honest agrees levels tree)).1

pub returns-in_err-way-clause-only : goal.returns-in_err-way-clause-only
returns-in_err-way-clause-only g c = passed c.from_residual.result c.in_err-way.field-0.0 c.from_residual.ensures.1
    (λ r. OnlyReads g.D.Device (r ≡ Err Device) c.args.device.now c.follow.new.device)
    (reads_where g.D.Device _ _ _ _ (λ is. still_error is) c.in_err-way.ensures.only)

pub returns-in_err-entry_at-clause-only : goal.returns-in_err-entry_at-clause-only
returns-in_err-entry_at-clause-only g c =
    passed c.from_residual-in_err-entry_at.result c.in_err-entry_at.field-0.0 c.from_residual-in_err-entry_at.ensures.1
    (λ r. OnlyReads g.D.Device (r ≡ Err Device) c.args.device.now c.entry_at.new.device)
    (reads_then g.D.Device _ _ _ _ _ _ (λ is. inr (still_error is)) c.follow.ensures.only
    c.in_err-entry_at.ensures.only)

pub returns-then-branch-clause-only : goal.returns-then-branch-clause-only
returns-then-branch-clause-only g c = reads_then g.D.Device _ _ _ _ _ _ (λ is. never_ok is) c.follow.ensures.only
    c.entry_at.ensures.only

pub returns-clause-only : goal.returns-clause-only
returns-clause-only g c = reads_then g.D.Device _ _ _ _ _ _ (λ is. inr is)
    (reads_then g.D.Device _ _ ⊥ _ _ _ (λ never. absurd never) c.follow.ensures.only c.entry_at.ensures.only)
    c.find_right.ensures.only

pub returns-in_err-entry_at-clause-agrees : goal.returns-in_err-entry_at-clause-agrees
returns-in_err-entry_at-clause-agrees g c = λ honest agrees.
    c.entry_at.ensures.agrees (c.follow.ensures.only.honest.0 honest) (c.follow.ensures.agrees honest agrees)

pub returns-then-branch-clause-agrees : goal.returns-then-branch-clause-agrees
returns-then-branch-clause-agrees g c = λ honest agrees.
    c.entry_at.ensures.agrees (c.follow.ensures.only.honest.0 honest) (c.follow.ensures.agrees honest agrees)

pub returns-clause-agrees : goal.returns-clause-agrees
returns-clause-agrees g c = λ honest agrees.
    c.find_right.ensures.agrees (c.entry_at.ensures.only.honest.0 (c.follow.ensures.only.honest.0 honest))
    (c.entry_at.ensures.agrees (c.follow.ensures.only.honest.0 honest) (c.follow.ensures.agrees honest agrees))

pub returns-in_err-way-clause-cause : goal.returns-in_err-way-clause-cause
returns-in_err-way-clause-cause g c = passed c.from_residual.result c.in_err-way.field-0.0 c.from_residual.ensures.1
    (λ r. IfErr r (IsSearchRefusal c.args.self.now.layout))
    (subst (λ (t : RootedTree). IsSearchRefusal t.layout c.in_err-way.field-0.0) c.self.view_is
    c.in_err-way.ensures.cause)

pub returns-in_err-entry_at-clause-cause : goal.returns-in_err-entry_at-clause-cause
returns-in_err-entry_at-clause-cause g c =
    passed c.from_residual-in_err-entry_at.result c.in_err-entry_at.field-0.0 c.from_residual-in_err-entry_at.ensures.1
    (λ r. IfErr r (IsSearchRefusal c.args.self.now.layout))
    (read_is_search c.args.self.now.layout c.in_err-entry_at.field-0.0 c.in_err-entry_at.ensures.cause)

pub returns-then-branch-clause-damaged : goal.returns-then-branch-clause-damaged
returns-then-branch-clause-damaged g c = λ honest agrees is. never_ok is

pub entry_at-requires-clause-sectors : goal.entry_at-requires-clause-sectors
entry_at-requires-clause-sectors g c = sectors_on c.args.pages.now c.follow.new.pages _ _
    c.follow.ensures.unchanged.committed.volume c.follow.ensures.only.sectors c.requires.sectors

pub find_right-requires : goal.find_right-requires
find_right-requires g c = record {
  sectors = sectors_on c.args.pages.now c.entry_at.new.pages _ _
      (c.entry_at.ensures.unchanged.committed.volume ∙ c.follow.ensures.unchanged.committed.volume)
      (c.entry_at.ensures.only.sectors ∙ c.follow.ensures.only.sectors) c.requires.sectors;
}

pub returns-in_err-way-clause-spent : goal.returns-in_err-way-clause-spent
returns-in_err-way-clause-spent g c = passed c.from_residual.result c.in_err-way.field-0.0 c.from_residual.ensures.1
    (λ r. (r ≡ Err Spent) ↔ (is_spent c.args.pages.now ≡ true))
    (λ is. c.in_err-way.ensures.spent.0 (still_error is), λ is. still_error (c.in_err-way.ensures.spent.1 is))

pub returns-in_err-entry_at-clause-spent : goal.returns-in_err-entry_at-clause-spent
returns-in_err-entry_at-clause-spent g c =
    passed c.from_residual-in_err-entry_at.result c.in_err-entry_at.field-0.0 c.from_residual-in_err-entry_at.ensures.1
    (λ r. (r ≡ Err Spent) ↔ (is_spent c.args.pages.now ≡ true)) (
      λ is. sym c.follow.ensures.unchanged.committed.spent ∙ c.in_err-entry_at.ensures.spent.0 (still_error is),
      λ is. never_ok (sym c.in_ok-way.was ∙ c.follow.ensures.spent.1 is),
    )

pub returns-then-branch-clause-spent : goal.returns-then-branch-clause-spent
returns-then-branch-clause-spent g c =
    (λ is. never_ok is, λ is. never_ok (sym c.in_ok-way.was ∙ c.follow.ensures.spent.1 is))

pub returns-clause-spent : goal.returns-clause-spent
returns-clause-spent g c = (
  λ is. sym (c.entry_at.ensures.unchanged.committed.spent ∙ c.follow.ensures.unchanged.committed.spent)
      ∙ c.find_right.ensures.spent is,
  λ is. never_ok (sym c.in_ok-way.was ∙ c.follow.ensures.spent.1 is),
)

pub returns-then-branch-clause-leaf : goal.returns-then-branch-clause-leaf
returns-then-branch-clause-leaf g c = λ honest agrees levels holds found.
    let way = c.in_ok-way.way in
    let pages = pages_on g.D.Device c.args.pages.now c.args.device.now in
    let tree = rooted_tree c.args.self.now c.self.inside.layout c.self.inside.root pages levels c.self.view_is
    (root_there c.args.self.now _ _ c.self.view_is c.requires.root) holds in
    leaf_of_way c.self.inside.layout pages c.self.inside.root c.args.key.now levels way.path.items way.page way.right
    tree (c.in_ok-way.ensures.way honest agrees levels tree)

pub returns-clause-leaf : goal.returns-clause-leaf
returns-clause-leaf g c = λ honest agrees levels holds.
    let tree = holds_tree c.args.self.now.layout (pages_on g.D.Device c.args.pages.now c.args.device.now)
    c.args.self.now.root levels holds c.requires.root in
    pages_before g.D.Device _ c.args.pages.now c.follow.new.pages c.args.device.now c.follow.new.device
    (LeavesIn c.args.self.now c.find_right.result) c.follow.ensures.unchanged c.follow.ensures.only
    c.follow.ensures.agrees (pages_before g.D.Device _ c.follow.new.pages c.entry_at.new.pages c.follow.new.device
    c.entry_at.new.device (LeavesIn c.args.self.now c.find_right.result) c.entry_at.ensures.unchanged
    c.entry_at.ensures.only c.entry_at.ensures.agrees c.find_right.ensures.leaf) honest agrees levels tree
