use Rattle.std.proofs.Common.{◌≡◌, Ok, Err, refl, sym, ap, ◌∙◌}
use Rattle.std.specs.Prelude.{IfErr}
use Rattle.byteorder.specs.Endian.{big_number}
use Rattle.pages.specs.declared.error.PagesError.TheVariants.{Device}
use Rattle.btree.specs.Refusals.{IsChangeRefusal}
use Rattle.btree.proofs.Passing.{passed, never_ok, never_err, on_refused, few_weaker, few_equal}
use Rattle.btree.proofs.Passing.{search_is_change, damaged_not_device, damaged_not_spent, true_not_false, sectors_on}
use Rattle.row_trees.specs.RowTree.{ChainedTree}
use Rattle.row_trees.proofs.Among.{chained, same_chained}
use Rattle.row_trees.proofs.Calling.{looks_by, read_edits, edits_by, edits_last, edits_after, tree_before}
use Rattle.row_trees.proofs.Calling.{refused_by_call}
use Rattle.row_trees.proofs.Forms.{fits_still}
use Rattle.row_trees.proofs.Passing.{on_ok, none_not_some, never_answered}
use Rattle.row_trees.proofs.Short.{where_among, never_among, missing_among, removed_among}
use Rattle.row_trees.proofs.TakenRows.{TakesEntry, then_never, taken_never, taken_few, removed_on}
use Rattle.row_trees.proofs.row_tree.RowTree.remove.Given.{Over}
use Rattle.row_trees.proofs.row_tree.RowTree.remove.Goals as goal
use Rattle.row_trees.proofs.row_tree.RowTree.remove.Goals.{After-release}

-- The tree has its records itself.
pub returns-then-self-eq0-clause-removed : goal.returns-then-self-eq0-clause-removed
returns-then-self-eq0-clause-removed g c =
    removed_among g.D.Device c.remove.new.pages c.self.view_is c.if-self-eq0.true c.remove.ensures.layout refl
    c.remove.ensures.removed

pub returns-then-self-eq0-clause-missing : goal.returns-then-self-eq0-clause-missing
returns-then-self-eq0-clause-missing g c = missing_among g.D.Device c.self.view_is c.remove.ensures.missing

pub returns-then-self-eq0-clause-damaged : goal.returns-then-self-eq0-clause-damaged
returns-then-self-eq0-clause-damaged g c =
    never_among g.D.Device c.self.view_is c.remove.ensures.damaged (λ told. told)

pub returns-then-self-eq0-clause-changed_pages : goal.returns-then-self-eq0-clause-changed_pages
returns-then-self-eq0-clause-changed_pages g c =
    where_among g.D.Device c.self.view_is c.remove.ensures.few.changed_pages
    (on_ok c.remove.result _ _ (few_weaker _ _ 42 _))

pub returns-then-self-eq0-clause-same : goal.returns-then-self-eq0-clause-same
returns-then-self-eq0-clause-same g c = λ no. (
  (c.remove.ensures.same no).0,
  same_chained _ _ c.self.inside.record_bytes _ (c.remove.ensures.same no).1 c.self.view_is,
)

-- No search succeeded.
pub returns-in_err-entry-clause-edits : goal.returns-in_err-entry-clause-edits
returns-in_err-entry-clause-edits g c =
    let got = c.get.ensures in
    let passed = refused_by_call c.in_err-entry.was c.from_residual.ensures.1 in
    read_edits g.D.Device passed got.only got.unchanged got.agrees

pub returns-in_err-entry-clause-damaged : goal.returns-in_err-entry-clause-damaged
returns-in_err-entry-clause-damaged g c =
    never_among g.D.Device c.self.view_is c.get.ensures.damaged
    (refused_by_call c.in_err-entry.was c.from_residual.ensures.1)

pub returns-in_err-entry-clause-cause : goal.returns-in_err-entry-clause-cause
returns-in_err-entry-clause-cause g c =
    passed _ _ c.from_residual.ensures.1 (λ r. IfErr r IsChangeRefusal)
    (search_is_change c.self.inside.tree.layout c.in_err-entry.field-0.0 c.in_err-entry.ensures.cause)

-- There is no such row.
pub returns-in-None-clause-edits : goal.returns-in-None-clause-edits
returns-in-None-clause-edits g c =
    let got = c.get.ensures in
    read_edits g.D.Device (λ is. never_ok is) got.only got.unchanged got.agrees

pub returns-in-None-clause-missing : goal.returns-in-None-clause-missing
returns-in-None-clause-missing g c =
    missing_among g.D.Device c.self.view_is
    (λ honest agrees levels tree no. sym (c.in_ok-entry.ensures.entry honest agrees levels tree) ∙ c.in-None.is)

pub returns-in-None-clause-same : goal.returns-in-None-clause-same
returns-in-None-clause-same g c = λ no. (c.get.ensures.unchanged, refl)

-- The entry did not leave the tree.
pub returns-in_err-removed-clause-edits : goal.returns-in_err-removed-clause-edits
returns-in_err-removed-clause-edits g c =
    let got = c.get.ensures in
    edits_after g.D.Device (looks_by g.D.Device _ _ _ _ _ got.only got.unchanged got.agrees) c.remove-2.ensures.edits
    (refused_by_call c.in_err-removed.was c.from_residual-in_err-removed.ensures.1)

pub returns-in_err-removed-clause-damaged : goal.returns-in_err-removed-clause-damaged
returns-in_err-removed-clause-damaged g c =
    let got = c.get.ensures in
    then_never g.D.Device (looks_by g.D.Device _ _ _ _ _ got.only got.unchanged got.agrees) c.self.view_is
    c.remove-2.ensures.damaged (refused_by_call c.in_err-removed.was c.from_residual-in_err-removed.ensures.1)

pub returns-in_err-removed-clause-spent : goal.returns-in_err-removed-clause-spent
returns-in_err-removed-clause-spent g c = λ is.
    sym c.get.ensures.unchanged.committed.spent
    ∙ (c.remove-2.ensures.spent.0 (refused_by_call c.in_err-removed.was c.from_residual-in_err-removed.ensures.1 is)).0

pub returns-then-not-removed-clause-edits : goal.returns-then-not-removed-clause-edits
returns-then-not-removed-clause-edits g c =
    let got = c.get.ensures in
    edits_after g.D.Device (looks_by g.D.Device _ _ _ _ _ got.only got.unchanged got.agrees) c.remove-2.ensures.edits
    (λ is. damaged_not_device is)

pub returns-then-not-removed-clause-damaged : goal.returns-then-not-removed-clause-damaged
returns-then-not-removed-clause-damaged g c =
    let got = c.get.ensures in
    let no = c.in_ok-removed.was ∙ ap Ok c.if-not-removed.true in
    let gone = tree_before g.D.Device (looks_by g.D.Device _ _ _ _ _ got.only got.unchanged got.agrees)
    (λ honest agrees levels tree. c.remove-2.ensures.missing honest agrees levels tree no) in
    where_among g.D.Device {C = ⊥} c.self.view_is (λ honest agrees levels tree. none_not_some
    (sym (gone honest agrees levels tree) ∙ sym (c.in_ok-entry.ensures.entry honest agrees levels tree) ∙ c.in-Some.is))
    (λ never told. never)

-- Its entry was taken out of the tree, and its chain was not released.
takes : (g : Over) (c : After-release g) → TakesEntry g.D.Device (c.get.result ≡ Err Device)
    (c.remove-2.result ≡ Err Device) c.args.pages.now c.get.new.pages c.remove-2.new.pages c.args.device.now
    c.get.new.device c.remove-2.new.device (chained c.self.inside.tree c.self.inside.record_bytes)
    c.remove-2.new.self.root c.args.key.now c.in-Some.entry c.first_page-first.result
takes g c = let got = c.get.ensures in
    let cut = c.remove-2.ensures in
    let done = c.in_ok-removed.was ∙ ap Ok c.if-not-removed.false in
    record {
      looks = looks_by g.D.Device _ _ _ _ _ got.only got.unchanged got.agrees;
      found = λ h a levels tree. sym (c.in_ok-entry.ensures.entry h a levels tree) ∙ c.in-Some.is;
      taken = λ h a levels tree. cut.removed h a levels tree done;
      edits = cut.edits;
      first_is = c.first_page-first.ensures ∙ ap (big_number 4) c.value.ensures;
      long = c.if-self-eq0.false;
    }

pub returns-in_err-release-clause-edits : goal.returns-in_err-release-clause-edits
returns-in_err-release-clause-edits g c =
    let take = takes g (goal.at.returns-in_err-release-clause-edits g c).After-release in
    let end = c.release.ensures in
    edits_last g.D.Device _ _ _ _ _ _ _ _ _
    (refused_by_call c.in_err-release.was c.from_residual-in_err-release.ensures.1)
    (edits_after g.D.Device take.looks take.edits (λ is. is))
    (edits_by g.D.Device _ _ _ _ _ end.only end.committed end.catalog end.agrees)

pub returns-in_err-release-clause-damaged : goal.returns-in_err-release-clause-damaged
returns-in_err-release-clause-damaged g c =
    taken_never g.D.Device (takes g (goal.at.returns-in_err-release-clause-damaged g c).After-release) c.self.view_is
    c.release.ensures.damaged (refused_by_call c.in_err-release.was c.from_residual-in_err-release.ensures.1)

pub returns-in_err-release-clause-spent : goal.returns-in_err-release-clause-spent
returns-in_err-release-clause-spent g c = λ is.
    sym c.get.ensures.unchanged.committed.spent ∙ sym c.remove-2.ensures.edits.committed.spent
    ∙ (c.release.ensures.spent.0 (refused_by_call c.in_err-release.was c.from_residual-in_err-release.ensures.1 is)).0

-- It was.
pub returns-clause-edits : goal.returns-clause-edits
returns-clause-edits g c =
    let take = takes g (goal.at.returns-clause-edits g c).After-release in
    let end = c.release.ensures in
    edits_last g.D.Device _ _ _ _ _ _ _ _ _ (λ is. never_ok is)
    (edits_after g.D.Device take.looks take.edits (λ is. is))
    (edits_by g.D.Device _ _ _ _ _ end.only end.committed end.catalog end.agrees)

pub returns-clause-removed : goal.returns-clause-removed
returns-clause-removed g c =
    removed_on g.D.Device c.release.new.pages (takes g (goal.at.returns-clause-removed g c).After-release)
    c.self.view_is
    c.in_ok-release.ensures.released c.remove-2.ensures.layout refl

pub returns-clause-changed_pages : goal.returns-clause-changed_pages
returns-clause-changed_pages g c =
    let got = c.get.ensures in
    taken_few g.D.Device c.remove-2.new.pages c.release.new.pages _
    (looks_by g.D.Device _ _ _ _ _ got.only got.unchanged got.agrees) c.self.view_is
    c.in_ok-removed.ensures.few.changed_pages c.release.ensures.changed_pages

-- What else the call on the tree answers, where it has its records itself.
pub returns-then-self-eq0-clause-edits : goal.returns-then-self-eq0-clause-edits
returns-then-self-eq0-clause-edits g c = c.remove.ensures.edits

pub returns-then-self-eq0-clause-layout : goal.returns-then-self-eq0-clause-layout
returns-then-self-eq0-clause-layout g c =
    c.remove.ensures.layout ∙ ap (λ (t : ChainedTree). t.tree.layout) c.self.view_is

pub returns-then-self-eq0-clause-form : goal.returns-then-self-eq0-clause-form
returns-then-self-eq0-clause-form g c = ap (λ (t : ChainedTree). t.record_bytes) c.self.view_is

pub returns-then-self-eq0-clause-spent : goal.returns-then-self-eq0-clause-spent
returns-then-self-eq0-clause-spent g c = λ is. (c.remove.ensures.spent.0 is).0

-- What a refusal or another answer rules out.
pub returns-in_err-entry-clause-removed : goal.returns-in_err-entry-clause-removed
returns-in_err-entry-clause-removed g c =
    λ honest agrees left right entries is ok. never_answered _ c.from_residual.ensures.1 ok

pub returns-in_err-entry-clause-missing : goal.returns-in_err-entry-clause-missing
returns-in_err-entry-clause-missing g c =
    λ honest agrees left right entries is no. never_answered _ c.from_residual.ensures.1 no

pub returns-in_err-entry-clause-same : goal.returns-in_err-entry-clause-same
returns-in_err-entry-clause-same g c = λ no. never_answered _ c.from_residual.ensures.1 no

pub returns-in_err-entry-clause-changed_pages : goal.returns-in_err-entry-clause-changed_pages
returns-in_err-entry-clause-changed_pages g c =
    λ honest agrees left right entries is. on_refused _ _ c.from_residual.ensures.1 _

pub returns-in_err-entry-clause-spent : goal.returns-in_err-entry-clause-spent
returns-in_err-entry-clause-spent g c =
    λ is. (c.get.ensures.spent.0 (refused_by_call c.in_err-entry.was c.from_residual.ensures.1 is)).0

pub returns-in_err-removed-clause-removed : goal.returns-in_err-removed-clause-removed
returns-in_err-removed-clause-removed g c =
    λ honest agrees left right entries is ok. never_answered _ c.from_residual-in_err-removed.ensures.1 ok

pub returns-in_err-removed-clause-missing : goal.returns-in_err-removed-clause-missing
returns-in_err-removed-clause-missing g c =
    λ honest agrees left right entries is no. never_answered _ c.from_residual-in_err-removed.ensures.1 no

pub returns-in_err-removed-clause-same : goal.returns-in_err-removed-clause-same
returns-in_err-removed-clause-same g c = λ no. never_answered _ c.from_residual-in_err-removed.ensures.1 no

pub returns-in_err-removed-clause-changed_pages : goal.returns-in_err-removed-clause-changed_pages
returns-in_err-removed-clause-changed_pages g c =
    λ honest agrees left right entries is. on_refused _ _ c.from_residual-in_err-removed.ensures.1 _

pub returns-in_err-removed-clause-layout : goal.returns-in_err-removed-clause-layout
returns-in_err-removed-clause-layout g c =
    c.remove-2.ensures.layout ∙ ap (λ (t : ChainedTree). t.tree.layout) c.self.view_is

pub returns-in_err-removed-clause-form : goal.returns-in_err-removed-clause-form
returns-in_err-removed-clause-form g c = ap (λ (t : ChainedTree). t.record_bytes) c.self.view_is

pub returns-in_err-removed-clause-cause : goal.returns-in_err-removed-clause-cause
returns-in_err-removed-clause-cause g c =
    passed _ _ c.from_residual-in_err-removed.ensures.1 (λ r. IfErr r IsChangeRefusal) c.in_err-removed.ensures.cause

pub returns-in_err-release-clause-removed : goal.returns-in_err-release-clause-removed
returns-in_err-release-clause-removed g c =
    λ honest agrees left right entries is ok. never_answered _ c.from_residual-in_err-release.ensures.1 ok

pub returns-in_err-release-clause-missing : goal.returns-in_err-release-clause-missing
returns-in_err-release-clause-missing g c =
    λ honest agrees left right entries is no. never_answered _ c.from_residual-in_err-release.ensures.1 no

pub returns-in_err-release-clause-same : goal.returns-in_err-release-clause-same
returns-in_err-release-clause-same g c = λ no. never_answered _ c.from_residual-in_err-release.ensures.1 no

pub returns-in_err-release-clause-changed_pages : goal.returns-in_err-release-clause-changed_pages
returns-in_err-release-clause-changed_pages g c =
    λ honest agrees left right entries is. on_refused _ _ c.from_residual-in_err-release.ensures.1 _

pub returns-in_err-release-clause-layout : goal.returns-in_err-release-clause-layout
returns-in_err-release-clause-layout g c =
    c.remove-2.ensures.layout ∙ ap (λ (t : ChainedTree). t.tree.layout) c.self.view_is

pub returns-in_err-release-clause-form : goal.returns-in_err-release-clause-form
returns-in_err-release-clause-form g c = ap (λ (t : ChainedTree). t.record_bytes) c.self.view_is

pub returns-in_err-release-clause-cause : goal.returns-in_err-release-clause-cause
returns-in_err-release-clause-cause g c =
    passed _ _ c.from_residual-in_err-release.ensures.1 (λ r. IfErr r IsChangeRefusal) c.in_err-release.ensures.cause

pub returns-in-None-clause-removed : goal.returns-in-None-clause-removed
returns-in-None-clause-removed g c = λ honest agrees left right entries is ok. true_not_false (sym ok)

pub returns-in-None-clause-damaged : goal.returns-in-None-clause-damaged
returns-in-None-clause-damaged g c = λ honest agrees left right entries is told. never_ok told

pub returns-in-None-clause-changed_pages : goal.returns-in-None-clause-changed_pages
returns-in-None-clause-changed_pages g c =
    λ honest agrees left right entries is. few_equal _ _ _ c.get.ensures.unchanged.changed_pages

pub returns-in-None-clause-spent : goal.returns-in-None-clause-spent
returns-in-None-clause-spent g c = λ is. never_ok is

pub returns-then-not-removed-clause-removed : goal.returns-then-not-removed-clause-removed
returns-then-not-removed-clause-removed g c = λ honest agrees left right entries is ok. never_err ok

pub returns-then-not-removed-clause-missing : goal.returns-then-not-removed-clause-missing
returns-then-not-removed-clause-missing g c = λ honest agrees left right entries is no. never_err no

pub returns-then-not-removed-clause-same : goal.returns-then-not-removed-clause-same
returns-then-not-removed-clause-same g c = λ no. never_err no

pub returns-then-not-removed-clause-layout : goal.returns-then-not-removed-clause-layout
returns-then-not-removed-clause-layout g c =
    c.remove-2.ensures.layout ∙ ap (λ (t : ChainedTree). t.tree.layout) c.self.view_is

pub returns-then-not-removed-clause-form : goal.returns-then-not-removed-clause-form
returns-then-not-removed-clause-form g c = ap (λ (t : ChainedTree). t.record_bytes) c.self.view_is

pub returns-then-not-removed-clause-spent : goal.returns-then-not-removed-clause-spent
returns-then-not-removed-clause-spent g c = λ is. damaged_not_spent is

pub returns-clause-damaged : goal.returns-clause-damaged
returns-clause-damaged g c = λ honest agrees left right entries is told. never_ok told

pub returns-clause-layout : goal.returns-clause-layout
returns-clause-layout g c = c.remove-2.ensures.layout ∙ ap (λ (t : ChainedTree). t.tree.layout) c.self.view_is

pub returns-clause-form : goal.returns-clause-form
returns-clause-form g c = ap (λ (t : ChainedTree). t.record_bytes) c.self.view_is

pub returns-clause-spent : goal.returns-clause-spent
returns-clause-spent g c = λ is. never_ok is

-- What the calls need.
pub remove-requires : goal.remove-requires
remove-requires g c = record { sectors = c.requires.sectors }

pub get-requires : goal.get-requires
get-requires g c = record { sectors = c.requires.sectors }

pub remove-requires-2 : goal.remove-requires-2
remove-requires-2 g c = record {
  sectors = sectors_on c.args.pages.now c.get.new.pages _ _ c.get.ensures.unchanged.committed.volume
      c.get.ensures.only.sectors c.requires.sectors;
}

pub release-requires : goal.release-requires
release-requires g c = record {
  sectors = sectors_on c.get.new.pages c.remove-2.new.pages _ _ c.remove-2.ensures.edits.committed.volume
      c.remove-2.ensures.edits.only.sectors (sectors_on c.args.pages.now c.get.new.pages _ _
      c.get.ensures.unchanged.committed.volume c.get.ensures.only.sectors c.requires.sectors);
}

pub invariant_of-self : goal.invariant_of-self
invariant_of-self g c =
    fits_still c.self.inside.record_bytes c.self.inside.tree.layout c.remove.new.self.layout
    c.remove.ensures.layout c.self.invariant

pub invariant_of-self-in_err-removed : goal.invariant_of-self-in_err-removed
invariant_of-self-in_err-removed g c =
    fits_still c.self.inside.record_bytes c.self.inside.tree.layout c.remove-2.new.self.layout
    c.remove-2.ensures.layout c.self.invariant

pub invariant_of-self-then-not-removed : goal.invariant_of-self-then-not-removed
invariant_of-self-then-not-removed g c =
    fits_still c.self.inside.record_bytes c.self.inside.tree.layout c.remove-2.new.self.layout
    c.remove-2.ensures.layout c.self.invariant

pub invariant_of-self-in_err-release : goal.invariant_of-self-in_err-release
invariant_of-self-in_err-release g c =
    fits_still c.self.inside.record_bytes c.self.inside.tree.layout c.remove-2.new.self.layout
    c.remove-2.ensures.layout c.self.invariant

pub invariant_of-self-2 : goal.invariant_of-self-2
invariant_of-self-2 g c =
    fits_still c.self.inside.record_bytes c.self.inside.tree.layout c.remove-2.new.self.layout
    c.remove-2.ensures.layout c.self.invariant
