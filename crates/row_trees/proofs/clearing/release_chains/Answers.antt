use Rattle.std.proofs.Common.{List, [], ℕ, length, sym, ap, subst, ◌∙◌, arith}
use Rattle.std.specs.Prelude.{Option, None, IfErr, IfSome}
use Rattle.byteorder.specs.Endian.{big_number}
use Rattle.btree.specs.Changes.{pages_of_map}
use Rattle.btree.specs.Entries.{Entry, HasLengths, first_entry_after}
use Rattle.btree.specs.Moves.{Moves}
use Rattle.btree.specs.Refusals.{IsChangeRefusal}
use Rattle.btree.proofs.Passing.{passed, never_ok, search_is_change, sectors_on, damaged_not_device}
use Rattle.row_trees.specs.Calls.{EditsPages}
use Rattle.row_trees.proofs.Among.{chained, chains_alone, stands_alone, stored_in}
use Rattle.row_trees.proofs.Calling.{looks_by, looks_edits, read_edits, edits_by, edits_where, edits_last, edits_more}
use Rattle.row_trees.proofs.Calling.{edits_after, refused_by_call, tree_before}
use Rattle.row_trees.proofs.Forms.{fits_long}
use Rattle.row_trees.proofs.Releasing.{Releasing, releases_some, releases_end}
use Rattle.row_trees.proofs.ReleasedRows.{NextRow, releases_begin, next_never, gone_never, released_next}
use Rattle.row_trees.proofs.clearing.release_chains.Given.{Over}
use Rattle.row_trees.proofs.clearing.release_chains.Goals as goal
use Rattle.row_trees.proofs.clearing.release_chains.Goals.{After-release}

pub loop-place-init : goal.loop-place-init
loop-place-init g c =
    let one = c.count.ensures in
    let two = c.first.ensures in
    let counted = looks_by g.D.Device _ _ _ _ _ one.only one.unchanged one.agrees in
    let looked = looks_by g.D.Device _ _ _ _ _ two.only two.unchanged two.agrees in
    record {
      edits = edits_after g.D.Device counted (looks_edits g.D.Device _ _ _ _ _ looked) (λ never. absurd never);
      filled = omega (arith, one.unchanged.filled, two.unchanged.filled);
      lengths = c.in_ok-next.ensures.lengths;
      rest = releases_begin g.D.Device counted looked c.in_ok-next.ensures.entry;
    }

-- the chain of the next entry is there
next_row : (g : Over) (c : After-release g) → NextRow g.D.Device c.args.pages.now c.loop-place.pages c.args.device.now
    c.loop-place.device (chained c.args.tree.now c.args.record_bytes) c.loop-place.place c.in-Some.entry
    c.first_page.result
next_row g c = let invariant = c.loop-place.invariant in
    record {
      edits = invariant.edits;
      rest = λ honest agrees planted is.
          let image = (g.D.Device.state c.args.device.now).disk.present in
          subst (Releasing (pages_of_map c.args.pages.now image) (chained c.args.tree.now c.args.record_bytes)
          planted.levels (pages_of_map c.loop-place.pages image) c.loop-place.place) c.in-Some.is
          (invariant.rest honest agrees planted is);
      first_is = c.first_page.ensures ∙ ap (big_number 4) c.value.ensures;
      long = c.requires.chains;
    }

-- and what is changed when it is released
released : (g : Over) (c : After-release g) → EditsPages g.D.Device ⊥ c.args.pages.now c.args.device.now
    c.release.new.pages c.release.new.device
released g c = let rel = c.release.ensures in
    edits_more g.D.Device _ _ _ _ _ _ _ c.loop-place.invariant.edits
    (edits_by g.D.Device _ _ _ _ _ rel.only rel.committed rel.catalog rel.agrees)

pub loop-place-preserved : goal.loop-place-preserved
loop-place-preserved g c =
    let at = (goal.at.loop-place-preserved g c).After-release in
    let nxt = c.next.ensures in
    record {
      edits = edits_more g.D.Device _ _ _ _ _ _ _ (released g at)
          (read_edits g.D.Device (λ is. is) nxt.only nxt.unchanged nxt.agrees);
      filled = omega (arith, c.loop-place.invariant.filled, c.release.ensures.filled, nxt.unchanged.filled);
      lengths = c.in_ok-next-2.ensures.lengths;
      rest = released_next g.D.Device (next_row g at) c.in_ok-release.ensures.released (released g at)
          (λ h a levels tree. c.in_ok-next-2.ensures.entry h a levels tree
          ∙ ap (first_entry_after (stored_in (chained c.args.tree.now c.args.record_bytes) levels)) c.key.ensures)
          nxt.unchanged;
    }

-- What the calls require.
pub first_page-requires : goal.first_page-requires
first_page-requires g c =
    let lengths : HasLengths c.args.tree.now.layout c.in-Some.entry =
    subst (λ (o : Option Entry). IfSome o (HasLengths c.args.tree.now.layout)) c.in-Some.is
    c.loop-place.invariant.lengths in
    let fits = (fits_long c.args.record_bytes c.args.tree.now.layout c.requires.chains c.requires.form).0 in
    let long = lengths.1 in
    let same = ap (λ (l : List ℕ). length l) c.value.ensures in
    omega (arith, fits, long, same)

pub release-requires : goal.release-requires
release-requires g c = record {
  sectors = sectors_on c.args.pages.now c.loop-place.pages _ _ c.loop-place.invariant.edits.committed.volume
      c.loop-place.invariant.edits.only.sectors c.requires.sectors;
}

pub next-requires : goal.next-requires
next-requires g c =
    let edits = c.loop-place.invariant.edits in
    record {
      sectors = sectors_on c.loop-place.pages c.release.new.pages _ _ c.release.ensures.committed.volume
          c.release.ensures.only.sectors (sectors_on c.args.pages.now c.loop-place.pages _ _ edits.committed.volume
          edits.only.sectors c.requires.sectors);
    }

-- The entries are not counted, or the first one is not found.
pub returns-in_err-count-clause-edits : goal.returns-in_err-count-clause-edits
returns-in_err-count-clause-edits g c =
    let one = c.count.ensures in
    let passed = refused_by_call c.in_err-count.was c.from_residual.ensures.1 in
    read_edits g.D.Device passed one.only one.unchanged one.agrees

pub returns-in_err-count-clause-damaged : goal.returns-in_err-count-clause-damaged
returns-in_err-count-clause-damaged g c = λ honest agrees planted is told.
    let image = (g.D.Device.state c.args.device.now).disk.present in
    let before = pages_of_map c.args.pages.now image in
    let rows = chained c.args.tree.now c.args.record_bytes in
    let levels = planted.levels in
    c.count.ensures.damaged honest agrees (refused_by_call c.in_err-count.was c.from_residual.ensures.1 told) levels
    (stands_alone before rows planted is).tree

pub returns-in_err-count-clause-filled : goal.returns-in_err-count-clause-filled
returns-in_err-count-clause-filled g c =
    let a = c.count.ensures.unchanged.filled in omega (arith, a)

pub returns-in_err-next-clause-edits : goal.returns-in_err-next-clause-edits
returns-in_err-next-clause-edits g c =
    let one = c.count.ensures in
    let two = c.first.ensures in
    edits_after g.D.Device (looks_by g.D.Device _ _ _ _ _ one.only one.unchanged one.agrees)
    (read_edits g.D.Device (λ is. is) two.only two.unchanged two.agrees)
    (refused_by_call c.in_err-next.was c.from_residual-in_err-next.ensures.1)

pub returns-in_err-next-clause-damaged : goal.returns-in_err-next-clause-damaged
returns-in_err-next-clause-damaged g c = λ honest agrees planted is told.
    let image = (g.D.Device.state c.args.device.now).disk.present in
    let before = pages_of_map c.args.pages.now image in
    let rows = chained c.args.tree.now c.args.record_bytes in
    let one = c.count.ensures in
    let damaged = refused_by_call c.in_err-next.was c.from_residual-in_err-next.ensures.1 told in
    tree_before g.D.Device (looks_by g.D.Device _ _ _ _ _ one.only one.unchanged one.agrees)
    (λ h a levels tree. c.first.ensures.damaged h a damaged levels tree) honest agrees planted.levels
    (stands_alone before rows planted is).tree

pub returns-in_err-next-clause-filled : goal.returns-in_err-next-clause-filled
returns-in_err-next-clause-filled g c =
    let a = c.count.ensures.unchanged.filled in
    let b = c.first.ensures.unchanged.filled in
    omega (arith, a, b)

pub returns-in_err-next-clause-spent : goal.returns-in_err-next-clause-spent
returns-in_err-next-clause-spent g c = λ is.
    sym c.count.ensures.unchanged.committed.spent
    ∙ (c.first.ensures.spent.0 (refused_by_call c.in_err-next.was c.from_residual-in_err-next.ensures.1 is)).0

pub returns-in_err-next-clause-cause : goal.returns-in_err-next-clause-cause
returns-in_err-next-clause-cause g c =
    passed _ _ c.from_residual-in_err-next.ensures.1 (λ r. IfErr r IsChangeRefusal)
    (search_is_change c.args.tree.now.layout c.in_err-next.field-0.0 c.in_err-next.ensures.cause)

-- There is no next entry.
pub returns-in-None-clause-edits : goal.returns-in-None-clause-edits
returns-in-None-clause-edits g c =
    edits_where g.D.Device _ _ _ _ _ _ (λ is. damaged_not_device is) c.loop-place.invariant.edits

pub returns-in-None-clause-damaged : goal.returns-in-None-clause-damaged
returns-in-None-clause-damaged g c = λ honest agrees planted is told.
    let image = (g.D.Device.state c.args.device.now).disk.present in
    let before = pages_of_map c.args.pages.now image in
    let rows = chained c.args.tree.now c.args.record_bytes in
    let levels = planted.levels in
    let loop = c.loop-place in
    let invariant = loop.invariant in
    let state : Releasing before rows levels (pages_of_map loop.pages image) loop.place None =
    subst (Releasing before rows levels (pages_of_map loop.pages image) loop.place) c.in-None.is
    (invariant.rest honest agrees planted is) in
    let counted = c.in_ok-count.ensures.count honest agrees levels (stands_alone before rows planted is).tree in
    let low = c.loop-place-test.true in
    releases_some before rows levels (pages_of_map loop.pages image) loop.place state (omega (arith, low, counted))

pub returns-in-None-clause-filled : goal.returns-in-None-clause-filled
returns-in-None-clause-filled g c =
    c.loop-place.invariant.filled

-- A chain is not released.
pub returns-in_err-release-clause-edits : goal.returns-in_err-release-clause-edits
returns-in_err-release-clause-edits g c =
    let rel = c.release.ensures in
    edits_last g.D.Device ⊥ _ _ _ _ _ _ _ _
    (refused_by_call c.in_err-release.was c.from_residual-in_err-release.ensures.1) c.loop-place.invariant.edits
    (edits_by g.D.Device _ _ _ _ _ rel.only rel.committed rel.catalog rel.agrees)

pub returns-in_err-release-clause-damaged : goal.returns-in_err-release-clause-damaged
returns-in_err-release-clause-damaged g c =
    next_never g.D.Device (next_row g (goal.at.returns-in_err-release-clause-damaged g c).After-release)
    c.release.ensures.damaged (refused_by_call c.in_err-release.was c.from_residual-in_err-release.ensures.1)

pub returns-in_err-release-clause-filled : goal.returns-in_err-release-clause-filled
returns-in_err-release-clause-filled g c =
    let a = c.loop-place.invariant.filled in
    let b = c.release.ensures.filled in
    omega (arith, a, b)

pub returns-in_err-release-clause-spent : goal.returns-in_err-release-clause-spent
returns-in_err-release-clause-spent g c = λ is.
    sym c.loop-place.invariant.edits.committed.spent
    ∙ (c.release.ensures.spent.0 (refused_by_call c.in_err-release.was c.from_residual-in_err-release.ensures.1 is)).0

-- The next entry is not found.
pub returns-in_err-next-2-clause-edits : goal.returns-in_err-next-2-clause-edits
returns-in_err-next-2-clause-edits g c =
    let nxt = c.next.ensures in
    edits_last g.D.Device _ _ _ _ _ _ _ _ _
    (refused_by_call c.in_err-next-2.was c.from_residual-in_err-next-2.ensures.1)
    (released g (goal.at.returns-in_err-next-2-clause-edits g c).After-release)
    (read_edits g.D.Device (λ is. is) nxt.only nxt.unchanged nxt.agrees)

pub returns-in_err-next-2-clause-damaged : goal.returns-in_err-next-2-clause-damaged
returns-in_err-next-2-clause-damaged g c =
    let at = (goal.at.returns-in_err-next-2-clause-damaged g c).After-release in
    gone_never g.D.Device (next_row g at) c.in_ok-release.ensures.released (released g at) c.next.ensures.damaged
    (refused_by_call c.in_err-next-2.was c.from_residual-in_err-next-2.ensures.1)

pub returns-in_err-next-2-clause-filled : goal.returns-in_err-next-2-clause-filled
returns-in_err-next-2-clause-filled g c =
    let a = c.loop-place.invariant.filled in
    let b = c.release.ensures.filled in
    let e = c.next.ensures.unchanged.filled in
    omega (arith, a, b, e)

pub returns-in_err-next-2-clause-spent : goal.returns-in_err-next-2-clause-spent
returns-in_err-next-2-clause-spent g c = λ is.
    sym c.loop-place.invariant.edits.committed.spent ∙ sym c.release.ensures.committed.spent
    ∙ (c.next.ensures.spent.0 (refused_by_call c.in_err-next-2.was c.from_residual-in_err-next-2.ensures.1 is)).0

pub returns-in_err-next-2-clause-cause : goal.returns-in_err-next-2-clause-cause
returns-in_err-next-2-clause-cause g c =
    passed _ _ c.from_residual-in_err-next-2.ensures.1 (λ r. IfErr r IsChangeRefusal)
    (search_is_change c.args.tree.now.layout c.in_err-next-2.field-0.0 c.in_err-next-2.ensures.cause)

-- The end.
pub returns-clause-edits : goal.returns-clause-edits
returns-clause-edits g c =
    edits_where g.D.Device _ _ _ _ _ _ (λ is. never_ok is) c.loop-place.invariant.edits

pub returns-clause-released : goal.returns-clause-released
returns-clause-released g c = λ honest agrees planted is.
    let image = (g.D.Device.state c.args.device.now).disk.present in
    let before = pages_of_map c.args.pages.now image in
    let rows = chained c.args.tree.now c.args.record_bytes in
    let levels = planted.levels in
    let loop = c.loop-place in
    let invariant = loop.invariant in
    let counted = c.in_ok-count.ensures.count honest agrees levels (stands_alone before rows planted is).tree in
    let test = c.loop-place-test.false in
    let bound = c.loop-place.auto.place-end in
    subst (λ (l : List ℕ). Moves before l (pages_of_map loop.pages image) [])
    (sym (chains_alone before rows planted is))
    (releases_end before rows levels (pages_of_map loop.pages image) loop.place loop.next
    (invariant.rest honest agrees planted is) (omega (arith, counted, test, bound)))

pub returns-clause-filled : goal.returns-clause-filled
returns-clause-filled g c =
    c.loop-place.invariant.filled
