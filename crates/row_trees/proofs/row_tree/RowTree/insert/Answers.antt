use Rattle.std.proofs.Common.{◌≡◌, Ok, Err, length, refl, sym, ap, subst, ◌∙◌, arith}
use Rattle.std.specs.Prelude.{IsSome, OnErr, IfErr}
use Rattle.pages.specs.declared.error.PagesError.TheVariants.{Device}
use Rattle.btree.specs.Refusals.{IsInsertRefusal}
use Rattle.btree.proofs.Passing.{passed, never_ok, never_err, few_weaker, few_equal, write_not_device}
use Rattle.btree.proofs.Passing.{false_not_true, true_not_false, committed_on, search_is_insert, write_is_insert}
use Rattle.btree.proofs.Passing.{damaged_not_device, damaged_not_spent, damaged_not_full, sectors_on}
use Rattle.row_trees.specs.Calls.{EditsPages}
use Rattle.row_trees.specs.RowTree.{ChainedTree, value_length}
use Rattle.row_trees.proofs.Among.{chained, same_chained}
use Rattle.row_trees.proofs.Calling.{looks_by, read_edits, edits_kept, refused_by_call}
use Rattle.row_trees.proofs.Forms.{whole_short, record_within, rest_few, fits_still}
use Rattle.row_trees.proofs.LaidRows.{LaysRecord, laid_edits, laid_few, laid_room, laid_never, laid_missing}
use Rattle.row_trees.proofs.LaidRows.{inserted_on, room_laid}
use Rattle.row_trees.proofs.Passing.{search_not_full, write_not_damaged, on_err, full_unspent, few_laid, few_first}
use Rattle.row_trees.proofs.Passing.{never_answered, room_weaker}
use Rattle.row_trees.proofs.Short.{short_insertion, where_among, never_among, present_among}
use Rattle.row_trees.proofs.row_tree.RowTree.insert.Given.{Over}
use Rattle.row_trees.proofs.row_tree.RowTree.insert.Goals as goal
use Rattle.row_trees.proofs.row_tree.RowTree.insert.Goals.{After-insert-2}

-- The tree has its records itself.
pub returns-then-self-eq0-clause-answers : goal.returns-then-self-eq0-clause-answers
returns-then-self-eq0-clause-answers g c =
    short_insertion g.D.Device c.self.view_is c.if-self-eq0.true c.insert.ensures.layout refl c.insert.ensures.inserted
    c.insert.ensures.there c.insert.ensures.damaged

pub returns-then-self-eq0-clause-changed_pages : goal.returns-then-self-eq0-clause-changed_pages
returns-then-self-eq0-clause-changed_pages g c =
    where_among g.D.Device c.self.view_is c.insert.ensures.few.changed_pages (few_weaker _ _ 42 _)

pub returns-then-self-eq0-clause-room : goal.returns-then-self-eq0-clause-room
returns-then-self-eq0-clause-room g c =
    where_among g.D.Device c.self.view_is c.insert.ensures.few.room (λ room full. room_weaker _ _ 42 _ (room full))

pub returns-then-self-eq0-clause-same : goal.returns-then-self-eq0-clause-same
returns-then-self-eq0-clause-same g c = λ no. (
  (c.insert.ensures.same no).0,
  same_chained _ _ c.self.inside.record_bytes _ (c.insert.ensures.same no).1 c.self.view_is,
)

pub returns-then-self-eq0-clause-refused : goal.returns-then-self-eq0-clause-refused
returns-then-self-eq0-clause-refused g c =
    on_err c.insert.result _ _ (λ same. same_chained _ _ c.self.inside.record_bytes _ same c.self.view_is)
    c.insert.ensures.refused

-- No search succeeded.
pub returns-in_err-get-clause-edits : goal.returns-in_err-get-clause-edits
returns-in_err-get-clause-edits g c =
    let got = c.get.ensures in
    let passed = refused_by_call c.in_err-get.was c.from_residual.ensures.1 in
    read_edits g.D.Device passed got.only got.unchanged got.agrees

pub returns-in_err-get-clause-answers : goal.returns-in_err-get-clause-answers
returns-in_err-get-clause-answers g c = let why = c.from_residual.ensures.1 in
    record {
      inserted = λ honest agrees left right entries is ok. never_answered _ why ok;
      there = λ honest agrees left right entries is no. never_answered _ why no;
      damaged = never_among g.D.Device c.self.view_is c.get.ensures.damaged (refused_by_call c.in_err-get.was why);
    }

pub returns-in_err-get-clause-changed_pages : goal.returns-in_err-get-clause-changed_pages
returns-in_err-get-clause-changed_pages g c =
    λ honest agrees left right entries is. few_equal _ _ _ c.get.ensures.unchanged.changed_pages

pub returns-in_err-get-clause-room : goal.returns-in_err-get-clause-room
returns-in_err-get-clause-room g c = λ honest agrees left right entries is full.
    search_not_full c.self.inside.tree.layout _ _ c.from_residual.ensures.1 c.in_err-get.ensures.cause full

pub returns-in_err-get-clause-cause : goal.returns-in_err-get-clause-cause
returns-in_err-get-clause-cause g c =
    passed _ _ c.from_residual.ensures.1 (λ r. IfErr r IsInsertRefusal)
    (search_is_insert c.self.inside.tree.layout c.in_err-get.field-0.0 c.in_err-get.ensures.cause)

-- The key is there.
pub returns-then-is_some-clause-edits : goal.returns-then-is_some-clause-edits
returns-then-is_some-clause-edits g c =
    let got = c.get.ensures in
    read_edits g.D.Device (λ is. never_ok is) got.only got.unchanged got.agrees

pub returns-then-is_some-clause-answers : goal.returns-then-is_some-clause-answers
returns-then-is_some-clause-answers g c = record {
  inserted = λ honest agrees left right entries is ok. false_not_true ok;
  there = present_among g.D.Device c.self.view_is (λ honest agrees levels tree no. subst IsSome
      (c.in_ok-get.ensures.entry honest agrees levels tree) (sym c.is_some.ensures ∙ c.if-is_some.true));
  damaged = λ honest agrees left right entries is told. never_ok told;
}

pub returns-then-is_some-clause-changed_pages : goal.returns-then-is_some-clause-changed_pages
returns-then-is_some-clause-changed_pages g c =
    λ honest agrees left right entries is. few_equal _ _ _ c.get.ensures.unchanged.changed_pages

pub returns-then-is_some-clause-same : goal.returns-then-is_some-clause-same
returns-then-is_some-clause-same g c = λ no. (c.get.ensures.unchanged, refl)

-- No chain was laid.
pub returns-in_err-first-clause-edits : goal.returns-in_err-first-clause-edits
returns-in_err-first-clause-edits g c =
    let got = c.get.ensures in
    let x = c.in_err-first.field-0.0 in
    passed _ x c.from_residual-in_err-first.ensures.1
    (λ r. EditsPages g.D.Device (r ≡ Err Device) c.args.pages.now c.args.device.now c.lay.new.pages c.get.new.device)
    (edits_kept g.D.Device _ _ _ _ _ _ _ (λ is. is) (read_edits g.D.Device
    (λ is. write_not_device x c.in_err-first.ensures.cause is) got.only got.unchanged got.agrees) c.lay.ensures.keeps)

pub returns-in_err-first-clause-answers : goal.returns-in_err-first-clause-answers
returns-in_err-first-clause-answers g c = let why = c.from_residual-in_err-first.ensures.1 in
    record {
      inserted = λ honest agrees left right entries is ok. never_answered _ why ok;
      there = λ honest agrees left right entries is no. never_answered _ why no;
      damaged = λ honest agrees left right entries is told.
          write_not_damaged _ _ why c.in_err-first.ensures.cause told;
    }

pub returns-in_err-first-clause-changed_pages : goal.returns-in_err-first-clause-changed_pages
returns-in_err-first-clause-changed_pages g c = λ honest agrees left right entries is.
    few_laid _ _ _ _ _ 42 c.get.ensures.unchanged.changed_pages c.lay.ensures.changed_pages
    (c.split_at.ensures.front_len ∙ ap (λ (t : ChainedTree). t.record_bytes) c.self.view_is)

pub returns-in_err-first-clause-room : goal.returns-in_err-first-clause-room
returns-in_err-first-clause-room g c = λ honest agrees left right entries is full.
    let got = c.get.ensures in
    let told = refused_by_call c.in_err-first.was c.from_residual-in_err-first.ensures.1 full in
    let same = committed_on _ _ _ got.unchanged.committed c.lay.ensures.keeps.committed in
    let size = c.split_at.ensures.front_len ∙ ap (λ (t : ChainedTree). t.record_bytes) c.self.view_is in
    room_laid c.args.pages.now c.lay.new.pages _ 42 c.few_free.ensures same
    (full_unspent c.lay.result (length c.split_at.result.0.now) c.args.pages.now c.get.new.pages
    got.unchanged.committed c.lay.ensures.spent (λ none. c.if-self-eq0.false (sym c.split_at.ensures.front_len ∙ none))
    told) (c.lay.ensures.full told)
    (few_first _ _ _ _ _ got.unchanged.changed_pages c.lay.ensures.changed_pages size)

pub returns-in_err-first-clause-spent : goal.returns-in_err-first-clause-spent
returns-in_err-first-clause-spent g c = λ is.
    sym c.get.ensures.unchanged.committed.spent
    ∙ (c.lay.ensures.spent.0 (refused_by_call c.in_err-first.was c.from_residual-in_err-first.ensures.1 is)).0

pub returns-in_err-first-clause-cause : goal.returns-in_err-first-clause-cause
returns-in_err-first-clause-cause g c =
    passed _ _ c.from_residual-in_err-first.ensures.1 (λ r. IfErr r IsInsertRefusal)
    (write_is_insert c.in_err-first.field-0.0 c.in_err-first.ensures.cause)

-- A chain was laid, and its entry was not added to the tree.
-- the chain that was laid for the record of the new row
lays : (g : Over) (c : After-insert-2 g) → LaysRecord g.D.Device (c.get.result ≡ Err Device) c.args.pages.now
    c.get.new.pages c.lay.new.pages c.args.device.now c.get.new.device
    (chained c.self.inside.tree c.self.inside.record_bytes) c.split_at.result.0.now c.in_ok-first.first
lays g c = let got = c.get.ensures in
    record {
      looks = looks_by g.D.Device _ _ _ _ _ got.only got.unchanged got.agrees;
      laid = c.in_ok-first.ensures.laid;
      keeps = c.lay.ensures.keeps;
      few = c.lay.ensures.changed_pages;
      many = c.split_at.ensures.front_len;
    }

pub returns-in_err-added-clause-edits : goal.returns-in_err-added-clause-edits
returns-in_err-added-clause-edits g c =
    laid_edits g.D.Device (lays g (goal.at.returns-in_err-added-clause-edits g c).After-insert-2)
    c.insert-2.ensures.edits (refused_by_call c.in_err-added.was c.from_residual-in_err-added.ensures.1)

pub returns-in_err-added-clause-answers : goal.returns-in_err-added-clause-answers
returns-in_err-added-clause-answers g c = let why = c.from_residual-in_err-added.ensures.1 in
    record {
      inserted = λ honest agrees left right entries is ok. never_answered _ why ok;
      there = λ honest agrees left right entries is no. never_answered _ why no;
      damaged = laid_never g.D.Device (lays g (goal.at.returns-in_err-added-clause-answers g c).After-insert-2)
          c.self.view_is c.insert-2.ensures.damaged (refused_by_call c.in_err-added.was why);
    }

pub returns-in_err-added-clause-changed_pages : goal.returns-in_err-added-clause-changed_pages
returns-in_err-added-clause-changed_pages g c =
    laid_few g.D.Device c.insert-2.new.pages _
    (lays g (goal.at.returns-in_err-added-clause-changed_pages g c).After-insert-2) c.self.view_is
    c.insert-2.ensures.few.changed_pages

pub returns-in_err-added-clause-room : goal.returns-in_err-added-clause-room
returns-in_err-added-clause-room g c =
    laid_room g.D.Device _ c.insert-2.result c.from_residual-in_err-added.result
    (lays g (goal.at.returns-in_err-added-clause-room g c).After-insert-2) c.self.view_is c.insert-2.ensures.few.room
    (refused_by_call c.in_err-added.was c.from_residual-in_err-added.ensures.1)

pub returns-in_err-added-clause-refused : goal.returns-in_err-added-clause-refused
returns-in_err-added-clause-refused g c =
    passed _ _ c.from_residual-in_err-added.ensures.1
    (λ r. OnErr r (chained c.insert-2.new.self c.self.inside.record_bytes ≡ c.args.self.now))
    (same_chained _ _ c.self.inside.record_bytes _ c.in_err-added.ensures.refused c.self.view_is)

pub returns-in_err-added-clause-spent : goal.returns-in_err-added-clause-spent
returns-in_err-added-clause-spent g c = λ is.
    sym c.get.ensures.unchanged.committed.spent ∙ sym c.lay.ensures.keeps.committed.spent
    ∙ c.insert-2.ensures.spent.0 (refused_by_call c.in_err-added.was c.from_residual-in_err-added.ensures.1 is)

pub returns-then-not-added-clause-edits : goal.returns-then-not-added-clause-edits
returns-then-not-added-clause-edits g c =
    laid_edits g.D.Device (lays g (goal.at.returns-then-not-added-clause-edits g c).After-insert-2)
    c.insert-2.ensures.edits (λ is. damaged_not_device is)

pub returns-then-not-added-clause-answers : goal.returns-then-not-added-clause-answers
returns-then-not-added-clause-answers g c = record {
  inserted = λ honest agrees left right entries is ok. never_err ok;
  there = λ honest agrees left right entries is no. never_err no;
  damaged = λ honest agrees left right entries is told. laid_missing g.D.Device c.args.key.now _
      (lays g (goal.at.returns-then-not-added-clause-answers g c).After-insert-2)
      c.self.view_is c.in_ok-get.ensures.entry (sym c.is_some.ensures ∙ c.if-is_some.false)
      (λ h a levels tree. c.insert-2.ensures.there h a levels tree (c.in_ok-added.was ∙ ap Ok c.if-not-added.true))
      honest agrees left right entries is;
}

pub returns-then-not-added-clause-changed_pages : goal.returns-then-not-added-clause-changed_pages
returns-then-not-added-clause-changed_pages g c =
    laid_few g.D.Device c.insert-2.new.pages _
    (lays g (goal.at.returns-then-not-added-clause-changed_pages g c).After-insert-2) c.self.view_is
    c.insert-2.ensures.few.changed_pages

pub returns-then-not-added-clause-refused : goal.returns-then-not-added-clause-refused
returns-then-not-added-clause-refused g c = same_chained _ _ c.self.inside.record_bytes _
    (c.insert-2.ensures.same (c.in_ok-added.was ∙ ap Ok c.if-not-added.true)).1 c.self.view_is

-- It was.
pub returns-clause-edits : goal.returns-clause-edits
returns-clause-edits g c =
    laid_edits g.D.Device (lays g (goal.at.returns-clause-edits g c).After-insert-2) c.insert-2.ensures.edits
    (λ is. never_ok is)

pub returns-clause-answers : goal.returns-clause-answers
returns-clause-answers g c = record {
  inserted = inserted_on g.D.Device c.insert-2.new.pages
      (lays g (goal.at.returns-clause-answers g c).After-insert-2) c.self.view_is
      (λ h a levels tree. c.insert-2.ensures.inserted h a levels tree (c.in_ok-added.was ∙ ap Ok c.if-not-added.false))
      (c.bytes.ensures ∙ c.new-stored.ensures) c.if-self-eq0.false (omega arith) (sym c.split_at.ensures.by_index.0)
      c.insert-2.ensures.layout refl;
  there = λ honest agrees left right entries is no. false_not_true (sym no);
  damaged = λ honest agrees left right entries is told. never_ok told;
}

pub returns-clause-changed_pages : goal.returns-clause-changed_pages
returns-clause-changed_pages g c =
    laid_few g.D.Device c.insert-2.new.pages _ (lays g (goal.at.returns-clause-changed_pages g c).After-insert-2)
    c.self.view_is
    c.insert-2.ensures.few.changed_pages

-- What else the call on the tree answers, where it has its records itself.
pub returns-then-self-eq0-clause-edits : goal.returns-then-self-eq0-clause-edits
returns-then-self-eq0-clause-edits g c = c.insert.ensures.edits

pub returns-then-self-eq0-clause-layout : goal.returns-then-self-eq0-clause-layout
returns-then-self-eq0-clause-layout g c =
    c.insert.ensures.layout ∙ ap (λ (t : ChainedTree). t.tree.layout) c.self.view_is

pub returns-then-self-eq0-clause-form : goal.returns-then-self-eq0-clause-form
returns-then-self-eq0-clause-form g c = ap (λ (t : ChainedTree). t.record_bytes) c.self.view_is

-- What a refusal or another answer rules out.
pub returns-in_err-get-clause-same : goal.returns-in_err-get-clause-same
returns-in_err-get-clause-same g c = λ no. never_answered _ c.from_residual.ensures.1 no

pub returns-in_err-get-clause-refused : goal.returns-in_err-get-clause-refused
returns-in_err-get-clause-refused g c =
    passed _ _ c.from_residual.ensures.1 (λ r. OnErr r (c.args.self.now ≡ c.args.self.now)) refl

pub returns-in_err-get-clause-spent : goal.returns-in_err-get-clause-spent
returns-in_err-get-clause-spent g c =
    λ is. (c.get.ensures.spent.0 (refused_by_call c.in_err-get.was c.from_residual.ensures.1 is)).0

pub returns-in_err-first-clause-same : goal.returns-in_err-first-clause-same
returns-in_err-first-clause-same g c = λ no. never_answered _ c.from_residual-in_err-first.ensures.1 no

pub returns-in_err-first-clause-refused : goal.returns-in_err-first-clause-refused
returns-in_err-first-clause-refused g c =
    passed _ _ c.from_residual-in_err-first.ensures.1 (λ r. OnErr r (c.args.self.now ≡ c.args.self.now)) refl

pub returns-in_err-added-clause-same : goal.returns-in_err-added-clause-same
returns-in_err-added-clause-same g c = λ no. never_answered _ c.from_residual-in_err-added.ensures.1 no

pub returns-in_err-added-clause-layout : goal.returns-in_err-added-clause-layout
returns-in_err-added-clause-layout g c =
    c.insert-2.ensures.layout ∙ ap (λ (t : ChainedTree). t.tree.layout) c.self.view_is

pub returns-in_err-added-clause-form : goal.returns-in_err-added-clause-form
returns-in_err-added-clause-form g c = ap (λ (t : ChainedTree). t.record_bytes) c.self.view_is

pub returns-in_err-added-clause-cause : goal.returns-in_err-added-clause-cause
returns-in_err-added-clause-cause g c =
    passed _ _ c.from_residual-in_err-added.ensures.1 (λ r. IfErr r IsInsertRefusal) c.in_err-added.ensures.cause

pub returns-then-is_some-clause-room : goal.returns-then-is_some-clause-room
returns-then-is_some-clause-room g c = λ honest agrees left right entries is full. never_ok full

pub returns-then-is_some-clause-spent : goal.returns-then-is_some-clause-spent
returns-then-is_some-clause-spent g c = λ is. never_ok is

pub returns-then-not-added-clause-same : goal.returns-then-not-added-clause-same
returns-then-not-added-clause-same g c = λ no. never_err no

pub returns-then-not-added-clause-room : goal.returns-then-not-added-clause-room
returns-then-not-added-clause-room g c = λ honest agrees left right entries is full. damaged_not_full full

pub returns-then-not-added-clause-layout : goal.returns-then-not-added-clause-layout
returns-then-not-added-clause-layout g c =
    c.insert-2.ensures.layout ∙ ap (λ (t : ChainedTree). t.tree.layout) c.self.view_is

pub returns-then-not-added-clause-form : goal.returns-then-not-added-clause-form
returns-then-not-added-clause-form g c = ap (λ (t : ChainedTree). t.record_bytes) c.self.view_is

pub returns-then-not-added-clause-spent : goal.returns-then-not-added-clause-spent
returns-then-not-added-clause-spent g c = λ is. damaged_not_spent is

pub returns-clause-same : goal.returns-clause-same
returns-clause-same g c = λ no. true_not_false no

pub returns-clause-room : goal.returns-clause-room
returns-clause-room g c = λ honest agrees left right entries is full. never_ok full

pub returns-clause-layout : goal.returns-clause-layout
returns-clause-layout g c = c.insert-2.ensures.layout ∙ ap (λ (t : ChainedTree). t.tree.layout) c.self.view_is

pub returns-clause-form : goal.returns-clause-form
returns-clause-form g c = ap (λ (t : ChainedTree). t.record_bytes) c.self.view_is

pub returns-clause-spent : goal.returns-clause-spent
returns-clause-spent g c = λ is. never_ok is

-- What the calls need.
pub get-requires : goal.get-requires
get-requires g c = record { sectors = c.requires.sectors }

pub split_at-requires : goal.split_at-requires
split_at-requires g c =
    record_within c.self.inside.record_bytes c.self.inside.tree.layout.value_length
    (length c.args.value.now) c.if-self-eq0.false (c.requires.value ∙ ap value_length (sym c.self.view_is))

pub new-stored-requires : goal.new-stored-requires
new-stored-requires g c =
    rest_few c.self.inside.record_bytes c.self.inside.tree.layout (length c.args.value.now)
    (length c.split_at.result.1.now) c.if-self-eq0.false c.self.invariant
    (c.requires.value ∙ ap value_length (sym c.self.view_is)) c.split_at.ensures.back_len

pub insert-requires-clause-key : goal.insert-requires-clause-key
insert-requires-clause-key g c =
    c.requires.key ∙ ap (λ (t : ChainedTree). t.tree.layout.key_length) (sym c.self.view_is)

pub insert-requires-clause-value : goal.insert-requires-clause-value
insert-requires-clause-value g c =
    whole_short c.self.inside.record_bytes c.self.inside.tree.layout.value_length
    (length c.args.value.now) c.if-self-eq0.true (c.requires.value ∙ ap value_length (sym c.self.view_is))

pub insert-requires-2-clause-sectors : goal.insert-requires-2-clause-sectors
insert-requires-2-clause-sectors g c =
    sectors_on c.get.new.pages c.lay.new.pages _ _ c.lay.ensures.keeps.committed.volume refl
    (sectors_on c.args.pages.now c.get.new.pages _ _ c.get.ensures.unchanged.committed.volume
    c.get.ensures.only.sectors c.requires.sectors)

pub insert-requires-2-clause-key : goal.insert-requires-2-clause-key
insert-requires-2-clause-key g c =
    c.requires.key ∙ ap (λ (t : ChainedTree). t.tree.layout.key_length) (sym c.self.view_is)

pub invariant_of-self : goal.invariant_of-self
invariant_of-self g c =
    fits_still c.self.inside.record_bytes c.self.inside.tree.layout c.insert.new.self.layout
    c.insert.ensures.layout c.self.invariant

pub invariant_of-self-in_err-added : goal.invariant_of-self-in_err-added
invariant_of-self-in_err-added g c =
    fits_still c.self.inside.record_bytes c.self.inside.tree.layout c.insert-2.new.self.layout
    c.insert-2.ensures.layout c.self.invariant

pub invariant_of-self-then-not-added : goal.invariant_of-self-then-not-added
invariant_of-self-then-not-added g c =
    fits_still c.self.inside.record_bytes c.self.inside.tree.layout c.insert-2.new.self.layout
    c.insert-2.ensures.layout c.self.invariant

pub invariant_of-self-2 : goal.invariant_of-self-2
invariant_of-self-2 g c =
    fits_still c.self.inside.record_bytes c.self.inside.tree.layout c.insert-2.new.self.layout
    c.insert-2.ensures.layout c.self.invariant
