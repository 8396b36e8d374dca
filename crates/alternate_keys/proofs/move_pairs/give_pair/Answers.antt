use Rattle.std.proofs.Common.{◌≡◌, ◌++◌, true, false, Ok, ℕ, List, sym, ap, subst, ◌∙◌, refl}
use Rattle.std.specs.Prelude.{Option, is_some, IfErr}
use Rattle.byteorder.specs.Endian.{big_bytes}
use Rattle.btree.specs.Calls.{pages_on}
use Rattle.btree.specs.Entries.{Entry, entry_with, with_new_entry}
use Rattle.records.specs.declared.fault.StoreFault.TheVariants.{Damaged}
use Rattle.records.specs.declared.file_spec.KeyPlace.{KeyPlace}
use Rattle.records.specs.Rows.{part}
use Rattle.records.specs.Stores.{spec_of}
use Rattle.volume_format.specs.Grows.{IsTreeAmong}
use Rattle.alternate_keys.specs.Moved.{pair_entry}
use Rattle.alternate_keys.proofs.Passing.{damaged_not_spent, memory_is_write, never_ok, passed}
use Rattle.alternate_keys.specs.Faults.{IsWriteFault}
use Rattle.alternate_keys.proofs.Faults.{never_spent, refused_by_call}
use Rattle.row_trees.specs.Calls.{EditsPages}
use Rattle.alternate_keys.proofs.Calling.{edits_blamed, edits_nothing}
use Rattle.std.specs.Prelude.{Err}
use Rattle.alternate_keys.proofs.Passing.{memory_not_device}
use Rattle.records.specs.declared.fault.StoreFault.TheVariants.{Device}
use Rattle.alternate_keys.proofs.Passing.{on_refused}
use Rattle.alternate_keys.proofs.Passing.{memory_never_damaged}
use Rattle.alternate_keys.proofs.Passing.{few_more}
use Rattle.alternate_keys.proofs.Passing.{memory_never_full}
use Rattle.alternate_keys.proofs.Passing.{reads_where, damaged_not_device, damaged_not_full}
use Rattle.std.proofs.Common.{length, length-append, arith}
use Rattle.btree_pages.specs.declared.row_layout.RowLayout.{RowLayout}
use Rattle.records.specs.Rows.{place_of}
use Rattle.records.specs.Spec.{Spec}
use Rattle.records.specs.declared.key.KeyOfReference.TheVariants.{Prime, Alternate}
use Rattle.records.proofs.Places.{place_within}
use Rattle.alternate_keys.proofs.NewRows.{bytes_long, part_long}
use Rattle.alternate_keys.proofs.move_pairs.give_pair.Goals as goal

made : List ℕ → List ℕ → Entry
made key value = record { key = key; value = value }

pub returns-in_err-insert_among-clause-damaged : goal.returns-in_err-insert_among-clause-damaged
returns-in_err-insert_among-clause-damaged g c = λ honest agrees left right entries stands none refused.
    let told = refused_by_call c.in_err-insert_among.was c.from_residual-in_err-insert_among.ensures.1 refused in
    c.insert_among.ensures.damaged honest agrees left right entries stands told

pub returns-in_err-insert_among-clause-room : goal.returns-in_err-insert_among-clause-room
returns-in_err-insert_among-clause-room g c = λ honest agrees left right entries stands full.
    let told = refused_by_call c.in_err-insert_among.was c.from_residual-in_err-insert_among.ensures.1 full in
    c.insert_among.ensures.room honest agrees left right entries stands told

pub returns-then-branch-clause-given : goal.returns-then-branch-clause-given
unfolding made
returns-then-branch-clause-given g c = λ honest agrees left right entries stands.
    let bytes : List ℕ = c.args.pair.bytes.now in
    let own : Entry = pair_entry (spec_of c.args.file.now) c.args.pair.key bytes c.args.pair.arrival in
    let key : c.deref.result.now ≡ own.key =
    c.deref.ensures.value ∙ c.in_ok-at.ensures.bytes ∙ ap (λ (l : List ℕ). l ++ big_bytes 8 c.args.pair.arrival)
    (c.part_of.ensures ∙ ap (λ (p : KeyPlace). part p bytes) c.key_place-place.ensures.place) in
    let value : c.part_of-2.result.now ≡ own.value =
    c.part_of-2.ensures ∙ ap (λ (p : KeyPlace). part p bytes) c.key_place-prime.ensures.place in
    let same : made c.deref.result.now c.part_of-2.result.now ≡ own =
    ap (λ (k : List ℕ). made k c.part_of-2.result.now) key ∙ ap (made own.key) value in
    subst (λ (e : Entry). IsTreeAmong (pages_on g.D.Device c.insert_among.new.pages c.args.device.now) left right
    c.insert_among.new.tree (with_new_entry entries e)) same (c.in_ok-insert_among.ensures.inserted honest agrees left
    right entries stands (ap Ok c.if-branch.true)).1

pub returns-clause-damaged : goal.returns-clause-damaged
returns-clause-damaged g c = λ honest agrees left right entries stands none is.
    let bytes : List ℕ = c.args.pair.bytes.now in
    let own : Entry = pair_entry (spec_of c.args.file.now) c.args.pair.key bytes c.args.pair.arrival in
    let key : c.deref.result.now ≡ own.key =
    c.deref.ensures.value ∙ c.in_ok-at.ensures.bytes ∙ ap (λ (l : List ℕ). l ++ big_bytes 8 c.args.pair.arrival)
    (c.part_of.ensures ∙ ap (λ (p : KeyPlace). part p bytes) c.key_place-place.ensures.place) in
    let some = c.in_ok-insert_among.ensures.there honest agrees left right entries stands (ap Ok c.if-branch.false) in
    let clash : is_some (entry_with entries c.deref.result.now) ≡ false =
    ap (λ (e : Option Entry). is_some e) (ap (entry_with entries) key ∙ none) in
    let both : true ≡ false = sym some ∙ clash in
    cc

pub returns-in_err-at-clause-spent : goal.returns-in_err-at-clause-spent
returns-in_err-at-clause-spent g c =
    λ is. absurd (never_spent c.pair_bytes.result c.pair_bytes.ensures.memory (refused_by_call c.in_err-at.was
    c.from_residual.ensures.1 is))

pub returns-in_err-at-clause-cause : goal.returns-in_err-at-clause-cause
returns-in_err-at-clause-cause g c =
    passed c.from_residual.result c.in_err-at.field-0.0 c.from_residual.ensures.1 (λ r. IfErr r IsWriteFault)
    (memory_is_write c.in_err-at.field-0.0 c.in_err-at.ensures.memory)

pub returns-in_err-insert_among-clause-spent : goal.returns-in_err-insert_among-clause-spent
returns-in_err-insert_among-clause-spent g c =
    λ is. c.insert_among.ensures.spent (refused_by_call c.in_err-insert_among.was
    c.from_residual-in_err-insert_among.ensures.1 is)

pub returns-in_err-insert_among-clause-cause : goal.returns-in_err-insert_among-clause-cause
returns-in_err-insert_among-clause-cause g c =
    passed c.from_residual-in_err-insert_among.result c.in_err-insert_among.field-0.0
    c.from_residual-in_err-insert_among.ensures.1 (λ r. IfErr r IsWriteFault) c.in_err-insert_among.ensures.cause

pub returns-then-branch-clause-spent : goal.returns-then-branch-clause-spent
returns-then-branch-clause-spent g c = λ is. never_ok is

pub returns-clause-spent : goal.returns-clause-spent
returns-clause-spent g c = λ is. damaged_not_spent Damaged refl is

pub returns-in_err-at-clause-edits : goal.returns-in_err-at-clause-edits
returns-in_err-at-clause-edits g c =
    passed c.from_residual.result c.in_err-at.field-0.0 c.from_residual.ensures.1
    (λ r. EditsPages g.D.Device (r ≡ Err Device) c.args.pages.now c.args.device.now c.args.pages.now c.args.device.now)
    (edits_blamed g.D.Device _ _ _ _ _ _ (λ e. memory_not_device _ c.in_err-at.ensures.memory e)
    (edits_nothing g.D.Device c.args.pages.now c.args.device.now))

pub returns-in_err-at-clause-given : goal.returns-in_err-at-clause-given
returns-in_err-at-clause-given g c =
    λ honest agrees left right entries stands.
    on_refused c.from_residual.result c.in_err-at.field-0.0 c.from_residual.ensures.1 _

pub returns-in_err-at-clause-damaged : goal.returns-in_err-at-clause-damaged
returns-in_err-at-clause-damaged g c =
    λ honest agrees left right entries stands none is.
    memory_never_damaged c.from_residual.result c.in_err-at.field-0.0 c.from_residual.ensures.1
    c.in_err-at.ensures.memory is

pub returns-in_err-at-clause-few : goal.returns-in_err-at-clause-few
returns-in_err-at-clause-few g c =
    λ honest agrees left right entries stands. few_more _ _

pub returns-in_err-at-clause-room : goal.returns-in_err-at-clause-room
returns-in_err-at-clause-room g c =
    λ honest agrees left right entries stands is.
    memory_never_full c.from_residual.result c.in_err-at.field-0.0 c.from_residual.ensures.1 c.in_err-at.ensures.memory
    is

pub returns-in_err-insert_among-clause-edits : goal.returns-in_err-insert_among-clause-edits
returns-in_err-insert_among-clause-edits g c =
    record {
      only = reads_where g.D.Device _ _ _ _ (λ is. refused_by_call c.in_err-insert_among.was
          c.from_residual-in_err-insert_among.ensures.1 is) c.insert_among.ensures.only;
      committed = c.insert_among.ensures.committed;
      catalog = c.insert_among.ensures.catalog;
      agrees = c.insert_among.ensures.agrees;
    }

pub returns-in_err-insert_among-clause-given : goal.returns-in_err-insert_among-clause-given
returns-in_err-insert_among-clause-given g c =
    λ honest agrees left right entries stands.
    on_refused c.from_residual-in_err-insert_among.result c.in_err-insert_among.field-0.0
    c.from_residual-in_err-insert_among.ensures.1 _

pub returns-then-branch-clause-edits : goal.returns-then-branch-clause-edits
returns-then-branch-clause-edits g c =
    record {
      only = reads_where g.D.Device _ _ _ _ (λ is. never_ok is) c.insert_among.ensures.only;
      committed = c.insert_among.ensures.committed;
      catalog = c.insert_among.ensures.catalog;
      agrees = c.insert_among.ensures.agrees;
    }

pub returns-then-branch-clause-damaged : goal.returns-then-branch-clause-damaged
returns-then-branch-clause-damaged g c =
    λ honest agrees left right entries stands none is. never_ok is

pub returns-then-branch-clause-room : goal.returns-then-branch-clause-room
returns-then-branch-clause-room g c =
    λ honest agrees left right entries stands is. never_ok is

pub returns-clause-edits : goal.returns-clause-edits
returns-clause-edits g c =
    record {
      only = reads_where g.D.Device _ _ _ _ (λ is. damaged_not_device is) c.insert_among.ensures.only;
      committed = c.insert_among.ensures.committed;
      catalog = c.insert_among.ensures.catalog;
      agrees = c.insert_among.ensures.agrees;
    }

pub returns-clause-room : goal.returns-clause-room
returns-clause-room g c =
    λ honest agrees left right entries stands is. damaged_not_full is

pub returns-in_err-insert_among-clause-few : goal.returns-in_err-insert_among-clause-few
returns-in_err-insert_among-clause-few g c =
    λ honest agrees left right entries stands.
    c.insert_among.ensures.changed_pages honest agrees left right entries stands

pub returns-then-branch-clause-few : goal.returns-then-branch-clause-few
returns-then-branch-clause-few g c =
    λ honest agrees left right entries stands.
    c.insert_among.ensures.changed_pages honest agrees left right entries stands

pub returns-clause-few : goal.returns-clause-few
returns-clause-few g c =
    λ honest agrees left right entries stands.
    c.insert_among.ensures.changed_pages honest agrees left right entries stands

pub insert_among-requires-clause-key : goal.insert_among-requires-clause-key
insert_among-requires-clause-key g c =
    let spec : Spec = spec_of c.args.file.now in
    let bytes : List ℕ = c.args.pair.bytes.now in
    let own : KeyPlace = place_of spec (Alternate c.args.pair.key) in
    let whole = ap (λ (l : List ℕ). length l) (c.deref.ensures.value ∙ c.in_ok-at.ensures.bytes) in
    let parts = length-append c.part_of.result.now (big_bytes 8 c.args.pair.arrival) in
    let value : length c.part_of.result.now ≡ own.length = ap (λ (l : List ℕ). length l)
    (c.part_of.ensures ∙ ap (λ (p : KeyPlace). part p bytes) c.key_place-place.ensures.place)
    ∙ part_long own spec.record_length bytes (place_within spec (Alternate c.args.pair.key) c.args.file.now.sound
    c.requires.key) c.requires.bytes in
    let layout = ap (λ (l : RowLayout). l.key_length) c.requires.layout in
    omega (arith, whole, parts, value, bytes_long 8 c.args.pair.arrival, layout)

pub insert_among-requires-clause-value : goal.insert_among-requires-clause-value
insert_among-requires-clause-value g c =
    let spec : Spec = spec_of c.args.file.now in
    let bytes : List ℕ = c.args.pair.bytes.now in
    ap (λ (l : List ℕ). length l)
    (c.part_of-2.ensures ∙ ap (λ (p : KeyPlace). part p bytes) c.key_place-prime.ensures.place)
    ∙ part_long (place_of spec Prime) spec.record_length bytes
    (place_within spec Prime c.args.file.now.sound (omega arith)) c.requires.bytes
    ∙ sym (ap (λ (l : RowLayout). l.value_length) c.requires.layout)
