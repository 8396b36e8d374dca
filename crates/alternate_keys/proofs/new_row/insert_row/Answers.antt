use Rattle.std.proofs.Common.{◌≡◌, true, false, List, ℕ, length, sym, ap, subst, ◌∙◌}
use Rattle.std.specs.Prelude.{Err, IfErr, IsSome}
use Rattle.btree.specs.Calls.{pages_on}
use Rattle.btree.specs.Entries.{Entry, entry_with, with_new_entry}
use Rattle.records.specs.declared.key.KeyOfReference.TheVariants.{Prime}
use Rattle.records.specs.Spec.{Spec}
use Rattle.records.specs.Stores.{spec_of}
use Rattle.records.specs.declared.fault.StoreFault.TheVariants.{Device}
use Rattle.row_trees.specs.Calls.{EditsPages}
use Rattle.row_trees.specs.RowTree.{ChainedTree, IsRowTreeAmong}
use Rattle.volume_format.specs.Trees.{entry_under}
use Rattle.alternate_keys.specs.Faults.{IsWriteFault}
use Rattle.alternate_keys.specs.NewRow.{row_with}
use Rattle.alternate_keys.proofs.Calling.{edits_blamed, edits_nothing}
use Rattle.alternate_keys.proofs.Passing.{passed, refused_never, few_more, memory_is_write, memory_not_device}
use Rattle.alternate_keys.proofs.Passing.{memory_never_full, memory_never_damaged, memory_never_spent}
use Rattle.alternate_keys.proofs.NewRows.{value_long}
use Rattle.btree_pages.specs.declared.row_layout.RowLayout.{RowLayout}
use Rattle.alternate_keys.proofs.NewRows.{key_long}
use Rattle.alternate_keys.proofs.new_row.insert_row.Goals as goal
use Rattle.alternate_keys.proofs.RowForms.{value_whole}

made : List ℕ → List ℕ → Entry
made key value = record { key = key; value = value }

pub enter_row-requires-clause-value : goal.enter_row-requires-clause-value
enter_row-requires-clause-value g c =
    ap (λ (l : List ℕ). length l) (c.deref-2.ensures.value ∙ c.in_ok-value.ensures.value)
    ∙ value_long (spec_of c.args.file.now) c.args.row.arrival c.args.row.bytes.now c.requires.bytes
    ∙ sym (value_whole (spec_of c.args.file.now) c.args.prime.now c.requires.layout c.requires.form)

pub returns-clause-inserted : goal.returns-clause-inserted
unfolding made
returns-clause-inserted g c = λ honest agrees left right entries stands is.
    let spec : Spec = spec_of c.args.file.now in
    let own = entry_under spec Prime (row_with spec c.args.row.number c.args.row.arrival c.args.row.bytes.now) in
    let key : c.deref.result.now ≡ own.key = c.deref.ensures.value ∙ c.in_ok-key.ensures.key in
    let value : c.deref-2.result.now ≡ own.value = c.deref-2.ensures.value ∙ c.in_ok-value.ensures.value in
    let same : made c.deref.result.now c.deref-2.result.now ≡ own =
    ap (λ (k : List ℕ). made k c.deref-2.result.now) key ∙ ap (made own.key) value in
    let new : ChainedTree = c.enter_row.new.rows in
    let told = c.enter_row.ensures.inserted honest agrees left right entries stands is in (
      ap (entry_with entries) (sym key) ∙ told.0,
      subst (λ (e : Entry). IsRowTreeAmong (pages_on g.D.Device c.enter_row.new.pages c.args.device.now) left right new
          (with_new_entry entries e)) same told.1,
    )

pub returns-clause-there : goal.returns-clause-there
returns-clause-there g c = λ honest agrees left right entries stands is.
    let spec : Spec = spec_of c.args.file.now in
    let own = entry_under spec Prime (row_with spec c.args.row.number c.args.row.arrival c.args.row.bytes.now) in
    let key : c.deref.result.now ≡ own.key = c.deref.ensures.value ∙ c.in_ok-key.ensures.key in
    subst (λ (k : List ℕ). IsSome (entry_with entries k)) key
    (c.enter_row.ensures.there honest agrees left right entries stands is)

pub returns-in_err-key-clause-edits : goal.returns-in_err-key-clause-edits
returns-in_err-key-clause-edits g c =
    passed c.from_residual.result c.in_err-key.field-0.0 c.from_residual.ensures.1
    (λ r. EditsPages g.D.Device (r ≡ Err Device) c.args.pages.now c.args.device.now c.args.pages.now c.args.device.now)
    (edits_blamed g.D.Device _ _ _ _ _ _ (λ e. memory_not_device _ c.in_err-key.ensures.memory e)
    (edits_nothing g.D.Device c.args.pages.now c.args.device.now))

pub returns-in_err-key-clause-inserted : goal.returns-in_err-key-clause-inserted
returns-in_err-key-clause-inserted g c =
    λ honest agrees left right entries stands is.
    refused_never c.from_residual.result c.in_err-key.field-0.0 true c.from_residual.ensures.1 is

pub returns-in_err-key-clause-there : goal.returns-in_err-key-clause-there
returns-in_err-key-clause-there g c =
    λ honest agrees left right entries stands is.
    refused_never c.from_residual.result c.in_err-key.field-0.0 false c.from_residual.ensures.1 is

pub returns-in_err-key-clause-same : goal.returns-in_err-key-clause-same
returns-in_err-key-clause-same g c =
    λ is.
    refused_never c.from_residual.result c.in_err-key.field-0.0 false c.from_residual.ensures.1 is

pub returns-in_err-key-clause-damaged : goal.returns-in_err-key-clause-damaged
returns-in_err-key-clause-damaged g c =
    λ honest agrees left right entries stands is.
    memory_never_damaged c.from_residual.result c.in_err-key.field-0.0 c.from_residual.ensures.1
    c.in_err-key.ensures.memory is

pub returns-in_err-key-clause-changed_pages : goal.returns-in_err-key-clause-changed_pages
returns-in_err-key-clause-changed_pages g c =
    λ honest agrees left right entries stands. few_more _ _

pub returns-in_err-key-clause-room : goal.returns-in_err-key-clause-room
returns-in_err-key-clause-room g c =
    λ honest agrees left right entries stands is.
    memory_never_full c.from_residual.result c.in_err-key.field-0.0 c.from_residual.ensures.1
    c.in_err-key.ensures.memory is

pub returns-in_err-key-clause-spent : goal.returns-in_err-key-clause-spent
returns-in_err-key-clause-spent g c =
    memory_never_spent c.from_residual.result c.in_err-key.field-0.0 c.from_residual.ensures.1
    c.in_err-key.ensures.memory

pub returns-in_err-key-clause-cause : goal.returns-in_err-key-clause-cause
returns-in_err-key-clause-cause g c =
    passed c.from_residual.result c.in_err-key.field-0.0 c.from_residual.ensures.1
    (λ r. IfErr r IsWriteFault) (memory_is_write _ c.in_err-key.ensures.memory)

pub returns-in_err-value-clause-edits : goal.returns-in_err-value-clause-edits
returns-in_err-value-clause-edits g c =
    passed c.from_residual-in_err-value.result c.in_err-value.field-0.0 c.from_residual-in_err-value.ensures.1
    (λ r. EditsPages g.D.Device (r ≡ Err Device) c.args.pages.now c.args.device.now c.args.pages.now c.args.device.now)
    (edits_blamed g.D.Device _ _ _ _ _ _ (λ e. memory_not_device _ c.in_err-value.ensures.memory e)
    (edits_nothing g.D.Device c.args.pages.now c.args.device.now))

pub returns-in_err-value-clause-inserted : goal.returns-in_err-value-clause-inserted
returns-in_err-value-clause-inserted g c =
    λ honest agrees left right entries stands is.
    refused_never c.from_residual-in_err-value.result c.in_err-value.field-0.0 true
    c.from_residual-in_err-value.ensures.1 is

pub returns-in_err-value-clause-there : goal.returns-in_err-value-clause-there
returns-in_err-value-clause-there g c =
    λ honest agrees left right entries stands is.
    refused_never c.from_residual-in_err-value.result c.in_err-value.field-0.0 false
    c.from_residual-in_err-value.ensures.1 is

pub returns-in_err-value-clause-same : goal.returns-in_err-value-clause-same
returns-in_err-value-clause-same g c =
    λ is.
    refused_never c.from_residual-in_err-value.result c.in_err-value.field-0.0 false
    c.from_residual-in_err-value.ensures.1 is

pub returns-in_err-value-clause-damaged : goal.returns-in_err-value-clause-damaged
returns-in_err-value-clause-damaged g c =
    λ honest agrees left right entries stands is.
    memory_never_damaged c.from_residual-in_err-value.result c.in_err-value.field-0.0
    c.from_residual-in_err-value.ensures.1 c.in_err-value.ensures.memory is

pub returns-in_err-value-clause-changed_pages : goal.returns-in_err-value-clause-changed_pages
returns-in_err-value-clause-changed_pages g c =
    λ honest agrees left right entries stands. few_more _ _

pub returns-in_err-value-clause-room : goal.returns-in_err-value-clause-room
returns-in_err-value-clause-room g c =
    λ honest agrees left right entries stands is.
    memory_never_full c.from_residual-in_err-value.result c.in_err-value.field-0.0
    c.from_residual-in_err-value.ensures.1 c.in_err-value.ensures.memory is

pub returns-in_err-value-clause-spent : goal.returns-in_err-value-clause-spent
returns-in_err-value-clause-spent g c =
    memory_never_spent c.from_residual-in_err-value.result c.in_err-value.field-0.0
    c.from_residual-in_err-value.ensures.1 c.in_err-value.ensures.memory

pub returns-in_err-value-clause-cause : goal.returns-in_err-value-clause-cause
returns-in_err-value-clause-cause g c =
    passed c.from_residual-in_err-value.result c.in_err-value.field-0.0 c.from_residual-in_err-value.ensures.1
    (λ r. IfErr r IsWriteFault) (memory_is_write _ c.in_err-value.ensures.memory)

pub enter_row-requires-clause-key : goal.enter_row-requires-clause-key
enter_row-requires-clause-key g c =
    ap (λ (l : List ℕ). length l) (c.deref.ensures.value ∙ c.in_ok-key.ensures.key)
    ∙ key_long (spec_of c.args.file.now) c.args.row.number c.args.row.bytes.now c.args.file.now.sound c.requires.bytes
    ∙ sym (ap (λ (l : RowLayout). l.key_length) c.requires.layout)
