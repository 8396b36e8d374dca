use Rattle.std.proofs.Common.{List, ℕ, ap, ◌∙◌}
use Rattle.std.specs.Prelude.{Option}
use Rattle.station.specs.Disk.{Sector}
use Rattle.pages.specs.Pages.{map_now}
use Rattle.btree.proofs.There.{tree_ascends}
use Rattle.btree.specs.Entries.{Entry, entries_of}
use Rattle.btree.specs.Rooted.{RootedTree}
use Rattle.alternate_keys.specs.declared.search_start.SearchStart.TheVariants as aim
use Rattle.alternate_keys.specs.Aims.{found_entry}
use Rattle.alternate_keys.specs.Seen.{begins_with_value}
use Rattle.alternate_keys.proofs.Repeated.{value_there}
use Rattle.station.specs.Calls.{OnlyReads}
use Rattle.station.proofs.Calls.{reads_nothing}
use Rattle.alternate_keys.proofs.Passing.{reads_where}
use Rattle.std.specs.Prelude.{Err}
use Rattle.std.proofs.Common.{◌≡◌}
use Rattle.alternate_keys.proofs.Passing.{passed, memory_not_device}
use Rattle.records.specs.declared.fault.StoreFault.TheVariants.{Device}
use Rattle.alternate_keys.proofs.Passing.{if_refused}
use Rattle.alternate_keys.proofs.Passing.{memory_never_damaged}
use Rattle.alternate_keys.proofs.Passing.{memory_never_spent}
use Rattle.std.specs.Prelude.{IfErr}
use Rattle.alternate_keys.proofs.Passing.{memory_is_read}
use Rattle.alternate_keys.specs.Faults.{IsReadFault}
use Rattle.std.proofs.Common.{sym}
use Rattle.alternate_keys.proofs.Passing.{never_ok, same_error}
use Rattle.volume_format.proofs.Faults.{device_back}
use Rattle.volume_format.proofs.Faults.{damaged_back}
use Rattle.alternate_keys.proofs.Passing.{spent_back, reading_is_read}
use Rattle.alternate_keys.proofs.repeats.is_value_there.Goals as goal

pub returns-in-Ok-clause-there : goal.returns-in-Ok-clause-there
returns-in-Ok-clause-there g c = λ honest agrees spec i rows pairs long.
    let pages : List (Option Sector) =
    (map_now c.args.pages.now (g.D.Device.state c.args.device.now).disk.present).pages in
    let tree : RootedTree = c.args.tree.now in
    let entries : List Entry = entries_of tree.layout pairs.levels in
    let value : List ℕ = c.args.value.now in
    c.begins_with.ensures
    ∙ ap (begins_with_value value) (c.in-Ok.ensures.entry honest agrees pairs.levels pairs.holds
    ∙ ap (found_entry aim.From entries) (c.deref.ensures.value ∙ c.in_ok-at.ensures.bytes))
    ∙ value_there spec i value rows entries (tree_ascends tree.layout pages tree.root pairs.levels pairs.holds)
    pairs.are pairs.fits long

pub returns-in_err-at-clause-only : goal.returns-in_err-at-clause-only
returns-in_err-at-clause-only g c =
    passed c.from_residual.result c.in_err-at.field-0.0 c.from_residual.ensures.1
    (λ r. OnlyReads g.D.Device (r ≡ Err Device) c.args.device.now c.args.device.now)
    (reads_where g.D.Device ⊥ _ _ _ (λ e. memory_not_device _ c.in_err-at.ensures.memory e)
    (reads_nothing g.D.Device c.args.device.now))

pub returns-in_err-at-clause-there : goal.returns-in_err-at-clause-there
returns-in_err-at-clause-there g c =
    λ honest agrees spec i rows has long.
    if_refused c.from_residual.result c.in_err-at.field-0.0 c.from_residual.ensures.1 _

pub returns-in_err-at-clause-damaged : goal.returns-in_err-at-clause-damaged
returns-in_err-at-clause-damaged g c =
    λ honest agrees spec i rows has is.
    memory_never_damaged c.from_residual.result c.in_err-at.field-0.0 c.from_residual.ensures.1
    c.in_err-at.ensures.memory is

pub returns-in_err-at-clause-spent : goal.returns-in_err-at-clause-spent
returns-in_err-at-clause-spent g c =
    λ is.
    memory_never_spent c.from_residual.result c.in_err-at.field-0.0 c.from_residual.ensures.1 c.in_err-at.ensures.memory
    is

pub returns-in_err-at-clause-cause : goal.returns-in_err-at-clause-cause
returns-in_err-at-clause-cause g c =
    passed c.from_residual.result c.in_err-at.field-0.0 c.from_residual.ensures.1
    (λ r. IfErr r IsReadFault) (memory_is_read _ c.in_err-at.ensures.memory)

pub returns-in-Ok-clause-only : goal.returns-in-Ok-clause-only
returns-in-Ok-clause-only g c =
    reads_where g.D.Device _ _ _ _ (λ is. never_ok is) c.in-Ok.ensures.only

pub returns-in-Ok-clause-damaged : goal.returns-in-Ok-clause-damaged
returns-in-Ok-clause-damaged g c =
    λ honest agrees spec i rows has is. never_ok is

pub returns-in-Ok-clause-spent : goal.returns-in-Ok-clause-spent
returns-in-Ok-clause-spent g c =
    λ is. never_ok is

pub returns-clause-only : goal.returns-clause-only
returns-clause-only g c =
    reads_where g.D.Device _ _ _ _ (λ is. ap Err (device_back c.in-Err.error (sym c.to_fault.ensures ∙ same_error is)))
    c.in-Err.ensures.only

pub returns-clause-damaged : goal.returns-clause-damaged
returns-clause-damaged g c =
    λ honest agrees spec i rows pairs is. c.in-Err.ensures.damaged honest agrees
    (ap Err (damaged_back c.in-Err.error (sym c.to_fault.ensures ∙ same_error is))) pairs.levels pairs.holds

pub returns-clause-spent : goal.returns-clause-spent
returns-clause-spent g c =
    λ is. c.in-Err.ensures.spent (ap Err (spent_back c.in-Err.error (sym c.to_fault.ensures ∙ same_error is)))

pub returns-clause-cause : goal.returns-clause-cause
returns-clause-cause g c =
    reading_is_read c.in-Err.error c.to_fault.result c.in-Err.ensures.cause c.to_fault.ensures
