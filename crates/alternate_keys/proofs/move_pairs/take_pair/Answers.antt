use Rattle.std.proofs.Common.{◌≡◌, ℕ, List, sym, subst, ◌∙◌}
use Rattle.std.specs.Prelude.{Option, IsSome, OnOk, IfErr}
use Rattle.station.specs.Disk.{Sector}
use Rattle.pages.specs.Pages.{map_now}
use Rattle.btree.specs.Entries.{entry_with, without_entry}
use Rattle.records.specs.Stores.{spec_of}
use Rattle.volume_format.specs.Grows.{IsTreeAmong}
use Rattle.alternate_keys.specs.Moved.{old_key}
use Rattle.alternate_keys.proofs.Passing.{memory_is_read, passed}
use Rattle.alternate_keys.proofs.Faults.{never_spent, refused_by_call}
use Rattle.alternate_keys.specs.Faults.{IsReadFault}
use Rattle.row_trees.specs.Calls.{EditsPages}
use Rattle.alternate_keys.proofs.Calling.{edits_blamed, edits_nothing}
use Rattle.std.specs.Prelude.{Err}
use Rattle.alternate_keys.proofs.Passing.{memory_not_device}
use Rattle.records.specs.declared.fault.StoreFault.TheVariants.{Device}
use Rattle.alternate_keys.proofs.Passing.{on_refused}
use Rattle.alternate_keys.proofs.Passing.{memory_never_damaged}
use Rattle.alternate_keys.proofs.move_pairs.take_pair.Goals as goal

pub returns-clause-taken : goal.returns-clause-taken
returns-clause-taken g c = λ honest agrees left right entries stands.
    let after : List (Option Sector) =
    (map_now c.remove_among.new.pages (g.D.Device.state c.args.device.now).disk.present).pages in
    let key : c.deref.result.now ≡ old_key (spec_of c.args.file.now) c.args.key c.args.old.now =
    c.deref.ensures.value ∙ c.in_ok-at.ensures.key in
    subst (λ (k : List ℕ).
    OnOk c.remove_among.result (IsTreeAmong after left right c.remove_among.new.tree (without_entry entries k))) key
    (c.remove_among.ensures.removed honest agrees left right entries stands)

pub returns-clause-damaged : goal.returns-clause-damaged
returns-clause-damaged g c = λ honest agrees left right entries stands some is.
    let key : c.deref.result.now ≡ old_key (spec_of c.args.file.now) c.args.key c.args.old.now =
    c.deref.ensures.value ∙ c.in_ok-at.ensures.key in
    c.remove_among.ensures.damaged honest agrees left right entries stands
    (subst (λ (k : List ℕ). IsSome (entry_with entries k)) (sym key) some) is

pub returns-in_err-at-clause-spent : goal.returns-in_err-at-clause-spent
returns-in_err-at-clause-spent g c =
    λ is. absurd (never_spent c.old_pair.result c.old_pair.ensures.memory (refused_by_call c.in_err-at.was
    c.from_residual.ensures.1 is))

pub returns-in_err-at-clause-cause : goal.returns-in_err-at-clause-cause
returns-in_err-at-clause-cause g c =
    passed c.from_residual.result c.in_err-at.field-0.0 c.from_residual.ensures.1 (λ r. IfErr r IsReadFault)
    (memory_is_read c.in_err-at.field-0.0 c.in_err-at.ensures.memory)

pub returns-in_err-at-clause-edits : goal.returns-in_err-at-clause-edits
returns-in_err-at-clause-edits g c =
    passed c.from_residual.result c.in_err-at.field-0.0 c.from_residual.ensures.1
    (λ r. EditsPages g.D.Device (r ≡ Err Device) c.args.pages.now c.args.device.now c.args.pages.now c.args.device.now)
    (edits_blamed g.D.Device _ _ _ _ _ _ (λ e. memory_not_device _ c.in_err-at.ensures.memory e)
    (edits_nothing g.D.Device c.args.pages.now c.args.device.now))

pub returns-in_err-at-clause-taken : goal.returns-in_err-at-clause-taken
returns-in_err-at-clause-taken g c =
    λ honest agrees left right entries stands.
    on_refused c.from_residual.result c.in_err-at.field-0.0 c.from_residual.ensures.1 _

pub returns-in_err-at-clause-damaged : goal.returns-in_err-at-clause-damaged
returns-in_err-at-clause-damaged g c =
    λ honest agrees left right entries stands some is.
    memory_never_damaged c.from_residual.result c.in_err-at.field-0.0 c.from_residual.ensures.1
    c.in_err-at.ensures.memory is

pub returns-in_err-at-clause-few : goal.returns-in_err-at-clause-few
returns-in_err-at-clause-few g c =
    λ honest agrees left right entries stands.
    on_refused c.from_residual.result c.in_err-at.field-0.0 c.from_residual.ensures.1 _
