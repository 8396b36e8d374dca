use Rattle.std.proofs.Common.{◌≡◌, inr, ⊎_elim, true, false, Err, sym, ap, subst, ◌∙◌}
use Rattle.std.specs.Prelude.{IfErr}
use Rattle.station.specs.State.{State}
use Rattle.station.proofs.Calls.{reads_writes, blamed_where, writes_then}
use Rattle.pages.specs.Pages.{Agrees}
use Rattle.records.specs.declared.fault.StoreFault.TheVariants.{Device}
use Rattle.records.specs.Changes.{FileChange}
use Rattle.records.specs.Files.{File, Files}
use Rattle.records.specs.Stores.{Has, spec_of, is_change, files_after}
use Rattle.alternate_keys.specs.Moved.{changed_by}
use Rattle.alternate_keys.specs.Settles.{IsChanged}
use Rattle.alternate_keys.specs.Stands.{Represents}
use Rattle.alternate_keys.proofs.Committing.{changed_from, refused_turned, put_turned}
use Rattle.alternate_keys.proofs.Faults.{never_old, refused_by_call}
use Rattle.alternate_keys.proofs.Still.{stands_still}
use Rattle.alternate_keys.proofs.Turning.{changed_spec, files_rest, lacks_changed, lacks_committed}
use Rattle.alternate_keys.specs.Faults.{IsWriteFault}
use Rattle.alternate_keys.proofs.Calling.{sectors_still}
use Rattle.alternate_keys.proofs.Passing.{passed, spent_before}
use Rattle.alternate_keys.proofs.changing.change_in.Given.{Over}
use Rattle.alternate_keys.proofs.changing.change_in.Goals as goal
use Rattle.alternate_keys.proofs.changing.change_in.Goals.{After-prepare, After-finish}

pub returns-in_err-outcome-clause-only : goal.returns-in_err-outcome-clause-only
returns-in_err-outcome-clause-only g c =
    blamed_where g.D.Device (c.prepare.result ≡ Err Device) _ c.args.device.now c.prepare.new.device
    (λ is. refused_by_call c.in_err-outcome.was c.from_residual.ensures.1 is)
    (reads_writes g.D.Device (c.prepare.result ≡ Err Device) c.args.device.now c.prepare.new.device
    c.prepare.ensures.edits.only)

-- the change, and the files after it
abbrev change : (g : Over) (c : After-prepare g) → File → FileChange
change g c held = changed_by c.args.verb c.args.file.now.organization c.args.number c.args.bytes.now held

abbrev after : (g : Over) (c : After-prepare g) → Files → File → Files
after g c files held = files_after c.args.file.now.name.items files (change g c held)

same_spec : (g : Over) (c : After-prepare g) (held : File) → (change g c held).file.spec ≡ held.spec
same_spec g c held = changed_spec c.args.verb c.args.file.now.organization c.args.number c.args.bytes.now held

pub returns-in_err-outcome-clause-turned : goal.returns-in_err-outcome-clause-turned
returns-in_err-outcome-clause-turned g c = λ honest files held stands has.
    let at = (goal.at.returns-in_err-outcome-clause-turned g c).After-prepare in
    refused_turned g.D.Device _ c.args.pages.now c.prepare.new.pages c.args.device.now c.prepare.new.device honest
    c.prepare.ensures.edits.only files (after g at files held) stands c.from_residual.result false
    c.args.file.now.name.items c.in_err-outcome.field-0.0 c.from_residual.ensures.1
    (λ is. c.prepare.ensures.damaged honest stands.agrees files held stands.holds has
    (refused_by_call c.in_err-outcome.was c.from_residual.ensures.1 is))
    (λ is. lacks_changed c.args.pages.now c.args.file.now.name.items files held (change g at held)
    (spec_of c.args.file.now) has.there has.spec (same_spec g at held) stands.rested
    (c.prepare.ensures.room honest stands.agrees files held stands.holds has
    (refused_by_call c.in_err-outcome.was c.from_residual.ensures.1 is)))
    (λ is. absurd (never_old c.prepare.result c.prepare.ensures.cause
    (refused_by_call c.in_err-outcome.was c.from_residual.ensures.1 is)))

pub returns-clause-only : goal.returns-clause-only
returns-clause-only g c =
    writes_then g.D.Device (c.prepare.result ≡ Err Device) (c.finish.result ≡ Err Device) (c.finish.result ≡ Err Device)
    c.args.device.now c.prepare.new.device c.finish.new.device (λ is. inr is)
    (reads_writes g.D.Device (c.prepare.result ≡ Err Device) c.args.device.now c.prepare.new.device
    c.prepare.ensures.edits.only) c.finish.ensures.only

-- where nothing was changed, the files are those from before
rested : (g : Over) (c : After-finish g) → g.D.Device.is_honest c.args.device.now → (files : Files) (held : File)
    → Represents c.args.pages.now (g.D.Device.state c.args.device.now).disk files → (ch : FileChange)
    → c.in_ok-outcome.outcome ≡ ch.outcome → is_change c.in_ok-outcome.outcome ≡ false
    → Represents c.prepare.new.pages (g.D.Device.state c.prepare.new.device).disk
    (files_after c.args.file.now.name.items files ch)
rested g c honest files held stands ch outcome_is none =
    let edits = c.prepare.ensures.edits in
    let still = edits.only.state honest in
    let same = files_rest c.args.file.now.name.items files ch (ap is_change (sym outcome_is) ∙ none) in
    let here = stands_still c.args.pages.now c.prepare.new.pages (g.D.Device.state c.args.device.now).disk files
    (c.in_ok-outcome.ensures.same none) (subst (λ (s : State). Agrees c.prepare.new.pages s.disk) still
    (edits.agrees honest stands.agrees)) stands in
    subst (λ (l : Files). Represents c.prepare.new.pages (g.D.Device.state c.prepare.new.device).disk l) same
    (subst (λ (s : State). Represents c.prepare.new.pages s.disk files) (sym still) here)

-- where something was changed, what is committed has the files from before, and the next generation those after it
will_change : (g : Over) (c : After-finish g) → g.D.Device.is_honest c.args.device.now → (files : Files) (held : File)
    → Represents c.args.pages.now (g.D.Device.state c.args.device.now).disk files → Has files c.args.file.now held
    → is_change c.in_ok-outcome.outcome ≡ true
    → IsChanged g.D.Device c.prepare.new.pages c.prepare.new.device files (files_after c.args.file.now.name.items files
    (changed_by c.args.verb c.args.file.now.organization c.args.number c.args.bytes.now held))
will_change g c honest files held stands has done =
    let edits = c.prepare.ensures.edits in
    changed_from g.D.Device _ c.args.pages.now c.prepare.new.pages c.args.device.now c.prepare.new.device honest
    edits.only files _ stands edits.committed (edits.agrees honest stands.agrees)
    (c.in_ok-outcome.ensures.will honest stands.agrees files held stands.holds has done)

pub returns-clause-turned : goal.returns-clause-turned
returns-clause-turned g c = λ honest files held stands has.
    let at = goal.at.returns-clause-turned g c in
    let later : Files = after g at.After-prepare files held in
    put_turned g.D.Device _ c.args.pages.now c.prepare.new.pages c.args.device.now c.prepare.new.device honest
    c.prepare.ensures.edits.only files later stands c.finish.result false c.args.file.now.name.items
    c.finish.new.pages c.finish.new.device
    (c.finish.ensures.settles files later (will_change g at.After-finish honest files held stands has)
    (rested g at.After-finish honest files held stands (change g at.After-prepare held)
    (c.in_ok-outcome.ensures.outcome honest stands.agrees files held stands.holds has)))
    (λ full. lacks_committed c.args.pages.now c.prepare.new.pages c.args.file.now.name.items files held
    (change g at.After-prepare held) (spec_of c.args.file.now) has.there has.spec (same_spec g at.After-prepare held)
    c.prepare.ensures.edits.committed (c.few_needed.ensures c.prepare.new.pages) stands.rested
    (c.in_ok-outcome.ensures.few honest stands.agrees files held stands.holds has) full)
    (λ is. never_old c.finish.result c.finish.ensures.cause is)

pub returns-in_err-outcome-clause-full : goal.returns-in_err-outcome-clause-full
returns-in_err-outcome-clause-full g c = λ honest files held stands has is.
    c.prepare.ensures.full honest stands.agrees files held stands.holds has
    (refused_by_call c.in_err-outcome.was c.from_residual.ensures.1 is)

pub returns-clause-full : goal.returns-clause-full
returns-clause-full g c = λ honest files held stands has is.
    let outcome_is = c.in_ok-outcome.ensures.outcome honest stands.agrees files held stands.holds has in
    sym (ap is_change outcome_is) ∙ c.finish.ensures.changes is

pub returns-in_err-outcome-clause-unwritten : goal.returns-in_err-outcome-clause-unwritten
returns-in_err-outcome-clause-unwritten g c = λ is honest. c.prepare.ensures.edits.only.state honest

pub returns-clause-unwritten : goal.returns-clause-unwritten
returns-clause-unwritten g c = λ is honest.
    let only = c.prepare.ensures.edits.only in
    ⊎_elim (λ full. c.finish.ensures.unwritten full (only.honest.0 honest) ∙ only.state honest)
    (λ old. absurd (never_old c.finish.result c.finish.ensures.cause old)) is

pub returns-in_err-outcome-clause-spent : goal.returns-in_err-outcome-clause-spent
returns-in_err-outcome-clause-spent g c =
    λ is. c.prepare.ensures.spent (refused_by_call c.in_err-outcome.was c.from_residual.ensures.1 is)

pub returns-in_err-outcome-clause-cause : goal.returns-in_err-outcome-clause-cause
returns-in_err-outcome-clause-cause g c =
    passed c.from_residual.result c.in_err-outcome.field-0.0 c.from_residual.ensures.1 (λ r. IfErr r IsWriteFault)
    c.in_err-outcome.ensures.cause

pub finish-requires-clause-sectors : goal.finish-requires-clause-sectors
finish-requires-clause-sectors g c =
    sectors_still g.D.Device _ c.args.pages.now c.prepare.new.pages c.args.device.now c.prepare.new.device
    c.prepare.ensures.edits.only c.prepare.ensures.edits.committed c.requires.sectors

pub returns-clause-spent : goal.returns-clause-spent
returns-clause-spent g c =
    λ is. spent_before c.args.pages.now c.prepare.new.pages c.prepare.ensures.edits.committed (c.finish.ensures.spent
    is)
