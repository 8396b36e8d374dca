use Rattle.std.proofs.Common.{◌≡◌, inr, ⊎_elim, true, false, refl, sym, Err, ◌∙◌}
use Rattle.station.proofs.Calls.{reads_nothing, reads_writes, blamed_where, writes_then}
use Rattle.records.specs.declared.fault.StoreFault.TheVariants.{Device, Old}
use Rattle.records.specs.Files.{Files, empty_file, with_file}
use Rattle.records.specs.Stores.{spec_of}
use Rattle.records.proofs.Short.{long_is_made}
use Rattle.alternate_keys.proofs.Committing.{changed_from, refused_turned, put_turned}
use Rattle.alternate_keys.proofs.Faults.{never_old, refused_by_call, write_is_create, writes_create}
use Rattle.alternate_keys.proofs.Still.{lacks_mark}
use Rattle.std.specs.Prelude.{IsErr, IfErr}
use Rattle.alternate_keys.specs.Faults.{IsCreateFault}
use Rattle.alternate_keys.proofs.Calling.{sectors_still}
use Rattle.alternate_keys.proofs.Passing.{passed, spent_before}
use Rattle.alternate_keys.proofs.creating.create_in.Goals as goal

pub returns-in_err-prepare_file-clause-only : goal.returns-in_err-prepare_file-clause-only
returns-in_err-prepare_file-clause-only g c =
    blamed_where g.D.Device (c.prepare_file.result ≡ Err Device) _ c.args.device.now c.prepare_file.new.device
    (λ is. refused_by_call c.in_err-prepare_file.was c.from_residual.ensures.1 is)
    (reads_writes g.D.Device (c.prepare_file.result ≡ Err Device) c.args.device.now c.prepare_file.new.device
    c.prepare_file.ensures.prepares.only)

pub returns-in_err-prepare_file-clause-turned : goal.returns-in_err-prepare_file-clause-turned
returns-in_err-prepare_file-clause-turned g c = λ honest files stands.
    refused_turned g.D.Device (c.prepare_file.result ≡ Err Device) c.args.pages.now c.prepare_file.new.pages
    c.args.device.now c.prepare_file.new.device honest c.prepare_file.ensures.prepares.only files
    (with_file c.args.file.now.name.items (empty_file (spec_of c.args.file.now)) files) stands c.from_residual.result
    true c.args.file.now.name.items c.in_err-prepare_file.field-0.0 c.from_residual.ensures.1
    (λ is. c.prepare_file.ensures.damaged honest stands.agrees files stands.holds
    (refused_by_call c.in_err-prepare_file.was c.from_residual.ensures.1 is))
    (λ is. c.prepare_file.ensures.room honest stands.agrees files stands.holds stands.rested
    (refused_by_call c.in_err-prepare_file.was c.from_residual.ensures.1 is))
    (λ is. absurd (never_old c.prepare_file.result c.prepare_file.ensures.cause
    (refused_by_call c.in_err-prepare_file.was c.from_residual.ensures.1 is)))

pub returns-clause-only : goal.returns-clause-only
returns-clause-only g c =
    writes_then g.D.Device (c.prepare_file.result ≡ Err Device) (c.commit_pages.result ≡ Err Device)
    (c.commit_pages.result ≡ Err Device) c.args.device.now c.prepare_file.new.device c.commit_pages.new.device
    (λ is. inr is)
    (reads_writes g.D.Device (c.prepare_file.result ≡ Err Device) c.args.device.now c.prepare_file.new.device
    c.prepare_file.ensures.prepares.only) c.commit_pages.ensures.only

pub returns-clause-turned : goal.returns-clause-turned
returns-clause-turned g c = λ honest files stands.
    let prepares = c.prepare_file.ensures.prepares in
    let after : Files = with_file c.args.file.now.name.items (empty_file (spec_of c.args.file.now)) files in
    let changed = changed_from g.D.Device _ c.args.pages.now c.prepare_file.new.pages c.args.device.now
    c.prepare_file.new.device honest prepares.only files after stands prepares.committed
    (prepares.agrees honest stands.agrees)
    (c.in_ok-prepare_file.ensures.will (λ first. c.is_too_long.ensures.no c.if-is_too_long.false
    (c.mark.ensures.is ∙ first)) honest stands.agrees files stands.holds) in
    put_turned g.D.Device _ c.args.pages.now c.prepare_file.new.pages c.args.device.now
    c.prepare_file.new.device honest prepares.only files after stands c.commit_pages.result true
    c.args.file.now.name.items c.commit_pages.new.pages c.commit_pages.new.device
    (c.commit_pages.ensures.settles files after changed)
    (c.in_ok-prepare_file.ensures.full honest stands.agrees files stands.holds stands.rested)
    (λ is. never_old c.commit_pages.result c.commit_pages.ensures.cause is)

pub returns-in_err-prepare_file-clause-unwritten : goal.returns-in_err-prepare_file-clause-unwritten
returns-in_err-prepare_file-clause-unwritten g c = λ is honest. c.prepare_file.ensures.prepares.only.state honest

pub returns-clause-unwritten : goal.returns-clause-unwritten
returns-clause-unwritten g c = λ is honest.
    let only = c.prepare_file.ensures.prepares.only in
    ⊎_elim (λ full. c.commit_pages.ensures.unwritten full (only.honest.0 honest) ∙ only.state honest)
    (λ old. absurd (never_old c.commit_pages.result c.commit_pages.ensures.cause old)) is

pub returns-in_err-prepare_file-clause-spent : goal.returns-in_err-prepare_file-clause-spent
returns-in_err-prepare_file-clause-spent g c =
    λ is. c.prepare_file.ensures.spent (refused_by_call c.in_err-prepare_file.was c.from_residual.ensures.1 is)

pub returns-in_err-prepare_file-clause-cause : goal.returns-in_err-prepare_file-clause-cause
returns-in_err-prepare_file-clause-cause g c =
    passed c.from_residual.result c.in_err-prepare_file.field-0.0 c.from_residual.ensures.1 (λ r. IfErr r
    IsCreateFault) (write_is_create c.in_err-prepare_file.field-0.0 c.in_err-prepare_file.ensures.cause)

pub returns-clause-cause : goal.returns-clause-cause
returns-clause-cause g c = writes_create c.commit_pages.result c.commit_pages.ensures.cause

pub returns-then-is_too_long-clause-turned : goal.returns-then-is_too_long-clause-turned
returns-then-is_too_long-clause-turned g c = λ honest files stands.
    let name = c.args.file.now.name.items in
    let told = c.is_too_long.ensures.yes c.if-is_too_long.true in
    let disk = (g.D.Device.state c.args.device.now).disk in
    refused_turned g.D.Device ⊥ c.args.pages.now c.args.pages.now c.args.device.now c.args.device.now honest
    (reads_nothing g.D.Device c.args.device.now) files
    (with_file name (empty_file (spec_of c.args.file.now)) files) stands (Err Old) true name Old refl
    (λ is. absurd cc) (λ is. absurd cc)
    (λ is. lacks_mark c.args.pages.now disk files true name
    (with_file name (empty_file (spec_of c.args.file.now)) files) stands (sym c.mark.ensures.is ∙ told.0)
    (long_is_made name (spec_of c.args.file.now) files told.1))

pub returns-in_err-prepare_file-clause-takes : goal.returns-in_err-prepare_file-clause-takes
returns-in_err-prepare_file-clause-takes g c = λ first long.
    passed c.from_residual.result c.in_err-prepare_file.field-0.0 c.from_residual.ensures.1 (λ r. IsErr r) refl

pub returns-clause-takes : goal.returns-clause-takes
returns-clause-takes g c = λ first long.
    let clash : true ≡ false =
    sym long ∙ c.is_too_long.ensures.no c.if-is_too_long.false (c.mark.ensures.is ∙ first) in
    absurd cc

pub commit_pages-requires-clause-sectors : goal.commit_pages-requires-clause-sectors
commit_pages-requires-clause-sectors g c =
    sectors_still g.D.Device _ c.args.pages.now c.prepare_file.new.pages c.args.device.now c.prepare_file.new.device
    c.prepare_file.ensures.prepares.only c.prepare_file.ensures.prepares.committed c.requires.sectors

pub returns-clause-spent : goal.returns-clause-spent
returns-clause-spent g c =
    λ is. spent_before c.args.pages.now c.prepare_file.new.pages c.prepare_file.ensures.prepares.committed
    (c.commit_pages.ensures.spent is)
