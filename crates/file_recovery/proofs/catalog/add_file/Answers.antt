use Rattle.std.proofs.Common.{◌≡◌, Err, [], ◌∷◌, ap, length-append, ◌∙◌}
use Rattle.std.proofs.lemmas.List.{map-append}
use Rattle.std.specs.Prelude.{List, length}
use Rattle.btree.proofs.Passing.{on_refused, never_ok, was_error}
use Rattle.file_bytes.specs.declared.stored.StoredFile.{StoredFile}
use Rattle.file_bytes.specs.Stored.{files_of, named_of}
use Rattle.records.specs.declared.fault.StoreFault.TheVariants.{Device, Damaged, Memory}
use Rattle.volume_format.proofs.Looks.{looks_blamed}
use Rattle.file_recovery.proofs.Faults.{cause_passed, memory_not_device, memory_not_damaged}
use Rattle.file_recovery.proofs.catalog.add_file.Goals as goal

pub returns-in_err-file-clause-looks : goal.returns-in_err-file-clause-looks
returns-in_err-file-clause-looks g c =
    looks_blamed g.D.Device (c.check_file.result ≡ Err Device) _ c.args.pages.now c.check_file.new.pages
    c.args.device.now c.check_file.new.device (λ is. was_error c.from_residual.result c.check_file.result
    c.in_err-file.field-0.0 Device c.from_residual.ensures.1 c.in_err-file.was is) c.check_file.ensures.looks

pub returns-in_err-file-clause-many : goal.returns-in_err-file-clause-many
returns-in_err-file-clause-many g c =
    on_refused c.from_residual.result c.in_err-file.field-0.0 c.from_residual.ensures.1 _

pub returns-in_err-file-clause-file : goal.returns-in_err-file-clause-file
returns-in_err-file-clause-file g c = λ honest agrees.
    on_refused c.from_residual.result c.in_err-file.field-0.0 c.from_residual.ensures.1 _

pub returns-in_err-file-clause-damaged : goal.returns-in_err-file-clause-damaged
returns-in_err-file-clause-damaged g c = λ honest agrees is. c.check_file.ensures.damaged honest agrees
    (was_error c.from_residual.result c.check_file.result c.in_err-file.field-0.0 Damaged c.from_residual.ensures.1
    c.in_err-file.was is)

pub returns-in_err-file-clause-cause : goal.returns-in_err-file-clause-cause
returns-in_err-file-clause-cause g c =
    cause_passed c.from_residual.result c.in_err-file.field-0.0 c.from_residual.ensures.1 c.in_err-file.ensures.cause

pub returns-in_err-push-clause-looks : goal.returns-in_err-push-clause-looks
returns-in_err-push-clause-looks g c =
    looks_blamed g.D.Device (c.check_file.result ≡ Err Device) _ c.args.pages.now c.check_file.new.pages
    c.args.device.now c.check_file.new.device
    (λ is. memory_not_device c.from_residual-in_err-push.result c.from_residual-in_err-push.ensures.1 is)
    c.check_file.ensures.looks

pub returns-in_err-push-clause-many : goal.returns-in_err-push-clause-many
returns-in_err-push-clause-many g c =
    on_refused c.from_residual-in_err-push.result Memory c.from_residual-in_err-push.ensures.1 _

pub returns-in_err-push-clause-file : goal.returns-in_err-push-clause-file
returns-in_err-push-clause-file g c = λ honest agrees.
    on_refused c.from_residual-in_err-push.result Memory c.from_residual-in_err-push.ensures.1 _

pub returns-in_err-push-clause-damaged : goal.returns-in_err-push-clause-damaged
returns-in_err-push-clause-damaged g c = λ honest agrees is.
    memory_not_damaged c.from_residual-in_err-push.result c.from_residual-in_err-push.ensures.1 is

pub returns-in_err-push-clause-cause : goal.returns-in_err-push-clause-cause
returns-in_err-push-clause-cause g c =
    cause_passed c.from_residual-in_err-push.result Memory c.from_residual-in_err-push.ensures.1 tt

pub returns-clause-looks : goal.returns-clause-looks
returns-clause-looks g c =
    looks_blamed g.D.Device (c.check_file.result ≡ Err Device) _ c.args.pages.now c.check_file.new.pages
    c.args.device.now c.check_file.new.device (λ is. never_ok is) c.check_file.ensures.looks

pub returns-clause-many : goal.returns-clause-many
returns-clause-many g c = ap (λ (l : List StoredFile). length l) c.in_ok-push.ensures.items
    ∙ length-append c.args.files.now.items (c.in_ok-file.file ∷ [])

pub returns-clause-file : goal.returns-clause-file
returns-clause-file g c = λ honest agrees. record {
  one = named_of c.in_ok-file.file;
  finds = c.in_ok-file.ensures.file honest agrees;
  added = ap files_of c.in_ok-push.ensures.items
      ∙ map-append named_of c.args.files.now.items (c.in_ok-file.file ∷ []);
}

pub returns-clause-damaged : goal.returns-clause-damaged
returns-clause-damaged g c = λ honest agrees is. never_ok is
