use Rattle.std.proofs.Common.{◌≡◌, ap, subst, ◌∙◌, OnErr}
use Rattle.std.proofs.lemmas.Result.{err_from_is_err_and}
use Rattle.records.specs.Files.{Files}
use Rattle.file_bytes.specs.Stored.{files_of}
use Rattle.volume_commands.specs.Listing.{listing}
use Rattle.volume_commands.specs.Output.{AppendsBeginning}
use Rattle.volume_commands.proofs.Reading.{reads_refused}
use Rattle.volume_commands.proofs.list_command.list_volume.Goals as goal

pub returns-in_err-files-clause-reads : goal.returns-in_err-files-clause-reads
returns-in_err-files-clause-reads g c =
    let p = err_from_is_err_and c.from_residual.result c.from_residual.ensures.1 in
    let same : p.0 ≡ c.in_err-files.field-0.0 = cc p.2 in
    reads_refused g.D.Device _ _ c.in_err-files.field-0.0 p.0 c.from_residual.result _ _ p.1 same
    c.in_err-files.ensures.reads

pub returns-clause-begun : goal.returns-clause-begun
returns-clause-begun g c = λ honest files holds.
    let same = ap files_of c.deref.ensures.value
    ∙ c.one_list_of_files.ensures _ _ files (c.in_ok-files.ensures.files honest) holds in
    subst (λ (all : Files). OnErr c.write_listing.result (AppendsBeginning
    (g.W.Write.contents c.args.out.now) (g.W.Write.contents c.write_listing.new.out) (listing all)))
    same c.write_listing.ensures.beginning
