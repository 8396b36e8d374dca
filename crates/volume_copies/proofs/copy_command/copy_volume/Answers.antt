use Rattle.std.proofs.Common.{◌∙◌, List, inl, inr, ap, sym, subst}
use Rattle.station.specs.History.{Through, EachImage}
use Rattle.station.proofs.Calls.{blamed_where}
use Rattle.station.proofs.Spans.{stays, weakens}
use Rattle.std.specs.Prelude.{Err}
use Rattle.file_bytes.specs.declared.stored.StoredFile.{StoredFile}
use Rattle.file_bytes.specs.Stored.{files_of}
use Rattle.file_recovery.specs.Recovered.{HoldsFiles}
use Rattle.volume_copies.specs.Copied.{IsWhileCopied, IsCopied, IsNoVolume, IsVolume}
use Rattle.unfinished_volume.specs.Inverted.{inverted_state}
use Rattle.volume_copies.proofs.Blaming.{same_old, never_old, told_refused, told_unmade, told_leaves, told_different}
use Rattle.volume_copies.proofs.Blaming.{told_keeps}
use Rattle.volume_copies.proofs.Publishing.{made_copied, copied_back, not_blamed}
use Rattle.volume_copies.proofs.copy_command.copy_volume.Goals as goal

pub returns-in-Err-clause-refused : goal.returns-in-Err-clause-refused
returns-in-Err-clause-refused g c = λ honest. (c.in-Err.ensures.refused honest, c.in-Err.ensures.opens honest)

pub returns-in-Ok-clause-moments : goal.returns-in-Ok-clause-moments
returns-in-Ok-clause-moments g c = λ honest honest_new.
    let d = g.E.Device in
    let old = (g.D.Device.state c.args.old.now).disk.present in
    let holds = subst (λ (l : List StoredFile). HoldsFiles old (files_of l)) (sym c.deref.ensures.value)
    (c.in-Ok.ensures.holds honest) in
    subst (λ (e : g.row.E.Denot). Through (d.history c.args.new) (d.history e) (d.state e)
    (EachImage (IsWhileCopied (g.D.Device.state c.args.old.now) (d.state c.args.new)))) (sym c.blame_new.ensures.device)
    (weakens _ _ _ _ _ (made_copied (files_of c.deref.result.now) (g.D.Device.state c.args.old.now) (d.state c.args.new)
    holds) (c.copy_files.ensures.moments honest_new))

pub returns-in-Ok-clause-copied : goal.returns-in-Ok-clause-copied
returns-in-Ok-clause-copied g c = λ honest honest_new done.
    let d = g.E.Device in
    let old = g.D.Device.state c.args.old.now in
    let holds = subst (λ (l : List StoredFile). HoldsFiles old.disk.present (files_of l)) (sym c.deref.ensures.value)
    (c.in-Ok.ensures.holds honest) in
    subst (λ (e : g.row.E.Denot). IsCopied old (d.state e)) (sym c.blame_new.ensures.device)
    (copied_back (files_of c.deref.result.now) old (d.state c.copy_files.result.device) holds
    (c.copy_files.ensures.copied honest_new
    (not_blamed c.copy_files.result.copy (sym c.blame_new.ensures.copy ∙ done))))

pub returns-in-Ok-clause-only : goal.returns-in-Ok-clause-only
returns-in-Ok-clause-only g c = blamed_where g.D.Device _ _ _ _
    (λ is. never_old c.copy_files.result.copy c.blame_new.ensures.copy is) c.in-Ok.ensures.only

pub returns-in-Ok-clause-opened : goal.returns-in-Ok-clause-opened
returns-in-Ok-clause-opened g c = λ honest.
    record { moments = c.in-Ok.ensures.moments honest; unwritten = inr (c.in-Ok.ensures.state honest) }

pub returns-in-Ok-clause-refused : goal.returns-in-Ok-clause-refused
returns-in-Ok-clause-refused g c = λ honest.
    told_refused c.copy_files.result.copy c.blame_new.ensures.copy (g.D.Device.state c.args.old.now).disk.present

pub returns-in-Ok-clause-keeps : goal.returns-in-Ok-clause-keeps
returns-in-Ok-clause-keeps g c =
    told_keeps c.copy_files.result.copy c.blame_new.ensures.copy g.E.Device c.args.new c.copy_files.result.device
    c.blame_new.result.device c.blame_new.ensures.device c.copy_files.ensures.keeps

pub returns-in-Ok-clause-none : goal.returns-in-Ok-clause-none
returns-in-Ok-clause-none g c = λ honest left.
    subst (λ (e : g.row.E.Denot). EachImage IsNoVolume (g.E.Device.state e)) (sym c.blame_new.ensures.device)
    (c.copy_files.ensures.none honest (told_unmade c.copy_files.result.copy c.blame_new.ensures.copy left))

pub returns-in-Ok-clause-different : goal.returns-in-Ok-clause-different
returns-in-Ok-clause-different g c = λ honest differs.
    subst (λ (e : g.row.E.Denot). IsVolume (inverted_state (g.E.Device.state e))) (sym c.blame_new.ensures.device)
    (c.copy_files.ensures.different honest
    (told_different c.copy_files.result.copy c.blame_new.ensures.copy differs))

pub returns-in-Ok-clause-untouched : goal.returns-in-Ok-clause-untouched
returns-in-Ok-clause-untouched g c =
    told_leaves c.copy_files.result.copy c.blame_new.ensures.copy c.args.new c.blame_new.result.device

pub returns-in-Err-clause-only : goal.returns-in-Err-clause-only
returns-in-Err-clause-only g c = blamed_where g.D.Device _ _ _ _ (λ is. ap Err (same_old is)) c.in-Err.ensures.only

pub returns-in-Err-clause-opened : goal.returns-in-Err-clause-opened
returns-in-Err-clause-opened g c = λ honest.
    record { moments = c.in-Err.ensures.moments honest; unwritten = c.in-Err.ensures.unwritten honest }

pub returns-in-Err-clause-moments : goal.returns-in-Err-clause-moments
returns-in-Err-clause-moments g c = λ honest honest_new.
    stays (g.E.Device.history c.args.new) (g.E.Device.state c.args.new) _ (λ image crash. inl crash)
