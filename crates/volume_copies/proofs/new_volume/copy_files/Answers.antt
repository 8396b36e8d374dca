use Rattle.station.specs.History.{EachImage}
use Rattle.station.proofs.Spans.{goes, weakens}
use Rattle.file_bytes.specs.Stored.{files_of}
use Rattle.volume_copies.specs.Copied.{IsWhileMade}
use Rattle.volume_copies.proofs.Publishing.{hidden_made, made_then}
use Rattle.volume_copies.proofs.new_volume.copy_files.Goals as goal

pub returns-in-Ok-clause-moments : goal.returns-in-Ok-clause-moments
returns-in-Ok-clause-moments g c = λ honest.
    let d = g.E.Device in
    let files = files_of c.args.files.now in
    let before = (d.state c.args.new).disk in
    let hidden = c.hide_root.new.device in
    let made = c.make_volume.result.device in
    goes (d.history c.args.new) (d.history hidden) (d.history made) (d.state hidden) (d.state made)
    (EachImage (IsWhileMade files before))
    (weakens _ _ _ _ _ (λ state leaves. hidden_made c.hidden_root_is_damage.ensures files before state leaves.images)
    (c.hide_root.ensures.moments honest))
    (weakens _ _ _ _ _ (made_then files before)
    (c.make_volume.ensures.moments (c.hide_root.ensures.only.honest.0 honest)))

pub returns-in-Err-clause-moments : goal.returns-in-Err-clause-moments
returns-in-Err-clause-moments g c = λ honest.
    let files = files_of c.args.files.now in
    let before = (g.E.Device.state c.args.new).disk in
    weakens _ _ _ _ _ (λ state leaves. hidden_made c.hidden_root_is_damage.ensures files before state leaves.images)
    (c.hide_root.ensures.moments honest)
