use Rattle.std.proofs.Common.{◌<◌, length, sym, subst, ℕ}
use Rattle.station.proofs.Spans.{weakens}
use Rattle.unfinished_volume.proofs.Inversion.{on_ok}
use Rattle.unfinished_volume.proofs.RootMoments.{zeros_hidden, hidden_written, hidden_disk}
use Rattle.unfinished_volume.proofs.root_sector.hide_root.Goals as goal

pub returns-clause-moments : goal.returns-clause-moments
returns-clause-moments g c = λ honest.
    let old = g.D.Device.state c.args.device.now in
    let some : 0 < length old.disk.present =
    subst (λ (n : ℕ). 0 < n) (sym (g.met.D.Device.all_present c.args.device.now honest)) c.requires in
    weakens _ _ _ _ _
    (hidden_written old c.inverted_sector.result some
    (zeros_hidden c.inverted_sector.result c.inverted_sector.ensures.inverted))
    (c.write_root.ensures.moments honest)

pub returns-clause-hidden : goal.returns-clause-hidden
returns-clause-hidden g c = λ honest.
    let old = g.D.Device.state c.args.device.now in
    let some : 0 < length old.disk.present =
    subst (λ (n : ℕ). 0 < n) (sym (g.met.D.Device.all_present c.args.device.now honest)) c.requires in
    on_ok c.write_root.result (hidden_disk old.disk.present c.inverted_sector.result _ some
    (zeros_hidden c.inverted_sector.result c.inverted_sector.ensures.inverted)) (c.write_root.ensures.durable honest)
