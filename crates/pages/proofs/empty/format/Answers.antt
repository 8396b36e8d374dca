use Rattle.std.proofs.Common.{◌∙◌, ℕ, set, ap, subst}
use Rattle.station.specs.Disk.{idle_disk}
use Rattle.station.specs.State.{State}
use Rattle.station.proofs.TwoPhase.{on_ok}
use Rattle.pages.specs.Empty.{empty_volume}
use Rattle.pages.specs.Payload.{SpellsRoot}
use Rattle.pages.proofs.Formatted.{empty_images, empty_committed}
use Rattle.pages.proofs.empty.format.Goals as goal

pub returns-clause-empty : goal.returns-clause-empty
returns-clause-empty g c = λ honest.
    let state = g.D.Device.state in
    let old = state c.args.device.now in
    let root = c.empty_root-root.result in
    let honest' = c.in_ok-write.ensures.honest.0 honest in
    let honest'' = c.in_ok-write-2.ensures.honest.0 honest' in
    let spells : SpellsRoot (empty_volume (g.D.Device.sectors c.args.device.now)).root root =
    subst (λ (n : ℕ). SpellsRoot (empty_volume n).root root) c.count.ensures c.empty_root-root.ensures in
    on_ok c.sync.result (λ is. empty_images old.disk.present (g.D.Device.sectors c.args.device.now) root
    (g.met.D.Device.all_present c.args.device.now honest) c.requires.least spells (state c.sync.new.self)
    (ap (λ (s : State). s.disk) is ∙ ap (λ (s : State). idle_disk s.disk.present) (c.in_ok-write-2.ensures.wrote
    honest') ∙ ap (λ (s : State). idle_disk (set s.disk.present 0 root)) (c.in_ok-write.ensures.wrote honest)))
    (c.sync.ensures.synced honest'')

pub returns-clause-committed : goal.returns-clause-committed
returns-clause-committed g c = λ honest.
    let state = g.D.Device.state in
    let old = state c.args.device.now in
    let root = c.empty_root-root.result in
    let honest' = c.in_ok-write.ensures.honest.0 honest in
    let honest'' = c.in_ok-write-2.ensures.honest.0 honest' in
    let spells : SpellsRoot (empty_volume (g.D.Device.sectors c.args.device.now)).root root =
    subst (λ (n : ℕ). SpellsRoot (empty_volume n).root root) c.count.ensures c.empty_root-root.ensures in
    on_ok c.sync.result (λ is. empty_committed old.disk.present (g.D.Device.sectors c.args.device.now) root
    (g.met.D.Device.all_present c.args.device.now honest) c.requires.least spells (state c.sync.new.self).disk
    (ap (λ (s : State). s.disk) is ∙ ap (λ (s : State). idle_disk s.disk.present) (c.in_ok-write-2.ensures.wrote
    honest') ∙ ap (λ (s : State). idle_disk (set s.disk.present 0 root)) (c.in_ok-write.ensures.wrote honest)))
    (c.sync.ensures.synced honest'')
