use Rattle.std.proofs.Common.{◌∙◌, ℕ, set, ap, subst}
use Rattle.station.specs.Disk.{idle_disk}
use Rattle.station.specs.State.{State}
use Rattle.station.proofs.TwoPhase.{on_ok}
use Rattle.half_store.specs.Write.{SpellsRoot}
use Rattle.half_store.proofs.Formatted.{empty_images, empty_rests}
use Rattle.half_store.proofs.empty.format.Goals as goal

pub returns-clause-empty : goal.returns-clause-empty
returns-clause-empty g c = λ honest.
    let state = g.D.Device.state in
    let old = state c.args.device.now in
    let root = c.root_bytes-root.result in
    let honest' = c.in_ok-write.ensures.honest.0 honest in
    let honest'' = c.in_ok-write-2.ensures.honest.0 honest' in
    let spells : SpellsRoot (g.D.Device.sectors c.args.device.now) 0 0 root =
    subst (λ (n : ℕ). SpellsRoot n 0 0 root) c.count.ensures c.root_bytes-root.ensures in
    on_ok c.sync.result (λ is. empty_images old.disk.present (g.D.Device.sectors c.args.device.now) root
    (g.met.D.Device.all_present c.args.device.now honest) c.requires.least spells (state c.sync.new.self)
    (ap (λ (s : State). s.disk) is ∙ ap (λ (s : State). idle_disk s.disk.present) (c.in_ok-write-2.ensures.wrote
    honest') ∙ ap (λ (s : State). idle_disk (set s.disk.present 0 root)) (c.in_ok-write.ensures.wrote honest)))
    (c.sync.ensures.synced honest'')

pub returns-clause-rests : goal.returns-clause-rests
returns-clause-rests g c = λ honest.
    let state = g.D.Device.state in
    let old = state c.args.device.now in
    let root = c.root_bytes-root.result in
    let honest' = c.in_ok-write.ensures.honest.0 honest in
    let honest'' = c.in_ok-write-2.ensures.honest.0 honest' in
    let spells : SpellsRoot (g.D.Device.sectors c.args.device.now) 0 0 root =
    subst (λ (n : ℕ). SpellsRoot n 0 0 root) c.count.ensures c.root_bytes-root.ensures in
    on_ok c.sync.result (λ is. empty_rests old.disk.present (g.D.Device.sectors c.args.device.now) root
    (g.met.D.Device.all_present c.args.device.now honest) c.requires.least spells (state c.sync.new.self).disk
    (ap (λ (s : State). s.disk) is ∙ ap (λ (s : State). idle_disk s.disk.present) (c.in_ok-write-2.ensures.wrote
    honest') ∙ ap (λ (s : State). idle_disk (set s.disk.present 0 root)) (c.in_ok-write.ensures.wrote honest)))
    (c.sync.ensures.synced honest'')
