use Rattle.std.proofs.Common.{inl, ⊎_elim, ℕ, length, ap, subst, arith}
use Rattle.pages.specs.Volumes.{volume_of, unused_below, IsFresh}
use Rattle.pages.specs.Needed.{written_below}
use Rattle.pages.proofs.Taking.{counted_start, enough_free, short_start}
use Rattle.pages.proofs.Stages.{planned, planned_sound, counted_all, short_maps}
use Rattle.pages.proofs.plan.next_volume.Goals as goal

pub returns-clause-plan : goal.returns-clause-plan
returns-clause-plan c =
    let stages = c.in_ok-stage_changes.ensures in
    let fresh : IsFresh (length c.args.volume.now.maps.items) c.start_of-start.result.sector c.in_ok-draft.draft =
    subst (λ (n : ℕ). IsFresh n c.start_of-start.result.sector c.in_ok-draft.draft)
    (omega (arith, c.args.volume.now.maps.ok)) c.in_ok-draft.ensures in
    planned c.args.volume.now c.stage_changes.new.volume c.stage_maps.new.volume c.in_ok-draft.draft
    c.stage_changes.new.draft c.stage_maps.new.draft c.args.changes.now c.start_of-start.result.sector c.requires.sound
    c.start_of-start.ensures.some fresh stages.size c.args.mark c.args.catalog
    c.start_of-start.result.near stages.staged stages.maps c.in_ok-stage_maps.ensures.mapped
    c.in_ok-stage_maps.ensures.size c.requires.mark

pub returns-clause-sound : goal.returns-clause-sound
returns-clause-sound c =
    let stages = c.in_ok-stage_changes.ensures in
    let fresh : IsFresh (length c.args.volume.now.maps.items) c.start_of-start.result.sector c.in_ok-draft.draft =
    subst (λ (n : ℕ). IsFresh n c.start_of-start.result.sector c.in_ok-draft.draft)
    (omega (arith, c.args.volume.now.maps.ok)) c.in_ok-draft.ensures in
    planned_sound c.args.volume.now c.stage_changes.new.volume c.stage_maps.new.volume c.in_ok-draft.draft
    c.stage_changes.new.draft c.stage_maps.new.draft c.args.changes.now c.start_of-start.result.sector c.requires.sound
    c.start_of-start.ensures.some fresh stages.size c.args.mark c.args.catalog
    c.start_of-start.result.near stages.staged stages.maps c.in_ok-stage_maps.ensures.mapped
    c.in_ok-stage_maps.ensures.size (omega (arith, c.if-volume-ge-GENERATIONS.false))

pub returns-in_err-stage_changes-clause-full : goal.returns-in_err-stage_changes-clause-full
returns-in_err-stage_changes-clause-full c = λ full.
    let told = rw full at c.from_residual-in_err-stage_changes.ensures.1 in
    let m = c.args.volume.now in
    let start = c.start_of-start.result.sector in
    let may = c.start_of-start.ensures in
    let fresh : IsFresh (length c.args.volume.now.maps.items) c.start_of-start.result.sector c.in_ok-draft.draft =
    subst (λ (n : ℕ). IsFresh n c.start_of-start.result.sector c.in_ok-draft.draft)
    (omega (arith, c.args.volume.now.maps.ok)) c.in_ok-draft.ensures in
    let here = c.in_err-stage_changes.ensures.full (volume_of m) c.requires.once
    (counted_start m c.in_ok-draft.draft start c.requires.sound may.some fresh) (cc (told)) in
    inl (short_start m c.args.changes.now start (unused_below m.used c.in_ok-draft.draft.start) c.requires.sound may
    (ap (unused_below m.used) fresh.start) (omega (arith, here)))

pub returns-in_err-stage_maps-clause-full : goal.returns-in_err-stage_maps-clause-full
returns-in_err-stage_maps-clause-full c = λ full.
    let told = rw full at c.from_residual-in_err-stage_maps.ensures.1 in
    let stages = c.in_ok-stage_changes.ensures in
    let may = c.start_of-start.ensures in
    let fresh : IsFresh (length c.args.volume.now.maps.items) c.start_of-start.result.sector c.in_ok-draft.draft =
    subst (λ (n : ℕ). IsFresh n c.start_of-start.result.sector c.in_ok-draft.draft)
    (omega (arith, c.args.volume.now.maps.ok)) c.in_ok-draft.ensures in
    let staged = stages.counted (volume_of c.args.volume.now) c.requires.once (counted_start c.args.volume.now
    c.in_ok-draft.draft c.start_of-start.result.sector c.requires.sound may.some fresh) in
    inl (short_maps c.args.volume.now c.stage_changes.new.volume c.stage_maps.new.volume c.in_ok-draft.draft
    c.stage_changes.new.draft c.stage_maps.new.draft c.args.changes.now c.start_of-start.result.sector c.requires.sound
    may.some fresh stages.size may stages.start
    (c.in_err-stage_maps.ensures.full (volume_of c.args.volume.now) c.args.changes.now staged (cc (told))))

pub returns-clause-room : goal.returns-clause-room
returns-clause-room c = λ short.
    let stages = c.in_ok-stage_changes.ensures in
    let v = volume_of c.args.volume.now in
    let fresh : IsFresh (length c.args.volume.now.maps.items) c.start_of-start.result.sector c.in_ok-draft.draft =
    subst (λ (n : ℕ). IsFresh n c.start_of-start.result.sector c.in_ok-draft.draft)
    (omega (arith, c.args.volume.now.maps.ok)) c.in_ok-draft.ensures in
    let all = counted_all c.args.volume.now c.stage_changes.new.volume c.stage_maps.new.volume c.in_ok-draft.draft
    c.stage_changes.new.draft c.stage_maps.new.draft c.args.changes.now c.start_of-start.result.sector c.requires.sound
    c.start_of-start.ensures.some fresh stages.size
    (λ v. stages.counted v c.requires.once) c.in_ok-stage_maps.ensures.counted in
    let room = enough_free v c.stage_maps.new.volume c.stage_maps.new.draft c.args.changes.now
    (written_below v c.args.changes.now (length c.args.volume.now.maps.items)) all in
    ⊎_elim (λ few. omega (arith, few, room)) (λ last. omega (arith, last, c.if-volume-ge-GENERATIONS.false)) short

pub returns-clause-blocks : goal.returns-clause-blocks
returns-clause-blocks c =
    let stages = c.in_ok-stage_changes.ensures in
    let fresh : IsFresh (length c.args.volume.now.maps.items) c.start_of-start.result.sector c.in_ok-draft.draft =
    subst (λ (n : ℕ). IsFresh n c.start_of-start.result.sector c.in_ok-draft.draft)
    (omega (arith, c.args.volume.now.maps.ok)) c.in_ok-draft.ensures in
    let all = counted_all c.args.volume.now c.stage_changes.new.volume c.stage_maps.new.volume c.in_ok-draft.draft
    c.stage_changes.new.draft c.stage_maps.new.draft c.args.changes.now c.start_of-start.result.sector c.requires.sound
    c.start_of-start.ensures.some fresh stages.size
    (λ v. stages.counted v c.requires.once) c.in_ok-stage_maps.ensures.counted in
    (all.taken.ascending, all.blocks)
