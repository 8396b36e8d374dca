use Rattle.std.proofs.Common.{List, ◌≡◌, ◌∙◌, ◌+◌, ◌≤◌, ℕ, Bool, length, ap, subst, arith}
use Rattle.std.specs.Prelude.{Vec}
use Rattle.std.specs.declared.alloc.Global.{Global}
use Rattle.pages.specs.Volumes.{unused_below, IsMappedDraft, IsCounted}
use Rattle.pages.specs.Needed.{written_below}
use Rattle.pages.proofs.Drafts.{same_size_then}
use Rattle.pages.proofs.Taking.{written_mono}
use Rattle.pages.proofs.stage.stage_maps.Goals as goal

pub loop-map-preserved : goal.loop-map-preserved
loop-map-preserved c =
    let before = c.loop-map.invariant in
    let here = c.in_ok-stage_map.ensures in
    record {
      size = same_size_then c.args.volume.now c.loop-map.volume c.stage_map.new.volume before.size here.size;
      start = here.start ∙ before.start;
      changed_maps = ap (λ (x : Vec Bool Global). length x.items) here.changed_maps ∙ before.changed_maps;
      mapped = λ v changes draft. here.mapped v changes (before.mapped v changes draft);
      counted = λ v changes start. here.counted v changes (before.counted v changes start);
    }

pub returns-clause-mapped : goal.returns-clause-mapped
returns-clause-mapped c = λ v changes draft.
    let all : c.loop-map.map ≡ length c.args.volume.now.maps.items =
    omega (arith, c.loop-map-test.false, c.loop-map.auto.map-end, c.len-map-end.ensures) in
    subst (λ (n : ℕ). IsMappedDraft v c.loop-map.volume c.loop-map.draft changes n) all
    (c.loop-map.invariant.mapped v changes draft)

pub returns-clause-counted : goal.returns-clause-counted
returns-clause-counted c = λ v changes start.
    let all : c.loop-map.map ≡ length c.args.volume.now.maps.items =
    omega (arith, c.loop-map-test.false, c.loop-map.auto.map-end, c.len-map-end.ensures) in
    subst (λ (n : ℕ). IsCounted v c.loop-map.volume c.loop-map.draft changes (written_below v changes n)) all
    (c.loop-map.invariant.counted v changes start)

pub returns-in_err-stage_map-clause-full : goal.returns-in_err-stage_map-clause-full
returns-in_err-stage_map-clause-full c = λ v changes start full.
    let told = rw full at c.from_residual.ensures.1 in
    let here = c.in_err-stage_map.ensures.full v changes (c.loop-map.invariant.counted v changes start) (cc (told)) in
    let low : c.loop-map.map + 1 ≤ length c.args.volume.now.maps.items =
    omega (arith, c.loop-map-test.true, c.len-map-end.ensures) in
    let begun : unused_below c.loop-map.volume.used c.loop-map.draft.start
    ≡ unused_below c.args.volume.now.used c.args.draft.now.start =
    ap (λ (u : List Bool). unused_below u c.loop-map.draft.start) c.loop-map.invariant.size.used
    ∙ ap (unused_below c.args.volume.now.used) c.loop-map.invariant.start in
    omega (arith, here, begun, written_mono v changes (c.loop-map.map + 1) (length c.args.volume.now.maps.items) low)
