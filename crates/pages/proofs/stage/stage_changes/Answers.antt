use Rattle.std.proofs.Common.{Bool, ◌≡◌, true, get_or, ap, ◌∙◌, ◌<◌, List, take, take_all, length, subst, sym, arith}
use Rattle.std.specs.Prelude.{is_some}
use Rattle.pages.specs.Volumes.{unused_below, IsCounted}
use Rattle.pages.specs.declared.change.Change.{Change}
use Rattle.pages.proofs.Drafts.{same_size_then}
use Rattle.pages.proofs.Counting.{front_lt}
use Rattle.pages.proofs.Stages.{next_change}
use Rattle.pages.proofs.stage.stage_changes.Goals as goal

pub loop-change-preserved : goal.loop-change-preserved
loop-change-preserved c =
    let before = c.loop-change.invariant in
    let here = c.in_ok-stage_change.ensures in
    let next = next_change c.args.changes.now c.loop-change.change-index _ c.change-item.result (omega arith)
    c.change-item.is c.requires.pages in
    record {
      size = same_size_then c.args.volume.now c.loop-change.volume c.stage_change.new.volume before.size here.size;
      maps = here.maps ∙ before.maps;
      start = here.start ∙ before.start;
      changed_maps = here.changed_maps ∙ before.changed_maps;
      staged = λ v draft. rw (sym next.is) (here.staged v _ next.some (before.staged v draft));
      counted = λ v once start. rw (sym next.is) (here.counted v _ 0 (next.away once) (before.counted v once start));
    }

pub returns-clause-counted : goal.returns-clause-counted
returns-clause-counted c = λ v once start.
    subst (λ (l : List Change). IsCounted v c.loop-change.volume c.loop-change.draft l 0) (take_all
    c.loop-change.change-index c.args.changes.now (omega arith)) (c.loop-change.invariant.counted v once start)

pub returns-in_err-stage_change-clause-full : goal.returns-in_err-stage_change-clause-full
returns-in_err-stage_change-clause-full c = λ v once start full.
    let told = rw full at c.from_residual.ensures.1 in
    let i = c.loop-change.change-index in
    let lt : i < length c.args.changes.now = omega arith in
    let here = c.in_err-stage_change.ensures.full v (take i c.args.changes.now) 0
    (c.loop-change.invariant.counted v once start) (cc (told)) in
    let item = c.change-item.result in
    let filled_here : is_some (get_or c.args.changes.now i item).bytes ≡ true =
    subst (λ (x : Change). is_some x.bytes ≡ true) c.change-item.is here.0 in
    let begun : unused_below c.loop-change.volume.used c.loop-change.draft.start
    ≡ unused_below c.args.volume.now.used c.args.draft.now.start =
    ap (λ (u : List Bool). unused_below u c.loop-change.draft.start) c.loop-change.invariant.size.used
    ∙ ap (unused_below c.args.volume.now.used) c.loop-change.invariant.start in
    omega (arith, here.1, begun, front_lt (λ (x : Change). is_some x.bytes) c.args.changes.now i item lt filled_here)
