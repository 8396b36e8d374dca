use Rattle.std.proofs.Common.{◌≡◌, length, List}
use Rattle.pages.specs.Image.{Volume}
use Rattle.pages.specs.Volumes.{IsMappedDraft, IsCounted, SameSize}
use Rattle.pages.specs.Needed.{written_below}
use Rattle.pages.specs.declared.change.Change.{Change}
use Rattle.pages.proofs.stage.stage_maps.Given as goal

abbrev pub invariant-loop-map : goal.invariant-loop-map
invariant-loop-map l = record {
  size : SameSize l.initial.volume l.volume;
  start : l.draft.start ≡ l.initial.draft.start;
  changed_maps : length l.draft.changed_maps.items ≡ length l.initial.draft.changed_maps.items;
  mapped : (v : Volume) (changes : List Change) → IsMappedDraft v l.initial.volume l.initial.draft changes 0
      → IsMappedDraft v l.volume l.draft changes l.map;
  counted : (v : Volume) (changes : List Change) → IsCounted v l.initial.volume l.initial.draft changes 0
      → IsCounted v l.volume l.draft changes (written_below v changes l.map);
}
