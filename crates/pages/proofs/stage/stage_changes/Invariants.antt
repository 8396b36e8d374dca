use Rattle.std.proofs.Common.{◌≡◌, length, take, []}
use Rattle.pages.specs.Image.{Volume, NamesOnce}
use Rattle.pages.specs.Changes.{changed_pages}
use Rattle.pages.specs.Volumes.{IsDraft, IsCounted, SameSize}
use Rattle.pages.proofs.stage.stage_changes.Given as goal

abbrev pub invariant-loop-change : goal.invariant-loop-change
invariant-loop-change l = record {
  size : SameSize l.initial.volume l.volume;
  maps : l.volume.maps ≡ l.initial.volume.maps;
  start : l.draft.start ≡ l.initial.draft.start;
  changed_maps : length l.draft.changed_maps.items ≡ length l.initial.draft.changed_maps.items;
  staged : (v : Volume) → IsDraft v l.initial.volume l.initial.draft []
      → IsDraft v l.volume l.draft (take l.change-index l.changes);
  counted : (v : Volume) → NamesOnce (changed_pages l.changes) → IsCounted v l.initial.volume l.initial.draft [] 0
      → IsCounted v l.volume l.draft (take l.change-index l.changes) 0;
}
