-- What a call that only reads leaves.
use Rattle.std.proofs.Common.{◌≡◌, ◌<◌, ◌+◌, Bool, ℕ, List, Some, length, sym, ap, subst, ◌∙◌, arith}
use Rattle.station.specs.Disk.{Disk}
use Rattle.pages.specs.Image.{Map, Reads, Volume, map_of}
use Rattle.pages.specs.Volumes.{volume_of}
use Rattle.pages.specs.Use.{free_count}
use Rattle.pages.specs.Pages.{committed_of, changed_pages_of, mark_of, Agrees, IsUnchanged, SameCommitted}
use Rattle.pages.specs.declared.page_map.PageMap.{PageMap}
use Rattle.pages.specs.Layout.{VolumeRoot}
use Rattle.records.specs.Files.{Files}
use Rattle.records.specs.Stores.{MakesLong}
use Rattle.volume_format.specs.Volume.{MapHolds}
use Rattle.alternate_keys.specs.Stands.{Represents, LacksSpace, LacksRoom, LacksMark}

pub same_volume : (old new : PageMap) → SameCommitted old new → committed_of new ≡ committed_of old
same_volume old new same = ap volume_of same.volume

-- too little room was there before calls that only read
pub room_before : (old new : PageMap) (more : ℕ) → IsUnchanged old new
    → free_count (committed_of new) < length (changed_pages_of new) + more
    → free_count (committed_of old) < length (changed_pages_of old) + more
room_before old new more unchanged room =
    let same = ap free_count (same_volume old new unchanged.committed) in
    let changed = ap (λ (l : List ℕ). length l) unchanged.changed_pages in
    omega (arith, room, same, changed)

pub stands_still : (old new : PageMap) (disk : Disk) (files : Files) → IsUnchanged old new → Agrees new disk
    → Represents old disk files → Represents new disk files
stands_still old new disk files unchanged agrees stands = record {
  agrees = agrees;
  still = unchanged.map disk.present ∙ stands.still
      ∙ ap (map_of disk.present) (sym (same_volume old new unchanged.committed));
  rested = unchanged.changed_pages ∙ stands.rested;
  holds = subst (λ (m : Map). MapHolds m files) (sym (unchanged.map disk.present)) stands.holds;
}

-- the volume of the last commit is that of the disk
pub lacks_room : (pages : PageMap) (disk : Disk) (is_new : Bool) (name : List ℕ) (after : Files) → Agrees pages disk
    → LacksSpace (committed_of pages) is_new name after → LacksRoom disk.present is_new name after
lacks_room pages disk is_new name after agrees short =
    record { volume = committed_of pages; reads = agrees.committed.reads; short = short }

-- and so is its mark
pub lacks_mark : (pages : PageMap) (disk : Disk) (files : Files) (is_new : Bool) (name : List ℕ) (after : Files)
    → Represents pages disk files → mark_of pages ≡ 0 → MakesLong is_new name after
    → LacksMark disk.present is_new name after
lacks_mark pages disk files is_new name after stands first long = record {
  volume = committed_of pages;
  reads = stands.agrees.committed.reads;
  first = sym (ap (λ (m : Map). m.mark) stands.still) ∙ first;
  long = long;
}

pub first_there : (pages : PageMap) (disk : Disk) (files : Files) (volume : Volume) → Represents pages disk files
    → Reads disk.present volume → volume.root.mark ≡ 0 → mark_of pages ≡ 0
first_there pages disk files volume stands reads first =
    let both : Some (committed_of pages).root ≡ Some volume.root =
    sym stands.agrees.committed.reads.root ∙ reads.root in
    let same : (committed_of pages).root ≡ volume.root = cc both in
    ap (λ (m : Map). m.mark) stands.still ∙ ap (λ (r : VolumeRoot). r.mark) same ∙ first
