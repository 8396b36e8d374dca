-- An image that lacks room.
use Rattle.std.proofs.Common.{◌⊎◌, ◌<◌, ℕ, length, sym, subst}
use Rattle.station.specs.Disk.{Disk}
use Rattle.records.specs.Files.{Files}
use Rattle.half_store.specs.Spelled.{files_bytes}
use Rattle.half_store.specs.Half.{Rests}
use Rattle.half_store.specs.Write.{IsFull}
use Rattle.half_store.specs.Stands.{LacksRoom}

-- the volume that a disk holds at rest is the one that is full
pub lacks_room : (n g : ℕ) (disk : Disk) (before after : Files) → Rests n g disk before
    → IsFull n g (length (files_bytes after)) ⊎ (255 < length after) → LacksRoom disk.present after
lacks_room n g disk before after rests short =
    let roots = rests.holds.roots in
    let bytes : ℕ = length (files_bytes after) in
    record {
      roots = roots;
      reads = rests.holds.reads;
      short = subst (λ (m : ℕ). IsFull m roots.newest.generation bytes ⊎ (255 < length after)) (sym rests.holds.sectors)
          (subst (λ (h : ℕ). IsFull n h bytes ⊎ (255 < length after)) (sym rests.holds.generation) short);
    }
