-- A volume without files, once it stands on the disk.
use Rattle.std.proofs.Common.{◌≡◌, ◌≤◌, ◌==◌, true, ℕ, zero, suc, List, [], length, set, take, replicate, refl, sym}
use Rattle.std.proofs.Common.{◌∙◌, ap}
use Rattle.std.proofs.Common.{subst, arith, get_or-set_other, get_or-set_same, length-set}
use Rattle.std.specs.Prelude.{None, Ok, Err}
use Rattle.std.specs.List.Sorted.{IsStrictlySortedBy}
use Rattle.std.proofs.lemmas.Bool.{cond-true, eq-eqb}
use Rattle.station.specs.Disk.{Disk, Sector, sector_at, idle_disk, IsCrashImage}
use Rattle.station.specs.State.{State}
use Rattle.station.specs.History.{EachImage}
use Rattle.station.proofs.Crash.{settled_image}
use Rattle.roots.specs.declared.root.Mark.{Mark}
use Rattle.roots.specs.declared.root.RootSector.{RootSector}
use Rattle.roots.specs.declared.root.RootSector.TheVariants.{Blank, Valid}
use Rattle.roots.specs.declared.pair.RootsFault.TheVariants.{ForeignMark}
use Rattle.roots.specs.declared.pair.Roots.{Roots}
use Rattle.roots.specs.Root.{root_in, root_with_mark, mark_in, is_blank}
use Rattle.roots.specs.Pair.{newest_root}
use Rattle.roots.specs.Reading.{roots_in}
use Rattle.records.specs.Files.{AreFiles}
use Rattle.half_store.specs.Half.{known_families, bytes_of_sectors, start, count, HoldsAt, Holds, Rests}
use Rattle.half_store.specs.Write.{SpellsRoot}

all_blank : (n : ℕ) → is_blank (replicate n 0) ≡ true
all_blank zero = refl
all_blank (suc n) = all_blank n

no_files : AreFiles []
unfolding IsStrictlySortedBy
no_files = record { ascend = tt; each = tt; count = omega arith }

module _ (base : List Sector) (sectors : ℕ) (bytes : Sector) (all : length base ≡ sectors) (least : 1024 ≤ sectors)
    (spells : SpellsRoot sectors 0 0 bytes) where
  abbrev image : List Sector
  image = set (set base 1 (replicate 4096 0)) 0 bytes

  size : length image ≡ sectors
  size = length-set (set base 1 (replicate 4096 0)) 0 bytes ∙ length-set base 1 (replicate 4096 0) ∙ all

  first : sector_at image 0 ≡ bytes
  first = get_or-set_same (set base 1 (replicate 4096 0)) 0 bytes []
      (omega (arith, all, least, length-set base 1 (replicate 4096 0)))

  second : sector_at image 1 ≡ replicate 4096 0
  second = get_or-set_other (set base 1 (replicate 4096 0)) 0 1 bytes [] (λ e. omega (arith, e))
      ∙ get_or-set_same base 1 (replicate 4096 0) [] (omega (arith, all, least))

  blank_there : root_in known_families (length image) 1 (sector_at image 1) ≡ Blank
  blank_there = ap (root_in known_families (length image) 1) second ∙ cond-true (is_blank (replicate 4096 0)) Blank
      (root_with_mark (length image) 1 (replicate 4096 0) (mark_in known_families (replicate 4096 0))) (all_blank 4096)

  root_there : root_in known_families (length image) 0 (sector_at image 0) ≡ Valid spells.root
  root_there = ap (root_in known_families (length image) 0) first ∙ spells.valid (length image) (omega (arith, size))

  abbrev roots : Roots
  roots = record { newest = spells.root; older = None }

  reads : roots_in known_families image ≡ Ok roots
  reads =
      ap (λ (s : RootSector). newest_root s (root_in known_families (length image) 1 (sector_at image 1))) root_there
      ∙ ap (λ (s : RootSector). newest_root (Valid spells.root) s) blank_there
      ∙ cond-true (spells.root.mark.family == 0) (Ok roots) (Err ForeignMark)
      (eq-eqb spells.root.mark.family 0 (ap (λ (m : Mark). m.family) spells.mark))

  pub empty_holds : HoldsAt sectors 0 image []
  empty_holds = record {
    roots = roots;
    reads = reads;
    halves = record { newest = record { fits = omega (arith, spells.counted); zeros = spells.zeros }; older = tt };
    generation = spells.generation;
    sectors = spells.sectors;
    bytes = ap (λ (n : ℕ). take n (bytes_of_sectors image (start spells.root.sectors spells.root.generation) (count n)))
        spells.counted;
    counted = spells.counted;
    sound = no_files;
    early = tt;
    short = tt;
  }

  pub empty_images : (s : State) → s.disk ≡ idle_disk image → EachImage (λ i. Holds i []) s
  empty_images s is left crash = subst (λ (l : List Sector). Holds l [])
      (sym (settled_image image left (subst (λ (d : Disk). IsCrashImage d left) is crash))) (sectors, 0, empty_holds)

  pub empty_rests : (d : Disk) → d ≡ idle_disk image → Rests sectors 0 d []
  empty_rests d is =
      subst (λ (e : Disk). Rests sectors 0 e []) (sym is) (record { settled = refl; holds = empty_holds })
