-- The files before and after a write of the half that isn't active.
use Rattle.std.proofs.Common.{◌≡◌, ◌⊎◌, inl, inr, ⊎_elim, ◌<◌, ◌≤◌, ◌+◌, ◌*◌, ◌%◌, ℕ, zero, suc, List, [], length, map}
use Rattle.std.proofs.Common.{take, drop, ◌++◌, set, refl, sym, ◌∙◌, ap, subst, arith, get_or-set_other}
use Rattle.std.specs.Prelude.{Some, Ok, Contains, slice_index_or}
use Rattle.std.proofs.Math.Seq.{take-append_seam}
use Rattle.std.proofs.lemmas.List.{take-take}
use Rattle.std.proofs.lemmas.List.Elements.{All-contains, All-map, All-push, All-nil}
use Rattle.station.specs.Disk.{Disk, Sector, sector_at, idle_disk, IsCrashImage}
use Rattle.station.specs.State.{State, Event}
use Rattle.station.specs.Blocks.{SectorsAre, CrashLeaves, SameOutside, OldOrNew, Old, New, with_all}
use Rattle.station.specs.declared.blocks.Block.{Block}
use Rattle.station.proofs.Crash.{settled_image}
use Rattle.station.proofs.TwoPhase.{all_same_outside, with_all_count}
use Rattle.roots.specs.Root.{root_in}
use Rattle.roots.specs.Pair.{newest_root}
use Rattle.roots.specs.Reading.{roots_in}
use Rattle.roots.specs.Laws.{Follows}
use Rattle.roots.specs.declared.root.Mark.{Mark}
use Rattle.roots.specs.declared.root.Root.{Root}
use Rattle.roots.proofs.Next.{newest_within, next_is_newest}
use Rattle.roots.proofs.Within.{roots_stand}
use Rattle.records.specs.Files.{Files}
use Rattle.records.specs.Stores.{Either}
use Rattle.half_store.specs.Spelled.{files_bytes}
use Rattle.half_store.specs.Blocks.{block_at, blocks_to}
use Rattle.half_store.specs.Half.{known_families, half, start, count, bytes_of_sectors, named_length, named_bytes}
use Rattle.half_store.specs.Half.{AreHalfFiles, HoldsAt, Holds, Rests}
use Rattle.half_store.specs.Write.{SpellsRoot, IsDraft}
use Rattle.half_store.proofs.Staged.{there, are_at, joined_parts, joined_same, enough, few, behind, within, apart}

-- a crash leaves the files of a disk at rest
pub at_rest : (n g : ℕ) (before after : Files) (s : State) → Rests n g s.disk before
    → CrashLeaves s.events (Either Holds before after) s
at_rest n g before after s rests = record {
  events = refl;
  images = λ image crash. inl (subst (λ (l : List Sector). Holds l before) (sym (settled_image s.disk.present image
      (subst (λ (d : Disk). IsCrashImage d image) rests.settled crash))) (n, g, rests.holds));
}

abbrev IsIn : ℕ → ℕ → ℕ → Type 0
IsIn from to s = (from ≤ s) × (s < to)

are_in : (from to : ℕ) (bytes : List ℕ) (k : ℕ) → from + k ≤ to → SectorsAre (IsIn from to) (blocks_to from bytes k)
are_in from to bytes zero le = All-nil (λ (b : Block). IsIn from to b.sector)
are_in from to bytes (suc k) le = All-push (λ (b : Block). IsIn from to b.sector) (blocks_to from bytes k)
    (block_at from bytes k) (are_in from to bytes k (omega (arith, le))) (omega arith, omega (arith, le))

is_in : (from to : ℕ) (bytes : List ℕ) (k i : ℕ) → from + k ≤ to
    → Contains (map (λ (b : Block). b.sector) (blocks_to from bytes k)) i → IsIn from to i
is_in from to bytes k i le has = All-contains (IsIn from to) (map (λ (b : Block). b.sector) (blocks_to from bytes k)) i
    (All-map (IsIn from to) (λ (b : Block). b.sector) (blocks_to from bytes k) (are_in from to bytes k le)) has

-- the roots stay where the first two sectors do
roots_same : (one two : List Sector) → length one ≡ length two → sector_at one 0 ≡ sector_at two 0
    → sector_at one 1 ≡ sector_at two 1 → roots_in known_families one ≡ roots_in known_families two
roots_same one two size first second =
    ap (λ (c : ℕ).
    newest_root (root_in known_families c 0 (sector_at one 0)) (root_in known_families c 1 (sector_at one 1))) size
    ∙ ap (λ (s : Sector).
    newest_root (root_in known_families (length two) 0 s) (root_in known_families (length two) 1 (sector_at one 1)))
    first
    ∙ ap (λ (s : Sector).
    newest_root (root_in known_families (length two) 0 (sector_at two 0)) (root_in known_families (length two) 1 s))
    second

module _ (n g : ℕ) (base : List Sector) (before after : Files) (long : List ℕ) (sector : Sector)
    (holds : HoldsAt n g base before) (least : 1024 ≤ n) (size : n ≤ length base)
    (fits : length (files_bytes after) ≤ 4096 * half n) (whole : take (length (files_bytes after)) long
    ≡ files_bytes after) (good : AreHalfFiles (g + 1) after)
    (spells : SpellsRoot n (g + 1) (length (files_bytes after)) sector) where
  abbrev bytes : ℕ
  bytes = length (files_bytes after)

  abbrev from : ℕ
  from = start n (g + 1)

  abbrev blocks : List Block
  blocks = blocks_to from long (count bytes)

  to : from + count bytes ≤ from + half n
  to = omega (arith, few bytes n fits)

  spared : (image : List Sector) → SameOutside base blocks image → (i : ℕ) → i < n → (i < from) ⊎ (from + half n ≤ i)
      → sector_at image i ≡ sector_at base i
  spared image spares i lt out = ⊎_elim (λ same. same)
      (λ has. let here = is_in from (from + half n) long (count bytes) i to has in
      absurd (⊎_elim (λ low. omega (arith, low, here.0)) (λ high. omega (arith, high, here.1)) out))
      (spares.each i (omega (arith, lt, size, spares.count)))

  roots_stay : (image : List Sector) → SameOutside base blocks image
      → roots_in known_families image ≡ roots_in known_families base
  roots_stay image spares = roots_same image base spares.count
      (spared image spares 0 (omega (arith, least)) (inl (omega (arith, behind n (g + 1)))))
      (spared image spares 1 (omega (arith, least)) (inl (omega (arith, behind n (g + 1)))))

  active : Root
  active = holds.roots.newest

  active_start : start holds.roots.newest.sectors holds.roots.newest.generation ≡ start n g
  active_start = ap (λ (m : ℕ). start m holds.roots.newest.generation) holds.sectors ∙ ap (start n) holds.generation

  active_count : count (named_length holds.roots.newest) ≤ half n
  active_count = few (named_length holds.roots.newest) n
      (subst (λ (m : ℕ). named_length holds.roots.newest ≤ 4096 * half m) holds.sectors holds.halves.newest.fits)

  bytes_stay : (image : List Sector) → SameOutside base blocks image
      → named_bytes image holds.roots.newest ≡ named_bytes base holds.roots.newest
  bytes_stay image spares = ap (take (named_length holds.roots.newest)) (joined_same image base
      (start holds.roots.newest.sectors holds.roots.newest.generation) (count (named_length holds.roots.newest))
      (λ j lt. let i = start holds.roots.newest.sectors holds.roots.newest.generation + j in
      let low : start n g ≤ i = omega (arith, active_start) in
      let high : i < start n g + half n = omega (arith, active_start, active_count, lt) in
      spared image spares i (omega (arith, high, within n g (omega (arith, least)))) (apart n g i low high)))

  -- the old root, and all sectors but those of the blocks
  pub old_holds : (image : List Sector) → SameOutside base blocks image → HoldsAt n g image before
  old_holds image spares = record {
    roots = holds.roots;
    reads = roots_stay image spares ∙ holds.reads;
    halves = holds.halves;
    generation = holds.generation;
    sectors = holds.sectors;
    bytes = bytes_stay image spares ∙ holds.bytes;
    counted = holds.counted;
    sound = holds.sound;
    early = holds.early;
    short = holds.short;
  }

  abbrev staged : List Sector
  staged = with_all base blocks

  abbrev place : ℕ
  place = (g + 1) % 2

  -- there is one mark of a volume of halves
  one_mark : holds.roots.newest.mark.version < 1
  one_mark = let there = roots_stand known_families base holds.roots holds.reads in
      subst (λ (family : ℕ). holds.roots.newest.mark.version < length (slice_index_or known_families family []))
      there.own_family there.known_marks.newest.version

  follows : Follows holds.roots.newest spells.root
  follows = let facts = newest_within known_families base holds.roots holds.reads in record {
    generation = omega (arith, spells.generation, holds.generation);
    sectors = spells.sectors ∙ sym holds.sectors;
    family = ap (λ (m : Mark). m.family) spells.mark ∙ sym facts.2;
    version = omega (arith, one_mark);
  }

  new_reads : roots_in known_families (set staged place sector)
      ≡ Ok (record { newest = spells.root; older = Some holds.roots.newest })
  new_reads = ap (λ (p : ℕ). roots_in known_families (set staged (p % 2) sector)) (sym spells.generation)
      ∙ next_is_newest known_families staged holds.roots spells.root sector
      (roots_stay staged (all_same_outside base blocks) ∙ holds.reads) follows
      (ap (λ (p : ℕ). root_in known_families (length staged) (p % 2) sector) spells.generation
      ∙ spells.valid (length staged) (omega (arith, size, with_all_count base blocks)))

  new_each : (j : ℕ) → j < count bytes
      → sector_at (set staged place sector) (from + j) ≡ take 4096 (drop (4096 * j) long)
  new_each j lt = get_or-set_other staged place (from + j) sector [] (λ e. omega (arith, e, behind n (g + 1)))
      ∙ there base from long (count bytes) j lt (omega (arith, to, size, within n (g + 1) (omega (arith, least))))

  named : named_bytes (set staged place sector) spells.root
      ≡ take bytes (bytes_of_sectors (set staged place sector) from (count bytes))
  named = ap (λ (m : ℕ). take m (bytes_of_sectors (set staged place sector)
      (start spells.root.sectors spells.root.generation) (count m))) spells.counted
      ∙ ap (λ (m : ℕ). take bytes
      (bytes_of_sectors (set staged place sector) (start m spells.root.generation) (count bytes))) spells.sectors
      ∙ ap (λ (m : ℕ). take bytes (bytes_of_sectors (set staged place sector) (start n m) (count bytes)))
      spells.generation

  named_fits : named_length spells.root ≤ 4096 * half spells.root.sectors
  named_fits = omega (arith, spells.counted, fits, ap half spells.sectors)

  -- the new root and all blocks
  pub new_holds : HoldsAt n (g + 1) (set staged place sector) after
  new_holds = record {
    roots = record { newest = spells.root; older = Some holds.roots.newest };
    reads = new_reads;
    halves = record { newest = record { fits = named_fits; zeros = spells.zeros }; older = holds.halves.newest };
    generation = spells.generation;
    sectors = spells.sectors;
    bytes = named ∙ ap (take bytes) (joined_parts (set staged place sector) from long (count bytes) new_each)
        ∙ take-take bytes (4096 * count bytes) long (enough bytes) ∙ whole;
    counted = spells.counted;
    sound = good.sound;
    early = good.early;
    short = good.short;
  }

  pub amid_files : (seen : List Event) (s : State) → CrashLeaves seen (OldOrNew base blocks place sector) s
      → CrashLeaves seen (Either Holds before after) s
  amid_files seen s amid =
      record { events = amid.events; images = λ image crash. either image (amid.images image crash) }
    where
      either : (image : List Sector) → OldOrNew base blocks place sector image → Either Holds before after image
      either image (Old spares) = inl (n, g, old_holds image spares)
      either image (New is) = inr (subst (λ (l : List Sector). Holds l after) (sym is) (n, g + 1, new_holds))

  pub rests_now : (d : Disk) → d ≡ idle_disk (set staged place sector) → Rests n (g + 1) d after
  rests_now d is = subst (λ (e : Disk). Rests n (g + 1) e after) (sym is) (record { settled = refl; holds = new_holds })

module _ (n g : ℕ) (base : List Sector) (before after : Files) (bytes : List ℕ) (planned : List Block) (sector : Sector)
    (draft : IsDraft n g bytes planned sector) (holds : HoldsAt n g base before)
    (least : 1024 ≤ n) (size : n ≤ length base) (is : bytes ≡ files_bytes after)
    (good : AreHalfFiles (g + 1) after) where
  counts : length bytes ≡ length (files_bytes after)
  counts = ap length is

  blocks_are : planned ≡ blocks_to (start n (g + 1)) draft.long (count (length (files_bytes after)))
  blocks_are = draft.blocks ∙ ap (λ (m : ℕ). blocks_to (start n (g + 1)) draft.long (count m)) counts

  root_is : SpellsRoot n (g + 1) (length (files_bytes after)) sector
  root_is = subst (λ (m : ℕ). SpellsRoot n (g + 1) m sector) counts draft.root

  whole_is : take (length (files_bytes after)) draft.long ≡ files_bytes after
  whole_is = ap (λ (m : ℕ). take m draft.long) (sym counts) ∙ draft.whole ∙ is

  pub amid_drafted : (seen : List Event) (s : State) → CrashLeaves seen (OldOrNew base planned ((g + 1) % 2) sector) s
      → CrashLeaves seen (Either Holds before after) s
  amid_drafted seen s amid = amid_files n g base before after draft.long sector holds least size
      (omega (arith, counts, draft.fits)) whole_is good root_is seen s
      (subst (λ (b : List Block). CrashLeaves seen (OldOrNew base b ((g + 1) % 2) sector) s) blocks_are amid)

  pub rests_drafted : (d : Disk) → d ≡ idle_disk (set (with_all base planned) ((g + 1) % 2) sector)
      → Rests n (g + 1) d after
  rests_drafted d same = rests_now n g base before after draft.long sector holds least size
      (omega (arith, counts, draft.fits)) whole_is good root_is d
      (same ∙ ap (λ (b : List Block). idle_disk (set (with_all base b) ((g + 1) % 2) sector)) blocks_are)

-- the blocks are within the volume
pub drafted_at : (n g : ℕ) (bytes : List ℕ) (planned : List Block) (sector : Sector) → IsDraft n g bytes planned sector
    → (there : ℕ) → 1024 ≤ n → n ≤ there → SectorsAre (λ s. s < there) planned
drafted_at n g bytes planned sector draft there least size =
    subst (SectorsAre (λ (s : ℕ). s < there)) (sym draft.blocks)
    (are_at [] (start n (g + 1)) draft.long there (count (length bytes))
    (omega (arith, size, few (length bytes) n draft.fits, within n (g + 1) (omega (arith, least)))))

-- bytes with others behind them, as blocks of the half of the next generation, and the root that names them
pub is_draft :
    (n g : ℕ) {bytes long : List ℕ} (more : List ℕ) {size from k : ℕ} {planned : List Block} {sector : Sector}
    → size ≡ length bytes → size ≤ 4096 * half n → long ≡ bytes ++ more → planned ≡ blocks_to from long k
    → from ≡ start n (g + 1) → k ≡ count size → SpellsRoot n (g + 1) size sector → IsDraft n g bytes planned sector
is_draft n g {bytes} {long} more {size} {from} {k} {planned} {sector} sized fits is blocks begins counted root =
    record {
      fits = omega (arith, sized, fits);
      long = long;
      whole = ap (take (length bytes)) is ∙ take-append_seam bytes more;
      blocks = blocks ∙ ap (λ (f : ℕ). blocks_to f long k) begins
          ∙ ap (blocks_to (start n (g + 1)) long) (counted ∙ ap count sized);
      root = subst (λ (m : ℕ). SpellsRoot n (g + 1) m sector) sized root;
    }
