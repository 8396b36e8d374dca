-- A volume without pages, once it stands on the disk.
use Rattle.std.proofs.Common.{◌≡◌, inl, ⊎_elim, ◌<◌, ◌≤◌, ◌==◌, ◌+◌, ◌*◌, ◌-◌, true, ℕ, zero, suc, List, [], ◌∷◌, ◌++◌}
use Rattle.std.proofs.Common.{length, set, get_or, take, replicate, refl, sym, ◌∙◌, ap, subst, arith, get_or-set_other}
use Rattle.std.proofs.Common.{get_or-set_same, length-set}
use Rattle.std.specs.Prelude.{Option, Some, None, Ok, Err, Contains}
use Rattle.std.proofs.lemmas.Bool.{cond-true, eq-eqb, cases_lt}
use Rattle.std.proofs.lemmas.List.{replicate-append-replicate, get_or-replicate, length-replicate, drop-replicate}
use Rattle.std.proofs.lemmas.List.{take-replicate, get_or_past}
use Rattle.station.specs.Disk.{Disk, Sector, sector_at, idle_disk, IsCrashImage}
use Rattle.station.specs.State.{State}
use Rattle.station.specs.History.{EachImage}
use Rattle.station.proofs.Crash.{settled_image}
use Rattle.roots.specs.declared.root.Mark.{Mark}
use Rattle.roots.specs.declared.root.RootSector.{RootSector}
use Rattle.roots.specs.declared.root.RootSector.TheVariants.{Blank, Valid}
use Rattle.roots.specs.declared.pair.RootsFault.TheVariants.{ForeignMark}
use Rattle.roots.specs.declared.pair.Roots.{Roots}
use Rattle.roots.specs.Root.{root_in, root_with_mark, mark_in, is_blank}
use Rattle.roots.specs.Pair.{newest_root}
use Rattle.pages.specs.Layout.{map_count, newest, known_families, root_of, zeros}
use Rattle.pages.specs.Image.{map_at, map_part, pages_in, Reads, IsImageOf, IsCommitted}
use Rattle.pages.specs.Payload.{SpellsRoot}
use Rattle.pages.specs.Empty.{empty_volume, empty_map}

all_blank : (n : ℕ) → is_blank (replicate n 0) ≡ true
all_blank zero = refl
all_blank (suc n) = all_blank n

abbrev blanks : ℕ → List ℕ
blanks n = replicate n 0

length-blanks : (n : ℕ) → length (blanks n) ≡ n
length-blanks n = length-replicate {A = ℕ} n 0

-- each name is 0
none_named : (m n s : ℕ) → Contains (blanks m ++ blanks n) s → s ≡ 0
none_named m n s has =
    let same : blanks m ++ blanks n ≡ blanks (m + n) = replicate-append-replicate {A = ℕ} m n 0 in
    let moved : Contains (blanks (m + n)) s = subst (λ (l : List ℕ). Contains l s) same has in
    sym moved.2 ∙ get_or-replicate {A = ℕ} (m + n) moved.0 0 s (omega (arith, moved.1, length-blanks (m + n)))

none_at : (m n i : ℕ) → get_or (blanks m ++ blanks n) i 0 ≡ 0
none_at m n i = ap (λ (l : List ℕ). get_or l i 0) (replicate-append-replicate {A = ℕ} m n 0)
    ∙ ⊎_elim (λ lt. get_or-replicate {A = ℕ} (m + n) i 0 0 lt)
    (λ past. get_or_past (blanks (m + n)) i 0 (omega (arith, past, length-blanks (m + n)))) (cases_lt i (m + n))

blank_part : (m i : ℕ) → i < m → zeros ≡ map_part (replicate (1024 * m) 0) i
unfolding zeros
blank_part m i lt = sym (ap (take 1024) (drop-replicate {X = ℕ} (1024 * i) (1024 * m) 0)
    ∙ take-replicate {X = ℕ} 1024 (1024 * m - 1024 * i) 0 (omega (arith, lt)))

no_pages : (image : List Sector) (n : ℕ) → pages_in image (replicate n 0) ≡ replicate n None
no_pages image zero = refl
no_pages image (suc n) = ap (λ (l : List (Option Sector)). None ∷ l) (no_pages image n)

module _ (base : List Sector) (sectors : ℕ) (bytes : Sector) (all : length base ≡ sectors) (least : 1024 ≤ sectors)
    (spells : SpellsRoot (empty_volume sectors).root bytes) where
  abbrev image : List Sector
  image = set (set base 1 (replicate 4096 0)) 0 bytes

  count : length image ≡ sectors
  count = length-set (set base 1 (replicate 4096 0)) 0 bytes ∙ length-set base 1 (replicate 4096 0) ∙ all

  first : sector_at image 0 ≡ bytes
  first = get_or-set_same (set base 1 (replicate 4096 0)) 0 bytes []
      (omega (arith, all, least, length-set base 1 (replicate 4096 0)))

  second : sector_at image 1 ≡ replicate 4096 0
  second = get_or-set_other (set base 1 (replicate 4096 0)) 0 1 bytes [] (λ e. omega (arith, e))
      ∙ get_or-set_same base 1 (replicate 4096 0) [] (omega (arith, all, least))

  blank_there : root_in known_families (length image) 1 (sector_at image 1) ≡ Blank
  blank_there = ap (root_in known_families (length image) 1) second ∙ cond-true (is_blank (replicate 4096 0)) Blank
      (root_with_mark (length image) 1 (replicate 4096 0) (mark_in known_families (replicate 4096 0))) (all_blank 4096)

  root_there : root_in known_families (length image) 0 (sector_at image 0) ≡ Valid spells.root
  root_there = ap (root_in known_families (length image) 0) first ∙ spells.valid (length image) (omega (arith, count))

  newest_there : newest image ≡ Some (empty_volume sectors).root
  newest_there =
      let one : Roots = record { newest = spells.root; older = None } in
      ap (λ (s : RootSector). root_of (newest_root s (root_in known_families (length image) 1 (sector_at image 1))))
      root_there
      ∙ ap (λ (s : RootSector). root_of (newest_root (Valid spells.root) s)) blank_there
      ∙ ap root_of (cond-true (spells.root.mark.family == 0) (Ok one) (Err ForeignMark)
      (eq-eqb spells.root.mark.family 0 (ap (λ (m : Mark). m.family) spells.mark)))
      ∙ spells.reads

  pub empty_reads : Reads image (empty_volume sectors)
  empty_reads = record {
    root = newest_there;
    maps = record {
      count =
          length-blanks (1024 * map_count sectors) ∙ ap (λ (n : ℕ). 1024 * n) (sym (length-blanks (map_count sectors)));
      entries = λ i lt.
          let low : i < map_count sectors = omega (arith, lt, length-blanks (map_count sectors)) in
          ap (map_at image) (get_or-replicate {A = ℕ} (map_count sectors) i 0 0 low)
          ∙ blank_part (map_count sectors) i low;
      places = λ s has. inl (none_named (map_count sectors) (1024 * map_count sectors) s has);
      once = λ i j i_low j_low some same. absurd (some (none_at (map_count sectors) (1024 * map_count sectors) i));
      unused = none_at 0 (1024 * map_count sectors) 0;
    };
  }

  pub empty_holds : IsImageOf image (empty_map sectors)
  empty_holds = (
    empty_volume sectors,
    empty_reads,
    ap (λ (pages : List (Option Sector)). record { mark = 1; generation = 0; catalog = 0; pages = pages })
        (no_pages image (1024 * map_count sectors)),
  )

  pub empty_images : (s : State) → s.disk ≡ idle_disk image → EachImage (λ i. IsImageOf i (empty_map sectors)) s
  empty_images s is left crash = subst (λ (l : List Sector). IsImageOf l (empty_map sectors))
      (sym (settled_image image left (subst (λ (d : Disk). IsCrashImage d left) is crash))) empty_holds

  pub empty_committed : (d : Disk) → d ≡ idle_disk image → IsCommitted (empty_volume sectors) d
  empty_committed d is =
      subst (IsCommitted (empty_volume sectors)) (sym is) (record { settled = refl; reads = empty_reads })

-- the root of a new volume, whose map sectors are as many zeros
pub spells_empty : (sectors count : ℕ) (bytes : Sector) → sectors ≤ 921600 → count ≡ map_count sectors
    → SpellsRoot (record {
      mark = 1;
      generation = 0;
      sectors = sectors;
      catalog = 0;
      maps = take count (replicate 900 0);
    }) bytes
    → SpellsRoot (empty_volume sectors).root bytes
spells_empty sectors count bytes most counted spells =
    let cut : take count (blanks 900) ≡ blanks (map_count sectors)
    = ap (λ (n : ℕ). take n (blanks 900)) counted
    ∙ take-replicate {X = ℕ} (map_count sectors) 900 0 (omega (arith, most)) in
    subst (λ (l : List ℕ). SpellsRoot (record {
      mark = 1;
      generation = 0;
      sectors = sectors;
      catalog = 0;
      maps = l;
    })
    bytes) cut spells
