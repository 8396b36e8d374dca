-- What is known of the newest root of an image.
use Rattle.std.proofs.Common.{◌≡◌, ◌≤◌, ◌+◌, ◌%◌, ◌==◌, ◌&&◌, true, false, cond, set, ℕ, zero, suc, List, [], ◌∷◌}
use Rattle.std.proofs.Common.{◌++◌}
use Rattle.std.proofs.Common.{length, get_or, take, drop, replicate, refl, sym, ◌∙◌, ap, subst, arith}
use Rattle.std.specs.Prelude.{Option, Some, None, Result, Ok, Err, is_some}
use Rattle.std.specs.List.{list_all}
use Rattle.std.proofs.lemmas.Bool.{cond_both, cond-true, cond-false, eq-eqb, ne_eqb, and_from, and_left, and_right}
use Rattle.std.proofs.lemmas.List.{take_at, drop_at, take_all, drop-drop, length-drop}
use Rattle.station.specs.Disk.{Sector}
use Rattle.roots.specs.declared.root.Mark.{Mark}
use Rattle.roots.specs.declared.root.Root.{Root}
use Rattle.roots.specs.declared.root.RootSector.TheVariants as root_sector
use Rattle.roots.specs.declared.pair.Roots.{Roots}
use Rattle.roots.specs.declared.pair.RootsFault.{RootsFault}
use Rattle.roots.specs.Reading.{roots_in}
use Rattle.roots.specs.Laws.{Follows}
use Rattle.roots.specs.Root.{own_mark, root_in}
use Rattle.roots.proofs.Next.{newest_within, next_is_newest}
use Rattle.pages.specs.Layout.{VolumeRoot, words, map_count, root_spelled, volume_root, beside, root_of, newest}
use Rattle.pages.specs.Layout.{known_families}
use Rattle.pages.specs.Image.{Volume, Reads}

abbrev pub IsThat : {T : Type 0} → Option T → T → Type 0
IsThat None r = ⊥
IsThat (Some a) r = a ≡ r

pub that : {T : Type 0} (x : Option T) (r : T) → x ≡ Some r → IsThat x r
that {T = T} x r is = subst (λ (y : Option T). IsThat y r) (sym is) refl

-- both are the one that is there
pub one_root : {T : Type 0} (there : Option T) (a b : T) → there ≡ Some a → there ≡ Some b → a ≡ b
one_root there a b is also = that (Some a) b (sym is ∙ also)

-- what a root's payload leaves as it is
record SameRoot (root : Root) (r : VolumeRoot) : Type 0 where
  pub mark : r.mark ≡ root.mark.version
  pub generation : r.generation ≡ root.generation
  pub sectors : r.sectors ≡ root.sectors

same_root : (root : Root) (numbers : List ℕ) (r : VolumeRoot) → root_spelled root numbers ≡ Some r → SameRoot root r
unfolding root_spelled
same_root root [] r is = absurd (that None r is)
same_root root (a ∷ []) r is = absurd (that None r is)
same_root root (catalog ∷ count ∷ rest) r is =
    let there : VolumeRoot =
    record {
      mark = root.mark.version;
      generation = root.generation;
      sectors = root.sectors;
      catalog = catalog;
      maps = take count rest;
    } in
    cond_both ((count == map_count root.sectors) && list_all (λ word. word == 0) (drop count rest)) (Some there) None
    (λ x. IsThat x r → SameRoot root r)
    (λ _ same. record {
      mark = sym (ap (λ (q : VolumeRoot). q.mark) same);
      generation = sym (ap (λ (q : VolumeRoot). q.generation) same);
      sectors = sym (ap (λ (q : VolumeRoot). q.sectors) same);
    })
    (λ _ never. absurd never) (that (root_spelled root (catalog ∷ count ∷ rest)) r is)

-- the roots of an image, after its newest root
pub record Behind (image : List Sector) (r : VolumeRoot) : Type 0 where
  pub roots : Roots
  pub reads : roots_in known_families image ≡ Ok roots
  pub root : volume_root roots.newest ≡ Some r
  pub mark : r.mark ≡ roots.newest.mark.version
  pub generation : r.generation ≡ roots.newest.generation
  pub sectors : r.sectors ≡ roots.newest.sectors

beside_that : (older : Option Root) (root : Option VolumeRoot) (r : VolumeRoot) → IsThat (beside older root) r
    → root ≡ Some r
beside_that None None r never = absurd never
beside_that None (Some a) r is = ap Some is
beside_that (Some older) None r is = cond_both (is_some (volume_root older)) None None (λ x. IsThat x r → None ≡ Some r)
    (λ _ never. absurd never) (λ _ never. absurd never) is
beside_that (Some older) (Some a) r is = cond_both (is_some (volume_root older)) (Some a) None
    (λ x. IsThat x r → Some a ≡ Some r) (λ _ same. ap Some same) (λ _ never. absurd never) is

behind_result : (image : List Sector) (r : VolumeRoot) (x : Result Roots RootsFault) → roots_in known_families image ≡ x
    → IsThat (root_of x) r → Behind image r
behind_result image r (Err e) reads never = absurd never
behind_result image r (Ok roots) reads is =
    let root : volume_root roots.newest ≡ Some r = beside_that roots.older (volume_root roots.newest) r is in
    let same = same_root roots.newest (words roots.newest.payload) r root in
    record {
      roots = roots;
      reads = reads;
      root = root;
      mark = same.mark;
      generation = same.generation;
      sectors = same.sectors;
    }

pub behind : (image : List Sector) (r : VolumeRoot) → newest image ≡ Some r → Behind image r
behind image r is = behind_result image r (roots_in known_families image) refl (that (newest image) r is)

-- a volume has at least 1,024 sectors, and no more than the device
pub enough : (image : List Sector) (v : Volume) → Reads image v
    → (1024 ≤ v.root.sectors) × (v.root.sectors ≤ length image)
enough image v reads =
    let b = behind image v.root reads.root in
    let facts = newest_within known_families image b.roots b.reads in
    (omega (arith, facts.1.least, b.sectors), omega (arith, facts.1.there, b.sectors))

-- a payload that spells these maps
pub spelled_payload : (root : Root) (catalog zero_count : ℕ) (maps : List ℕ)
    → words root.payload ≡ catalog ∷ length maps ∷ maps ++ replicate zero_count 0 → length maps ≡ map_count root.sectors
    → volume_root root
    ≡ Some (record {
      mark = root.mark.version;
      generation = root.generation;
      sectors = root.sectors;
      catalog = catalog;
      maps = maps;
    })
unfolding root_spelled
spelled_payload root catalog zero_count maps is count =
    let there : VolumeRoot = record {
      mark = root.mark.version;
      generation = root.generation;
      sectors = root.sectors;
      catalog = catalog;
      maps = take (length maps) (maps ++ replicate zero_count 0);
    } in
    let blank : list_all (λ word. word == 0) (drop (length maps) (maps ++ replicate zero_count 0)) ≡ true =
    ap (list_all (λ word. word == 0)) (drop_at maps (replicate zero_count 0) (length maps) refl)
    ∙ all_blank zero_count in
    ap (root_spelled root) is
    ∙ cond-true ((length maps == map_count root.sectors)
    && list_all (λ word. word == 0) (drop (length maps) (maps ++ replicate zero_count 0))) (Some there) None
    (and_from _ _ (eq-eqb (length maps) (map_count root.sectors) count) blank)
    ∙ ap (λ (l : List ℕ).
    Some (record {
      mark = root.mark.version;
      generation = root.generation;
      sectors = root.sectors;
      catalog = catalog;
      maps = l;
    }))
    (take_at maps (replicate zero_count 0) (length maps) refl)
  where
    all_blank : (n : ℕ) → list_all (λ word. word == 0) (replicate n 0) ≡ true
    all_blank zero = refl
    all_blank (suc n) = all_blank n

-- the next root, once it stands in its sector
pub next_newest : (image : List Sector) (r : VolumeRoot) (next : Root) (w : VolumeRoot) (bytes : Sector)
    → newest image ≡ Some r
    → next.mark ≡ own_mark w.mark → r.mark ≤ w.mark → next.generation ≡ r.generation + 1 → next.sectors ≡ r.sectors
    → volume_root next ≡ Some w
    → root_in known_families (length image) (next.generation % 2) bytes ≡ root_sector.Valid next
    → newest (set image (next.generation % 2) bytes) ≡ Some w
next_newest image r next w bytes is mark rises generation sectors spells valid =
    let b = behind image r is in
    let facts = newest_within known_families image b.roots b.reads in
    let follows : Follows b.roots.newest next = record {
      generation = omega (arith, generation, b.generation);
      sectors = sectors ∙ b.sectors;
      family = ap (λ (m : Mark). m.family) mark ∙ sym facts.2;
      version = omega (arith, b.mark, rises, ap (λ (m : Mark). m.version) mark);
    } in
    ap root_of (next_is_newest known_families image b.roots next bytes b.reads follows valid)
    ∙ cond-true (is_some (volume_root b.roots.newest)) (volume_root next) None (ap is_some b.root)
    ∙ spells

-- a payload by its numbers
root_numbers : (root : Root) (xs : List ℕ) (a b : ℕ) → 2 ≤ length xs → root_spelled root xs
    ≡ cond
    ((get_or xs 1 b == map_count root.sectors) && list_all (λ word. word == 0) (drop (get_or xs 1 b) (drop 2 xs)))
    (Some (record {
      mark = root.mark.version;
      generation = root.generation;
      sectors = root.sectors;
      catalog = get_or xs 0 a;
      maps = take (get_or xs 1 b) (drop 2 xs);
    })) None
unfolding root_spelled
root_numbers root [] a b le = absurd (omega (arith, le))
root_numbers root (x ∷ []) a b le = absurd (omega (arith, le))
root_numbers root (x ∷ y ∷ more) a b le = refl

module _ (root : Root) (xs : List ℕ) (a b count : ℕ) (is : xs ≡ words root.payload) (some : 2 ≤ length xs)
    (counted : count ≡ map_count root.sectors) where
  abbrev there : VolumeRoot
  there = record {
    mark = root.mark.version;
    generation = root.generation;
    sectors = root.sectors;
    catalog = get_or xs 0 a;
    maps = take (get_or xs 1 b) (drop 2 xs);
  }

  by_numbers : volume_root root ≡ cond ((get_or xs 1 b == map_count root.sectors)
      && list_all (λ word. word == 0) (drop (get_or xs 1 b) (drop 2 xs))) (Some there) None
  by_numbers = ap (root_spelled root) (sym is) ∙ root_numbers root xs a b some

  pub not_counted : (get_or xs 1 b ≡ count → ⊥) → None ≡ volume_root root
  not_counted other =
      sym (by_numbers ∙ cond-false _ (Some there) None (and_left (get_or xs 1 b == map_count root.sectors) _
      (ne_eqb (get_or xs 1 b) (map_count root.sectors) (λ e. other (e ∙ sym counted)))))

  rest_is : (n : ℕ) → length xs ≤ 2 + count + n → get_or xs 1 b ≡ count
      → take n (drop (2 + count) xs) ≡ drop (get_or xs 1 b) (drop 2 xs)
  rest_is n all same = take_all n (drop (2 + count) xs) (omega (arith, all, length-drop (2 + count) xs))
      ∙ sym (drop-drop count 2 xs) ∙ ap (λ (k : ℕ). drop k (drop 2 xs)) (sym same)

  pub not_blank : (n : ℕ) → length xs ≤ 2 + count + n → get_or xs 1 b ≡ count
      → list_all (λ word. word == 0) (take n (drop (2 + count) xs)) ≡ false → None ≡ volume_root root
  not_blank n all same blank =
      sym (by_numbers ∙ cond-false _ (Some there) None (and_right (get_or xs 1 b == map_count root.sectors) _
      (ap (list_all (λ word. word == 0)) (sym (rest_is n all same)) ∙ blank)))

  pub is_there : (n : ℕ) → length xs ≤ 2 + count + n
      → get_or xs 1 b ≡ count → list_all (λ word. word == 0) (take n (drop (2 + count) xs)) ≡ true → (maps : List ℕ)
      → maps ≡ take count (drop 2 xs)
      → Some (record {
        mark = root.mark.version;
        generation = root.generation;
        sectors = root.sectors;
        catalog = get_or xs 0 a;
        maps = maps;
      })
      ≡ volume_root root
  is_there n all same blank maps cut = ap (λ (l : List ℕ).
      Some (record {
        mark = root.mark.version;
        generation = root.generation;
        sectors = root.sectors;
        catalog = get_or xs 0 a;
        maps = l;
      }))
      (cut ∙ ap (λ (k : ℕ). take k (drop 2 xs)) (sym same))
      ∙ sym (by_numbers ∙ cond-true _ (Some there) None (and_from
      (get_or xs 1 b == map_count root.sectors) _ (eq-eqb (get_or xs 1 b) (map_count root.sectors) (same ∙ counted))
      (ap (list_all (λ word. word == 0)) (sym (rest_is n all same)) ∙ blank)))
