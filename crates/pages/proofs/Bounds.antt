-- The bounds of a map that an image holds.
use Rattle.std.proofs.Common.{◌≡◌, ◌<◌, ◌≤◌, ◌^◌, ◌==◌, ◌&&◌, ℕ, List, [], ◌∷◌, length, take, drop, ap, arith}
use Rattle.std.specs.Prelude.{Some, None}
use Rattle.std.specs.List.{list_all}
use Rattle.std.proofs.lemmas.Bool.{cond_both, eqb-true, and_parts}
use Rattle.std.proofs.lemmas.List.{length-map, length-take}
use Rattle.station.specs.Disk.{Sector}
use Rattle.roots.specs.declared.root.Root.{Root}
use Rattle.roots.proofs.Next.{newest_within}
use Rattle.pages.specs.Layout.{VolumeRoot, words, map_count, root_spelled, known_families}
use Rattle.pages.specs.Image.{Map, Volume, Reads, IsImageOf, page_at, map_of}
use Rattle.pages.proofs.Roots.{IsThat, that, behind}

-- a payload spells no more maps than the volume has
few_maps : (root : Root) (numbers : List ℕ) (r : VolumeRoot) → root_spelled root numbers ≡ Some r
    → length r.maps ≤ map_count root.sectors
unfolding root_spelled
few_maps root [] r is = absurd (that None r is)
few_maps root (a ∷ []) r is = absurd (that None r is)
few_maps root (catalog ∷ count ∷ rest) r is =
    let there : VolumeRoot =
    record {
      mark = root.mark.version;
      generation = root.generation;
      sectors = root.sectors;
      catalog = catalog;
      maps = take count rest;
    } in
    cond_both ((count == map_count root.sectors) && list_all (λ word. word == 0) (drop count rest)) (Some there) None
    (λ x. IsThat x r → length r.maps ≤ map_count root.sectors)
    (λ both same. omega (
      arith,
      eqb-true count (map_count root.sectors)
          (and_parts (count == map_count root.sectors) (list_all (λ word. word == 0) (drop count rest)) both).0,
      length-take count rest,
      ap (λ (q : VolumeRoot). length q.maps) same,
    ))
    (λ _ never. absurd never) (that (root_spelled root (catalog ∷ count ∷ rest)) r is)

few_pages : (image : List Sector) (v : Volume) → Reads image v
    → (v.root.generation < 2 ^ 63) × (length v.table ≤ 921600)
few_pages image v reads =
    let b = behind image v.root reads.root in
    let facts = newest_within known_families image b.roots b.reads in
    let maps = few_maps b.roots.newest (words b.roots.newest.payload) v.root b.root in
    (omega (arith, facts.1.generation, b.generation), omega (arith, facts.1.most, maps, reads.maps.count))

pub map_bounds : (image : List Sector) (m : Map) → IsImageOf image m
    → (m.generation < 2 ^ 63) × (length m.pages ≤ 921600)
map_bounds image m holds =
    let facts = few_pages image holds.0 holds.1 in
    let generation : holds.0.root.generation ≡ m.generation = ap (λ (x : Map). x.generation) holds.2 in
    let pages : length (map_of image holds.0).pages ≡ length m.pages = ap (λ (x : Map). length x.pages) holds.2 in
    (omega (arith, facts.0, generation), omega (arith, facts.1, pages, length-map holds.0.table (page_at image)))
