-- The root sector of a volume of halves.
use Rattle.std.proofs.Common.{◌≡◌, ◌<◌, ◌≤◌, ◌%◌, ◌^◌, ◌==◌, ◌&&◌, true, ℕ, List, [], ◌∷◌, drop, refl, sym, ap}
use Rattle.std.specs.Prelude.{Some, nat_lt, nat_le}
use Rattle.std.specs.List.{list_all}
use Rattle.std.proofs.lemmas.Bool.{and_from, lt-ltb, le-leb, eq-eqb}
use Rattle.byteorder.specs.Endian.{big_number}
use Rattle.station.specs.Disk.{Sector}
use Rattle.roots.specs.declared.root.Root.{Root}
use Rattle.roots.specs.Root.{own_mark, root_bytes}
use Rattle.roots.proofs.Spelled.{reads_back}
use Rattle.half_store.specs.Half.{known_families}
use Rattle.half_store.specs.Write.{SpellsRoot}

abbrev mark : List ℕ
mark = 67 ∷ 79 ∷ 66 ∷ 72 ∷ 65 ∷ 76 ∷ 70 ∷ 49 ∷ []

pub spells : (root : Root) (bytes : ℕ) (sector : Sector) → root.mark ≡ own_mark 0 → big_number 8 root.payload ≡ bytes
    → list_all (λ byte. byte == 0) (drop 8 root.payload) ≡ true → root.generation < 2 ^ 63 → 1024 ≤ root.sectors
    → root.sectors ≤ 921600
    → sector ≡ root_bytes mark root → SpellsRoot root.sectors root.generation bytes sector
spells root bytes sector own counted zeros generation least most spelled = record {
  root = root;
  mark = own;
  generation = refl;
  sectors = refl;
  counted = counted;
  zeros = zeros;
  valid =
      λ n there. rw spelled (reads_back known_families n (root.generation % 2) mark root refl refl (ap Some (sym own))
      (and_from (nat_lt root.generation (2 ^ 63) && (root.generation % 2 == root.generation % 2)
      && nat_le 1024 root.sectors && nat_le root.sectors 921600) (nat_le root.sectors n)
      (and_from (nat_lt root.generation (2 ^ 63) && (root.generation % 2 == root.generation % 2)
      && nat_le 1024 root.sectors) (nat_le root.sectors 921600)
      (and_from (nat_lt root.generation (2 ^ 63) && (root.generation % 2 == root.generation % 2))
      (nat_le 1024 root.sectors)
      (and_from (nat_lt root.generation (2 ^ 63)) (root.generation % 2 == root.generation % 2)
      (lt-ltb root.generation (2 ^ 63) generation) (eq-eqb (root.generation % 2) (root.generation % 2) refl))
      (le-leb 1024 root.sectors least)) (le-leb root.sectors 921600 most)) (le-leb root.sectors n there)));
}
