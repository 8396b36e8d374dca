-- Small cases: a root of a volume that is being made. Payloads are short here.
use Rattle.std.proofs.Common.{◌≡◌, true, false, ℕ, List, [], ◌∷◌, refl, arith}
use Rattle.std.specs.Prelude.{codes, replicate, Some, Ok, Err}
use Rattle.station.specs.Disk.{Sector}
use Rattle.roots.specs.declared.root.Root.{Root}
use Rattle.roots.specs.declared.root.RootSector.TheVariants.{Broken, Valid}
use Rattle.roots.specs.declared.pair.RootsFault.TheVariants.{Damaged}
use Rattle.roots.specs.Root.{Family, root_in, root_bytes}
use Rattle.roots.specs.Pair.{newest_root}
use Rattle.unfinished_volume.specs.Hidden.{hides_root}
use Rattle.unfinished_volume.specs.Inverted.{inverted_sector}
use Rattle.unfinished_volume.specs.Laws.{HaveMarkLetter}

-- two marks of one format, and one of another
abbrev known : List Family
known = (codes "COBVOL01" ∷ codes "COBVOL02" ∷ []) ∷ (codes "COBHALF1" ∷ []) ∷ []

each_mark_has_the_letter : HaveMarkLetter known
each_mark_has_the_letter = ((refl, (refl, tt)), ((refl, tt), tt))

a_later_mark_without_the_letter : HaveMarkLetter ((codes "COBVOL01" ∷ codes "VOLUME02" ∷ []) ∷ []) → ⊥
a_later_mark_without_the_letter letters = omega (arith, letters.0.1.0)

another_format_without_the_letter : HaveMarkLetter ((codes "COBVOL01" ∷ []) ∷ (codes "HALVES01" ∷ []) ∷ []) → ⊥
another_format_without_the_letter letters = omega (arith, letters.1.0.0)

-- of the first family, by its index there
abbrev root : ℕ → ℕ → Root
root version generation = record {
  mark = record { family = 0; version = version };
  generation = generation;
  sectors = 1024;
  payload = 9 ∷ [];
}

abbrev shown : Sector
shown = root_bytes (codes "COBVOL01") (root 0 4)

a_root_is_shown : hides_root shown ≡ false
a_root_is_shown = refl

a_root_is_hidden : hides_root (inverted_sector shown) ≡ true
a_root_is_hidden = refl

zeros_are_hidden : hides_root (inverted_sector (replicate 21 0)) ≡ true
zeros_are_hidden = refl

-- what is stored for these two would be zero, and the letter
two_bytes_that_hide_nothing : (hides_root (inverted_sector (255 ∷ [])) ≡ false)
    × (hides_root (inverted_sector (188 ∷ [])) ≡ false)
two_bytes_that_hide_nothing = (refl, refl)

a_hidden_root_is_broken : root_in known 1024 0 (inverted_sector shown) ≡ Broken
a_hidden_root_is_broken = refl

-- next to a root with the later mark
a_hidden_root_is_damage : newest_root (root_in known 1024 0 (inverted_sector shown)) (Valid (root 1 5)) ≡ Err Damaged
a_hidden_root_is_damage = refl

the_same_root_shown : newest_root (root_in known 1024 0 (inverted_sector (inverted_sector shown))) (Valid (root 1 5))
    ≡ Ok (record { newest = root 1 5; older = Some (root 0 4) })
the_same_root_shown = refl
