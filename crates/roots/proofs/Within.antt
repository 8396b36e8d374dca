-- The roots that are read stand in their sectors, within the bounds of a volume.
use Rattle.std.proofs.Common.{◌≡◌, ◌+◌, ◌==◌, ◌&&◌, ℕ, List, length, refl, sym, subst}
use Rattle.std.specs.Prelude.{Option, Some, None, IfSome, Ok, Err, nat_lt}
use Rattle.std.proofs.lemmas.Bool.{cond_both}
use Rattle.station.specs.Disk.{Sector, sector_at}
use Rattle.roots.specs.declared.root.Root.{Root}
use Rattle.roots.specs.declared.root.RootSector.{RootSector}
use Rattle.roots.specs.declared.root.RootSector.TheVariants.{Blank, Broken, Valid}
use Rattle.roots.specs.declared.pair.Roots.{Roots}
use Rattle.roots.specs.declared.pair.RootsFault.TheVariants.{ForeignMark}
use Rattle.roots.specs.Root.{Family, root_in, IsWithinVolume, IfValid}
use Rattle.roots.specs.Pair.{may_follow, pair_of, roots_of, of_own, newest_root, EachRoot}
use Rattle.roots.specs.Reading.{roots_in}
use Rattle.roots.specs.Laws.{IsRootIn, IsKnown, AreRootsOf}
use Rattle.roots.proofs.Known.{root_known}
use Rattle.roots.proofs.Next.{is_within, newest_within, IsThat, that}

-- what two sectors' roots are, the roots are that they make
module _ (so : Root → Type 0) where
  abbrev All : Option Roots → Type 0
  All x = IfSome x (λ r. EachRoot so r)

  pair_each : (older newer : Root) → so older → so newer → All (pair_of older newer)
  pair_each older newer before after =
      let pair : Roots = record { newest = newer; older = Some older } in
      cond_both ((older.generation + 1 == newer.generation) && (older.sectors == newer.sectors)
      && may_follow older.mark newer.mark) (Some pair) None All
      (λ _. record { newest = after; older = before }) (λ _. tt)

  sectors_each : (first second : RootSector) → IfValid first so → IfValid second so
      → All (roots_of first second)
  sectors_each Blank Blank a b = tt
  sectors_each Blank Broken a b = tt
  sectors_each Blank (Valid root) a b = record { newest = b; older = tt }
  sectors_each Broken second a b = tt
  sectors_each (Valid root) Blank a b = record { newest = a; older = tt }
  sectors_each (Valid root) Broken a b = tt
  sectors_each (Valid one) (Valid two) a b =
      cond_both (nat_lt one.generation two.generation) (pair_of one two) (pair_of two one) All
      (λ _. pair_each one two a b) (λ _. pair_each two one b a)

  own_each : (x : Option Roots) (r : Roots) → All x → IsThat (of_own x) r → EachRoot so r
  own_each None r all never = absurd never
  own_each (Some roots) r all is =
      cond_both (roots.newest.mark.family == 0) (Ok roots) (Err ForeignMark) (λ x. IsThat x r → EachRoot so r)
      (λ _ same. subst (EachRoot so) same all) (λ _ never. absurd never) is

  pub both_each : (first second : RootSector) (r : Roots) → IfValid first so → IfValid second so
      → newest_root first second ≡ Ok r → EachRoot so r
  both_each first second r a b is = own_each (roots_of first second) r (sectors_each first second a b)
      (that (newest_root first second) r is)

module _ (known : List Family) (count number : ℕ) (bytes : Sector) where
  within_as : (x : RootSector) → root_in known count number bytes ≡ x → IfValid x (IsWithinVolume count)
  within_as Blank is = tt
  within_as Broken is = tt
  within_as (Valid root) is =
      let facts = is_within known count number bytes root is in
      record { generation = facts.generation; least = facts.least; most = facts.most; there = facts.there }

  pub sector_within : IfValid (root_in known count number bytes) (IsWithinVolume count)
  sector_within = within_as (root_in known count number bytes) refl

  known_as : (x : RootSector) → root_in known count number bytes ≡ x → IfValid x (λ r. IsKnown known r.mark)
  known_as Blank is = tt
  known_as Broken is = tt
  known_as (Valid root) is = root_known known bytes count number root is

  pub sector_known : IfValid (root_in known count number bytes) (λ r. IsKnown known r.mark)
  sector_known = known_as (root_in known count number bytes) refl

module _ (known : List Family) (image : List Sector) (number : ℕ) where
  stands_as : (x : RootSector) → root_in known (length image) number (sector_at image number) ≡ x
      → IfValid x (IsRootIn known image)
  stands_as Blank is = tt
  stands_as Broken is = tt
  stands_as (Valid root) is =
      let facts = is_within known (length image) number (sector_at image number) root is in
      subst (λ (n : ℕ). root_in known (length image) n (sector_at image n) ≡ Valid root) (sym facts.parity) is

  pub sector_stands : IfValid (root_in known (length image) number (sector_at image number)) (IsRootIn known image)
  sector_stands = stands_as (root_in known (length image) number (sector_at image number)) refl

-- the roots of an image stand in it
pub roots_stand : (known : List Family) (image : List Sector) (roots : Roots)
    → roots_in known image ≡ Ok roots → AreRootsOf known image roots
roots_stand known image roots reads =
    let first = root_in known (length image) 0 (sector_at image 0) in
    let second = root_in known (length image) 1 (sector_at image 1) in
    record {
      there = both_each (IsRootIn known image) first second roots (sector_stands known image 0)
          (sector_stands known image 1) reads;
      within = both_each (IsWithinVolume (length image)) first second roots (sector_within known (length image) 0
          (sector_at image 0)) (sector_within known (length image) 1 (sector_at image 1)) reads;
      known_marks = both_each (λ r. IsKnown known r.mark) first second roots (sector_known known (length image) 0
          (sector_at image 0)) (sector_known known (length image) 1 (sector_at image 1)) reads;
      own_family = (newest_within known image roots reads).2;
    }
