-- The next root, once it stands in its sector.
use Rattle.std.proofs.Common.{◌≡◌, ◌⊎◌, inl, inr, ⊎_elim, ◌<◌, ◌+◌, ◌%◌, ◌==◌, ◌&&◌, true, ℕ, List, [], length}
use Rattle.std.proofs.Common.{set, refl, sym, ◌∙◌, ap, subst, arith, get_or-set_same, get_or-set_other, length-set}
use Rattle.std.specs.Prelude.{Option, Some, None, Result, Ok, Err, nat_lt, nat_le}
use Rattle.std.proofs.lemmas.Bool.{cond-true, cond-false, cond_both, eq-eqb, eqb-true, lt-ltb, le-ltb, le-leb, and_from}
use Rattle.station.specs.Disk.{Sector, sector_at}
use Rattle.roots.specs.declared.root.Mark.{Mark}
use Rattle.roots.specs.declared.root.Root.{Root}
use Rattle.roots.specs.declared.root.RootSector.{RootSector}
use Rattle.roots.specs.declared.root.RootSector.TheVariants.{Blank, Broken, Valid}
use Rattle.roots.specs.declared.pair.Roots.{Roots}
use Rattle.roots.specs.declared.pair.RootsFault.{RootsFault}
use Rattle.roots.specs.declared.pair.RootsFault.TheVariants.{Damaged, ForeignMark}
use Rattle.roots.specs.Root.{Family, mark_in, root_with, is_valid, root_with_mark, is_blank, root_in}
use Rattle.roots.specs.Pair.{may_follow, pair_of, of_own, newest_root}
use Rattle.roots.specs.Reading.{roots_in}
use Rattle.roots.specs.Laws.{Follows}
use Rattle.roots.proofs.Spelled.{Validity, validity}

abbrev pub IsValid : RootSector → Root → Type 0
IsValid Blank r = ⊥
IsValid Broken r = ⊥
IsValid (Valid a) r = a ≡ r

pub valid : (x : RootSector) (r : Root) → x ≡ Valid r → IsValid x r
valid x r is = subst (λ (y : RootSector). IsValid y r) (sym is) refl

abbrev pub IsThat : Result Roots RootsFault → Roots → Type 0
IsThat (Err e) r = ⊥
IsThat (Ok a) r = a ≡ r

pub that : (x : Result Roots RootsFault) (r : Roots) → x ≡ Ok r → IsThat x r
that x r is = subst (λ (y : Result Roots RootsFault). IsThat y r) (sym is) refl

marked_valid : (count number : ℕ) (bytes : Sector) (mark : Option Mark) (r : Root)
    → IsValid (root_with_mark count number bytes mark) r → is_valid count number r ≡ true
marked_valid count number bytes None r never = absurd never
marked_valid count number bytes (Some mark) r is =
    cond_both (is_valid count number (root_with bytes mark)) (Valid (root_with bytes mark)) Broken
    (λ x. IsValid x r → is_valid count number r ≡ true)
    (λ holds same. subst (λ (q : Root). is_valid count number q ≡ true) same holds) (λ _ never. absurd never) is

-- a valid root is within the bounds
pub is_within : (known : List Family) (count number : ℕ) (bytes : Sector) (r : Root)
    → root_in known count number bytes ≡ Valid r → Validity count number r
is_within known count number bytes r is = validity count number r (cond_both (is_blank bytes) Blank
    (root_with_mark count number bytes (mark_in known bytes)) (λ x. IsValid x r → is_valid count number r ≡ true)
    (λ _ never. absurd never) (λ _ here. marked_valid count number bytes (mark_in known bytes) r here)
    (valid (root_in known count number bytes) r is))

-- the newest of two sectors is one of them, and has a mark of the first family
pub record IsNewest (first second : RootSector) (r : Roots) : Type 0 where
  pub which : (first ≡ Valid r.newest) ⊎ (second ≡ Valid r.newest)
  pub own_family : r.newest.mark.family ≡ 0

paired : (older newer : Root) (r : Roots) → IsThat (of_own (pair_of older newer)) r
    → (r.newest ≡ newer) × (r.newest.mark.family ≡ 0)
paired older newer r is =
    let pair : Roots = record { newest = newer; older = Some older } in
    cond_both ((older.generation + 1 == newer.generation) && (older.sectors == newer.sectors)
    && may_follow older.mark newer.mark) (Some pair) None
    (λ x. IsThat (of_own x) r → (r.newest ≡ newer) × (r.newest.mark.family ≡ 0))
    (λ _ here. cond_both (newer.mark.family == 0) (Ok pair) (Err ForeignMark)
    (λ x. IsThat x r → (r.newest ≡ newer) × (r.newest.mark.family ≡ 0))
    (λ low same. (
      sym (ap (λ (q : Roots). q.newest) same),
      subst (λ (q : Roots). q.newest.mark.family ≡ 0) same (eqb-true newer.mark.family 0 low),
    )) (λ _ never. absurd never) here)
    (λ _ never. absurd never) is

single : (root : Root) (r : Roots) → IsThat (of_own (Some (record { newest = root; older = None }))) r
    → (r.newest ≡ root) × (r.newest.mark.family ≡ 0)
single root r is =
    let one : Roots = record { newest = root; older = None } in
    cond_both (root.mark.family == 0) (Ok one) (Err ForeignMark)
    (λ x. IsThat x r → (r.newest ≡ root) × (r.newest.mark.family ≡ 0))
    (λ low same. (
      sym (ap (λ (q : Roots). q.newest) same),
      subst (λ (q : Roots). q.newest.mark.family ≡ 0) same (eqb-true root.mark.family 0 low),
    )) (λ _ never. absurd never) is

pub newest_is : (first second : RootSector) (r : Roots) → IsThat (newest_root first second) r
    → IsNewest first second r
newest_is Blank Blank r never = absurd never
newest_is Blank Broken r never = absurd never
newest_is Blank (Valid b) r is = let facts =
    single b r is in record { which = inr (ap Valid (sym facts.0)); own_family = facts.1 }
newest_is Broken b r never = absurd never
newest_is (Valid a) Blank r is = let facts =
    single a r is in record { which = inl (ap Valid (sym facts.0)); own_family = facts.1 }
newest_is (Valid a) Broken r never = absurd never
newest_is (Valid a) (Valid b) r is = cond_both (nat_lt a.generation b.generation) (pair_of a b)
    (pair_of b a) (λ x. IsThat (of_own x) r → IsNewest (Valid a) (Valid b) r)
    (λ _ here. let facts = paired a b r here in record { which = inr (ap Valid (sym facts.0)); own_family = facts.1 })
    (λ _ here. let facts =
    paired b a r here in record { which = inl (ap Valid (sym facts.0)); own_family = facts.1 }) is

-- the newest root of an image stands in one of the two sectors, is valid there, and has a mark of the first family
pub newest_within : (known : List Family) (image : List Sector) (r : Roots)
    → roots_in known image ≡ Ok r
    → (number : ℕ) × Validity (length image) number r.newest × (r.newest.mark.family ≡ 0)
newest_within known image r reads =
    let is = newest_is (root_in known (length image) 0 (sector_at image 0))
    (root_in known (length image) 1 (sector_at image 1)) r (that (roots_in known image) r reads) in
    ⊎_elim (λ here. (0, is_within known (length image) 0 (sector_at image 0) r.newest here, is.own_family))
    (λ here. (1, is_within known (length image) 1 (sector_at image 1) r.newest here, is.own_family)) is.which

follow_marks : (old new : Root) → Follows old new → may_follow old.mark new.mark ≡ true
follow_marks old new f = and_from (old.mark.family == new.mark.family) (nat_le old.mark.version new.mark.version)
    (eq-eqb old.mark.family new.mark.family (sym f.family)) (le-leb old.mark.version new.mark.version f.version)

follow_pair : (old new : Root) → old.mark.family ≡ 0 → Follows old new
    → of_own (pair_of old new) ≡ Ok (record { newest = new; older = Some old })
follow_pair old new first f =
    let pair : Roots = record { newest = new; older = Some old } in
    ap of_own (cond-true ((old.generation + 1 == new.generation) && (old.sectors == new.sectors)
    && may_follow old.mark new.mark) (Some pair) None
    (and_from ((old.generation + 1 == new.generation) && (old.sectors == new.sectors))
    (may_follow old.mark new.mark)
    (and_from (old.generation + 1 == new.generation) (old.sectors == new.sectors) (eq-eqb (old.generation + 1)
    new.generation (sym f.generation)) (eq-eqb old.sectors new.sectors (sym f.sectors)))
    (follow_marks old new f)))
    ∙ cond-true (new.mark.family == 0) (Ok pair) (Err ForeignMark) (eq-eqb new.mark.family 0 (f.family ∙ first))

second_newest : (old new : Root) → old.mark.family ≡ 0 → Follows old new
    → newest_root (Valid old) (Valid new) ≡ Ok (record { newest = new; older = Some old })
second_newest old new first f =
    ap of_own (cond-true (nat_lt old.generation new.generation) (pair_of old new) (pair_of new old)
    (lt-ltb old.generation new.generation (omega (arith, f.generation)))) ∙ follow_pair old new first f

first_newest : (old new : Root) → old.mark.family ≡ 0 → Follows old new
    → newest_root (Valid new) (Valid old) ≡ Ok (record { newest = new; older = Some old })
first_newest old new first f =
    ap of_own (cond-false (nat_lt new.generation old.generation) (pair_of new old) (pair_of old new)
    (le-ltb new.generation old.generation (omega (arith, f.generation)))) ∙ follow_pair old new first f

module _ (known : List Family) (image : List Sector) (r : Roots) (new : Root) (bytes : Sector)
    (reads : roots_in known image ≡ Ok r) (follows : Follows r.newest new)
    (spells : root_in known (length image) (new.generation % 2) bytes ≡ Valid new) where
  abbrev first : RootSector
  first = root_in known (length image) 0 (sector_at image 0)

  abbrev second : RootSector
  second = root_in known (length image) 1 (sector_at image 1)

  facts : Validity (length image) (new.generation % 2) new
  facts = is_within known (length image) (new.generation % 2) bytes new spells

  abbrev after : List Sector
  after = set image (new.generation % 2) bytes

  newest : IsNewest first second r
  newest = newest_is first second r (that (roots_in known image) r reads)

  same_count : length after ≡ length image
  same_count = length-set image (new.generation % 2) bytes

  goes : newest_root (root_in known (length image) 0 (sector_at after 0))
      (root_in known (length image) 1 (sector_at after 1)) ≡ Ok (record { newest = new; older = Some r.newest })
  goes = ⊎_elim
      (λ here.
      let even : r.newest.generation % 2 ≡ 0 =
      (is_within known (length image) 0 (sector_at image 0) r.newest here).parity in
      let odd : new.generation % 2 ≡ 1 = omega (arith, even, follows.generation) in
      let this : sector_at after 1 ≡ bytes =
      rw odd (get_or-set_same image 1 bytes [] (omega (arith, facts.least, facts.there))) in
      let other : sector_at after 0 ≡ sector_at image 0 =
      get_or-set_other image (new.generation % 2) 0 bytes [] (λ e. omega (arith, e, odd)) in
      rw other (rw this (rw here (rw (subst (λ (p : ℕ). root_in known (length image) p bytes ≡ Valid new) odd spells)
      (second_newest r.newest new newest.own_family follows)))))
      (λ here.
      let odd : r.newest.generation % 2 ≡ 1 =
      (is_within known (length image) 1 (sector_at image 1) r.newest here).parity in
      let even : new.generation % 2 ≡ 0 = omega (arith, odd, follows.generation) in
      let this : sector_at after 0 ≡ bytes =
      rw even (get_or-set_same image 0 bytes [] (omega (arith, facts.least, facts.there))) in
      let other : sector_at after 1 ≡ sector_at image 1 =
      get_or-set_other image (new.generation % 2) 1 bytes [] (λ e. omega (arith, e, even)) in
      rw other (rw this (rw here (rw (subst (λ (p : ℕ). root_in known (length image) p bytes ≡ Valid new) even spells)
      (first_newest r.newest new newest.own_family follows)))))
      newest.which

  pub next_is_newest : roots_in known after ≡ Ok (record { newest = new; older = Some r.newest })
  next_is_newest = ap (λ (n : ℕ).
      newest_root (root_in known n 0 (sector_at after 0)) (root_in known n 1 (sector_at after 1))) same_count ∙ goes

none_valid : (first second : RootSector) → ((r : Root) → first ≡ Valid r → ⊥)
    → ((r : Root) → second ≡ Valid r → ⊥) → newest_root first second ≡ Err Damaged
none_valid Blank Blank here there = refl
none_valid Blank Broken here there = refl
none_valid Blank (Valid b) here there = absurd (there b refl)
none_valid Broken b here there = refl
none_valid (Valid a) b here there = absurd (here a refl)

-- a device of fewer than two sectors has no root
pub too_few : (known : List Family) (image : List Sector) → length image < 2
    → roots_in known image ≡ Err Damaged
too_few known image few = none_valid (root_in known (length image) 0 (sector_at image 0))
    (root_in known (length image) 1 (sector_at image 1)) (never_valid 0) (never_valid 1)
  where
    never_valid : (number : ℕ) (r : Root) → root_in known (length image) number (sector_at image number) ≡ Valid r → ⊥
    never_valid number r is = let facts = is_within known (length image) number (sector_at image number) r is in
        omega (arith, facts.least, facts.there, few)
