-- An image whose newest root has a mark of one store is the other store's foreign one.
use Rattle.std.proofs.Common.{◌≡◌, ◌≤◌, ◌+◌, ◌==◌, ◌&&◌, Bool, true, false, ℕ, zero, suc, List, [], ◌∷◌, ◌++◌, length}
use Rattle.std.proofs.Common.{drop, inl, inr, ⊎_elim, ◌⊎◌, refl, sym, ap, subst, ◌∙◌, arith}
use Rattle.std.specs.Prelude.{Option, Some, None, Result, Ok, Err, nat_lt, nat_le, nat_eq, position, codes, slice_index}
use Rattle.std.specs.Prelude.{is_some, slice_index_or, if◌then◌else◌}
use Rattle.std.specs.List.{starts_with}
use Rattle.std.specs.Option.{option_map, option_and_then}
use Rattle.std.proofs.lemmas.Bool.{cond_both, cond-false, cond-true, eqb-true, eq-eqb, ne_eqb, and_parts, and_from}
use Rattle.std.proofs.lemmas.Bool.Decides.{Decides-eqb}
use Rattle.std.proofs.lemmas.Slice.Eq.{starts_is}
use Rattle.station.specs.Disk.{Sector, sector_at}
use Rattle.roots.specs.declared.root.Mark.{Mark}
use Rattle.roots.specs.declared.root.Root.{Root}
use Rattle.roots.specs.declared.root.RootSector.{RootSector}
use Rattle.roots.specs.declared.root.RootSector.TheVariants.{Blank, Broken, Valid}
use Rattle.roots.specs.declared.pair.Roots.{Roots}
use Rattle.roots.specs.declared.pair.RootsFault.{RootsFault}
use Rattle.roots.specs.declared.pair.RootsFault.TheVariants.{ForeignMark}
use Rattle.roots.specs.Root.{Family, version_in, mark_of_family, mark_in, root_with, is_valid, root_with_mark, is_blank}
use Rattle.roots.specs.Root.{root_in}
use Rattle.roots.specs.Pair.{may_follow, pair_of, of_own, newest_root}
use Rattle.roots.specs.Reading.{roots_in}
use Rattle.records.specs.Files.{Files}
use Rattle.pages.specs.Layout.{known_families as page_families, IsForeign}
use Rattle.pages.proofs.Roots.{behind}
use Rattle.half_store.specs.Half.{known_families as half_families, IsForeign as IsHalfForeign, Holds as HoldsHalf}
use Rattle.volume_format.specs.Volume.{Holds as HoldsTrees}

-- the place of a family among two that were turned round
abbrev turned : ℕ → ℕ
turned zero = 1
turned (suc n) = 0

abbrev turned_mark : Mark → Mark
turned_mark m = record { family = turned m.family; version = m.version }

turned_root : Root → Root
turned_root r =
    record { mark = turned_mark r.mark; generation = r.generation; sectors = r.sectors; payload = r.payload }

turned_sector : RootSector → RootSector
turned_sector Blank = Blank
turned_sector Broken = Broken
turned_sector (Valid r) = Valid (turned_root r)

-- a mark of the first of two families that has one
abbrev chosen : Bool → Bool → Option ℕ → Option ℕ → Option Mark
chosen a b v w = if a then mark_of_family 0 v else if b then mark_of_family 1 w else None

chosen_turns : (v w : Option ℕ) → (is_some v ≡ true → is_some w ≡ true → ⊥)
    → chosen (is_some w) (is_some v) w v ≡ option_map turned_mark (chosen (is_some v) (is_some w) v w)
chosen_turns (Some v) (Some w) apart = absurd (apart refl refl)
chosen_turns (Some v) None apart = refl
chosen_turns None (Some w) apart = refl
chosen_turns None None apart = refl

module _ (bytes : Sector) where
  chosen_by : (one two : Family) (a b : Bool)
      → option_and_then (λ n. mark_of_family n (version_in (slice_index_or (one ∷ two ∷ []) n []) bytes))
      (position (λ (x : Bool). x) (a ∷ b ∷ [])) ≡ chosen a b (version_in one bytes) (version_in two bytes)
  chosen_by one two true b = refl
  chosen_by one two false true = refl
  chosen_by one two false false = refl

  mark_chosen : (one two : Family) → mark_in (one ∷ two ∷ []) bytes
      ≡ chosen (is_some (version_in one bytes)) (is_some (version_in two bytes)) (version_in one bytes)
      (version_in two bytes)
  mark_chosen one two = chosen_by one two (is_some (version_in one bytes)) (is_some (version_in two bytes))

  mark_turns : (one two : Family)
      → (is_some (version_in one bytes) ≡ true → is_some (version_in two bytes) ≡ true → ⊥)
      → mark_in (two ∷ one ∷ []) bytes ≡ option_map turned_mark (mark_in (one ∷ two ∷ []) bytes)
  mark_turns one two apart =
      mark_chosen two one ∙ chosen_turns (version_in one bytes) (version_in two bytes) apart
      ∙ ap (option_map turned_mark) (sym (mark_chosen one two))

module _ (count number : ℕ) (bytes : Sector) where
  valid_turns : (b : Bool) (r : Root)
      → (if b then Valid (turned_root r) else Broken) ≡ turned_sector (if b then Valid r else Broken)
  unfolding turned_sector
  valid_turns true r = refl
  valid_turns false r = refl

  marked_turns : (m : Option Mark) → root_with_mark count number bytes (option_map turned_mark m)
      ≡ turned_sector (root_with_mark count number bytes m)
  unfolding turned_sector turned_root
  marked_turns None = refl
  marked_turns (Some mark) = valid_turns (is_valid count number (root_with bytes mark)) (root_with bytes mark)

  blank_turns : (b : Bool) (x y : RootSector) → y ≡ turned_sector x
      → (if b then Blank else y) ≡ turned_sector (if b then Blank else x)
  unfolding turned_sector
  blank_turns true x y same = refl
  blank_turns false x y same = same

  in_turns : (one two : Family)
      → (is_some (version_in one bytes) ≡ true → is_some (version_in two bytes) ≡ true → ⊥)
      → root_in (two ∷ one ∷ []) count number bytes ≡ turned_sector (root_in (one ∷ two ∷ []) count number bytes)
  in_turns one two apart =
      let known : List Family = one ∷ two ∷ [] in
      blank_turns (is_blank bytes) (root_with_mark count number bytes (mark_in known bytes))
      (root_with_mark count number bytes (mark_in (two ∷ one ∷ []) bytes))
      (ap (root_with_mark count number bytes) (mark_turns bytes one two apart) ∙ marked_turns (mark_in known bytes))

-- a newest root of the reader's own family, and one of the other
low : (x r : Roots) → of_own (Some x) ≡ Ok r → x.newest.mark.family ≡ 0
low x r is = cond_both (x.newest.mark.family == 0) (Ok x) (Err ForeignMark) (λ (y : Result Roots RootsFault). y ≡ Ok r
    → x.newest.mark.family ≡ 0)
    (λ first _. eqb-true x.newest.mark.family 0 first) (λ _ never. cc) is

high : (x : Roots) → 1 ≤ x.newest.mark.family → of_own (Some x) ≡ Err ForeignMark
high x least = cond-false (x.newest.mark.family == 0) (Ok x) (Err ForeignMark)
    (ne_eqb x.newest.mark.family 0 (λ none. omega (arith, none, least)))

high_back : (x : Roots) → of_own (Some x) ≡ Err ForeignMark → 1 ≤ x.newest.mark.family
high_back x is = cond_both (x.newest.mark.family == 0) (Ok x) (Err ForeignMark)
    (λ (y : Result Roots RootsFault). y ≡ Err ForeignMark → 1 ≤ x.newest.mark.family)
    (λ _ never. cc) (λ other _. at_least x.newest.mark.family other) is
  where
    at_least : (n : ℕ) → (n == 0) ≡ false → 1 ≤ n
    at_least zero is = cc
    at_least (suc n) is = omega arith

turned_high : (n : ℕ) → n ≡ 0 → 1 ≤ turned n
turned_high zero is = omega arith
turned_high (suc n) is = absurd (omega (arith, is))

turned_low : (n : ℕ) → 1 ≤ n → 1 ≤ turned n → ⊥
turned_low zero least more = omega (arith, least)
turned_low (suc n) least more = omega (arith, more)

follow_turns : (m n : Mark) → may_follow m n ≡ true → may_follow (turned_mark m) (turned_mark n) ≡ true
follow_turns m n is =
    let parts = and_parts (m.family == n.family) (nat_le m.version n.version) is in
    and_from (turned m.family == turned n.family) (nat_le m.version n.version)
    (eq-eqb (turned m.family) (turned n.family) (ap turned (eqb-true m.family n.family parts.0))) parts.1

-- two roots that belong together, and the same with their families turned round
module _ (b : Bool) (m n : Mark) (one two : Roots) (mark : one.newest.mark ≡ n)
    (other : two.newest.mark ≡ turned_mark n) where
  pair_turns : (r : Roots) → of_own (if b && may_follow m n then Some one else None) ≡ Ok r
      → of_own (if b && may_follow (turned_mark m) (turned_mark n) then Some two else None) ≡ Err ForeignMark
  pair_turns r is = cond_both (b && may_follow m n) (Some one) None (λ (x : Option Roots). of_own x ≡ Ok r
      → of_own (if b && may_follow (turned_mark m) (turned_mark n) then Some two else None) ≡ Err ForeignMark)
      (λ so told.
      let none : n.family ≡ 0 = ap (λ (k : Mark). k.family) (sym mark) ∙ low one r told in
      let parts = and_parts b (may_follow m n) so in
      ap of_own (cond-true (b && may_follow (turned_mark m) (turned_mark n)) (Some two) None
      (and_from b (may_follow (turned_mark m) (turned_mark n)) parts.0 (follow_turns m n parts.1)))
      ∙ high two (subst (λ (k : Mark). 1 ≤ k.family) (sym other) (turned_high n.family none)))
      (λ _ never. cc) is

  pair_never : (c d : Bool) → of_own (if c then Some one else None) ≡ Err ForeignMark
      → of_own (if d then Some two else None) ≡ Err ForeignMark → ⊥
  pair_never true true is also = turned_low n.family (subst (λ (k : Mark). 1 ≤ k.family) mark (high_back one is))
      (subst (λ (k : Mark). 1 ≤ k.family) other (high_back two also))
  pair_never true false is also = cc
  pair_never false d is also = cc

paired : (older newer : Root) (r : Roots) → of_own (pair_of older newer) ≡ Ok r
    → of_own (pair_of (turned_root older) (turned_root newer)) ≡ Err ForeignMark
unfolding turned_root
paired older newer r is =
    pair_turns ((older.generation + 1 == newer.generation) && (older.sectors == newer.sectors)) older.mark newer.mark
    (record { newest = newer; older = Some older })
    (record { newest = turned_root newer; older = Some (turned_root older) }) refl refl r is

never_paired : (older newer : Root) → of_own (pair_of older newer) ≡ Err ForeignMark
    → of_own (pair_of (turned_root older) (turned_root newer)) ≡ Err ForeignMark → ⊥
unfolding turned_root
never_paired older newer is also =
    let beside = (older.generation + 1 == newer.generation) && (older.sectors == newer.sectors) in
    pair_never beside older.mark newer.mark (record { newest = newer; older = Some older })
    (record { newest = turned_root newer; older = Some (turned_root older) }) refl refl
    (beside && may_follow older.mark newer.mark)
    (beside && may_follow (turned_mark older.mark) (turned_mark newer.mark)) is
    also

alone : Root → Roots
alone root = record { newest = root; older = None }

single : (root : Root) (r : Roots) → of_own (Some (alone root)) ≡ Ok r
    → of_own (Some (alone (turned_root root))) ≡ Err ForeignMark
unfolding turned_root alone
single root r is = high (alone (turned_root root)) (turned_high root.mark.family (low (alone root) r is))

never_single : (root : Root) → of_own (Some (alone root)) ≡ Err ForeignMark
    → of_own (Some (alone (turned_root root))) ≡ Err ForeignMark → ⊥
unfolding turned_root alone
never_single root is also =
    turned_low root.mark.family (high_back (alone root) is) (high_back (alone (turned_root root)) also)

either_turns : (b : Bool) (x y x' y' : Option Roots) (r : Roots) → (of_own x ≡ Ok r → of_own x' ≡ Err ForeignMark)
    → (of_own y ≡ Ok r → of_own y' ≡ Err ForeignMark) →
    of_own (if b then x else y) ≡ Ok r → of_own (if b then x' else y') ≡ Err ForeignMark
either_turns true x y x' y' r first second is = first is
either_turns false x y x' y' r first second is = second is

either_never : (b : Bool) (x y x' y' : Option Roots)
    → (of_own x ≡ Err ForeignMark → of_own x' ≡ Err ForeignMark → ⊥)
    → (of_own y ≡ Err ForeignMark → of_own y' ≡ Err ForeignMark → ⊥) →
    of_own (if b then x else y) ≡ Err ForeignMark → of_own (if b then x' else y') ≡ Err ForeignMark → ⊥
either_never true x y x' y' first second is also = first is also
either_never false x y x' y' first second is also = second is also

newest_turns : (first second : RootSector) (r : Roots) → newest_root first second ≡ Ok r
    → newest_root (turned_sector first) (turned_sector second) ≡ Err ForeignMark
unfolding turned_sector turned_root alone
newest_turns Blank Blank r is = cc
newest_turns Blank Broken r is = cc
newest_turns Blank (Valid b) r is = single b r is
newest_turns Broken second r is = cc
newest_turns (Valid a) Blank r is = single a r is
newest_turns (Valid a) Broken r is = cc
newest_turns (Valid a) (Valid b) r is =
    either_turns (nat_lt a.generation b.generation) (pair_of a b) (pair_of b a) (pair_of (turned_root a)
    (turned_root b)) (pair_of (turned_root b) (turned_root a)) r (paired a b r) (paired b a r) is

newest_never : (first second : RootSector) → newest_root first second ≡ Err ForeignMark
    → newest_root (turned_sector first) (turned_sector second) ≡ Err ForeignMark → ⊥
unfolding turned_sector turned_root alone
newest_never Blank Blank is also = cc
newest_never Blank Broken is also = cc
newest_never Blank (Valid b) is also = never_single b is also
newest_never Broken second is also = cc
newest_never (Valid a) Blank is also = never_single a is also
newest_never (Valid a) Broken is also = cc
newest_never (Valid a) (Valid b) is also =
    either_never (nat_lt a.generation b.generation) (pair_of a b) (pair_of b a) (pair_of (turned_root a)
    (turned_root b)) (pair_of (turned_root b) (turned_root a)) (never_paired a b) (never_paired b a) is also

-- the marks of each store
abbrev half_mark : List ℕ
half_mark = codes "COBHALF1"

abbrev half_family : Family
half_family = half_mark ∷ []

abbrev page_family : Family
page_family = codes "COBVOL01" ∷ codes "COBVOL02" ∷ []

-- no sector begins with the mark of halves and with one whose fourth byte is another
apart : (bytes rest : List ℕ) (a b c d : ℕ) → d ≡ 86 → starts_with nat_eq bytes half_mark ≡ true
    → starts_with nat_eq bytes (a ∷ b ∷ c ∷ d ∷ rest) ≡ true → ⊥
apart bytes rest a b c d fourth one two =
    let mark : List ℕ = a ∷ b ∷ c ∷ d ∷ rest in
    let first : bytes ≡ half_mark ++ drop (length half_mark) bytes =
    (starts_is Decides-eqb bytes half_mark (starts_with nat_eq bytes half_mark) refl).0 one in
    let second : bytes ≡ mark ++ drop (length mark) bytes =
    (starts_is Decides-eqb bytes mark (starts_with nat_eq bytes mark) refl).0 two in
    let clash : 72 ≡ d = ap (λ (l : List ℕ). slice_index l 3) (sym first ∙ second) in
    omega (arith, clash, fourth)

-- the marks of a family of one, and of two
only : (a : Bool) → is_some (position (λ (x : Bool). x) (a ∷ [])) ≡ true → a ≡ true
only true is = refl
only false is = is

either : (a b : Bool) → is_some (position (λ (x : Bool). x) (a ∷ b ∷ [])) ≡ true → (a ≡ true) ⊎ (b ≡ true)
either true b is = inl refl
either false true is = inr refl
either false false is = cc

families_apart : (bytes : Sector) → is_some (version_in half_family bytes) ≡ true
    → is_some (version_in page_family bytes) ≡ true → ⊥
families_apart bytes one two =
    let half = only (starts_with nat_eq bytes half_mark) one in
    ⊎_elim (apart bytes (79 ∷ 76 ∷ 48 ∷ 49 ∷ []) 67 79 66 86 refl half)
    (apart bytes (79 ∷ 76 ∷ 48 ∷ 50 ∷ []) 67 79 66 86 refl half)
    (either (starts_with nat_eq bytes (codes "COBVOL01")) (starts_with nat_eq bytes (codes "COBVOL02")) two)

module _ (image : List Sector) where
  both_turn : roots_in page_families image
      ≡ newest_root (turned_sector (root_in half_families (length image) 0 (sector_at image 0)))
      (turned_sector (root_in half_families (length image) 1 (sector_at image 1)))
  both_turn =
      let first = in_turns (length image) 0 (sector_at image 0) half_family page_family
      (families_apart (sector_at image 0)) in
      let second = in_turns (length image) 1 (sector_at image 1) half_family page_family
      (families_apart (sector_at image 1)) in
      ap (λ x. newest_root x (root_in page_families (length image) 1 (sector_at image 1))) first
      ∙ ap (newest_root (turned_sector (root_in half_families (length image) 0 (sector_at image 0)))) second

  -- where one store's root is the newest, it is foreign to the other store alone
  pub half_foreign : (roots : Roots) → roots_in half_families image ≡ Ok roots → IsForeign image
  half_foreign roots is = both_turn ∙ newest_turns (root_in half_families (length image) 0 (sector_at image 0))
      (root_in half_families (length image) 1 (sector_at image 1)) roots is

  pub half_is_foreign : (files : Files) → HoldsHalf image files → IsForeign image
  half_is_foreign files holds = half_foreign holds.2.roots holds.2.reads

  pub trees_are_own : (files : Files) → HoldsTrees image files → IsForeign image → ⊥
  trees_are_own files holds foreign =
      let reads = holds.1.1 in
      let own = behind image holds.1.0.root reads.root in
      let clash : Ok own.roots ≡ Err ForeignMark = sym own.reads ∙ foreign in
      cc

  pub never_both_foreign : IsForeign image → IsHalfForeign image → ⊥
  never_both_foreign foreign other = newest_never (root_in half_families (length image) 0 (sector_at image 0))
      (root_in half_families (length image) 1 (sector_at image 1)) other (sym both_turn ∙ foreign)
