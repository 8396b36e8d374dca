-- A sector 0 that is no root is broken to every reader.
use Rattle.std.proofs.Common.{◌≡◌, true, false, not, nat_eq, ℕ, List, [], ◌∷◌, length, refl, ◌∙◌, sym, ap, arith}
use Rattle.std.proofs.lemmas.Bool.{true≢false, not-true, and_parts, and_left, eqb-false, ne_eqb, cond-false, le-ltb}
use Rattle.std.specs.Prelude.{None, Err, ◌==◌, slice_index_or, is_some}
use Rattle.std.specs.List.{starts_with, prefix_len, AllByRecursion}
use Rattle.std.specs.Option.{option_and_then}
use Rattle.station.specs.Disk.{Sector, sector_at}
use Rattle.roots.specs.declared.root.RootSector.{RootSector}
use Rattle.roots.specs.declared.root.RootSector.TheVariants.{Blank, Broken}
use Rattle.roots.specs.declared.pair.RootsFault.TheVariants.{Damaged}
use Rattle.roots.specs.Root.{Family, version_in, family_in, mark_in, root_in, root_with_mark, is_blank}
use Rattle.roots.specs.Pair.{newest_root}
use Rattle.roots.specs.Reading.{roots_in}
use Rattle.unfinished_volume.specs.Hidden.{mark_letter, hides, hides_root}
use Rattle.unfinished_volume.specs.Laws.{HaveMarkLetter}

no_zero : (first : ℕ) → hides first ≡ true → (first == 0) ≡ false
no_zero first is = not-true (first == 0) (and_parts (not (first == 0)) (not (first == mark_letter)) is).0

no_letter : (first : ℕ) → hides first ≡ true → (first == mark_letter) ≡ false
no_letter first is =
    not-true (first == mark_letter) (and_parts (not (first == 0)) (not (first == mark_letter)) is).1

no_mark : (first : ℕ) (rest mark : List ℕ) → hides first ≡ true → slice_index_or mark 0 0 ≡ mark_letter
    → starts_with nat_eq (first ∷ rest) mark ≡ false
no_mark first rest [] is letter = absurd (omega (arith, letter))
no_mark first rest (m ∷ more) is letter = and_left (nat_eq m first) _
    (ne_eqb m first (λ same. eqb-false first mark_letter (no_letter first is) (sym same ∙ letter)))

-- the letter of each mark of a family
abbrev HasMarkLetter : Family → Type 0
HasMarkLetter family = AllByRecursion (λ (mark : List ℕ). slice_index_or mark 0 0 ≡ mark_letter) family

-- the sector begins as none of a family's marks does
no_marks : (first : ℕ) (rest : List ℕ) (family : Family) → hides first ≡ true → HasMarkLetter family
    → prefix_len (λ (mark : List ℕ). not (starts_with nat_eq (first ∷ rest) mark)) family ≡ length family
no_marks first rest [] is letters = refl
no_marks first rest (mark ∷ family) is letters =
    rw (no_mark first rest mark is letters.0) (omega (arith, no_marks first rest family is letters.1))

no_version : (first : ℕ) (rest : List ℕ) (family : Family) → hides first ≡ true → HasMarkLetter family
    → version_in family (first ∷ rest) ≡ None
no_version first rest family is letters = cond-false _ _ None (le-ltb _ (length family)
    (omega (arith, no_marks first rest family is letters)))

-- it begins as no mark of any family does
no_families : (first : ℕ) (rest : List ℕ) (known : List Family) → hides first ≡ true → HaveMarkLetter known
    → prefix_len (λ (family : Family). not (is_some (version_in family (first ∷ rest)))) known ≡ length known
no_families first rest [] is letters = refl
no_families first rest (family ∷ known) is letters =
    rw (no_version first rest family is letters.0) (omega (arith, no_families first rest known is letters.1))

no_family : (first : ℕ) (rest : List ℕ) (known : List Family) → hides first ≡ true → HaveMarkLetter known
    → family_in known (first ∷ rest) ≡ None
no_family first rest known is letters = cond-false _ _ None (le-ltb _ (length known)
    (omega (arith, no_families first rest known is letters)))

no_known : (first : ℕ) (rest : List ℕ) (known : List Family) → hides first ≡ true → HaveMarkLetter known
    → mark_in known (first ∷ rest) ≡ None
no_known first rest known is letters = ap (option_and_then _) (no_family first rest known is letters)

broken : (known : List Family) (count number : ℕ) (bytes : Sector) → HaveMarkLetter known
    → hides_root bytes ≡ true → root_in known count number bytes ≡ Broken
broken known count number [] letters is = absurd (true≢false (sym is))
broken known count number (first ∷ rest) letters is =
    cond-false (is_blank (first ∷ rest)) Blank _ (and_left (first == 0) _ (no_zero first is))
    ∙ ap (root_with_mark count number (first ∷ rest)) (no_known first rest known is letters)

pub no_roots : (known : List Family) (image : List Sector) → HaveMarkLetter known
    → hides_root (sector_at image 0) ≡ true → roots_in known image ≡ Err Damaged
no_roots known image letters is =
    ap (λ (root : RootSector). newest_root root (root_in known (length image) 1 (sector_at image 1)))
    (broken known (length image) 0 (sector_at image 0) letters is)
