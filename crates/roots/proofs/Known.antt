-- The mark of a root that is read is known.
use Rattle.std.proofs.Common.{◌≡◌, ◌<◌, Bool, ℕ, List, [], length, nat_lt, refl, sym, subst}
use Rattle.std.specs.Prelude.{Option, Some, None, position, slice_index_or}
use Rattle.std.specs.List.{position_or_len}
use Rattle.std.proofs.lemmas.Bool.{cond_both, ltb-true}
use Rattle.std.proofs.lemmas.Option.{option_and_then_some, same_Some}
use Rattle.station.specs.Disk.{Sector}
use Rattle.roots.specs.declared.root.Mark.{Mark}
use Rattle.roots.specs.declared.root.Root.{Root}
use Rattle.roots.specs.declared.root.RootSector.TheVariants.{Blank, Broken, Valid}
use Rattle.roots.specs.Root.{Family, version_in, family_in, mark_of_family, mark_in, root_with, is_valid}
use Rattle.roots.specs.Root.{root_with_mark}
use Rattle.roots.specs.Root.{is_blank, root_in}
use Rattle.roots.specs.Laws.{IsKnown}
use Rattle.roots.proofs.Next.{IsValid, valid}

position_low : {A : Type 0} (so : A → Bool) (xs : List A) (i : ℕ) → position so xs ≡ Some i → i < length xs
position_low so xs i is = cond_both (nat_lt (position_or_len so xs) (length xs)) (Some (position_or_len so xs)) None
    (λ (x : Option ℕ). x ≡ Some i → i < length xs)
    (λ low same. subst (λ (n : ℕ). n < length xs) (same_Some (position_or_len so xs) i same)
    (ltb-true (position_or_len so xs) (length xs) low))
    (λ _ never. cc) is

module _ (known : List Family) (bytes : Sector) where
  version_known : (family : ℕ) (version : Option ℕ) (m : Mark) → family < length known
      → version ≡ version_in (slice_index_or known family []) bytes
      → mark_of_family family version ≡ Some m → IsKnown known m
  version_known family None m low here is = cc
  version_known family (Some n) m low here is =
      let same : record { family = family; version = n } ≡ m = same_Some _ m is in
      subst (IsKnown known) same (record {
        family = low;
        version = position_low _ (slice_index_or known family []) n (sym here);
      })

  mark_known : (m : Mark) → mark_in known bytes ≡ Some m → IsKnown known m
  mark_known m is = option_and_then_some _ (family_in known bytes) m is (λ family found here.
      version_known family (version_in (slice_index_or known family []) bytes) m (position_low _ known family found)
      refl
      here)

  marked_as : (count number : ℕ) (mark : Option Mark) (r : Root) → mark ≡ mark_in known bytes
      → IsValid (root_with_mark count number bytes mark) r → IsKnown known r.mark
  marked_as count number None r is never = absurd never
  marked_as count number (Some mark) r is here =
      cond_both (is_valid count number (root_with bytes mark)) (Valid (root_with bytes mark)) Broken
      (λ x. IsValid x r → IsKnown known r.mark)
      (λ _ same. subst (λ (q : Root). IsKnown known q.mark) same (mark_known mark (sym is))) (λ _ never. absurd never)
      here

  pub root_known : (count number : ℕ) (r : Root) → root_in known count number bytes ≡ Valid r → IsKnown known r.mark
  root_known count number r is = cond_both (is_blank bytes) Blank
      (root_with_mark count number bytes (mark_in known bytes)) (λ x. IsValid x r → IsKnown known r.mark)
      (λ _ never. absurd never) (λ _ here. marked_as count number (mark_in known bytes) r refl here)
      (valid (root_in known count number bytes) r is)
