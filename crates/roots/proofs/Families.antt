-- The mark of a sector among known families, where each family is a reference.
use Rattle.std.proofs.Common.{◌≡◌, ◌∙◌, ◌+◌, ◌<◌, ℕ, Bool, List, [], ◌∷◌, map, length, cond, not, Bor, refl, sym, ap}
use Rattle.std.specs.Prelude.{position, is_some, slice_index_or, Option, Some, None}
use Rattle.std.specs.List.{prefix_len}
use Rattle.std.specs.Option.{option_and_then}
use Rattle.std.proofs.lemmas.List.{length-map, get_or-map}
use Rattle.station.specs.Disk.{Sector}
use Rattle.roots.specs.Root.{Family, version_in, mark_of_family, mark_in}

module _ {A B : Type 0} (f : A → B) where
  prefix_mapped : (so : B → Bool) (xs : List A) → prefix_len so (map f xs) ≡ prefix_len (λ x. so (f x)) xs
  prefix_mapped so [] = refl
  prefix_mapped so (x ∷ xs) = ap (λ (n : ℕ). cond (so (f x)) (1 + n) 0) (prefix_mapped so xs)

  position_mapped : (so : B → Bool) (xs : List A) → position so (map f xs) ≡ position (λ x. so (f x)) xs
  position_mapped so xs = rw (prefix_mapped (λ x. not (so x)) xs) (rw (length-map xs f) refl)

abbrev pub families : List (Bor Family) → List Family
families known = map (λ family. family.now) known

abbrev has_mark : Sector → Bor Family → Bool
has_mark bytes family = is_some (version_in family.now bytes)

module _ (known : List (Bor Family)) (bytes : Sector) where
  marked : (place : Option ℕ) → place ≡ position (has_mark bytes) known → mark_in (families known) bytes
      ≡ option_and_then (λ n. mark_of_family n (version_in (slice_index_or (families known) n []) bytes)) place
  marked place is =
      ap (option_and_then (λ n. mark_of_family n (version_in (slice_index_or (families known) n []) bytes)))
      (position_mapped (λ (family : Bor Family). family.now) (λ (family : Family). is_some (version_in family bytes))
      known
      ∙ sym is)

  pub no_family : None ≡ position (has_mark bytes) known → mark_in (families known) bytes ≡ None
  no_family is = marked None is

  pub in_family : (n : ℕ) (d : Bor Family) (version : Option ℕ) → Some n ≡ position (has_mark bytes) known
      → n < length known → version ≡ version_in (slice_index_or known n d).now bytes
      → mark_in (families known) bytes ≡ mark_of_family n version
  in_family n d version is low here =
      marked (Some n) is ∙ ap (λ (family : Family). mark_of_family n (version_in family bytes))
      (get_or-map (λ (family : Bor Family). family.now) known n d [] low) ∙ ap (mark_of_family n) (sym here)
