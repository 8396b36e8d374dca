-- Lists that are compared place by place.
use Rattle.std.proofs.Common.{◌≡◌, ◌<◌, ◌≤◌, ◌+◌, ℕ, List, [], ◌∷◌, ◌++◌, length, map, take, get_or, sym, ap, subst}
use Rattle.std.proofs.Common.{◌∙◌}
use Rattle.std.specs.List.{AllZip}
use Rattle.std.proofs.lemmas.List.{take_more, take_all, get_or-map}
use Rattle.records.specs.Rows.{Row}
use Rattle.file_bytes.specs.declared.stored.StoredRow.{StoredRow}
use Rattle.file_bytes.specs.Stored.{row_of}
use Rattle.std.proofs.lemmas.List.Elements.{AllZip-push}

module _ {X : Type 0} (R : X → X → Type 0) where
  pub zip_nothing : (xs ys : List X) → AllZip R (take 0 xs) (take 0 ys)
  zip_nothing xs ys = tt

  -- one more place
  pub zip_more : (xs ys : List X) (i : ℕ) (x y : X) → i < length xs → i < length ys → x ≡ get_or xs i x
      → y ≡ get_or ys i y
      → AllZip R (take i xs) (take i ys) → R x y → AllZip R (take (i + 1) xs) (take (i + 1) ys)
  zip_more xs ys i x y lt lt' is is' zip here =
      subst (λ (l : List X). AllZip R l (take (i + 1) ys)) (sym (take_more xs i x lt))
      (subst (λ (l : List X). AllZip R (take i xs ++ get_or xs i x ∷ []) l) (sym (take_more ys i y lt'))
      (AllZip-push R (take i xs) (take i ys) (get_or xs i x) (get_or ys i y) zip
      (subst (λ (v : X). R v (get_or ys i y)) is (subst (R x) is' here))))

  -- all places
  pub zip_all : (xs ys : List X) (i : ℕ) → length xs ≤ i → length ys ≤ i → AllZip R (take i xs) (take i ys)
      → AllZip R xs ys
  zip_all xs ys i all all' zip = subst (λ (l : List X). AllZip R l ys) (take_all i xs all)
      (subst (AllZip R (take i xs)) (take_all i ys all') zip)

pub zip_maps : {X Y : Type 0} (f : X → Y) (R : Y → Y → Type 0) (xs ys : List X) → AllZip (λ x y. R (f x) (f y)) xs ys
    → AllZip R (map f xs) (map f ys)
zip_maps f R [] [] zip = tt
zip_maps f R [] (y ∷ ys) zip = zip
zip_maps f R (x ∷ xs) [] zip = zip
zip_maps f R (x ∷ xs) (y ∷ ys) zip = (zip.0, zip_maps f R xs ys zip.1)

-- a row in memory, as a row
pub row_here : (rows : List StoredRow) (i : ℕ) (row : StoredRow) (d : Row) → i < length rows → row ≡ get_or rows i row
    → get_or (map row_of rows) i d ≡ row_of row
row_here rows i row d lt is = get_or-map row_of rows i row d lt ∙ ap row_of (sym is)
