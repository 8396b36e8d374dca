-- The entry of a key.
use Rattle.std.proofs.Common.{◌≡◌, ℕ, Bool, true, false, List, [], ◌∷◌, refl}
use Rattle.std.specs.Prelude.{if◌then◌else◌, Option, Some, IfSome, option_map}
use Rattle.std.specs.declared.cmp.Ordering.{Ordering}
use Rattle.std.specs.declared.cmp.Ordering.TheVariants.{Less, Equal, Greater}
use Rattle.std.specs.Ordering.{is_eq, nat_cmp, ordering_then}
use Rattle.std.proofs.lemmas.Cmp.{ranked}
use Rattle.btree_pages.specs.Keys.{key_cmp}
use Rattle.btree.specs.Entries.{Entry, entry_with, value_of}

-- keys that compare as equal are equal
same_first : (x y : ℕ) (o more : Ordering) (xs ys : List ℕ) → o ≡ nat_cmp x y → ordering_then o more ≡ Equal
    → (more ≡ Equal → xs ≡ ys) → x ∷ xs ≡ y ∷ ys
same_first x y Less more xs ys is equal rest = let clash : Less ≡ Equal = equal in cc
same_first x y Equal more xs ys is equal rest = let head : x ≡ y = ranked x y Equal is in let tail : xs ≡ ys =
    rest equal in cc
same_first x y Greater more xs ys is equal rest = let clash : Greater ≡ Equal = equal in cc

pub same_keys : (one two : List ℕ) → key_cmp one two ≡ Equal → one ≡ two
same_keys [] [] equal = refl
same_keys [] (y ∷ two) equal = let clash : Less ≡ Equal = equal in cc
same_keys (x ∷ one) [] equal = let clash : Greater ≡ Equal = equal in cc
same_keys (x ∷ one) (y ∷ two) equal =
    same_first x y (nat_cmp x y) (key_cmp one two) one two refl equal (same_keys one two)

is_equal : (o : Ordering) → is_eq o ≡ true → o ≡ Equal
is_equal Less is = let clash : false ≡ true = is in cc
is_equal Equal is = refl
is_equal Greater is = let clash : false ≡ true = is in cc

value_if : (b : Bool) (entry : Entry) (found : Option Entry) (value : Option (List ℕ))
    → option_map (λ (e : Entry). e.value) found ≡ value
    → option_map (λ (e : Entry). e.value) (if b then Some entry else found) ≡ (if b then Some entry.value else value)
value_if true entry found value same = refl
value_if false entry found value same = same

pub value_with : (entries : List Entry) (key : List ℕ)
    → option_map (λ (e : Entry). e.value) (entry_with entries key) ≡ value_of entries key
value_with [] key = refl
value_with (entry ∷ more) key =
    value_if (is_eq (key_cmp entry.key key)) entry (entry_with more key) (value_of more key) (value_with more key)

key_if : (b : Bool) (entry : Entry) (found : Option Entry) (key : List ℕ) → (b ≡ true → entry.key ≡ key)
    → IfSome found (λ e. e.key ≡ key) → IfSome (if b then Some entry else found) (λ e. e.key ≡ key)
key_if true entry found key here rest = here refl
key_if false entry found key here rest = rest

pub key_with : (entries : List Entry) (key : List ℕ) → IfSome (entry_with entries key) (λ e. e.key ≡ key)
key_with [] key = tt
key_with (entry ∷ more) key =
    key_if (is_eq (key_cmp entry.key key)) entry (entry_with more key) key
    (λ is. same_keys entry.key key (is_equal (key_cmp entry.key key) is)) (key_with more key)
