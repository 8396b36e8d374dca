-- The names of files after those that may be.
use Rattle.std.proofs.Common.{◌≡◌, ℕ, zero, suc, ◌+◌, ◌<◌, List, [], ◌∷◌, ◌++◌, Some, length, get_or, drop, take}
use Rattle.std.proofs.Common.{refl, sym, ap, ◌∙◌, arith}
use Rattle.std.specs.Prelude.{map}
use Rattle.std.proofs.lemmas.List.{map-append, map_more}
use Rattle.std.specs.Borrow.{Bor}
use Rattle.source_tree.specs.declared.name.Name.{Name}
use Rattle.source_tree.specs.Broken.{each}
use Rattle.source_tree.specs.FileRules.{broken_at}
use Rattle.source_tree.specs.LookUp.{first}
use Rattle.name_table.specs.Table.{names_of}

pub past : (n : ℕ) (all : List (Bor Name)) (d : Bor Name) → n < length all
    → first (each (broken_at 69) (drop n (names_of all)))
    ≡ Some (record { rule = 69; place = (get_or all n d).now.place })
past n [] d h = absurd (omega arith)
past zero (one ∷ more) d h = refl
past (suc n) (one ∷ more) d h = past n more d (omega arith)

-- the names of so many, and the next one's
pub named_more : {A : Type 0} (name : A → Name) (xs : List A) (i : ℕ) (x : A) (old new : List (Bor Name)) (b : Bor Name)
    → i < length xs → x ≡ get_or xs i x → b.now ≡ name x → new ≡ old ++ b ∷ []
    → names_of old ≡ map name (take i xs) → names_of new ≡ map name (take (i + 1) xs)
named_more name xs i x old new b lt is called pushed before =
    ap names_of pushed ∙ map-append (λ (n : Bor Name). n.now) old (b ∷ []) ∙ ap (λ l. l ++ b.now ∷ []) before
    ∙ ap (λ n. map name (take i xs) ++ n ∷ []) (called ∙ ap name is) ∙ sym (map_more name xs i x lt)
