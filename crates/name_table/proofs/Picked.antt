-- The things at some positions are those that pass.
use Rattle.std.proofs.Common.{◌≡◌, ℕ, zero, suc, ◌<◌, ◌≤◌, Bool, true, false, if◌then◌else◌, List, [], ◌∷◌, ◌++◌}
use Rattle.std.proofs.Common.{length, take, Some, get_or, refl, sym, ap, subst, ◌∙◌, arith}
use Rattle.std.specs.Prelude.{map, filter, slice_get}
use Rattle.std.proofs.Math.Seq.{take-suc, take-length}
use Rattle.std.proofs.lemmas.List.{length-map, get_or-map}
use Rattle.std.proofs.lemmas.List.Elements.{filter-append}
use Rattle.std.proofs.lemmas.Option.{slice_get-get_or}
use Rattle.source_tree.specs.declared.reference.QualifiedName.{QualifiedName}
use Rattle.source_tree.specs.Places.{LocatedItem}
use Rattle.source_tree.specs.LookUp.{all_conditions}
use Rattle.name_table.specs.Items.{called_item, IsNamed}
use Rattle.name_table.specs.Conditions.{called_condition, IsConditionNamed}
use Rattle.name_table.specs.Positions.{NamePath, empty_path, is_named, number_where, positions, look_up_of, look_up}
use Rattle.name_table.specs.Positions.{IsLookUpOf}

-- these are the things of these numbers
abbrev Picks : {A : Type 0} → List A → List ℕ → List A → Type 0
Picks all [] picked = picked ≡ []
Picks {A} all (n ∷ more) picked =
    (one : A) × (rest : List A) × (picked ≡ one ∷ rest) × (slice_get all n ≡ Some one) × Picks all more rest

module _ {A : Type 0} (all : List A) where
  joined : (ns ms : List ℕ) (xs ys : List A) → Picks all ns xs → Picks all ms ys → Picks all (ns ++ ms) (xs ++ ys)
  joined [] ms xs ys h k = subst (λ l. Picks all ms (l ++ ys)) (sym h) k
  joined (n ∷ more) ms xs ys h k = (h.0, h.1 ++ ys, ap (λ l. l ++ ys) h.2, h.3, joined more ms h.1 ys h.4 k)

  alone : (b : Bool) (n : ℕ) (one : A) → slice_get all n ≡ Some one
      → Picks all (number_where b n) (if b then one ∷ [] else [])
  alone true n one e = (one, [], refl, e, refl)
  alone false n one e = refl

  of_positions : (named : List A) (ns : List ℕ) → Picks all ns named → IsLookUpOf all named (look_up_of ns)
  of_positions named [] h = h
  of_positions named (n ∷ []) h = (h.0, h.3, h.2 ∙ ap (λ l. h.0 ∷ l) h.4)
  of_positions named (n ∷ m ∷ more) h = (h.0, h.4.0, h.4.1, h.2 ∙ ap (λ l. h.0 ∷ l) h.4.2)

-- those that are named
abbrev named_in : {A : Type 0} → (A → NamePath) → QualifiedName → List A → List A
named_in called reference all = filter (λ one. is_named reference (called one)) all

picks_first : {A : Type 0} (called : A → NamePath) (all : List A) (reference : QualifiedName) (d : A) (n : ℕ)
    → n ≤ length all
    → Picks all (positions (is_named reference) (map called all) n) (named_in called reference (take n all))
unfolding positions
picks_first called all reference d zero h = refl
picks_first called all reference d (suc n) h =
    let within : n < length all = omega arith in
    let last =
    alone all (is_named reference (called (get_or all n d))) n (get_or all n d) (slice_get-get_or all n d within) in
    let same = ap (is_named reference) (get_or-map called all n d empty_path within) in
    subst (λ xs. Picks all (positions (is_named reference) (map called all) n
    ++ number_where (is_named reference (get_or (map called all) n empty_path)) n) xs)
    (sym (ap (named_in called reference) (take-suc all n d within)
    ∙ filter-append (λ one. is_named reference (called one)) (take n all) (get_or all n d ∷ [])))
    (joined all (positions (is_named reference) (map called all) n)
    (number_where (is_named reference (get_or (map called all) n empty_path)) n)
    (named_in called reference (take n all)) (named_in called reference (get_or all n d ∷ []))
    (picks_first called all reference d n (omega arith))
    (subst (λ b. Picks all (number_where b n) (named_in called reference (get_or all n d ∷ []))) (sym same) last))

named_things : {A : Type 0} (called : A → NamePath) (all : List A) (reference : QualifiedName)
    → IsLookUpOf all (named_in called reference all) (look_up reference (map called all))
unfolding positions
named_things called [] reference = refl
named_things {A} called (d ∷ more) reference =
    let all : List A = d ∷ more in
    let picked = picks_first called all reference d (length all) (omega arith) in
    of_positions all (named_in called reference all)
    (positions (is_named reference) (map called all) (length (map called all)))
    (subst (λ n. Picks all (positions (is_named reference) (map called all) n) (named_in called reference all))
    (sym (length-map all called))
    (subst (λ l. Picks all (positions (is_named reference) (map called all) (length all)) (named_in called reference l))
    (take-length all) picked))

pub named_items : (items : List LocatedItem) (reference : QualifiedName)
    → IsNamed items reference (look_up reference (map called_item items))
named_items items reference = named_things called_item items reference

pub named_conditions : (items : List LocatedItem) (reference : QualifiedName)
    → IsConditionNamed items reference (look_up reference (map called_condition (all_conditions items)))
named_conditions items reference = named_things called_condition (all_conditions items) reference
