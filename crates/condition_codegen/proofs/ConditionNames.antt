-- Condition names by their numbers, in the words of what is declared; and the forms of their values.
use Rattle.std.proofs.Common.{◌≡◌, ℕ, zero, suc, ◌<◌, ◌≤◌, true, List, [], ◌∷◌, length, get_or, map, Option, Some, None}
use Rattle.std.proofs.Common.{refl, sym, ap, ◌∙◌, arith}
use Rattle.std.specs.Prelude.{slice_get}
use Rattle.std.specs.List.{AllByRecursion}
use Rattle.std.specs.Option.{option_map}
use Rattle.std.proofs.lemmas.List.{get_or-map, length-map}
use Rattle.source_tree.specs.declared.literal.Literal.{Literal}
use Rattle.source_tree.specs.declared.entry.ValueRange.{ValueRange}
use Rattle.source_tree.specs.declared.entry.ConditionEntry.{ConditionEntry}
use Rattle.source_tree.specs.declared.program.Program.{Program}
use Rattle.source_tree.specs.declared.reference.QualifiedName.{QualifiedName}
use Rattle.source_tree.specs.EntryRules.{entry_rules}
use Rattle.source_tree.specs.FileRules.{descriptions_rules}
use Rattle.source_tree.specs.LookUp.{NamedCondition, all_conditions}
use Rattle.source_tree.specs.Places.{LocatedItem}
use Rattle.source_tree.specs.Records.{program_items}
use Rattle.source_tree.specs.ValueRules.{has_form}
use Rattle.name_table.specs.declared.conditions.DeclaredCondition.{DeclaredCondition}
use Rattle.name_table.specs.Conditions.{found_at, item_numbers}
use Rattle.condition_codegen.specs.ConditionCode.{condition_number, values_of, values_named}
use Rattle.condition_codegen.specs.Values.{HasForms, AreFormedValues}
use Rattle.condition_codegen.proofs.ConditionValues.{conditions_formed}

-- ---- forms

pub value_formed : (all : List ValueRange) (i : ℕ) (d : ValueRange) → i < length all → AreFormedValues all
    → HasForms (get_or all i d).first (get_or all i d).last
value_formed [] i d lt h = absurd (omega arith)
value_formed (one ∷ more) zero d lt h = h.0
value_formed (one ∷ more) (suc i) d lt h = value_formed more i d (omega arith) h.1

pub first_formed : (first : Literal) (last : Option Literal) → HasForms first last → has_form first.value ≡ true
first_formed first None h = h
first_formed first (Some last) h = h.0

pub last_formed : (first last : Literal) → HasForms first (Some last) → has_form last.value ≡ true
last_formed first last h = h.1

at_formed : (all : List NamedCondition) (n : ℕ)
    → AllByRecursion (λ (one : NamedCondition). AreFormedValues one.condition.values) all
    → AreFormedValues (values_of (slice_get all n))
at_formed [] n h = tt
at_formed (one ∷ more) zero h = h.0
at_formed (one ∷ more) (suc n) h = at_formed more n h.1

-- Where the rules of entries are kept, the values that a condition name has there have the form of literals.
pub values_formed : (program : Program) (name : QualifiedName) → entry_rules program.storage ≡ []
    → descriptions_rules program.storage program.files ≡ []
    → AreFormedValues (values_named (program_items program) name)
values_formed program name e f =
    at_formed (all_conditions (program_items program)) (condition_number (program_items program) name)
    (conditions_formed program e f)

-- ---- numbers

beyond : {A : Type 0} (xs : List A) (n : ℕ) (d : A) → length xs ≤ n → get_or xs n d ≡ d
beyond [] n d le = refl
beyond (x ∷ xs) zero d le = absurd (omega arith)
beyond (x ∷ xs) (suc n) d le = beyond xs n d (omega arith)

not_there : {A : Type 0} (xs : List A) (n : ℕ) → length xs ≤ n → slice_get xs n ≡ None
not_there [] n le = refl
not_there (x ∷ xs) zero le = absurd (omega arith)
not_there (x ∷ xs) (suc n) le = not_there xs n (omega arith)

there : {A : Type 0} (xs : List A) (n : ℕ) → n < length xs → (x : A) × (slice_get xs n ≡ Some x)
there [] n lt = absurd (omega arith)
there (x ∷ xs) zero lt = (x, refl)
there (x ∷ xs) (suc n) lt = there xs n (omega arith)

some_at : {A : Type 0} (xs : List A) (n : ℕ) → get_or (map (λ (a : A). Some a) xs) n None ≡ slice_get xs n
some_at [] n = refl
some_at (x ∷ xs) zero = refl
some_at (x ∷ xs) (suc n) = some_at xs n

module _ (items : List LocatedItem) (all : List DeclaredCondition) where
  module _ (numbers : map (λ (one : DeclaredCondition). one.item) all ≡ item_numbers 0 items) where
    pub item_there : (n : ℕ) (one : DeclaredCondition) → n < length all → one ≡ get_or all n one
        → one.item ≡ get_or (item_numbers 0 items) n 0
    item_there n one lt e =
        ap (λ (d : DeclaredCondition). d.item) e ∙ sym (get_or-map (λ (d : DeclaredCondition). d.item) all n one 0 lt)
        ∙ ap (λ (l : List ℕ). get_or l n 0) numbers

    pub no_item : (n : ℕ) → length all ≤ n → 0 ≡ get_or (item_numbers 0 items) n 0
    no_item n le = sym (beyond (item_numbers 0 items) n 0
        (omega (arith, le, sym (ap length numbers) ∙ length-map all (λ (d : DeclaredCondition). d.item))))

  values_found : (c : ConditionEntry) (o : Option LocatedItem) (x : NamedCondition)
      → option_map (λ item. record { condition = c; item = item }) o ≡ Some x
      → values_of (option_map (λ item. record { condition = c; item = item }) o) ≡ c.values
  values_found c None x e = absurd cc
  values_found c (Some item) x e = refl

  module _ (found : map (found_at items) all ≡ map Some (all_conditions items)) where
    same_count : length all ≡ length (all_conditions items)
    same_count = sym (length-map all (found_at items)) ∙ ap length found ∙ length-map (all_conditions items) Some

    pub values_there : (n : ℕ) (one : DeclaredCondition) → n < length all → one ≡ get_or all n one
        → one.condition.now.values ≡ values_of (slice_get (all_conditions items) n)
    values_there n one lt e =
        let x = there (all_conditions items) n (omega (arith, lt, same_count)) in
        let is : found_at items one ≡ slice_get (all_conditions items) n =
        ap (found_at items) e ∙ sym (get_or-map (found_at items) all n one None lt)
        ∙ ap (λ (l : List (Option NamedCondition)). get_or l n None) found ∙ some_at (all_conditions items) n in
        sym (values_found one.condition.now (slice_get items one.item) x.0 (is ∙ x.1)) ∙ ap values_of is

    pub no_values : (n : ℕ) → length all ≤ n → values_of (slice_get (all_conditions items) n) ≡ []
    no_values n le = ap values_of (not_there (all_conditions items) n (omega (arith, le, same_count)))
