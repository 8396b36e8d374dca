-- What names name, by the order of declaration.
use Rattle.std.specs.Prelude.{◌≡◌, ℕ, zero, suc, Bool, false, ◌&&◌, bytes_eq, if◌then◌else◌, List, [], ◌∷◌, ◌++◌, length, Option, Some, None, get_or, slice_get}
use Rattle.source_tree.specs.declared.name.Name.{Name}
use Rattle.source_tree.specs.declared.reference.QualifiedName.{QualifiedName}
use Rattle.source_tree.specs.Names.{is_within, is_called}
use Rattle.name_table.specs.declared.look_up.LookUp.{LookUp}
use Rattle.name_table.specs.declared.look_up.LookUp.TheVariants.{Unknown, One, Several}

-- Something that is declared, with the names around it, the nearest first.
pub record NamePath : Type 0 where
  pub name : Option Name
  pub around : List Name

abbrev pub empty_path : NamePath
empty_path = record { name = None; around = [] }

abbrev pub has_characters : List ℕ → Option Name → Bool
has_characters characters None = false
has_characters characters (Some name) = bytes_eq characters name.characters

abbrev pub is_named : QualifiedName → NamePath → Bool
is_named reference one = is_called reference.name one.name && is_within reference.qualifiers one.around

-- where there is one
abbrev pub names_called : QualifiedName → Option NamePath → Bool
names_called reference None = false
names_called reference (Some one) = is_named reference one

abbrev pub number_where : Bool → ℕ → List ℕ
number_where test n = if test then n ∷ [] else []

-- the numbers of those, among the first so many, that pass
unfoldable pub positions : (NamePath → Bool) → List NamePath → ℕ → List ℕ
positions test calls zero = []
positions test calls (suc n) = positions test calls n ++ number_where (test (get_or calls n empty_path)) n

-- the last of the first so many that has this name
unfoldable pub last_called : List ℕ → List NamePath → ℕ → Option ℕ
last_called characters calls zero = None
last_called characters calls (suc n) = if has_characters characters (get_or calls n empty_path).name then Some n else last_called characters calls n

abbrev pub look_up_of : List ℕ → LookUp
look_up_of [] = Unknown
look_up_of (only ∷ []) = One only
look_up_of (one ∷ other ∷ more) = Several

abbrev pub with_one : ℕ → LookUp → LookUp
with_one n Unknown = One n
with_one n _ = Several

abbrev pub look_up : QualifiedName → List NamePath → LookUp
look_up reference calls = look_up_of (positions (is_named reference) calls (length calls))

-- What was found is what is named: nothing, the thing of that number alone, or several things.
abbrev pub IsLookUpOf : {A : Type 0} → List A → List A → LookUp → Type 0
IsLookUpOf all named Unknown = named ≡ []
IsLookUpOf {A} all named (One n) = (one : A) × (slice_get all n ≡ Some one) × (named ≡ one ∷ [])
IsLookUpOf {A} all named Several = (one : A) × (other : A) × (more : List A) × (named ≡ one ∷ other ∷ more)
