-- Names and qualifiers (COBOL-85, Nucleus, "Qualification").
use Rattle.std.specs.Prelude.{Bool, true, false, bytes_eq, if◌then◌else◌, List, [], ◌∷◌, Option, Some, None}
use Rattle.source_tree.specs.declared.name.Name.{Name}

-- Names are in upper case, so that lower case equals it (own choice).
abbrev pub same : Name → Name → Bool
same one other = bytes_eq one.characters other.characters

-- Each qualifier is one of these names, in their order; names between may be left out.
abbrev pub is_within : List Name → List Name → Bool
is_within [] around = true
is_within (one ∷ more) [] = false
is_within (one ∷ more) (name ∷ around) = if same one name then is_within more around else is_within (one ∷ more) around

-- FILLER, and an entry without a name, have none.
abbrev pub is_called : Name → Option Name → Bool
is_called name None = false
is_called name (Some other) = same name other

abbrev pub with_name : Option Name → List Name → List Name
with_name None names = names
with_name (Some name) names = name ∷ names
