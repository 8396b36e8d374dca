-- The rules of procedure names: 40 a name that names none, 41 one that names several, 42 a name that is given twice, 55 THRU that leads
-- backwards.
use Rattle.std.specs.Prelude.{nat_lt, Bool, false, ◌||◌, not, List, [], ◌∷◌, ◌++◌, Option, Some, None}
use Rattle.lexical.specs.declared.place.Place.{Place}
use Rattle.source_tree.specs.declared.name.Name.{Name}
use Rattle.source_tree.specs.declared.program.Section.{Section}
use Rattle.source_tree.specs.Names.{same}
use Rattle.source_tree.specs.Procedures.{Range, Procedure, procedures_of, procedures_named, range_of}
use Rattle.source_tree.specs.Broken.{RuleBreach, where_so}
use Rattle.source_tree.specs.NameRules.{unique_name_rules}

-- ---- names that are given

abbrev pub name_of : Option Name → List Name
name_of None = []
name_of (Some name) = name ∷ []

-- the names of procedures, in the order of the program
abbrev pub names_of : List Procedure → List Name
names_of [] = []
names_of (one ∷ more) = name_of one.name ++ names_of more

abbrev pub is_among : Name → List Name → Bool
is_among name [] = false
is_among name (one ∷ more) = same name one || is_among name more

-- names of which each is no other's, after these
abbrev pub given_once : List Name → List Name → List RuleBreach
given_once before [] = []
given_once before (one ∷ more) = where_so (is_among one before) 42 one.place ++ given_once (before ++ one ∷ []) more

abbrev pub procedure_name_rules : List Section → List RuleBreach
procedure_name_rules sections = given_once [] (names_of (procedures_of sections))

-- ---- names that PERFORM names

abbrev pub no_rules : Procedure → List RuleBreach
no_rules one = []

abbrev pub procedure_named : List Procedure → Name → List RuleBreach
procedure_named procedures name = unique_name_rules name.place no_rules (procedures_named procedures name)

abbrev pub last_named : List Procedure → Option Name → List RuleBreach
last_named procedures None = []
last_named procedures (Some name) = procedure_named procedures name

-- where the last procedure of a range is named
abbrev pub last_place : Name → Option Name → Place
last_place first None = first.place
last_place first (Some last) = last.place

-- `permits` says which ranges may be performed where the PERFORM stands.
module _ (permits : Range → Bool) where
  abbrev pub found_rules : Name → Option Name → Option Range → List RuleBreach
  found_rules first last None = []
  found_rules first last (Some range) =
      where_so (nat_lt range.last range.first) 55 (last_place first last) ++ where_so (not (permits range)) 54 first.place

  -- the procedures from one to the end of another
  abbrev pub range_rules : List Procedure → Name → Option Name → List RuleBreach
  range_rules procedures first last =
      procedure_named procedures first ++ last_named procedures last ++ found_rules first last (range_of procedures first last)
