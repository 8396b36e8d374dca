-- The first file of a name, and that it is the only one where each name is given once.
use Rattle.std.proofs.Common.{◌≡◌, ℕ, suc, ◌+◌, Bool, true, false, ◌||◌, bytes_eq, if◌then◌else◌, List, [], ◌∷◌, ◌++◌}
use Rattle.std.proofs.Common.{None, Some, refl, sym, ap, subst, ◌∙◌, add-one, arith}
use Rattle.std.specs.Prelude.{Option, cond, slice_get}
use Rattle.std.proofs.lemmas.Slice.Eq.{bytes_eq-Decides}
use Rattle.source_tree.specs.declared.name.Name.{Name}
use Rattle.source_tree.specs.declared.select.Select.{Select}
use Rattle.source_tree.specs.declared.select.FileDescription.{FileDescription}
use Rattle.source_tree.specs.declared.program.Program.{Program}
use Rattle.source_tree.specs.Broken.{where_so}
use Rattle.source_tree.specs.FileRules.{select_names}
use Rattle.source_tree.specs.LookUp.{first}
use Rattle.source_tree.specs.Names.{same}
use Rattle.source_tree.specs.PerformRules.{is_among, given_once}
use Rattle.source_tree.specs.Places.{LocatedItem}
use Rattle.source_tree.specs.Records.{storage_areas}
use Rattle.source_tree.specs.ProgramFiles.{ProgramFile, described_file, file_by, files_from, files_of, files_named}
use Rattle.name_table.specs.Files.{first_file, IsFileNamed}
use Rattle.name_table.proofs.Records.{front_nil, back_nil}

-- ---- the first file of a name, where so many are before these

record IsFirstFrom (start : ℕ) (files : List ProgramFile) (name : Name) (number : ℕ) : Type 0 where
  place : ℕ
  stands : number ≡ start + place
  file : ProgramFile
  here : slice_get files place ≡ Some file
  number_is : file.places.number ≡ number
  first_is : first (files_named files name) ≡ Some file

abbrev IsNamedFrom : ℕ → List ProgramFile → Name → Option ℕ → Type 0
IsNamedFrom start files name None = files_named files name ≡ []
IsNamedFrom start files name (Some number) = IsFirstFrom start files name number

later : (start : ℕ) (one : ProgramFile) (files : List ProgramFile) (name : Name) (found : Option ℕ)
    → same name one.name ≡ false → IsNamedFrom (start + 1) files name found → IsNamedFrom start (one ∷ files) name found
later start one files name None other h =
    ap (λ b. cond b (one ∷ files_named files name) (files_named files name)) other ∙ h
later start one files name (Some number) other h =
    let stands = h.stands in
    record {
      place = suc h.place;
      stands = omega arith;
      file = h.file;
      here = h.here;
      number_is = h.number_is;
      first_is = ap (λ b. first (cond b (one ∷ files_named files name) (files_named files name))) other ∙ h.first_is;
    }

module _ (items : List LocatedItem) (area : ℕ) (descriptions : List FileDescription) (name : Name) where
  named_by : (b : Bool) (number : ℕ) (one : Select) (more : List Select) → same name one.name ≡ b
      → IsNamedFrom (number + 1) (files_from items area descriptions (number + 1) more) name
      (first_file name.characters (number + 1) more)
      → IsNamedFrom number (files_from items area descriptions number (one ∷ more)) name
      (if b then Some number else first_file name.characters (suc number) more)
  named_by true number one more e rest =
      let file = file_by items number one (described_file area one.name descriptions) in
      let others = files_from items area descriptions (number + 1) more in
      record {
        place = 0;
        stands = omega arith;
        file = file;
        here = refl;
        number_is = refl;
        first_is = ap (λ b. first (cond b (file ∷ files_named others name) (files_named others name))) e;
      }
  named_by false number one more e rest =
      let file = file_by items number one (described_file area one.name descriptions) in
      let others = files_from items area descriptions (number + 1) more in
      later number file others name (first_file name.characters (suc number) more) e
      (subst (λ n. IsNamedFrom (number + 1) others name (first_file name.characters n more)) (add-one number) rest)

  named_from : (number : ℕ) (selects : List Select) → IsNamedFrom number
      (files_from items area descriptions number selects) name (first_file name.characters number selects)
  named_from number [] = refl
  named_from number (one ∷ more) = named_by (same name one.name) number one more refl (named_from (number + 1) more)

from_first : (files : List ProgramFile) (name : Name) (found : Option ℕ) → IsNamedFrom 0 files name found
    → IsFileNamed files name found
from_first files name None h = h
from_first files name (Some number) h =
    let stands = h.stands in
    let place : h.place ≡ number = omega arith in
    record {
      file = h.file;
      here = subst (λ n. slice_get files n ≡ Some h.file) place h.here;
      number_is = h.number_is;
      first_is = h.first_is;
    }

pub first_named : (items : List LocatedItem) (program : Program) (name : Name)
    → IsFileNamed (files_of items program) name (first_file name.characters 0 program.selects)
first_named items program name =
    from_first (files_of items program) name (first_file name.characters 0 program.selects)
    (named_from items (storage_areas program.storage) program.files name 0 program.selects)

-- ---- names that are given once

alike : (name other : Name) → same name other ≡ true → name.characters ≡ other.characters
alike name other e = (bytes_eq-Decides name.characters other.characters).0 e

among_by : (characters : List ℕ) → List Name → Bool
among_by characters [] = false
among_by characters (one ∷ more) = bytes_eq characters one.characters || among_by characters more

among_is : (name : Name) (names : List Name) → is_among name names ≡ among_by name.characters names
unfolding among_by
among_is name [] = refl
among_is name (one ∷ more) = ap (λ b. same name one || b) (among_is name more)

among_alike : (name other : Name) (names : List Name) → same name other ≡ true
    → is_among name names ≡ is_among other names
among_alike name other names e =
    among_is name names ∙ ap (λ l. among_by l names) (alike name other e) ∙ sym (among_is other names)

or_true : (b : Bool) → (b || true) ≡ true
or_true true = refl
or_true false = refl

among_end : (name one : Name) (names : List Name) → same name one ≡ true → is_among name (names ++ one ∷ []) ≡ true
among_end name one [] e = ap (λ b. b || false) e
among_end name one (other ∷ more) e =
    ap (λ b. same name other || b) (among_end name one more e) ∙ or_true (same name other)

or_kept : (b c d : Bool) → (c ≡ true → d ≡ true) → (b || c) ≡ true → (b || d) ≡ true
or_kept true c d h e = refl
or_kept false c d h e = h e

among_more : (name one : Name) (names : List Name) → is_among name names ≡ true
    → is_among name (names ++ one ∷ []) ≡ true
among_more name one [] e = cc
among_more name one (other ∷ more) e =
    or_kept (same name other) (is_among name more) (is_among name (more ++ one ∷ [])) (among_more name one more) e

new_name : (before : List Name) (one : Name) → where_so (is_among one before) 42 one.place ≡ []
    → is_among one before ≡ false
new_name before one e = by (is_among one before) e
  where
    by : (b : Bool) → where_so b 42 one.place ≡ [] → b ≡ false
    by true h = cc
    by false h = refl

module _ (items : List LocatedItem) (area : ℕ) (descriptions : List FileDescription) (name : Name) where
  none_by : (b : Bool) (before : List Name) (file : ProgramFile) (one : Name) (others : List ProgramFile)
      → same name one ≡ b → is_among one before ≡ false → is_among name before ≡ true
      → (is_among name (before ++ one ∷ []) ≡ true → files_named others name ≡ [])
      → cond b (file ∷ files_named others name) (files_named others name) ≡ []
  none_by true before file one others e fresh there rest = let wrong =
      sym there ∙ among_alike name one before e ∙ fresh in cc
  none_by false before file one others e fresh there rest = rest (among_more name one before there)

  none_again : (before : List Name) (number : ℕ) (selects : List Select) → given_once before (select_names selects) ≡ []
      → is_among name before ≡ true
      → files_named (files_from items area descriptions number selects) name ≡ []
  none_again before number [] once there = refl
  none_again before number (one ∷ more) once there =
      let file = file_by items number one (described_file area one.name descriptions) in
      let others = files_from items area descriptions (number + 1) more in
      let twice = where_so (is_among one.name before) 42 one.name.place in
      let rest = given_once (before ++ one.name ∷ []) (select_names more) in
      none_by (same name one.name) before file one.name others refl
      (new_name before one.name (front_nil twice rest once)) there
      (none_again (before ++ one.name ∷ []) (number + 1) more (back_nil twice rest once))

  only_by : (b : Bool) (file own : ProgramFile) (one : Name) (others : List ProgramFile)
      → (same name one ≡ true → files_named others name ≡ [])
      → (first (files_named others name) ≡ Some file → files_named others name ≡ file ∷ []) → same name one ≡ b
      → first (cond b (own ∷ files_named others name) (files_named others name)) ≡ Some file
      → cond b (own ∷ files_named others name) (files_named others name) ≡ file ∷ []
  only_by true file own one others none rest e h = let is : own ≡ file =
      cc in ap (λ l. own ∷ l) (none e) ∙ ap (λ (f : ProgramFile). f ∷ []) is
  only_by false file own one others none rest e h = rest h

  only_from : (before : List Name) (number : ℕ) (selects : List Select) (file : ProgramFile)
      → given_once before (select_names selects) ≡ []
      → first (files_named (files_from items area descriptions number selects) name) ≡ Some file
      → files_named (files_from items area descriptions number selects) name ≡ file ∷ []
  only_from before number [] file once found = cc
  only_from before number (one ∷ more) file once found =
      let own = file_by items number one (described_file area one.name descriptions) in
      let others = files_from items area descriptions (number + 1) more in
      let once_more = back_nil (where_so (is_among one.name before) 42 one.name.place)
      (given_once (before ++ one.name ∷ []) (select_names more)) once in
      only_by (same name one.name) file own one.name others
      (λ e. none_again (before ++ one.name ∷ []) (number + 1) more once_more (among_end name one.name before e))
      (only_from (before ++ one.name ∷ []) (number + 1) more file once_more) refl found

pub only_named : (items : List LocatedItem) (program : Program) (name : Name) (file : ProgramFile)
    → given_once [] (select_names program.selects) ≡ []
    → first (files_named (files_of items program) name) ≡ Some file
    → files_named (files_of items program) name ≡ file ∷ []
only_named items program name file once found =
    only_from items (storage_areas program.storage) program.files name [] 0 program.selects file once found
