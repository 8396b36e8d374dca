-- Files that are found among those of a program.
use Rattle.std.proofs.Common.{◌≡◌, ℕ, suc, ◌+◌, ◌<◌, Bool, true, false, List, [], ◌∷◌, ◌++◌, None, Some, length, drop}
use Rattle.std.proofs.Common.{get_or, refl, sym, ap, subst, ◌∙◌, add-one, drop-cons, arith}
use Rattle.std.specs.Prelude.{◌==◌, cond, filter, map, Option}
use Rattle.std.specs.Borrow.{Bor}
use Rattle.lexical.specs.declared.place.Place.{Place}
use Rattle.source_tree.specs.declared.program.Program.{Program}
use Rattle.source_tree.specs.Broken.{RuleBreach, each}
use Rattle.source_tree.specs.FileRules.{select_names, description_names, most_files, broken_at, broken_match_rule}
use Rattle.source_tree.specs.FileRules.{file_name_rules, descriptions_rules, select_rules, program_file_rules}
use Rattle.source_tree.specs.LookUp.{first}
use Rattle.source_tree.specs.NameRules.{unique_name_rules}
use Rattle.source_tree.specs.PerformRules.{given_once}
use Rattle.source_tree.specs.Places.{LocatedItem}
use Rattle.source_tree.specs.ProgramFiles as tree
use Rattle.source_tree.specs.Records.{storage_areas}
use Rattle.file_descriptions.specs.declared.file.ProgramFile.{ProgramFile}
use Rattle.file_descriptions.specs.Files.{file_in}
use Rattle.declarations.proofs.Firsts.{left_none, right_none}
use Rattle.declarations.proofs.LookedUp.{several}

-- where the rules of files are kept, each name is given to one SELECT
pub once : (items : List LocatedItem) (program : Program) → program_file_rules items program ≡ []
    → given_once [] (select_names program.selects) ≡ []
once items program e =
    let ones = select_names program.selects in
    let others = description_names program.files in
    let few = each (broken_at 69) (drop most_files ones) in
    let own = few ++ given_once [] ones in
    let both = own ++ given_once [] others in
    let matched = both ++ each (broken_match_rule others) ones in
    let names = file_name_rules ones others in
    let entries = descriptions_rules program.storage program.files in
    let selects = each (select_rules items (storage_areas program.storage) program.files) program.selects in
    right_none few (given_once [] ones)
    (left_none own (given_once [] others) (left_none both (each (broken_match_rule others) ones) (left_none matched
    (each (broken_match_rule ones) others) (left_none names entries (left_none (names ++ entries) selects e)))))

-- ---- those of a record area, one after another

module _ (items : List LocatedItem) (area : ℕ) where
  abbrev has_area : tree.ProgramFile → Bool
  has_area one = one.places.area == area

  abbrev pub listed : Option (Bor ProgramFile) → List tree.ProgramFile
  listed None = []
  listed (Some one) = file_in items one.now ∷ []

  -- those of the first files
  pub record AreSought (files : List ProgramFile) (i : ℕ) (found : Option (Bor ProgramFile)) : Type 0 where
    pub same : filter has_area (map (file_in items) files)
        ≡ listed found ++ filter has_area (map (file_in items) (drop i files))

  pub none_sought : (files : List ProgramFile) → AreSought files 0 None
  none_sought files = record { same = refl }

  files_at : (files : List ProgramFile) (i : ℕ) (one : ProgramFile) → i < length files → one ≡ get_or files i one
      → filter has_area (map (file_in items) (drop i files)) ≡ cond (one.area == area) (file_in items one ∷ filter
      has_area (map (file_in items) (drop (i + 1) files))) (filter has_area (map (file_in items) (drop (i + 1) files)))
  files_at files i one h is =
      ap (λ (l : List ProgramFile). filter has_area (map (file_in items) l)) (drop-cons files i one h)
      ∙ ap (λ (x : ProgramFile). filter has_area (map (file_in items) (x ∷ drop (suc i) files))) (sym is)
      ∙ ap (λ k. filter has_area (map (file_in items) (one ∷ drop k files))) (sym (add-one i))

  by_test : (b : Bool) {X : Type 0} (x y : X) (test : Bool) → test ≡ b → cond test x y ≡ cond b x y
  by_test b x y test e = ap (λ t. cond t x y) e

  pub other_sought : {files : List ProgramFile} {i : ℕ} {found : Option (Bor ProgramFile)} (one : ProgramFile)
      → i < length files → one ≡ get_or files i one
      → AreSought files i found → (one.area == area) ≡ false → AreSought files (i + 1) found
  other_sought {files} {i} {found} one h is before e = record {
    same =
        before.same ∙ ap (λ l. listed found ++ l) (files_at files i one h is ∙ by_test false _ _ (one.area == area) e);
  }

  pub one_sought : {files : List ProgramFile} {i : ℕ} (one : Bor ProgramFile) → i < length files
      → one.now ≡ get_or files i one.now
      → AreSought files i None → (one.now.area == area) ≡ true → AreSought files (i + 1) (Some one)
  one_sought {files} {i} one h is before e = record {
    same = before.same ∙ files_at files i one.now h is ∙ by_test true _ _ (one.now.area == area) e;
  }

  -- a second one
  pub two_sought : {files : List ProgramFile} {i : ℕ} (first : Bor ProgramFile) (one : ProgramFile) → i < length files
      → one ≡ get_or files i one
      → AreSought files i (Some first) → (one.area == area) ≡ true
      → filter has_area (map (file_in items) files)
      ≡ file_in items first.now ∷ file_in items one ∷ filter has_area (map (file_in items) (drop (i + 1) files))
  two_sought {files} {i} first one h is before e =
      before.same
      ∙ ap (λ l. file_in items first.now ∷ l) (files_at files i one h is ∙ by_test true _ _ (one.area == area) e)

-- ---- what is told of none, and of several

pub none_first : (found : List tree.ProgramFile) → first found ≡ None → found ≡ []
none_first [] e = refl
none_first (one ∷ more) e = absurd cc

-- the files of a program, as they are sought
pub of_program : (items : List LocatedItem) (program : Program) (all files : List ProgramFile) (area : ℕ)
    (l : List tree.ProgramFile) → map (file_in items) all ≡ tree.files_of items program → files ≡ all
    → filter (λ (one : tree.ProgramFile). one.places.area == area) (map (file_in items) files) ≡ l
    → tree.files_with (tree.files_of items program) area ≡ l
of_program items program all files area l e is h =
    ap (λ (s : List tree.ProgramFile). tree.files_with s area) (sym e)
    ∙ ap (λ (s : List ProgramFile). tree.files_with (map (file_in items) s) area) (sym is) ∙ h

pub same_area : (a b : ℕ) → a ≡ b → (a == b) ≡ true
same_area a b e = grind arith

-- a second file of the area, after one that was found
pub second_in_area : (items : List LocatedItem) (program : Program) (all files : List ProgramFile) (area i : ℕ)
    (place : Place) (found : Option (Bor ProgramFile)) (known : Bor ProgramFile) (one : ProgramFile)
    → map (file_in items) all ≡ tree.files_of items program → files ≡ all → AreSought items area files i found
    → found ≡ Some known → i < length files → one ≡ get_or files i one → one.area ≡ area
    → (rules : tree.ProgramFile → List RuleBreach)
    → first (unique_name_rules place rules (tree.files_with (tree.files_of items program) area))
    ≡ Some (record { rule = 41; place = place })
second_in_area items program all files area i place found known one e is sought some within here same =
    several place (tree.files_with (tree.files_of items program) area) (file_in items known.now) (file_in items one)
    (filter (λ (x : tree.ProgramFile). x.places.area == area) (map (file_in items) (drop (i + 1) files)))
    (of_program items program all files area _ e is (two_sought items area known one within here
    (subst (λ (o : Option (Bor ProgramFile)). AreSought items area files i o) some sought)
    (same_area one.area area same)))
