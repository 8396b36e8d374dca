-- The parts of file statements that keep their rules: the file that a name names keeps those of its statement, and a
-- key or a record names one item.
use Rattle.std.proofs.Common.{◌≡◌, Bool, List, [], ◌∷◌, ◌++◌, length, Option, Some, subst}
use Rattle.std.specs.Prelude.{◌==◌, not, ◌&&◌, ◌||◌, is_none}
use Rattle.lexical.specs.declared.place.Place.{Place}
use Rattle.records.specs.Steps.{is_relative}
use Rattle.source_tree.specs.declared.reference.Reference.{Reference}
use Rattle.source_tree.specs.declared.file_statement.StartKey.{StartKey}
use Rattle.source_tree.specs.declared.phrases.FilePhrases.{FilePhrases}
use Rattle.source_tree.specs.Broken.{RuleBreach, where_so}
use Rattle.source_tree.specs.FileRules.{clause_item}
use Rattle.source_tree.specs.Filing.{is_in_sequence}
use Rattle.source_tree.specs.FilingRules.{is_sequential_file, is_random, is_start_operator, read_key_item}
use Rattle.source_tree.specs.FilingRules.{start_key_item, phrase_kind_rules, read_phrase_rules, read_key_rules}
use Rattle.source_tree.specs.FilingRules.{into_rules, read_rules, record_item, from_rules, record_rules}
use Rattle.source_tree.specs.FilingRules.{start_key_rules, start_rules}
use Rattle.source_tree.specs.LookUp.{first, items_named}
use Rattle.source_tree.specs.NameRules.{unique_name_rules, no_part_rules, part_item_rules, number_rules_of}
use Rattle.source_tree.specs.NameRules.{reference_rules}
use Rattle.source_tree.specs.Parts.{seen_through}
use Rattle.source_tree.specs.Places.{LocatedItem}
use Rattle.source_tree.specs.ProgramFiles.{ProgramFile}
use Rattle.file_descriptions.specs.Clauses.{NamesOne}
use Rattle.condition_codegen.proofs.Lists.{left_none, right_none}
use Rattle.statement_codegen.proofs.NamedItems.{only_named}

-- what is asked of the first of those that a name names
pub first_kept : {A : Type 0} (place : Place) (asked : A → List RuleBreach) (all : List A) (one : A)
    → unique_name_rules place asked all ≡ [] → first all ≡ Some one → asked one ≡ []
first_kept place asked [] one e is = absurd cc
first_kept {A} place asked (only ∷ []) one e is = subst (λ y. asked y ≡ []) (same only one is) e
  where
    same : (x y : A) → Some x ≡ Some y → x ≡ y
    same x y e = cc
first_kept place asked (other ∷ another ∷ more) one e is = absurd cc

module _ (items : List LocatedItem) where
  -- the item of a clause
  pub clause_names_one : (asked : Reference → LocatedItem → List RuleBreach) (one : Reference)
      → clause_item items asked one ≡ [] → NamesOne items one
  clause_names_one asked one e =
      let only = only_named one.item.name.place (λ found. no_part_rules one ++ asked one found)
      (items_named items one.item) e in
      record { one = only.0; named = only.1 }

  -- the item of a reference
  pub item_names_one : (asked : Place → LocatedItem → List RuleBreach) (one : Reference)
      → reference_rules items asked one ≡ [] → NamesOne items one
  item_names_one asked one e =
      let place = one.item.name.place in
      let rules = λ (found : LocatedItem).
      where_so (not (length one.subscripts == length found.dimensions)) 50 place ++ part_item_rules one found
      ++ asked place (seen_through one found) in
      let found = items_named items one.item in
      let only = only_named place rules found
      (left_none (unique_name_rules place rules found) (number_rules_of items one) e) in
      record { one = only.0; named = only.1 }

  module _ (files : List ProgramFile) where
    -- ---- READ

    module _ {S : Type 0} (place : Place) (next : Bool) (into key : Option Reference) (phrases : FilePhrases S)
        (file : ProgramFile) where
      abbrev random : List RuleBreach
      random = where_so (next && is_random file.entry.access) 62 place

      abbrev phrased : List RuleBreach
      phrased = random ++ read_phrase_rules items files place (is_in_sequence file next) phrases

      abbrev keyed : List RuleBreach
      keyed = read_key_rules items files (is_in_sequence file next) file key

      pub read_key_kept : read_rules items files place next into key phrases file ≡ []
          → read_key_rules items files (is_in_sequence file next) file key ≡ []
      read_key_kept e = right_none phrased keyed (left_none (phrased ++ keyed) (into_rules items files file into) e)

      pub read_into_kept : read_rules items files place next into key phrases file ≡ []
          → into_rules items files file into ≡ []
      read_into_kept e = right_none (phrased ++ keyed) (into_rules items files file into) e

    pub read_key_names_one : (in_sequence : Bool) (file : ProgramFile) (key : Reference)
        → read_key_rules items files in_sequence file (Some key) ≡ [] → NamesOne items key
    read_key_names_one in_sequence file key e =
        clause_names_one (read_key_item file) key
        (right_none (where_so in_sequence 62 key.item.name.place) (clause_item items (read_key_item file) key) e)

    -- ---- START

    pub start_key_kept :
        {S : Type 0} (place : Place) (key : Option StartKey) (phrases : FilePhrases S) (file : ProgramFile)
        → start_rules items files place key phrases file ≡ [] → start_key_rules items files file key ≡ []
    start_key_kept place key phrases file e =
        let unordered =
        where_so (is_sequential_file file.entry.spec.organization || is_random file.entry.access) 61 place in
        let keyless =
        where_so (is_relative file.entry.spec.organization && is_none file.places.relative_key) 60 place in
        let keyed = start_key_rules items files file key in
        right_none (unordered ++ keyless) keyed
        (left_none (unordered ++ keyless ++ keyed) (phrase_kind_rules items files place phrases file) e)

    pub start_key_names_one : (file : ProgramFile) (one : StartKey) → start_key_rules items files file (Some one) ≡ []
        → NamesOne items one.key
    start_key_names_one file one e =
        clause_names_one (start_key_item file) one.key
        (right_none (where_so (not (is_start_operator one.operator)) 63 one.key.item.name.place)
        (clause_item items (start_key_item file) one.key) e)

    -- ---- WRITE and REWRITE

    -- the record, without a part
    abbrev pub whole_record : {S : Type 0} → Reference → FilePhrases S → Place → LocatedItem → List RuleBreach
    whole_record one phrases place found = no_part_rules one ++ record_item items files phrases place found

    pub record_names_one : {S : Type 0} (one : Reference) (from : Option Reference) (phrases : FilePhrases S)
        → record_rules items files one from phrases ≡ [] → NamesOne items one
    record_names_one one from phrases e =
        item_names_one (whole_record one phrases) one
        (left_none (reference_rules items (whole_record one phrases) one) (from_rules items files one from) e)

    pub record_from_kept : {S : Type 0} (one : Reference) (from : Option Reference) (phrases : FilePhrases S)
        → record_rules items files one from phrases ≡ [] → from_rules items files one from ≡ []
    record_from_kept one from phrases e =
        right_none (reference_rules items (whole_record one phrases) one) (from_rules items files one from) e
