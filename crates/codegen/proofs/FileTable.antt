-- The files of a program by their places among the SELECTs, and where the items of their clauses stand.
use Rattle.std.proofs.Common.{◌≡◌, ℕ, zero, suc, ◌+◌, List, [], ◌∷◌, ◌++◌, map, Option, Some}
use Rattle.std.proofs.Common.{None, refl, sym, ap, subst, ◌∙◌, arith}
use Rattle.std.specs.Prelude.{not, drop, IfSome, slice_get}
use Rattle.std.specs.Option.{option_map}
use Rattle.std.proofs.lemmas.Option.{same_Some, slice_get_within}
use Rattle.records.specs.Connector.{Connector, closed_connector}
use Rattle.records.specs.Spec.{is_name}
use Rattle.records.specs.Tests.{is_sequential}
use Rattle.source_tree.specs.declared.reference.QualifiedName.{QualifiedName}
use Rattle.source_tree.specs.declared.reference.Reference.{Reference}
use Rattle.source_tree.specs.declared.select.Select.{Select}
use Rattle.source_tree.specs.declared.select.FileDescription.{FileDescription}
use Rattle.source_tree.specs.declared.select.OrganizationClause.{OrganizationClause}
use Rattle.source_tree.specs.declared.select.OrganizationClause.TheVariants as clause
use Rattle.source_tree.specs.Broken.{RuleBreach, each, where_so}
use Rattle.source_tree.specs.FileRules.{clause_item, in_clause, another_clause, another_key, relative_item}
use Rattle.source_tree.specs.FileRules.{relative_rules, indexed_rules, organization_rules, status_item, excess_key}
use Rattle.source_tree.specs.FileRules.{most_alternate_keys, select_rules}
use Rattle.source_tree.specs.LookUp.{items_named, first}
use Rattle.source_tree.specs.Meaning.{closed_connectors}
use Rattle.source_tree.specs.NameRules.{no_part_rules}
use Rattle.source_tree.specs.Places.{LocatedItem}
use Rattle.source_tree.specs.ProgramFiles.{DescribedFile, described_file, ProgramFile, plain_place, item_place, file_by}
use Rattle.source_tree.specs.ProgramFiles.{files_from}
use Rattle.data_instructions.specs.declared.tables.DataTables.{DataTables}
use Rattle.data_instructions.specs.Codes.{data_item}
use Rattle.file_image.specs.declared.file.CodeFile.{CodeFile}
use Rattle.file_image.specs.Files.{place_of_item, place_at, IsItemIndex}
use Rattle.name_table.specs.declared.look_up.LookUp.{LookUp}
use Rattle.name_table.specs.declared.look_up.LookUp.TheVariants.{Unknown, One, Several}
use Rattle.name_table.specs.Items.{called_item, IsNamed}
use Rattle.name_table.specs.Positions.{look_up}
use Rattle.name_table.proofs.Picked.{named_items}
use Rattle.file_descriptions.specs.Clauses.{only_number}
use Rattle.statement_codegen.specs.FileCode.{index_at, clause_index, code_file, code_files}
use Rattle.condition_codegen.proofs.Lists.{left_none, right_none}
use Rattle.statement_codegen.proofs.NamedItems.{only_named}

-- ---- by their places

module _ (items : List LocatedItem) (areas : ℕ) (descriptions : List FileDescription) where
  -- the file of a SELECT
  abbrev pub file_of : ℕ → Select → ProgramFile
  file_of number one = file_by items number one (described_file areas one.name descriptions)

  pub record FileAt (number : ℕ) (selects : List Select) (j : ℕ) (file : ProgramFile) : Type 0 where
    pub select : Select
    pub here : slice_get selects j ≡ Some select
    pub is : file ≡ file_of (number + j) select
    pub code : slice_get (code_files items selects (files_from items areas descriptions number selects)) j
        ≡ Some (code_file items select file)

  pub file_at : (number : ℕ) (selects : List Select) (j : ℕ) (file : ProgramFile)
      → slice_get (files_from items areas descriptions number selects) j ≡ Some file → FileAt number selects j file
  file_at number [] j file e = absurd cc
  file_at number (one ∷ more) zero file e =
      let same : file_of number one ≡ file = same_Some (file_of number one) file e in
      record {
        select = one;
        here = refl;
        is = sym same ∙ ap (λ n. file_of n one) (omega arith);
        code = ap (λ (f : ProgramFile). Some (code_file items one f)) same;
      }
  file_at number (one ∷ more) (suc j) file e =
      let behind = file_at (number + 1) more j file e in
      record {
        select = behind.select;
        here = behind.here;
        is = behind.is ∙ ap (λ n. file_of n behind.select) (omega arith);
        code = behind.code;
      }

  -- as many connectors as SELECTs
  pub as_many : (number : ℕ) (selects : List Select)
      → map (λ (one : CodeFile). closed_connector)
      (code_files items selects (files_from items areas descriptions number selects)) ≡ closed_connectors selects
  as_many number [] = refl
  as_many number (one ∷ more) = ap (λ (l : List Connector). closed_connector ∷ l) (as_many (number + 1) more)

-- ---- the items of clauses

module _ (items : List LocatedItem) where
  -- a clause that is written names one item
  abbrev pub NamesOne : Option Reference → Type 0
  NamesOne None = Unit {0}
  NamesOne (Some one) = (found : LocatedItem) × (items_named items one.item ≡ found ∷ [])

  item_asked : (asked : Reference → LocatedItem → List RuleBreach) (one : Reference) → clause_item items asked one ≡ []
      → NamesOne (Some one)
  item_asked asked one e = let only =
      only_named one.item.name.place (λ found. no_part_rules one ++ asked one found) (items_named items one.item) e in (
        only.0,
        only.1,
      )

  none_written : (one : Option Reference) → in_clause another_clause one ≡ [] → NamesOne one
  none_written None e = tt
  none_written (Some one) e = absurd cc

  clause_asked : (asked : Reference → LocatedItem → List RuleBreach) (one : Option Reference)
      → in_clause (clause_item items asked) one ≡ [] → NamesOne one
  clause_asked asked None e = tt
  clause_asked asked (Some one) e = item_asked asked one e

  relative_asked : (there : DescribedFile) (file : Select) (one : Option Reference)
      → relative_rules items there file one ≡ [] → NamesOne one
  relative_asked there file None e = tt
  relative_asked there file (Some one) e = item_asked (relative_item there) one e

  relative_named : (there : DescribedFile) (organization : OrganizationClause) (one : Select)
      → organization_rules items there organization one ≡ []
      → NamesOne one.relative_key
  relative_named there clause.Sequential one e =
      let access = where_so (not (is_sequential one.access)) 58 one.name.place in
      let relative = in_clause another_clause one.relative_key in
      let keys = in_clause another_clause one.record_key in
      let others = each another_key one.alternate_keys in
      none_written one.relative_key (right_none access relative
      (left_none (access ++ relative) keys (left_none (access ++ relative ++ keys) others e)))
  relative_named there clause.Relative one e =
      let relative = relative_rules items there one one.relative_key in
      let keys = in_clause another_clause one.record_key in
      let others = each another_key one.alternate_keys in
      relative_asked there one one.relative_key (left_none relative keys (left_none (relative ++ keys) others e))
  relative_named there clause.Indexed one e =
      none_written one.relative_key
      (left_none (in_clause another_clause one.relative_key)
      (indexed_rules items there one.name one.record_key one.alternate_keys) e)

  pub clauses_named : (areas : ℕ) (descriptions : List FileDescription) (one : Select)
      → select_rules items areas descriptions one ≡ []
      → NamesOne one.relative_key × NamesOne one.status
  clauses_named areas descriptions one e =
      let name = where_so (not (is_name one.assigned.characters)) 66 one.assigned.place in
      let own = organization_rules items (described_file areas one.name descriptions) one.organization one in
      let excess = each excess_key (drop most_alternate_keys one.alternate_keys) in
      let status = in_clause (clause_item items (status_item areas)) one.status in
      let front = left_none (name ++ own ++ excess) status e in (
        relative_named (described_file areas one.name descriptions) one.organization one
            (right_none name own (left_none (name ++ own) excess front)),
        clause_asked (status_item areas) one.status (right_none (name ++ own ++ excess) status e),
      )

  -- the number of the only item that is named
  looked : (name : QualifiedName) (one : LocatedItem) (found : LookUp) → IsNamed items name found
      → items_named items name ≡ one ∷ []
      → (n : ℕ) × (only_number found ≡ Some n) × (slice_get items n ≡ Some one)
  looked name one Unknown is e = absurd (none is e)
    where
      none : items_named items name ≡ [] → items_named items name ≡ one ∷ [] → ⊥
      none a b = cc
  looked name one (One n) is e = (n, refl, is.1 ∙ ap Some (same is.0 (sym is.2 ∙ e)))
    where
      same : (x : LocatedItem) → x ∷ [] ≡ one ∷ [] → x ≡ one
      same x e = cc
  looked name one Several is e = absurd (more is.0 is.1 is.2 (sym is.3 ∙ e))
    where
      more : (x y : LocatedItem) (zs : List LocatedItem) → x ∷ y ∷ zs ≡ one ∷ [] → ⊥
      more x y zs e = cc

  module _ (tables : DataTables) (entries : (n : ℕ) (one : LocatedItem) → slice_get items n ≡ Some one
      → slice_get tables.items n ≡ Some (data_item one)) where
    pub place_is : (one : Option Reference) → NamesOne one
        → place_at tables (clause_index items one) ≡ item_place items one
    place_is None h = refl
    place_is (Some one) h =
        let found : LocatedItem = h.0 in
        let at = looked one.item found (look_up one.item (map called_item items)) (named_items items one.item) h.1 in
        let offset : found.offset ≡ found.offset + 0 = omega arith in
        ap (λ n. place_at tables (option_map index_at n)) at.1
        ∙ ap (option_map place_of_item) (entries at.0 found at.2)
        ∙ ap (λ n. Some (record { item = found.item; editing = found.editing; area = found.area; offset = n })) offset
        ∙ sym (ap (λ l. plain_place (first l)) h.1)

    pub index_there : (one : Option Reference) → NamesOne one → IfSome (clause_index items one) (IsItemIndex tables)
    index_there None h = tt
    index_there (Some one) h =
        let at = looked one.item h.0 (look_up one.item (map called_item items)) (named_items items one.item) h.1 in
        subst (λ n. IfSome (option_map index_at n) (IsItemIndex tables)) (sym at.1)
        (slice_get_within tables.items at.0 (data_item h.0) (entries at.0 h.0 at.2))
