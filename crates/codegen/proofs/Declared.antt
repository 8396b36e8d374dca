-- Code of what a program declares, in the words of the program.
use Rattle.std.proofs.Common.{◌≡◌, List, [], ap, sym, subst, ◌∙◌}
use Rattle.std.specs.Prelude.{Result, IfOk}
use Rattle.std.proofs.lemmas.Result.{IfOk-weaker}
use Rattle.source_tree.specs.declared.entry.Entry.{Entry}
use Rattle.source_tree.specs.declared.program.Program.{Program}
use Rattle.source_tree.specs.declared.program.Section.{Section}
use Rattle.source_tree.specs.declared.select.FileDescription.{FileDescription}
use Rattle.source_tree.specs.EntryRules.{entry_rules}
use Rattle.source_tree.specs.FileRules.{descriptions_rules}
use Rattle.source_tree.specs.Rules.{all_permitted, sections_rules}
use Rattle.source_tree.specs.Setting.{Scope, scope}
use Rattle.code_image.specs.declared.code.Code.{Code}
use Rattle.declarations.specs.declared.declarations.Declarations.{Declarations}
use Rattle.declarations.specs.Named.{Declares, data_in, items_in, scope_in}
use Rattle.declarations.proofs.Declared.{same_scope}
use Rattle.codegen.specs.Layout.{code_of}
use Rattle.condition_codegen.proofs.ConditionValues.{descriptions_kept}

module _ (program : Program) (all : Declarations) (h : Declares program all) where
  pub entries_by : entry_rules program.storage ≡ [] → entry_rules all.storage.now ≡ []
  entries_by kept = ap entry_rules h.storage ∙ kept

  pub descriptions_by : descriptions_rules program.storage program.files ≡ []
  descriptions_by =
      ap (λ (l : List Entry). descriptions_rules l program.files) (sym h.storage)
      ∙ ap (λ (l : List FileDescription). descriptions_rules all.storage.now l) (sym h.descriptions)
      ∙ descriptions_kept (items_in all) (data_in all) all.declared.file_rules

  pub sections_by : (sections : List Section) → sections ≡ program.sections
      → sections_rules (scope program) all_permitted program.sections ≡ []
      → sections_rules (scope_in all) all_permitted sections ≡ []
  sections_by sections same kept =
      ap (sections_rules (scope_in all) all_permitted) same
      ∙ ap (λ (found : Scope). sections_rules found all_permitted program.sections) (same_scope program all h) ∙ kept

-- What code of a program is, if some was made.
pub made_so : {E : Type 0} (result : Result Code E) (given program : Program) → given ≡ program
    → IfOk result (λ code. code ≡ code_of given) → (P : Code → Type 0) → P (code_of program) → IfOk result P
made_so result given program same is P holds =
    IfOk-weaker result (λ code. code ≡ code_of given) P
    (λ code e. subst P (sym (e ∙ ap code_of same)) holds) is
