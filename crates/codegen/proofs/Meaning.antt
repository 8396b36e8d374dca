-- The run of the code of a program that keeps the rules is what the program means.
use Rattle.std.proofs.Common.{◌≡◌, ℕ, zero, suc, ◌+◌, ◌-◌, ◌<◌, true, List, [], ◌∷◌, ◌++◌, length, map, Option, Some}
use Rattle.std.proofs.Common.{refl, sym, ap, ◌∙◌, subst, arith}
use Rattle.std.specs.Prelude.{Bool, slice_get}
use Rattle.std.specs.List.{AllByRecursion}
use Rattle.std.proofs.lemmas.List.{length-replicate}
use Rattle.std.proofs.lemmas.List.Elements.{All-from_recursion, recursion_from_All}
use Rattle.std.proofs.lemmas.Option.{same_Some}
use Rattle.lexical.specs.declared.place.Place.{Place}
use Rattle.perform_graph.specs.declared.performed.PerformedRange.{PerformedRange}
use Rattle.perform_graph.specs.Order.{Decreases, rank_in}
use Rattle.source_tree.specs.declared.name.Name.{Name}
use Rattle.source_tree.specs.declared.program.Program.{Program}
use Rattle.source_tree.specs.declared.program.Sentence.{Sentence}
use Rattle.source_tree.specs.declared.program.Paragraph.{Paragraph}
use Rattle.source_tree.specs.Broken.{RuleBreach, each}
use Rattle.source_tree.specs.Given.{RunInput}
use Rattle.source_tree.specs.PerformRules.{range_rules}
use Rattle.source_tree.specs.Procedures.{Range, Procedure, range_of}
use Rattle.source_tree.specs.Recursion.{Performance, each_performs, statement_performs, sentence_performs}
use Rattle.source_tree.specs.Recursion.{paragraph_performs, performed_in, by_paragraph, performs_from, performs}
use Rattle.source_tree.specs.Recursion.{performed_by_program, HasOrder}
use Rattle.source_tree.specs.Rules.{statement_rules, sentence_rules, paragraph_rules, all_permitted, program_rules}
use Rattle.source_tree.specs.Setting.{Scope, scope, paragraphs}
use Rattle.source_tree.specs.State.{State}
use Rattle.source_tree.specs.Storage.{Storage}
use Rattle.source_tree.specs.Meaning.{closed_connectors, start, meaning}
use Rattle.source_tree.specs.Records.{storage_areas}
use Rattle.declarations.proofs.Permitted.{permitted_kept}
use Rattle.records.specs.Connector.{Connector, closed_connector}
use Rattle.file_image.specs.declared.file.CodeFile.{CodeFile}
use Rattle.code_image.specs.declared.code.Code.{Code}
use Rattle.code_image.specs.Points.{nothing_own, all_closed, start_state}
use Rattle.code_image.specs.Table.{exec_code, Runs}
use Rattle.condition_codegen.specs.Fragments.{empty_code, append, in_order}
use Rattle.codegen.specs.Layout.{section_fragment, paragraph_fragment, end_fragment, storage_code, code_of}
use Rattle.condition_codegen.proofs.Lists.{left_none, right_none}
use Rattle.codegen.proofs.CodeFiles.{kept_at}
use Rattle.codegen.proofs.Demands.{all_front, all_back, paragraph_meets}
use Rattle.condition_codegen.proofs.Fragments.{joined_assoc, joined_nothing}
use Rattle.codegen.proofs.Fragments.{flat}
use Rattle.codegen.proofs.Procedures.{Laid, AreBare, laid_out, below, below_is}
use Rattle.codegen.proofs.ProgramDoes.{range_ends}
use Rattle.codegen.proofs.Ranges.{EndsWithin, FoundWithin, range_within, procedures_end}
use Rattle.codegen.proofs.Running.{at}
use Rattle.codegen.proofs.Standing.{Stands}
use Rattle.codegen.proofs.FileTable.{as_many}
use Rattle.codegen.proofs.Verified.{paragraphs_keep, sections_kept, formed_conditions, numbered, areas_are, files_are}
use Rattle.codegen.proofs.Verified.{item_entries, items_sized, has_files, order, lies}

-- ---- rules that ask which ranges may be performed

module _ (found : Scope) (permits : Range → Bool) where
  abbrev MayBe : Performance → Type 0
  MayBe one = permits one.range ≡ true

  each_permitted : {A : Type 0} (rules others : A → List RuleBreach) (performing : A → List Performance)
      → ((one : A) → others one ≡ [] → AllByRecursion MayBe (performing one) → rules one ≡ [])
      → (all : List A) → each others all ≡ [] → AllByRecursion MayBe (each_performs performing all)
      → each rules all ≡ []
  each_permitted rules others performing one_is [] e h = refl
  each_permitted rules others performing one_is (one ∷ more) e h =
      ap (λ l. l ++ each rules more)
      (one_is one (left_none (others one) (each others more) e)
      (all_front MayBe (performing one) (each_performs performing more) h))
      ∙ each_permitted rules others performing one_is more (right_none (others one) (each others more) e)
      (all_back MayBe (performing one) (each_performs performing more) h)

  sentence_permitted : (one : Sentence) → sentence_rules found all_permitted one ≡ []
      → AllByRecursion MayBe (sentence_performs found.procedures one)
      → sentence_rules found permits one ≡ []
  sentence_permitted one =
      each_permitted (statement_rules found permits) (statement_rules found all_permitted)
      (statement_performs found.procedures)
      (λ statement e h. permitted_kept found permits statement e
      (All-from_recursion MayBe (statement_performs found.procedures statement) h)) one.statements

  paragraph_permitted : (one : Paragraph) → paragraph_rules found all_permitted one ≡ []
      → AllByRecursion MayBe (paragraph_performs found.procedures one) → paragraph_rules found permits one ≡ []
  paragraph_permitted one =
      each_permitted (sentence_rules found permits) (sentence_rules found all_permitted)
      (sentence_performs found.procedures) sentence_permitted one.sentences

-- ---- ranks decrease along what a paragraph performs

mapped_all : {A B : Type 0} (P : B → Type 0) (f : A → B) (xs : List A) → AllByRecursion P (map f xs)
    → AllByRecursion (λ (x : A). P (f x)) xs
mapped_all P f [] h = tt
mapped_all P f (x ∷ xs) h = (h.0, mapped_all P f xs h.1)

module _ (height : ℕ → ℕ) where
  abbrev FallsAt : Place × PerformedRange → Type 0
  FallsAt one = Decreases height one.1

  falls_in : (procedures : List Procedure) (all : List Paragraph) (number n m : ℕ) (one : Paragraph)
      → AllByRecursion FallsAt (performs_from procedures number all) → slice_get all n ≡ Some one
      → m ≡ number + n
      → AllByRecursion (λ (p : Performance). Decreases height (performed_in m p)) (paragraph_performs procedures one)
  falls_in procedures [] number n m one h here is = absurd cc
  falls_in procedures (first ∷ more) number zero m one h here is =
      let performing = paragraph_performs procedures first in
      let front =
      all_front FallsAt (map (by_paragraph number) performing) (performs_from procedures (number + 1) more) h in
      let same : number ≡ m = omega arith in
      subst (λ (x : Paragraph).
      AllByRecursion (λ (p : Performance). Decreases height (performed_in m p)) (paragraph_performs procedures x))
      (same_Some first one here)
      (subst (λ (k : ℕ). AllByRecursion (λ (p : Performance). Decreases height (performed_in k p)) performing) same
      (mapped_all FallsAt (by_paragraph number) performing front))
  falls_in procedures (first ∷ more) number (suc n) m one h here is =
      falls_in procedures more (number + 1) n m one
      (all_back FallsAt (map (by_paragraph number) (paragraph_performs procedures first))
      (performs_from procedures (number + 1) more) h) here
      (omega arith)

  all_lower : (m : ℕ) (xs : List Performance)
      → AllByRecursion (λ (p : Performance). Decreases height (performed_in m p)) xs
      → AllByRecursion (λ (p : Performance). below height (height m) p.range ≡ true) xs
  all_lower m [] h = tt
  all_lower m (p ∷ ps) h = (
    below_is height (height m) p.range.first (p.range.last + 1 - p.range.first)
        (λ q low up. h.0 q (record { first = low; last = omega arith })),
    all_lower m ps h.1,
  )

nothing_asked : (xs : List Performance) → AllByRecursion (λ (p : Performance). Unit {0}) xs
nothing_asked [] = tt
nothing_asked (p ∷ ps) = (tt, nothing_asked ps)

-- ---- the whole program

module _ (program : Program) (keep : program_rules program ≡ []) (ordered : HasOrder program) where
  abbrev found : Scope
  found = scope program

  abbrev all : List Paragraph
  all = paragraphs program

  abbrev count : ℕ
  count = length all

  abbrev height : ℕ → ℕ
  height = rank_in ordered.0

  abbrev code : Code
  code = code_of program

  abbrev storage : Code
  storage = storage_code program

  all_keep : each (paragraph_rules found all_permitted) all ≡ []
  all_keep = paragraphs_keep found all_permitted program.sections (sections_kept program keep)

  all_fall : AllByRecursion (FallsAt height) (performs program)
  all_fall =
      mapped_all (Decreases height) (λ (one : Place × PerformedRange). one.1) (performs program)
      (recursion_from_All (Decreases height) (performed_by_program program) ordered.1.fall)

  -- each paragraph performs lower ones alone
  lower_keep : (n : ℕ) (one : Paragraph) → slice_get all n ≡ Some one
      → paragraph_rules found (below height (height n)) one ≡ []
  lower_keep n one here =
      paragraph_permitted found (below height (height n)) one
      (kept_at (paragraph_rules found all_permitted) all n one all_keep here)
      (all_lower height n (paragraph_performs found.procedures one)
      (falls_in height found.procedures all 0 n n one all_fall here (omega arith)))

  within : AllByRecursion (EndsWithin count) found.procedures
  within = procedures_end count 0 program.sections (omega arith)

  there : (permits : Range → Bool) (first : Name) (last : Option Name) (one : Range)
      → range_rules permits found.procedures first last ≡ []
      → range_of found.procedures first last ≡ Some one → one.last < count
  there permits first last one e is =
      (subst (FoundWithin count) is (range_within count found.procedures within permits first last e)).last

  bare : AreBare found all
  bare = record {
    by = λ n one here code.
        (paragraph_meets found all_permitted
        (formed_conditions program keep) (items_sized program keep) count within (numbered program keep)
        (λ (range : Range). Unit {0}) one.sentences
        (kept_at (paragraph_rules found all_permitted) all n one all_keep here)
        (nothing_asked (paragraph_performs found.procedures one)) code).starts;
  }

  stands : Stands code storage (append (in_order (paragraph_fragment found) all storage) end_fragment)
  stands = record {
    rest = empty_code;
    is = joined_assoc storage (in_order (section_fragment found) program.sections storage) end_fragment
        ∙ ap (λ (c : Code). append storage (append c end_fragment)) (flat found program.sections storage)
        ∙ sym (joined_nothing (append storage (append (in_order (paragraph_fragment found) all storage) end_fragment)));
  }

  laid : Laid code found all
  laid = laid_out code found all storage refl refl bare stands

  -- all files are closed
  connectors_are : all_closed code ≡ closed_connectors program.selects
  connectors_are =
      ap (map (λ (one : CodeFile). closed_connector)) (files_are program keep)
      ∙ as_many found.items (storage_areas program.storage) program.files 0 program.selects

  -- the code begins with what the program does
  begins : (given : RunInput) → start_state code given ≡ start program given
  begins given =
      ap (λ (storage : Storage). record (start_state code given) { storage = storage }) (areas_are program keep)
      ∙ ap (λ (connectors : List Connector). record (start program given) { connectors = connectors }) connectors_are

  pub runs : (given : RunInput) → Runs code given (meaning program given)
  runs given =
      let ended = range_ends code found (has_files program keep) (item_entries program keep) (order program keep)
      (lies program keep) all laid height lower_keep there
      (suc given.budget) 0 all (nothing_own code) (start program given)
      refl (omega arith) refl (omega arith)
      (record { counters = length-replicate (length code.instructions) 0; line = refl }) in
      let first = subst (λ (p : ℕ). (j : ℕ) ×
      (exec_code code j (at p (nothing_own code) (start program given)) ≡ Some (meaning program given))) laid.begins
      ended in
      (first.0, ap (λ (s : State). exec_code code first.0 (at 0 (nothing_own code) s)) (begins given) ∙ first.1)
