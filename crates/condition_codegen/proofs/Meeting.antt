-- Two ways whose branch and jump got their addresses at the end.
use Rattle.std.proofs.Common.{◌≡◌, ℕ, ◌+◌, ◌-◌, List, [], ◌∷◌, ◌++◌, length, refl, sym}
use Rattle.std.proofs.Common.{ap, ◌∙◌, arith, append_assoc, length-append}
use Rattle.std.specs.Prelude.{slice_set}
use Rattle.std.proofs.lemmas.List.{append-nil}
use Rattle.data_instructions.specs.declared.tables.DataTables.{DataTables}
use Rattle.file_image.specs.declared.file.CodeFile.{CodeFile}
use Rattle.code_image.specs.declared.code.Code.{Code}
use Rattle.code_image.specs.declared.instruction.Instruction.{Instruction}
use Rattle.code_image.specs.declared.instruction.Instruction.TheVariants.{Branch, Jump, Join}
use Rattle.condition_codegen.specs.Fragments.{Fragment, no_tables, joined_tables, append}
use Rattle.condition_codegen.specs.Meeting.{branch_code, jump_code, either_fragment}
use Rattle.condition_codegen.specs.Phrases.{patched_instructions, patched_code}
use Rattle.condition_codegen.proofs.Fragments.{tables_assoc, tables_nothing, joined_assoc}

-- an instruction after others, in another's place
set_behind : (front : List Instruction) (old new : Instruction) (back : List Instruction) (at : ℕ) → at ≡ length front
    → slice_set (front ++ (old ∷ back)) at new ≡ front ++ (new ∷ back)
set_behind [] old new back at e = ap (λ n. slice_set (old ∷ back) n new) e
set_behind (x ∷ front) old new back at e = ap (λ n. slice_set (x ∷ (front ++ (old ∷ back))) n new) e
    ∙ ap (λ l. x ∷ l) (set_behind front old new back (length front) refl)

-- A branch, instructions, and a jump with its `join`, after others and in front of others.
abbrev ways : Instruction → Instruction → List Instruction → List Instruction → List Instruction → List Instruction
ways branch jump before one behind = before ++ (branch ∷ (one ++ (jump ∷ Join ∷ behind)))

set_branch : (branch jump : Instruction) (before one behind : List Instruction) (new : Instruction)
    → slice_set (ways branch jump before one behind) (length before) new ≡ ways new jump before one behind
set_branch branch jump before one behind new =
    set_behind before branch new (one ++ (jump ∷ Join ∷ behind)) (length before) refl

set_jump : (branch jump : Instruction) (before one behind : List Instruction) (new : Instruction) (at : ℕ)
    → at ≡ length before + 1 + length one
    → slice_set (ways branch jump before one behind) at new ≡ ways branch new before one behind
set_jump branch jump before one behind new at e =
    let front = before ++ (branch ∷ one) in
    let count : at ≡ length front = omega (arith, e, length-append before (branch ∷ one)) in
    ap (λ l. slice_set l at new) (sym (append_assoc before (branch ∷ one) (jump ∷ Join ∷ behind)))
    ∙ set_behind front jump new (Join ∷ behind) at count
    ∙ append_assoc before (branch ∷ one) (new ∷ Join ∷ behind)

mended_ways : (before one two : List Instruction)
    → (let middle = before ++ (Branch 0 ∷ (one ++ (Jump 0 ∷ Join ∷ []))) in
    patched_instructions (length before) (length middle) (middle ++ two)
    ≡ ways (Branch (length middle)) (Jump (length (middle ++ two) + 1)) before one (two ++ Join ∷ []))
mended_ways before one two =
    let middle = before ++ (Branch 0 ∷ (one ++ (Jump 0 ∷ Join ∷ []))) in
    let end = length (middle ++ two) + 1 in
    let count : length middle - 2 ≡ length before + 1 + length one = omega
    (arith, length-append before (Branch 0 ∷ (one ++ (Jump 0 ∷ Join ∷ []))), length-append one (Jump 0 ∷ Join ∷ [])) in
    let is : (middle ++ two) ++ Join ∷ [] ≡ ways (Branch 0) (Jump 0) before one (two ++ Join ∷ []) =
    simp append_assoc in
    ap (λ l. slice_set (slice_set l (length before) (Branch (length middle))) (length middle - 2) (Jump end)) is
    ∙ ap (λ l. slice_set l (length middle - 2) (Jump end))
    (set_branch (Branch 0) (Jump 0) before one (two ++ Join ∷ []) (Branch (length middle)))
    ∙ set_jump (Branch (length middle)) (Jump 0) before one (two ++ Join ∷ []) (Jump end) (length middle - 2) count

module _ (first second : Fragment) (before : Code) where
  abbrev way_one : Code
  way_one = first (append before (branch_code 0))

  abbrev middle_code : Code
  middle_code = append before (append (branch_code 0) (append way_one (jump_code 0)))

  abbrev way_two : Code
  way_two = second middle_code

  tables_meet : joined_tables middle_code.tables way_two.tables
      ≡ joined_tables before.tables (joined_tables way_one.tables (joined_tables way_two.tables no_tables))
  tables_meet =
      ap (λ (t : DataTables). joined_tables (joined_tables before.tables t) way_two.tables)
      (tables_nothing way_one.tables)
      ∙ tables_assoc before.tables way_one.tables way_two.tables
      ∙ ap (λ (t : DataTables). joined_tables before.tables (joined_tables way_one.tables t))
      (sym (tables_nothing way_two.tables))

  lists_meet : {A : Type 0} (front one two : List A) → (front ++ (one ++ [])) ++ two ≡ front ++ (one ++ (two ++ []))
  lists_meet {A} front one two =
      ap (λ (l : List A). (front ++ l) ++ two) (append-nil one)
      ∙ append_assoc front one two
      ∙ ap (λ (l : List A). front ++ (one ++ l)) (sym (append-nil two))

  same_code : (a b : DataTables) (f g : List CodeFile) (s t : List ℕ) (i j : List Instruction) → a ≡ b → f ≡ g → s ≡ t
      → i ≡ j
      → (let x : Code = record { tables = a; files = f; starts = s; instructions = i } in
      let y : Code = record { tables = b; files = g; starts = t; instructions = j } in x ≡ y)
  same_code a b f g s t i j p q r u = cc

  -- the code of both, with the way of each
  pub ways_meet : patched_code (length before.instructions) (length middle_code.instructions)
      (append middle_code way_two) ≡ append before (either_fragment first second before)
  ways_meet =
      same_code _ _ _ _ _ _ _ _ tables_meet (lists_meet before.files way_one.files way_two.files)
      (lists_meet before.starts way_one.starts way_two.starts)
      (mended_ways before.instructions way_one.instructions way_two.instructions)

-- The same of code that was put together step by step.
pub meeting : (first second : Fragment) (before begun one middle two end : Code) (branch other : ℕ)
    → begun ≡ append before (branch_code 0) → branch ≡ length before.instructions → one ≡ append begun (first begun)
    → middle ≡ append one (jump_code 0)
    → other ≡ length one.instructions + 2 → two ≡ append middle (second middle) → end ≡ patched_code branch other two
    → end ≡ append before (either_fragment first second before)
meeting first second before begun one middle two end branch other p q r s t u v =
    let b = append before (branch_code 0) in
    let x = first b in
    let one_is : one ≡ append b x = r ∙ ap (λ (c : Code). append c (first c)) p in
    let middle_is : middle ≡ middle_code first second before = s ∙ ap (λ (c : Code). append c (jump_code 0)) one_is
    ∙ joined_assoc b x (jump_code 0) ∙ joined_assoc before (branch_code 0) (append x (jump_code 0)) in
    let two_is : two ≡ append (middle_code first second before) (way_two first second before) =
    u ∙ ap (λ (c : Code). append c (second c)) middle_is in
    let count : other ≡ length (middle_code first second before).instructions =
    t ∙ sym (ap (λ (c : Code). length c.instructions) s ∙ length-append one.instructions (Jump 0 ∷ Join ∷ []))
    ∙ ap (λ (c : Code). length c.instructions) middle_is in
    v ∙ ap (λ n. patched_code n other two) q ∙ ap (λ n. patched_code (length before.instructions) n two) count
    ∙ ap (patched_code (length before.instructions) (length (middle_code first second before).instructions)) two_is
    ∙ ways_meet first second before
