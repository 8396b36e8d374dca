-- Pieces of code one after the other.
use Rattle.std.proofs.Common.{◌≡◌, ℕ, ◌+◌, ◌<◌, ◌≤◌, List, [], ◌∷◌, ◌++◌, length, drop, get_or, sym, ap, ◌∙◌}
use Rattle.std.proofs.Common.{append_assoc}
use Rattle.std.proofs.lemmas.List.{append-nil, drop_more, drop_all}
use Rattle.decimal18.specs.Fraction.{Fraction}
use Rattle.data_instructions.specs.declared.tables.DataItem.{DataItem}
use Rattle.data_instructions.specs.declared.tables.LiteralSender.{LiteralSender}
use Rattle.data_instructions.specs.declared.tables.Inspection.{Inspection}
use Rattle.data_instructions.specs.declared.tables.DataTables.{DataTables}
use Rattle.file_image.specs.declared.file.CodeFile.{CodeFile}
use Rattle.code_image.specs.declared.code.Code.{Code}
use Rattle.code_image.specs.declared.instruction.Instruction.{Instruction}
use Rattle.condition_codegen.specs.Fragments.{Fragment, no_tables, empty_code, joined_tables, append, sequence}
use Rattle.condition_codegen.specs.Fragments.{in_order}

made_tables : (a b : List (List ℕ)) (c d : List DataItem) (e f : List Fraction) (g h : List LiteralSender)
    (i j : List (List ℕ)) (k l : List Inspection) → a ≡ b → c ≡ d → e ≡ f → g ≡ h → i ≡ j → k ≡ l
    → (let x : DataTables = record { areas = a; items = c; numbers = e; senders = g; texts = i; inspections = k } in
    let y : DataTables = record { areas = b; items = d; numbers = f; senders = h; texts = j; inspections = l } in x ≡ y)
made_tables a b c d e f g h i j k l p q r s t u = cc

made_code : (a b : DataTables) (f g : List CodeFile) (s t : List ℕ) (i j : List Instruction) → a ≡ b → f ≡ g → s ≡ t
    → i ≡ j
    → (let x : Code = record { tables = a; files = f; starts = s; instructions = i } in
    let y : Code = record { tables = b; files = g; starts = t; instructions = j } in x ≡ y)
made_code a b f g s t i j p q r u = cc

pub tables_assoc : (a b c : DataTables) → joined_tables (joined_tables a b) c ≡ joined_tables a (joined_tables b c)
tables_assoc a b c =
    made_tables _ _ _ _ _ _ _ _ _ _ _ _ (append_assoc a.areas b.areas c.areas) (append_assoc a.items b.items c.items)
    (append_assoc a.numbers b.numbers c.numbers)
    (append_assoc a.senders b.senders c.senders) (append_assoc a.texts b.texts c.texts)
    (append_assoc a.inspections b.inspections c.inspections)

pub tables_nothing : (a : DataTables) → joined_tables a no_tables ≡ a
tables_nothing a = made_tables _ _ _ _ _ _ _ _ _ _ _ _ (append-nil a.areas) (append-nil a.items) (append-nil a.numbers)
    (append-nil a.senders) (append-nil a.texts) (append-nil a.inspections)

pub joined_assoc : (a b c : Code) → append (append a b) c ≡ append a (append b c)
joined_assoc a b c =
    made_code _ _ _ _ _ _ _ _ (tables_assoc a.tables b.tables c.tables) (append_assoc a.files b.files c.files)
    (append_assoc a.starts b.starts c.starts) (append_assoc a.instructions b.instructions c.instructions)

pub joined_nothing : (a : Code) → append a empty_code ≡ a
joined_nothing a = made_code _ _ _ _ _ _ _ _ (tables_nothing a.tables) (append-nil a.files) (append-nil a.starts)
    (append-nil a.instructions)

-- what is there, with what is still to come, is the whole
module _ {A : Type 0} (piece : A → Fragment) where
  pub goes_on : (xs : List A) (i : ℕ) (d : A) (code next total : Code) → i < length xs
      → next ≡ append code (piece (get_or xs i d) code)
      → append code (in_order piece (drop i xs) code) ≡ total
      → append next (in_order piece (drop (i + 1) xs) next) ≡ total
  goes_on xs i d code next total lt is so_far =
      let one = piece (get_or xs i d) code in
      let rest = drop (i + 1) xs in
      ap (λ (c : Code). append c (in_order piece rest c)) is
      ∙ joined_assoc code one (in_order piece rest (append code one))
      ∙ sym (ap (λ (l : List A). append code (in_order piece l code)) (drop_more xs i d lt))
      ∙ so_far

  pub is_done : (xs : List A) (i : ℕ) (code total : Code) → length xs ≤ i
      → append code (in_order piece (drop i xs) code) ≡ total → code ≡ total
  is_done xs i code total le so_far =
      sym (joined_nothing code) ∙ sym (ap (λ (l : List A). append code (in_order piece l code)) (drop_all i xs le))
      ∙ so_far

  pub in_order-append : (xs ys : List A) (before : Code) → in_order piece (xs ++ ys) before ≡ append
      (in_order piece xs before) (in_order piece ys (append before (in_order piece xs before)))
  in_order-append [] ys before = ap (in_order piece ys) (sym (joined_nothing before))
  in_order-append (x ∷ xs) ys before =
      let one = piece x before in
      let more = in_order piece xs (append before one) in
      ap (append one) (in_order-append xs ys (append before one)
      ∙ ap (λ (c : Code). append more (in_order piece ys c)) (joined_assoc before one more))
      ∙ sym (joined_assoc one more (in_order piece ys (append before (append one more))))

-- one piece after another, after code that has the first already
pub both_joined : (first second : Fragment) (before : Code) → append before (sequence first second before) ≡ append
    (append before (first before)) (second (append before (first before)))
both_joined first second before = sym (joined_assoc before (first before) (second (append before (first before))))
