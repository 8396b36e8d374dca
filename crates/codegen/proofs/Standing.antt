-- A part that stands in a whole code.
use Rattle.std.proofs.Common.{◌≡◌, ℕ, ◌+◌, List, [], ◌∷◌, ◌++◌, length, map, Some, refl, sym, ap, ◌∙◌, append_assoc}
use Rattle.std.proofs.Common.{length-append, arith}
use Rattle.std.specs.Prelude.{slice_get}
use Rattle.std.proofs.Math.Seq.{get_or-append_seam}
use Rattle.std.proofs.lemmas.Option.{slice_get-get_or}
use Rattle.decimal18.specs.Fraction.{Fraction}
use Rattle.data_instructions.specs.declared.tables.DataItem.{DataItem}
use Rattle.data_instructions.specs.declared.tables.LiteralSender.{LiteralSender}
use Rattle.data_instructions.specs.declared.tables.Inspection.{Inspection}
use Rattle.data_instructions.specs.declared.instruction.DataInstruction.{DataInstruction}
use Rattle.code_image.specs.declared.code.Code.{Code}
use Rattle.code_image.specs.declared.instruction.Instruction.{Instruction}
use Rattle.code_image.specs.declared.instruction.Instruction.TheVariants.{Data}
use Rattle.condition_codegen.specs.Fragments.{append}
use Rattle.condition_codegen.proofs.Fragments.{joined_assoc}

-- The part stands in the whole right after the code before it.
pub record Stands (whole before part : Code) : Type 0 where
  pub rest : Code
  pub is : whole ≡ append (append before part) rest

pub front : (whole before a b : Code) → Stands whole before (append a b) → Stands whole before a
front whole before a b st = record {
  rest = append b st.rest;
  is = st.is ∙ ap (λ (c : Code). append c st.rest) (sym (joined_assoc before a b))
      ∙ joined_assoc (append before a) b st.rest;
}

pub back : (whole before a b : Code) → Stands whole before (append a b) → Stands whole (append before a) b
back whole before a b st =
    record { rest = st.rest; is = st.is ∙ ap (λ (c : Code). append c st.rest) (sym (joined_assoc before a b)) }

pub at_seam : {A : Type 0} (pre : List A) (x : A) (post : List A) → slice_get (pre ++ x ∷ post) (length pre) ≡ Some x
at_seam pre x post = slice_get-get_or (pre ++ x ∷ post) (length pre) x (omega (arith, length-append pre (x ∷ post)))
    ∙ ap Some (get_or-append_seam pre x post x)

-- what stands first in a part, and second
in_part : {A : Type 0} (whole pre part rest more : List A) (x : A) → whole ≡ (pre ++ part) ++ rest → part ≡ x ∷ more
    → slice_get whole (length pre) ≡ Some x
in_part whole pre part rest more x is first =
    ap (λ l. slice_get l (length pre)) is
    ∙ ap (λ l. slice_get ((pre ++ l) ++ rest) (length pre)) first
    ∙ ap (λ l. slice_get l (length pre)) (append_assoc pre (x ∷ more) rest)
    ∙ at_seam pre x (more ++ rest)

pub first_stands : (whole before part : Code) (one : Instruction) (more : List Instruction)
    → part.instructions ≡ one ∷ more → Stands whole before part
    → slice_get whole.instructions (length before.instructions) ≡ Some one
first_stands whole before part one more is st = in_part whole.instructions before.instructions part.instructions
    st.rest.instructions more one (ap (λ (c : Code). c.instructions) st.is) is

pub second_stands : (whole before part : Code) (one two : Instruction) (more : List Instruction)
    → part.instructions ≡ one ∷ two ∷ more → Stands whole before part
    → slice_get whole.instructions (length before.instructions + 1) ≡ Some two
second_stands whole before part one two more is st =
    let pre = before.instructions ++ one ∷ [] in
    let n : length before.instructions + 1 ≡ length pre = omega (arith, length-append before.instructions (one ∷ [])) in
    let same : whole.instructions ≡ pre ++ two ∷ (more ++ st.rest.instructions) =
    ap (λ (c : Code). c.instructions) st.is
    ∙ ap (λ (l : List Instruction). (before.instructions ++ l) ++ st.rest.instructions) is
    ∙ append_assoc before.instructions (one ∷ two ∷ more) st.rest.instructions
    ∙ sym (append_assoc before.instructions (one ∷ []) (two ∷ (more ++ st.rest.instructions))) in
    ap (slice_get whole.instructions) n ∙ ap (λ (l : List Instruction). slice_get l (length pre)) same
    ∙ at_seam pre two (more ++ st.rest.instructions)

-- the first entry that a part adds to a table
pub number_stands : (whole before part : Code) (x : Fraction) (more : List Fraction) → part.tables.numbers ≡ x ∷ more
    → Stands whole before part → slice_get whole.tables.numbers (length before.tables.numbers) ≡ Some x
number_stands whole before part x more is st = in_part whole.tables.numbers before.tables.numbers part.tables.numbers
    st.rest.tables.numbers more x (ap (λ (c : Code). c.tables.numbers) st.is) is

pub item_stands : (whole before part : Code) (x : DataItem) (more : List DataItem) → part.tables.items ≡ x ∷ more
    → Stands whole before part → slice_get whole.tables.items (length before.tables.items) ≡ Some x
item_stands whole before part x more is st = in_part whole.tables.items before.tables.items part.tables.items
    st.rest.tables.items more x (ap (λ (c : Code). c.tables.items) st.is) is

pub sender_stands : (whole before part : Code) (x : LiteralSender) (more : List LiteralSender)
    → part.tables.senders ≡ x ∷ more → Stands whole before part
    → slice_get whole.tables.senders (length before.tables.senders) ≡ Some x
sender_stands whole before part x more is st = in_part whole.tables.senders before.tables.senders part.tables.senders
    st.rest.tables.senders more x (ap (λ (c : Code). c.tables.senders) st.is) is

pub text_stands : (whole before part : Code) (x : List ℕ) (more : List (List ℕ)) → part.tables.texts ≡ x ∷ more
    → Stands whole before part → slice_get whole.tables.texts (length before.tables.texts) ≡ Some x
text_stands whole before part x more is st = in_part whole.tables.texts before.tables.texts part.tables.texts
    st.rest.tables.texts more x (ap (λ (c : Code). c.tables.texts) st.is) is

pub inspection_stands : (whole before part : Code) (x : Inspection) (more : List Inspection)
    → part.tables.inspections ≡ x ∷ more → Stands whole before part
    → slice_get whole.tables.inspections (length before.tables.inspections) ≡ Some x
inspection_stands whole before part x more is st = in_part whole.tables.inspections before.tables.inspections
    part.tables.inspections st.rest.tables.inspections more x (ap (λ (c : Code). c.tables.inspections) st.is) is

pub start_stands : (whole before part : Code) (x : ℕ) (more : List ℕ) → part.starts ≡ x ∷ more
    → Stands whole before part → slice_get whole.starts (length before.starts) ≡ Some x
start_stands whole before part x more is st =
    in_part whole.starts before.starts part.starts st.rest.starts more x (ap (λ (c : Code). c.starts) st.is) is

-- Instructions on data stand at an address.
pub record CodeStands (whole : Code) (address : ℕ) (code : List DataInstruction) : Type 0 where
  pub pre : List Instruction
  pub post : List Instruction
  pub is : whole.instructions ≡ pre ++ (map Data code ++ post)
  pub at : length pre ≡ address

pub code_stands : (whole before part : Code) (code : List DataInstruction) → part.instructions ≡ map Data code
    → Stands whole before part → CodeStands whole (length before.instructions) code
code_stands whole before part code is st = record {
  pre = before.instructions;
  post = st.rest.instructions;
  is = ap (λ (c : Code). c.instructions) st.is
      ∙ append_assoc before.instructions part.instructions st.rest.instructions
      ∙ ap (λ (l : List Instruction). before.instructions ++ (l ++ st.rest.instructions)) is;
  at = refl;
}

pub code_here : (whole : Code) (address : ℕ) (one : DataInstruction) (more : List DataInstruction)
    → CodeStands whole address (one ∷ more) → slice_get whole.instructions address ≡ Some (Data one)
code_here whole address one more st =
    ap (slice_get whole.instructions) (sym st.at) ∙ ap (λ (l : List Instruction). slice_get l (length st.pre)) st.is
    ∙ at_seam st.pre (Data one) (map Data more ++ st.post)

pub code_next : (whole : Code) (address : ℕ) (one : DataInstruction) (more : List DataInstruction)
    → CodeStands whole address (one ∷ more) → CodeStands whole (address + 1) more
code_next whole address one more st = record {
  pre = st.pre ++ Data one ∷ [];
  post = st.post;
  is = st.is ∙ sym (append_assoc st.pre (Data one ∷ []) (map Data more ++ st.post));
  at = omega (arith, length-append st.pre (Data one ∷ []), st.at);
}
