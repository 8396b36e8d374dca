-- What is known along parts of code, from rest to rest.
use Rattle.std.proofs.Common.{◌≡◌, ℕ, List, [], ◌∷◌, ◌++◌, map, Option, Some, None, refl, sym, ap, subst, ◌∙◌}
use Rattle.items.specs.declared.taken.Taken.{Taken}
use Rattle.source_tree.specs.Broken.{RuleBreach, each}
use Rattle.data_instructions.specs.declared.tables.DataTables.{DataTables}
use Rattle.data_instructions.specs.declared.shape.Shape.{Shape}
use Rattle.data_instructions.specs.declared.instruction.DataInstruction.{DataInstruction}
use Rattle.data_instructions.specs.Shapes.{empty, and_then, effect}
use Rattle.data_instructions.specs.Chains.{effects}
use Rattle.code_image.specs.declared.code.Code.{Code}
use Rattle.code_image.specs.declared.instruction.Instruction.{Instruction}
use Rattle.code_image.specs.declared.instruction.Instruction.TheVariants as instruction
use Rattle.code_image.specs.Known.{known_after, known_along}
use Rattle.condition_codegen.specs.Fragments.{Fragment, empty_code, append, in_order}
use Rattle.condition_codegen.specs.Meeting.{branch_code, jump_code, join_code, either_fragment}
use Rattle.condition_codegen.proofs.Lists.{left_none, right_none}
use Rattle.codegen.proofs.Standing.{Stands, front, back}
use Rattle.codegen.proofs.Blind.{Blind}
use Rattle.codegen.proofs.Either.{either_laid}

-- nothing on the stacks and in the line; this was taken
abbrev pub rest : Option Taken → Shape
rest sender = record empty { sender = sender }

along_twice : (o : Option Shape) (both_of one other : Shape → Option Shape)
    → ((s : Shape) → both_of s ≡ and_then (one s) other) → and_then o both_of ≡ and_then (and_then o one) other
along_twice None both_of one other same = refl
along_twice (Some s) both_of one other same = same s

pub along_append : (tables : DataTables) (a b : List Instruction) (s : Shape)
    → known_along tables (a ++ b) s ≡ and_then (known_along tables a s) (known_along tables b)
along_append tables [] b s = refl
along_append tables (one ∷ a) b s = along_twice (known_after tables one s) (known_along tables (a ++ b))
    (known_along tables a) (known_along tables b) (λ u. along_append tables a b u)

bind_same : (o : Option Shape) (f g : Shape → Option Shape) → ((u : Shape) → f u ≡ g u) → and_then o f ≡ and_then o g
bind_same None f g same = refl
bind_same (Some u) f g same = same u

pub along_data : (tables : DataTables) (code : List DataInstruction) (s : Shape)
    → known_along tables (map instruction.Data code) s ≡ effects tables code s
along_data tables [] s = refl
along_data tables (one ∷ more) s = bind_same (effect tables one s) (known_along tables (map instruction.Data more))
    (effects tables more) (λ u. along_data tables more u)

and_some : (o : Option Shape) → and_then o (λ s. Some s) ≡ o
and_some None = refl
and_some (Some s) = refl

pub only_one : (tables : DataTables) (one : Instruction) (o : Option Shape)
    → and_then o (known_along tables (one ∷ [])) ≡ and_then o (known_after tables one)
only_one tables one None = refl
only_one tables one (Some s) = and_some (known_after tables one s)

-- From rest to rest, whatever was taken before.
pub record Flows (tables : DataTables) (part : Code) : Type 0 where
  pub by : (sender : Option Taken)
      → (after : Option Taken) × (known_along tables part.instructions (rest sender) ≡ Some (rest after))

module _ (tables : DataTables) where
  pub both_flow : (a b : Code) → Flows tables a → Flows tables b → Flows tables (append a b)
  both_flow a b f g = record {
    by = λ sender.
        let one = f.by sender in
        let two = g.by one.0 in (
          two.0,
          along_append tables a.instructions b.instructions (rest sender)
              ∙ ap (λ o. and_then o (known_along tables b.instructions)) one.1 ∙ two.1,
        );
  }

  pub nothing_flows : Flows tables empty_code
  nothing_flows = record { by = λ sender. (sender, refl) }

  pub branch_flows : (to : ℕ) → Flows tables (branch_code to)
  branch_flows to = record { by = λ sender. (None, refl) }

  pub jump_flows : (to : ℕ) → Flows tables (jump_code to)
  jump_flows to = record { by = λ sender. (None, refl) }

  pub join_flows : Flows tables join_code
  join_flows = record { by = λ sender. (None, refl) }

module _ (whole : Code) where
  -- what is known of parts that keep these rules
  pub record AllFlow {A : Type 0} (rules : A → List RuleBreach) (piece : A → Fragment) : Type 0 where
    pub by : (one : A) (before : Code) → rules one ≡ [] → Stands whole before (piece one before)
        → Flows whole.tables (piece one before)

  pub in_order_flows : {A : Type 0} (rules : A → List RuleBreach) (piece : A → Fragment) → AllFlow rules piece
      → (all : List A) (before : Code) → each rules all ≡ []
      → Stands whole before (in_order piece all before) → Flows whole.tables (in_order piece all before)
  in_order_flows rules piece f [] before e st = nothing_flows whole.tables
  in_order_flows rules piece f (one ∷ more) before e st =
      let a = piece one before in
      let b = in_order piece more (append before a) in
      both_flow whole.tables a b
      (f.by one before (left_none (rules one) (each rules more) e) (front whole before a b st))
      (in_order_flows rules piece f more (append before a) (right_none (rules one) (each rules more) e)
      (back whole before a b st))

  -- a body, wherever it stands
  pub record BodyFlows (piece : Fragment) : Type 0 where
    pub by : (before : Code) → Stands whole before (piece before) → Flows whole.tables (piece before)

  pub either_flows : (first second : Fragment) → Blind first → Blind second → BodyFlows first → BodyFlows second
      → (before : Code)
      → Stands whole before (either_fragment first second before)
      → Flows whole.tables (either_fragment first second before)
  either_flows first second f g one two before st =
      let l = either_laid first second f g before in
      let branch = branch_code l.other in
      let inner = append before branch in
      let x = first inner in
      let jump = jump_code l.end in
      let outer = append (append inner x) jump in
      let y = second outer in
      let r3 = append y join_code in
      let r2 = append jump r3 in
      let here = back whole before branch (append x r2) (subst (Stands whole before) l.is st) in
      let there = back whole (append inner x) jump r3 (back whole inner x r2 here) in
      subst (Flows whole.tables) (sym l.is)
      (both_flow whole.tables branch (append x r2) (branch_flows whole.tables l.other)
      (both_flow whole.tables x r2 (one.by inner (front whole inner x r2 here))
      (both_flow whole.tables jump r3 (jump_flows whole.tables l.end)
      (both_flow whole.tables y join_code (two.by outer (front whole outer y join_code there))
      (join_flows whole.tables)))))
