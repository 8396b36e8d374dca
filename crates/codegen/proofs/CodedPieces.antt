-- Pieces of instructions on data, of which something holds wherever they stand in the whole.
use Rattle.std.proofs.Common.{◌≡◌, List, ◌++◌, map, refl, sym, ap, subst, ◌∙◌}
use Rattle.data_instructions.specs.declared.instruction.DataInstruction.{DataInstruction}
use Rattle.code_image.specs.declared.code.Code.{Code}
use Rattle.code_image.specs.declared.instruction.Instruction.TheVariants.{Data}
use Rattle.condition_codegen.specs.Fragments.{Fragment, append, sequence}
use Rattle.condition_codegen.specs.DataCode.{works_fragment}
use Rattle.condition_codegen.proofs.Lists.{map_both}
use Rattle.codegen.proofs.Codes.{Coded}
use Rattle.codegen.proofs.Standing.{Stands, front, back}

module _ (whole : Code) where
  pub record CodedBy (P : List DataInstruction → Type 0) (piece : Fragment) : Type 0 where
    pub by : (before : Code) → Stands whole before (piece before) → Coded P (piece before)

  -- these instructions, and nothing else
  pub only_by : (all : List DataInstruction) → CodedBy (λ code. code ≡ all) (works_fragment all)
  only_by all = record { by = λ before st. record { code = all; is = refl; holds = refl } }

  pub weaker_by : (P Q : List DataInstruction → Type 0) (piece : Fragment)
      → ((code : List DataInstruction) → P code → Q code) → CodedBy P piece → CodedBy Q piece
  weaker_by P Q piece from one = record {
    by = λ before st. let coded =
        one.by before st in record { code = coded.code; is = coded.is; holds = from coded.code coded.holds };
  }

  pub both_by : (P Q R : List DataInstruction → Type 0) (first second : Fragment) → CodedBy P first → CodedBy Q second
      → ((front back : List DataInstruction) → P front → Q back → R (front ++ back)) → CodedBy R (sequence first second)
  both_by P Q R first second one other joins = record {
    by = λ before st.
        let a = first before in
        let b = second (append before a) in
        let x = one.by before (front whole before a b st) in
        let y = other.by (append before a) (back whole before a b st) in
        record {
          code = x.code ++ y.code;
          is = ap (λ l. l ++ b.instructions) x.is ∙ ap (λ l. map Data x.code ++ l) y.is
              ∙ sym (map_both Data x.code y.code);
          holds = joins x.code y.code x.holds y.holds;
        };
  }

  -- instructions, and a piece
  pub before_by : (all : List DataInstruction) (P R : List DataInstruction → Type 0) (piece : Fragment)
      → CodedBy P piece
      → ((code : List DataInstruction) → P code → R (all ++ code)) → CodedBy R (sequence (works_fragment all) piece)
  before_by all P R piece one joins =
      both_by (λ code. code ≡ all) P R (works_fragment all) piece (only_by all) one
      (λ front back is holds. subst (λ l. R (l ++ back)) (sym is) (joins back holds))

  -- a piece, and instructions
  pub behind_by : (P R : List DataInstruction → Type 0) (piece : Fragment) (all : List DataInstruction)
      → CodedBy P piece
      → ((code : List DataInstruction) → P code → R (code ++ all)) → CodedBy R (sequence piece (works_fragment all))
  behind_by P R piece all one joins =
      both_by P (λ code. code ≡ all) R piece (works_fragment all) one (only_by all)
      (λ front back holds is. subst (λ l. R (front ++ l)) (sym is) (joins front holds))
