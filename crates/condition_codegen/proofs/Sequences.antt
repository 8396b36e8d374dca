-- Pieces that are put after code one after the other.
use Rattle.std.proofs.Common.{◌≡◌, ap, ◌∙◌}
use Rattle.std.specs.Prelude.{Result, Ok, Err, OnOk}
use Rattle.code_image.specs.declared.code.Code.{Code}
use Rattle.condition_codegen.specs.Fragments.{Fragment, append, sequence}
use Rattle.condition_codegen.proofs.Fragments.{joined_assoc}

pub then_piece : (first second : Fragment) (before now after : Code) → now ≡ append before (first before)
    → after ≡ append now (second now) → after ≡ append before (sequence first second before)
then_piece first second before now after e f = f ∙ ap (λ (c : Code). append c (second c)) e
    ∙ joined_assoc before (first before) (second (append before (first before)))

-- the same where a call may have failed
module _ {T E : Type 0} where
  pub is_so : (result : Result T E) (made total wanted : Code) → OnOk result (made ≡ total) → total ≡ wanted
      → OnOk result (made ≡ wanted)
  is_so (Ok x) made total wanted e f = e ∙ f
  is_so (Err x) made total wanted e f = e

  pub ends_so : (result : Result T E) (first second : Fragment) (before now after : Code)
      → now ≡ append before (first before) → OnOk result (after ≡ append now (second now))
      → OnOk result (after ≡ append before (sequence first second before))
  ends_so (Ok x) first second before now after e f = then_piece first second before now after e f
  ends_so (Err x) first second before now after e f = f

  pub on_ok : {P Q : Type 0} (result : Result T E) → OnOk result P → (P → Q) → OnOk result Q
  on_ok (Ok x) h f = f h
  on_ok (Err x) h f = h

  pub three_so : (result : Result T E) (first second third : Fragment) (old one two new : Code)
      → one ≡ append old (first old) → two ≡ append one (second one) → OnOk result (new ≡ append two (third two))
      → OnOk result (new ≡ append old (sequence first (sequence second third) old))
  three_so result first second third old one two new p q r =
      ends_so result first (sequence second third) old one new p (ends_so result second third one two new q r)

  pub four_so : (result : Result T E) (first second third fourth : Fragment) (old one two three new : Code)
      → one ≡ append old (first old) → two ≡ append one (second one) → three ≡ append two (third two)
      → OnOk result (new ≡ append three (fourth three))
      → OnOk result (new ≡ append old (sequence first (sequence second (sequence third fourth)) old))
  four_so result first second third fourth old one two three new p q r s =
      ends_so result first (sequence second (sequence third fourth)) old one new p
      (three_so result second third fourth one two three new q r s)
