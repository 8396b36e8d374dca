use Rattle.std.proofs.Common.{sym, subst, true}
use Rattle.data_instructions.specs.declared.shape.Shape.{Shape}
use Rattle.data_instructions.specs.Joining.{Joins}
use Rattle.data_instructions.proofs.Same.{joins_same, joins_none}
use Rattle.data_instructions.proofs.shape.Shape.join.Goals as goal
use Rattle.data_instructions.proofs.shape.Shape.join.Goals.{then-ne, else-ne}

pub returns : goal.returns
returns c =
    let one = c.args.self.now in
    let other = c.args.after in
    let places = c.same.ensures.0 c.if-not-same.false in
    elim c.if-ne.branch [
      | then-ne w ↦ subst (λ (all : Shape). Joins true one other all) (sym w.self-is)
          (joins_none one other c.if-self-after.false places c.if-self-after-2.false c.ne.result c.ne.ensures
          w.if-ne.true)
      | else-ne w ↦ subst (λ (all : Shape). Joins true one other all) (sym w.self-is)
          (joins_same one other c.if-self-after.false places c.if-self-after-2.false c.ne.result c.ne.ensures
          w.if-ne.false)
    ]
