use Rattle.std.proofs.Common.{get_or}
use Rattle.code_image.specs.declared.instruction.Instruction.TheVariants.{Tick}
use Rattle.code_image.specs.Demands.{paragraph_at}
use Rattle.code_image.proofs.Paragraphs.{adds_listed, adds_none, performed_step}
use Rattle.code_image.proofs.paragraph.performed_by.Goals as goal
use Rattle.code_image.proofs.paragraph.performed_by.Goals.{in-Perform+in_ok-push, in_default}

pub loop-address-preserved : goal.loop-address-preserved
loop-address-preserved c =
    let is = c.args.instructions.now in
    let k = c.loop-address.address in
    let one = get_or is k (Tick 0) in
    let found = c.loop-address.ranges.items in
    performed_step is k found c.match-instruction.ranges.items c.loop-address-test.true c.loop-address.invariant
    (elim c.match-instruction.branch [
      | in-Perform+in_ok-push w ↦
          (let push = w.in_ok-push.ensures.items in
          let adds = adds_listed is c.args.paragraphs.now k w.in-Perform.line w.in-Perform.first w.in-Perform.last found
          c.requires c.loop-address-test.true w.in-Perform.is in
          cc)
      | in_default w ↦ (let adds = adds_none (paragraph_at is k) one found w.in_default.not-Perform in cc)
    ])
