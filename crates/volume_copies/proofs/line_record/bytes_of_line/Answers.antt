use Rattle.std.proofs.Common.{◌≡◌, ◌++◌, ◌∷◌, [], sym, ap, ◌∙◌, rules}
use Rattle.std.specs.Prelude.{Vec, ℕ}
use Rattle.std.specs.declared.alloc.Global.{Global}
use Rattle.volume_copies.proofs.Spelling.{byte_begins, byte_spells, byte_breaks}
use Rattle.volume_copies.proofs.line_record.bytes_of_line.Goals as goal
use Rattle.volume_copies.proofs.line_record.bytes_of_line.Goals.{in-Begins, in-Spells+else-is_err}

pub loop-byte-preserved : goal.loop-byte-preserved
loop-byte-preserved c =
    let now = c.loop-byte in
    elim c.match-step.branch [
      | in-Begins w ↦ now.invariant ∙ byte_begins c.args.line.now now.bytes.items now.state now.byte-index
          c.loop-byte-test.true w.in-Begins.next c.match-step.state c.match-step.bytes.items
          (sym c.step.ensures ∙ w.in-Begins.is) (ap (λ (v : Vec ℕ Global). v.items) w.bytes-is) w.state-is
      | in-Spells+else-is_err w ↦ now.invariant ∙ byte_spells c.args.line.now now.bytes.items now.state now.byte-index
          c.loop-byte-test.true w.in-Spells.byte c.match-step.state c.match-step.bytes.items
          (sym c.step.ensures ∙ w.in-Spells.is)
          (let pushed : c.match-step.bytes.items ≡ now.bytes.items ++ w.in-Spells.byte ∷ [] = search rules in pushed)
          w.state-is
    ]

pub returns-in-Breaks : goal.returns-in-Breaks
returns-in-Breaks c = c.loop-byte.invariant
    ∙ byte_breaks c.args.line.now c.loop-byte.bytes.items c.loop-byte.state c.loop-byte.byte-index
    c.loop-byte-test.true c.in-Breaks.fault (sym c.step.ensures ∙ c.in-Breaks.is)
