use Rattle.std.proofs.Common.{arith, ◌≡◌, ◌-◌, refl, ◌∙◌}
use Rattle.source_lines.proofs.Characters.{no_columns, one_column_more, each_column}
use Rattle.source_lines.proofs.reader.Reader.push_columns.Goals as goal

pub loop-column-init : goal.loop-column-init
loop-column-init c = (no_columns c.args.line.now c.args.from c.args.self.now, λ h. refl)

pub loop-column-preserved : goal.loop-column-preserved
loop-column-preserved c = (
  one_column_more c.args.line.now c.args.from c.loop-column.column (omega arith) (omega arith) (omega arith)
      (omega arith) c.args.self.now
      c.loop-column.self c.push.new.self c.character.result c.loop-column.invariant.0 c.in_ok-push.ensures.ok
      c.character.ensures,
  λ h. absurd (omega arith),
)

pub returns : goal.returns
returns c =
    let e : c.loop-column.column - c.args.from ≡ c.args.end - c.args.from = grind (arith, c.loop-column.invariant.1) in
    c.loop-column.invariant.0
    ∙ each_column c.args.line.now c.args.from c.loop-column.column c.args.end c.args.self.now e
