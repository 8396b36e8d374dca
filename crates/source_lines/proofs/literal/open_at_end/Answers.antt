use Rattle.std.proofs.Common.{arith, sym, ap, ◌∙◌}
use Rattle.std.specs.List.{fold}
use Rattle.std.proofs.lemmas.List.Sums.{fold_push}
use Rattle.source_lines.specs.Line.{character, characters}
use Rattle.source_lines.specs.Literal.{open_after}
use Rattle.source_lines.proofs.Characters.{characters_none, characters_more}
use Rattle.source_lines.proofs.literal.open_at_end.Goals as goal

pub loop-column-init : goal.loop-column-init
loop-column-init c = rw (characters_none c.args.line.now c.args.from)

pub loop-column-preserved : goal.loop-column-preserved
loop-column-preserved c =
    let more = characters_more c.args.line.now c.args.from c.loop-column.column (omega arith) (omega arith)
    (omega arith) (omega arith) in
    let before = characters c.args.line.now c.args.from c.loop-column.column in
    c.open_after-literal.ensures ∙ ap (λ literal. open_after literal c.character.result) c.loop-column.invariant
    ∙ ap (open_after (fold open_after c.args.before before)) c.character.ensures
    ∙ sym (fold_push open_after c.args.before before (character c.args.line.now c.loop-column.column))
    ∙ sym (ap (fold open_after c.args.before) more)
