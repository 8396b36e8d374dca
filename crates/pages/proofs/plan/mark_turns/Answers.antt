use Rattle.std.proofs.Common.{◌∙◌, [], ◌∷◌, Bool, false, List, length, get_or, set, take, ap, sym, arith, length-set}
use Rattle.std.proofs.lemmas.List.{take_more}
use Rattle.pages.specs.Use.{use_after}
use Rattle.pages.specs.declared.draft.UseChange.{UseChange}
use Rattle.pages.proofs.Naming.{turned_more}
use Rattle.pages.proofs.plan.mark_turns.Goals as goal

pub loop-turn-preserved : goal.loop-turn-preserved
loop-turn-preserved c =
    let i = c.loop-turn.turn-index in
    let turns = c.args.turns.now in
    let t : UseChange = get_or turns i (record { sector = 0; used = false }) in
    record {
      count = ap length c.mark_turn.ensures.used ∙ length-set c.loop-turn.used t.sector t.used
          ∙ c.loop-turn.invariant.count;
      marked = c.mark_turn.ensures.used ∙ ap (λ (l : List Bool). set l t.sector t.used) c.loop-turn.invariant.marked
          ∙ sym (ap (use_after c.args.used.now) (take_more turns i (record { sector = 0; used = false }) (omega arith))
          ∙ turned_more c.args.used.now (take i turns) (t ∷ []));
      free = c.mark_turn.ensures.free;
    }
