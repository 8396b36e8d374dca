use Rattle.std.proofs.Common.{arith}
use Rattle.initial_storage.proofs.Repeats.{turn, all_turns}
use Rattle.initial_storage.proofs.repeat.repeat_from.Goals as goal

pub loop-turn-preserved : goal.loop-turn-preserved
loop-turn-preserved c = record {
  end = c.loop-turn.invariant.end;
  so_far = turn c.loop-turn._turn c.args.begin c.len-end.result c.args.out.now.items c.loop-turn.out.items _
      c.loop-turn.auto._turn c.requires.begin c.loop-turn.invariant.end
      c.loop-turn.invariant.so_far c.in_ok-extend_from_within.ensures.items;
}

pub returns : goal.returns
returns c = all_turns c.loop-turn._turn c.args.times c.args.begin c.args.out.now.items c.loop-turn.out.items
    c.requires.some (omega arith) c.loop-turn.invariant.so_far
