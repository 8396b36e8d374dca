use Rattle.std.proofs.Common.{◌≡◌, ◌-◌, ◌++◌, length, drop}
use Rattle.std.specs.List.{repeat}
use Rattle.initial_storage.proofs.patterns.repeat_pattern.Given as goal

abbrev pub invariant-loop-turn : goal.invariant-loop-turn
invariant-loop-turn l = record {
  end : l.end ≡ length l.initial.out.items;
  so_far : l.out.items ≡ l.initial.out.items ++ repeat (l._turn - 1) (drop l.begin l.initial.out.items);
}
