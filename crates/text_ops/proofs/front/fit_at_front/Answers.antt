use Rattle.std.proofs.Common.{arith}
use Rattle.text_ops.proofs.Marking.{none_unmarked, none_here}
use Rattle.text_ops.proofs.front.fit_at_front.Goals as goal

pub returns-then-passed-gt0-clause-none : goal.returns-then-passed-gt0-clause-none
returns-then-passed-gt0-clause-none c = record {
  some = omega arith;
  within = c.unmarked-passed.ensures.within;
  none = none_unmarked c.args.texts.now c.args.marks.now c.args.active.now c.args.at c.unmarked-passed.result
      c.args.rest.now c.requires.marked c.unmarked-passed.ensures.within c.unmarked-passed.ensures.unmarked;
}

pub returns-in-None-clause-none : goal.returns-in-None-clause-none
returns-in-None-clause-none c =
    none_here c.args.texts.now c.args.active.now c.args.at c.args.rest.now c.in-None.ensures.fit c.requires.rest
