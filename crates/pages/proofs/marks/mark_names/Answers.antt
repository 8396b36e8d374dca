use Rattle.std.proofs.Common.{◌<◌, ℕ, List, ◌++◌, length, take, take_all, sym, ◌∙◌, subst, arith}
use Rattle.pages.specs.Marked.{IsMarked, AreNames}
use Rattle.pages.proofs.Marking.{front_at, more_at}
use Rattle.pages.proofs.marks.mark_names.Goals as goal

pub returns-then-not-mark_name-clause-refused : goal.returns-then-not-mark_name-clause-refused
returns-then-not-mark_name-clause-refused c = λ _ before marked are.
    let i = c.loop-name.name-index in
    let lt : i < length c.args.names.now = omega (arith, c.loop-name-test.true) in
    c.mark_name.ensures.refused c.if-not-mark_name.true (before ++ take i c.args.names.now)
    (c.loop-name.invariant.marked before marked)
    (front_at (length c.loop-name.used.items) before c.args.names.now i _ lt
    (subst (λ (n : ℕ). AreNames n (before ++ c.args.names.now)) (sym c.loop-name.invariant.count) are))

pub loop-name-preserved : goal.loop-name-preserved
loop-name-preserved c =
    let i = c.loop-name.name-index in
    let lt : i < length c.args.names.now = omega (arith, c.loop-name-test.true) in
    record {
      count = c.mark_name.ensures.count ∙ c.loop-name.invariant.count;
      marked = λ before marked.
          subst (λ (l : List ℕ). IsMarked l c.mark_name.new.used.items) (more_at before c.args.names.now i _ lt)
          (c.mark_name.ensures.marked c.if-not-mark_name.false (before ++ take i c.args.names.now)
          (c.loop-name.invariant.marked before marked));
    }

pub returns-clause-marked : goal.returns-clause-marked
returns-clause-marked c = λ _ before marked.
    subst (λ (l : List ℕ). IsMarked (before ++ l) c.loop-name.used.items) (take_all c.loop-name.name-index
    c.args.names.now (omega (arith, c.loop-name-test.false))) (c.loop-name.invariant.marked before marked)
