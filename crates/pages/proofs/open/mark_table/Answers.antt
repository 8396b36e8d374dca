use Rattle.std.proofs.Common.{◌≡◌, ℕ, false, sym, subst}
use Rattle.std.specs.Prelude.{◌==◌}
use Rattle.std.proofs.lemmas.Bool.{eqb-true, false≢true}
use Rattle.pages.proofs.open.mark_table.Goals as goal

pub returns-then-not-mark_names-clause-refused : goal.returns-then-not-mark_names-clause-refused
returns-then-not-mark_names-clause-refused c = λ _ before marked are none.
    c.mark_names.ensures.refused c.if-not-mark_names.true before marked are

pub returns-clause-marked : goal.returns-clause-marked
returns-clause-marked c = λ _. c.mark_names.ensures.marked c.if-not-mark_names.false

pub returns-clause-first : goal.returns-clause-first
returns-clause-first c = λ is. eqb-true _ 0 is

pub returns-clause-refused : goal.returns-clause-refused
returns-clause-refused c = λ is before marked are none.
    false≢true (sym (subst (λ (n : ℕ). (n == 0) ≡ false) none is))
