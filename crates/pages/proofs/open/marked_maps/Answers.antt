use Rattle.std.proofs.Common.{◌∙◌, ℕ, List, [], sym, subst}
use Rattle.pages.specs.Marked.{IsMarked, AreNames}
use Rattle.pages.specs.Found.{found_root}
use Rattle.pages.proofs.Refused.{bad_maps}
use Rattle.pages.proofs.open.marked_maps.Goals as goal

pub returns-clause-marked : goal.returns-clause-marked
returns-clause-marked c = subst (λ (l : List ℕ). IsMarked l c.mark_names.new.used.items) c.deref.ensures.value
    (c.mark_names.ensures.marked c.if-not-mark_names.false [] c.in_ok-used.ensures.marked)

pub returns-clause-count : goal.returns-clause-count
returns-clause-count c = c.mark_names.ensures.count ∙ c.in_ok-used.ensures.count

pub returns-then-not-mark_names-clause-refused : goal.returns-then-not-mark_names-clause-refused
returns-then-not-mark_names-clause-refused c = λ image is.
    let root = c.args.root.now in
    bad_maps image (found_root root) is
    (λ are.
    c.mark_names.ensures.refused c.if-not-mark_names.true [] c.in_ok-used.ensures.marked
    (subst (λ (n : ℕ). AreNames n c.deref.result.now) (sym c.in_ok-used.ensures.count)
    (subst (AreNames root.sectors) (sym c.deref.ensures.value) are)))
