use Rattle.std.proofs.Common.{[], ◌∷◌, refl, ap, ◌∙◌}
use Rattle.station.proofs.Calls.{reads_nothing}
use Rattle.btree.specs.Rooted.{RootedTree}
use Rattle.btree.proofs.Passing.{never_ok, reads_where}
use Rattle.btree.proofs.CountCalls.{counted_by, never_uncounted}
use Rattle.btree.proofs.tree.Tree.count.Goals as goal

pub returns-clause-count : goal.returns-clause-count
returns-clause-count g c = counted_by g.D.Device c.args.pages.now c.args.device.now c.args.self.now c.self.inside.layout
    c.self.inside.root c.page_count-page_count.result [] (c.self.inside.root ∷ [])
    c.count_levels.result c.self.view_is c.if-self-eq0.false refl refl
    c.page_count-page_count.ensures.pages c.page_count-page_count.ensures.count c.page_count-page_count.ensures.few
    c.count_levels.ensures.told
    c.count_levels.ensures.count

pub returns-clause-damaged : goal.returns-clause-damaged
returns-clause-damaged g c = λ honest agrees is.
    never_uncounted g.D.Device c.args.pages.now c.args.device.now c.args.self.now c.self.inside.layout
    c.self.inside.root c.page_count-page_count.result [] (c.self.inside.root ∷ [])
    c.count_levels.result c.self.view_is c.if-self-eq0.false refl refl
    c.page_count-page_count.ensures.pages c.page_count-page_count.ensures.count c.page_count-page_count.ensures.few
    c.count_levels.ensures.told
    is (λ h a levels few down deep. c.count_levels.ensures.damaged h a is levels few down deep) honest agrees

pub returns-then-self-eq0-clause-only : goal.returns-then-self-eq0-clause-only
returns-then-self-eq0-clause-only g c =
    reads_where g.D.Device _ _ _ _ (λ is. never_ok is) (reads_nothing g.D.Device c.args.device.now)

pub returns-then-self-eq0-clause-damaged : goal.returns-then-self-eq0-clause-damaged
returns-then-self-eq0-clause-damaged g c = λ honest agrees is. never_ok is

pub returns-then-self-eq0-clause-spent : goal.returns-then-self-eq0-clause-spent
returns-then-self-eq0-clause-spent g c = λ is. never_ok is

pub returns-clause-spent : goal.returns-clause-spent
returns-clause-spent g c = λ is. (
  c.count_levels.ensures.spent is,
  λ none. c.if-self-eq0.false (ap (λ (t : RootedTree). t.root) c.self.view_is ∙ none),
)
