use Rattle.std.proofs.Common.{◌≡◌, ap, sym, ◌∙◌, slice_set, subst, List, Some, length}
use Rattle.text_ops.specs.declared.progress.Progress.{Progress}
use Rattle.text_ops.specs.Walk.{progress_after, walk_after, AreActive}
use Rattle.text_ops.proofs.Walks.{found, room_left, fitted_is, still_active, entry_stays}
use Rattle.text_ops.proofs.Marking.{entries_stay}
use Rattle.text_ops.proofs.progress.step.Goals as goal

pub passed-requires : goal.passed-requires
passed-requires c =
    let one = found c.args.texts.now c.args.active.now c.args.at c.args.rest.now c.in_ok-fitted.fitted
    (sym c.first_fit.ensures.fit ∙ c.in_ok-fitted.was) in
    room_left c.args.texts.now c.in_ok-fitted.fitted.progress c.args.at c.args.rest.now one.fits

pub returns-clause-after : goal.returns-clause-after
returns-clause-after c =
    let fitted = c.in_ok-fitted.fitted in
    let one = found c.args.texts.now c.args.active.now c.args.at c.args.rest.now fitted
    (sym c.first_fit.ensures.fit ∙ c.in_ok-fitted.was) in
    ap (λ p. slice_set c.args.active.now fitted.number p)
    (c.passed.ensures ∙ ap (progress_after fitted.progress fitted.progress.entry.fit) (sym one.place))

pub returns-clause-fitted : goal.returns-clause-fitted
returns-clause-fitted c =
    fitted_is c.args.texts.now c.args.active.now c.args.at c.args.rest.now c.in_ok-fitted.fitted c.requires.within
    c.requires.rest (sym c.first_fit.ensures.fit ∙ c.in_ok-fitted.was)

pub returns-clause-within : goal.returns-clause-within
returns-clause-within c =
    let fitted = c.in_ok-fitted.fitted in
    let is-first = sym c.first_fit.ensures.fit ∙ c.in_ok-fitted.was in
    let one = found c.args.texts.now c.args.active.now c.args.at c.args.rest.now fitted is-first in
    let is = fitted_is c.args.texts.now c.args.active.now c.args.at c.args.rest.now fitted c.requires.within
    c.requires.rest is-first in
    let same : slice_set c.args.active.now fitted.number c.passed.result ≡ walk_after c.args.active.now (Some fitted) =
    ap (λ p. slice_set c.args.active.now fitted.number p)
    (c.passed.ensures ∙ ap (progress_after fitted.progress fitted.progress.entry.fit) (sym one.place)) in
    let P : List Progress → Type 0 = λ xs. AreActive xs (length c.args.texts.now) in
    subst P (sym same) (still_active c.args.texts.now c.args.active.now fitted c.requires.within is.entry)

pub returns-clause-entries : goal.returns-clause-entries
returns-clause-entries c =
    let fitted = c.in_ok-fitted.fitted in
    let one = found c.args.texts.now c.args.active.now c.args.at c.args.rest.now fitted
    (sym c.first_fit.ensures.fit ∙ c.in_ok-fitted.was) in
    let stays : c.passed.result.entry ≡ fitted.progress.entry =
    ap (λ (p : Progress). p.entry) c.passed.ensures ∙ entry_stays fitted.progress fitted.progress.entry.fit c.args.at in
    entries_stay c.args.active.now fitted.number c.passed.result (λ d. ap (λ (p : Progress). p.entry) (one.progress d)
    ∙ sym stays)
