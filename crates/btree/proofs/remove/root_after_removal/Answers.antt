use Rattle.std.proofs.Common.{sym, ◌∙◌, subst}
use Rattle.std.proofs.lemmas.Result.{IfOk-weaker}
use Rattle.btree.specs.declared.removal_outcome.RemovalOutcome.{RemovalOutcome}
use Rattle.btree.specs.Changes.{pages_of_map}
use Rattle.btree.specs.Shrinks.{IsShrunkRoot, NeverIsShrunkRoot}
use Rattle.btree.proofs.Collapsing.{settle_kept, settle_renamed, settle_gone, settle_lone, settle_leaf, never_settles}
use Rattle.btree.proofs.remove.root_after_removal.Goals as goal

pub returns-in-Kept-clause-settles : goal.returns-in-Kept-clause-settles
returns-in-Kept-clause-settles c = λ image layout.
    let now = pages_of_map c.args.pages.now image in
    subst (λ (outcome : RemovalOutcome). IsShrunkRoot layout c.args.root outcome now now c.args.root) (sym c.in-Kept.is)
    (settle_kept layout c.args.root now)

pub returns-in-Renamed-clause-settles : goal.returns-in-Renamed-clause-settles
returns-in-Renamed-clause-settles c = λ image layout.
    let now = pages_of_map c.args.pages.now image in
    subst (λ (outcome : RemovalOutcome). IsShrunkRoot layout c.args.root outcome now now c.args.root)
    (sym c.in-Renamed.is) (settle_renamed layout c.args.root now c.in-Renamed._child)

pub returns-in-Gone-clause-settles : goal.returns-in-Gone-clause-settles
returns-in-Gone-clause-settles c = λ image layout.
    let now = pages_of_map c.args.pages.now image in
    subst (λ (outcome : RemovalOutcome). IsShrunkRoot layout c.args.root outcome now now 0) (sym c.in-Gone.is)
    (settle_gone layout c.args.root now)

pub returns-in-Leaf-clause-settles : goal.returns-in-Leaf-clause-settles
returns-in-Leaf-clause-settles c =
    IfOk-weaker c.keep_leaf.result _ _
    (λ new stays image layout.
    let before = pages_of_map c.args.pages.now image in
    let after = pages_of_map c.keep_leaf.new.pages image in
    subst (λ (outcome : RemovalOutcome). IsShrunkRoot layout c.args.root outcome before after new)
    (sym c.in-Underfull.is) (settle_leaf layout c.args.root before after c.in-Underfull.child new
    (sym c.kind.ensures ∙ c.in-Leaf.is) (stays image)))
    c.keep_leaf.ensures.stays

pub returns-in-Leaf-clause-damaged : goal.returns-in-Leaf-clause-damaged
returns-in-Leaf-clause-damaged c = λ is image layout.
    let before = pages_of_map c.args.pages.now image in
    subst (λ (outcome : RemovalOutcome). NeverIsShrunkRoot layout c.args.root outcome before) (sym c.in-Underfull.is)
    (never_settles layout c.args.root before c.in-Underfull.child (c.keep_leaf.ensures.damaged is image))

pub returns-in-Inner-clause-settles : goal.returns-in-Inner-clause-settles
returns-in-Inner-clause-settles c =
    IfOk-weaker c.collapse_root.result _ _
    (λ new gives image layout.
    let before = pages_of_map c.args.pages.now image in
    let after = pages_of_map c.collapse_root.new.pages image in
    subst (λ (outcome : RemovalOutcome). IsShrunkRoot layout c.args.root outcome before after new)
    (sym c.in-Underfull.is) (settle_lone layout c.args.root before after c.in-Underfull.child new
    (sym c.kind.ensures ∙ c.in-Inner.is) (gives image)))
    c.collapse_root.ensures.gives

pub returns-in-Inner-clause-damaged : goal.returns-in-Inner-clause-damaged
returns-in-Inner-clause-damaged c = λ is image layout.
    let before = pages_of_map c.args.pages.now image in
    subst (λ (outcome : RemovalOutcome). NeverIsShrunkRoot layout c.args.root outcome before) (sym c.in-Underfull.is)
    (never_settles layout c.args.root before c.in-Underfull.child (c.collapse_root.ensures.damaged is image))
