use Rattle.std.proofs.Common.{sym, subst}
use Rattle.std.specs.Prelude.{Option}
use Rattle.btree.specs.declared.split_result.SplitResult.{SplitResult}
use Rattle.btree.specs.Changes.{pages_of_map, IsRootAfter}
use Rattle.btree.proofs.Settling.{settle_same, settle_one, settle_two}
use Rattle.btree.proofs.insert_into_leaf.root_after_split.Goals as goal

pub returns-in-None-clause-settles : goal.returns-in-None-clause-settles
returns-in-None-clause-settles c = λ image.
    let now = pages_of_map c.args.pages.now image in
    subst (λ (told : Option SplitResult). IsRootAfter c.args.layout c.args.root told now now c.args.root)
    (sym c.in-None.is) (settle_same c.args.layout c.args.root now)

pub returns-in_ok-new-in-Some-right-clause-settles : goal.returns-in_ok-new-in-Some-right-clause-settles
returns-in_ok-new-in-Some-right-clause-settles c = λ image.
    let before = pages_of_map c.args.pages.now image in
    let after = pages_of_map c.new_root.new.pages image in
    let new = c.in_ok-new-in-Some-right.new in
    subst (λ (told : Option SplitResult). IsRootAfter c.args.layout c.args.root told before after new)
    (sym c.in-Some.is)
    (settle_two c.args.layout c.args.root before after c.in-Some.split c.in-Some-right.right new c.in-Some-right.is
    (c.in_ok-new-in-Some-right.ensures.pages image))

pub returns-in-None-right-clause-settles : goal.returns-in-None-right-clause-settles
returns-in-None-right-clause-settles c = λ image.
    let now = pages_of_map c.args.pages.now image in
    subst (λ (told : Option SplitResult). IsRootAfter c.args.layout c.args.root told now now c.args.root)
    (sym c.in-Some.is) (settle_one c.args.layout c.args.root now c.in-Some.split c.in-None-right.is)

pub returns-in_err-new-in-Some-right-clause-full : goal.returns-in_err-new-in-Some-right-clause-full
returns-in_err-new-in-Some-right-clause-full c = λ is.
    let told = rw is at c.from_residual.ensures.1 in
    c.in_err-new-in-Some-right.ensures.full (cc told)
