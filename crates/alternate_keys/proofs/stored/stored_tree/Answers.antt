use Rattle.std.proofs.Common.{◌≡◌, true, false, sym, subst, ◌∙◌}
use Rattle.btree_pages.specs.declared.row_layout.RowLayout.{RowLayout}
use Rattle.btree_pages.specs.RowLayouts.{IsRowLayout}
use Rattle.volume_format.proofs.Small.{layouts_fit}
use Rattle.alternate_keys.proofs.stored.stored_tree.Goals as goal

pub returns-then-not-is_possible-clause-damaged : goal.returns-then-not-is_possible-clause-damaged
returns-then-not-is_possible-clause-damaged c = λ l spec says within is.
    let possible : IsRowLayout c.stored_layout-layout.result = subst (λ (x : RowLayout). IsRowLayout x)
    (sym (c.stored_layout-layout.ensures l spec says within)) (layouts_fit l.spec c.args.key spec within) in
    let told = c.is_possible.ensures.1 possible in
    let clash : true ≡ false = sym told ∙ c.if-not-is_possible.true in
    cc
