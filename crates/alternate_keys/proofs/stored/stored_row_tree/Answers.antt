use Rattle.std.proofs.Common.{◌≡◌, ℕ, List, true, false, drop, sym, ap, subst, ◌∙◌, arith}
use Rattle.std.specs.Prelude.{nat_lt, if◌then◌else◌}
use Rattle.byteorder.specs.Endian.{big_number}
use Rattle.btree_pages.specs.declared.row_layout.RowLayout.{RowLayout}
use Rattle.btree_pages.specs.RowLayouts.{IsRowLayout}
use Rattle.records.specs.declared.key.KeyOfReference.TheVariants.{Prime}
use Rattle.row_trees.specs.RowTree.{FitsForm}
use Rattle.volume_format.proofs.Small.{layouts_fit}
use Rattle.alternate_keys.proofs.Heads.{record_at}
use Rattle.alternate_keys.proofs.stored.stored_row_tree.Goals as goal

pub returns-then-not-is_possible-clause-damaged : goal.returns-then-not-is_possible-clause-damaged
returns-then-not-is_possible-clause-damaged c = λ l spec says is.
    let size =
    c.stored_record-size.ensures ∙ ap (λ (v : List ℕ). big_number 2 (drop 1 v)) says ∙ record_at l spec in
    let possible : IsRowLayout c.stored_row_layout-layout.result = subst (λ (x : RowLayout). IsRowLayout x)
    (sym (c.stored_row_layout-layout.ensures.layout l spec says size)) (layouts_fit l.spec Prime spec (omega arith)) in
    let told = c.is_possible.ensures.1 possible in
    let clash : true ≡ false = sym told ∙ c.if-not-is_possible.true in
    cc

pub new-requires-clause-form : goal.new-requires-clause-form
new-requires-clause-form c = subst (λ (n : ℕ). FitsForm n c.stored_row_layout-layout.result)
    (sym c.chained_part.ensures) c.stored_row_layout-layout.ensures.form

pub returns-clause-tree : goal.returns-clause-tree
returns-clause-tree c = λ l spec says.
    let size =
    c.stored_record-size.ensures ∙ ap (λ (v : List ℕ). big_number 2 (drop 1 v)) says ∙ record_at l spec in (
      c.new.ensures.layout ∙ c.stored_row_layout-layout.ensures.layout l spec says size,
      c.new.ensures.root ∙ c.prime_root-root.ensures,
      c.new.ensures.form ∙ c.chained_part.ensures ∙ ap (λ (n : ℕ). if nat_lt 1000 n then n else 0) size,
    )
