use Rattle.std.proofs.Common.{length, sym, ap, ◌∙◌, arith}
use Rattle.byteorder.specs.Endian.{big_number}
use Rattle.pages.specs.declared.error.PagesError.TheVariants.{Damaged}
use Rattle.btree.specs.Changes.{pages_of_map}
use Rattle.row_trees.specs.RowTree.{ChainedTree}
use Rattle.row_trees.proofs.Passing.{on_ok, err_told}
use Rattle.row_trees.proofs.ReadRows.{short_read, short_has, long_has, long_chain, long_read}
use Rattle.row_trees.proofs.row_tree.RowTree.read_record.Goals as goal

pub returns-then-self-eq0-clause-record : goal.returns-then-self-eq0-clause-record
returns-then-self-eq0-clause-record g c = λ honest agrees size.
    let pages = pages_of_map c.args.pages.now (g.D.Device.state c.args.device.now).disk.present in
    on_ok c.copy_front.result _ _ (short_read c.args.self.now.record_bytes pages c.args.entry.now c.args.into.now
    c.copy_front.new.into c.value-value.result.now
    (sym (ap (λ (t : ChainedTree). t.record_bytes) c.self.view_is) ∙ c.if-self-eq0.true) c.value-value.ensures)
    c.copy_front.ensures.copied

pub returns-then-self-eq0-clause-damaged : goal.returns-then-self-eq0-clause-damaged
returns-then-self-eq0-clause-damaged g c = λ honest agrees told has.
    let pages = pages_of_map c.args.pages.now (g.D.Device.state c.args.device.now).disk.present in
    let n_is = ap (λ (t : ChainedTree). t.record_bytes) c.self.view_is in
    let less = err_told c.copy_front.result Damaged told c.copy_front.ensures.short in
    let most = short_has c.args.self.now.record_bytes pages c.args.entry.now (length c.args.into.now)
    (sym n_is ∙ c.if-self-eq0.true) has in
    let same = ap (λ l. length l) c.value-value.ensures in
    omega (arith, less, most, same)

pub returns-then-is_short-clause-damaged : goal.returns-then-is_short-clause-damaged
returns-then-is_short-clause-damaged g c = λ honest agrees told has.
    let pages = pages_of_map c.args.pages.now (g.D.Device.state c.args.device.now).disk.present in
    let n_is = ap (λ (t : ChainedTree). t.record_bytes) c.self.view_is in
    let some = (long_has c.args.self.now.record_bytes pages c.args.entry.now (length c.args.into.now)
    (λ none. c.if-self-eq0.false (n_is ∙ none)) has).some in
    let same = ap (λ l. length l) c.value-value.ensures in
    let short = c.if-is_short.true in
    omega (arith, some, same, short)

pub returns-clause-damaged : goal.returns-clause-damaged
returns-clause-damaged g c = λ honest agrees told has.
    let pages = pages_of_map c.args.pages.now (g.D.Device.state c.args.device.now).disk.present in
    let n_is = ap (λ (t : ChainedTree). t.record_bytes) c.self.view_is in
    c.read.ensures.damaged honest agrees told
    (long_chain c.args.self.now.record_bytes pages c.args.entry.now (length c.args.into.now) c.first_page.result
    (λ none. c.if-self-eq0.false (n_is ∙ none)) (c.first_page.ensures ∙ ap (big_number 4) c.value-value.ensures) has)

pub returns-clause-record : goal.returns-clause-record
returns-clause-record g c = λ honest agrees size.
    let pages = pages_of_map c.args.pages.now (g.D.Device.state c.args.device.now).disk.present in
    let n_is = ap (λ (t : ChainedTree). t.record_bytes) c.self.view_is in
    let long = c.if-is_short.false in
    let same = ap (λ l. length l) c.value-value.ensures in
    on_ok c.read.result _ _ (long_read c.args.self.now.record_bytes pages c.args.entry.now c.args.into.now
    c.read.new.into c.first_page.result (λ none. c.if-self-eq0.false (n_is ∙ none)) size (omega (arith, long, same))
    (c.first_page.ensures ∙ ap (big_number 4) c.value-value.ensures) c.read.ensures.long)
    (c.read.ensures.record honest agrees)
