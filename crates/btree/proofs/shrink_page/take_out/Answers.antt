use Rattle.std.proofs.Common.{◌+◌, drop}
use Rattle.std.proofs.lemmas.Result.{IfOk-weaker}
use Rattle.btree_pages.specs.declared.row_layout.Kind.TheVariants.{Leaf}
use Rattle.btree.specs.Changes.{pages_of_map}
use Rattle.btree.proofs.Lessening.{front_fares, removed_rows}
use Rattle.btree.proofs.shrink_page.take_out.Goals as goal

pub returns-clause-pages : goal.returns-clause-pages
returns-clause-pages c =
    let leaf = c.args.leaf in
    IfOk-weaker c.write_back.result _ _ (λ outcome put. λ image can.
    front_fares (pages_of_map c.args.pages.now image) (pages_of_map c.write_back.new.pages image) c.args.page
    c.args.place leaf c.remove.new.self (drop (c.args.place + 1) leaf.rows) Leaf outcome
    (removed_rows leaf c.remove.new.self c.args.place c.remove.ensures) c.requires.leaf c.requires.place
    (put image leaf.rows can.is_in)) c.write_back.ensures.pages
