use Rattle.std.proofs.Common.{◌≡◌, sym, subst, ◌∙◌}
use Rattle.std.specs.Prelude.{Some, Result, Err, OnErr}
use Rattle.pages.specs.Pages.{is_spent}
use Rattle.pages.specs.declared.error.PagesError.{PagesError}
use Rattle.pages.specs.declared.error.PagesError.TheVariants.{Damaged}
use Rattle.btree_pages.specs.Node.{Node, node_in}
use Rattle.btree.specs.Reading.{SpellsNoNode}
use Rattle.btree.proofs.PageReads.{after_reading, from_bytes, from_error, from_memory, from_nothing, never_none}
use Rattle.btree.proofs.PageReads.{page_refused}
use Rattle.btree.proofs.Passing.{damaged_alone, damaged_is_read, never_ok, sectors_on, spent_exactly}
use Rattle.btree.proofs.TreeNodes.{node_seen}
use Rattle.btree.proofs.node.node_loaded.Goals as goal

pub returns-in_err-load-clause-reads : goal.returns-in_err-load-clause-reads
returns-in_err-load-clause-reads g c =
    let load = c.in_err-load.ensures in
    let e = c.in_err-load.field-0.0 in
    from_error g.D.Device c.args.layout c.args.unloaded _ _ c.args.pages.now c.load.new.self c.args.device.now
    c.load.new.device c.from_residual.result e c.from_residual.ensures.1 load.only load.unchanged load.agrees
    load.spent load.cause (page_refused e load.cause)

pub returns-in-Some-clause-reads : goal.returns-in-Some-clause-reads
returns-in-Some-clause-reads g c =
    let load = c.in_ok-load.ensures in
    let bytes = c.in-Some.bytes.now in
    after_reading g.D.Device _ c.args.layout c.args.unloaded _ _ _ _ c.load.new.self _ _ c.load.new.device
    c.copy_node.result load.only load.unchanged load.agrees (from_memory g.D.Device c.args.layout c.args.unloaded _ _
    (λ node. node_in c.args.layout bytes ≡ Some node) c.load.new.self c.load.new.device bytes c.copy_node.result
    c.in-Some.ensures.page (λ pages here node is. node_seen c.args.layout pages c.args.unloaded bytes here ∙ is)
    c.copy_node.ensures.node (λ is. subst (λ (r : Result Node PagesError). OnErr r (SpellsNoNode c.args.layout bytes))
    is c.copy_node.ensures.damaged) (λ is. damaged_alone c.copy_node.result c.copy_node.ensures.cause is)
    (spent_exactly c.copy_node.result (is_spent c.load.new.self) c.copy_node.ensures.cause (λ was. never_none
    (c.in-Some.ensures.spent was))) (damaged_is_read c.copy_node.result c.copy_node.ensures.cause))

pub returns-in_err-bytes-clause-reads : goal.returns-in_err-bytes-clause-reads
returns-in_err-bytes-clause-reads g c =
    let load = c.in_ok-load.ensures in
    let read = c.in_err-bytes.ensures in
    let e = c.in_err-bytes.field-0.0 in
    after_reading g.D.Device _ c.args.layout c.args.unloaded _ _ _ _ c.read.new.self _ _ c.read.new.device
    c.from_residual-in_err-bytes.result load.only load.unchanged load.agrees (from_error g.D.Device c.args.layout
    c.args.unloaded _ _ c.load.new.self c.read.new.self c.load.new.device c.read.new.device
    c.from_residual-in_err-bytes.result e c.from_residual-in_err-bytes.ensures.1 read.only read.unchanged read.agrees
    read.spent read.cause (page_refused e read.cause))

pub returns-in-Some-2-clause-reads : goal.returns-in-Some-2-clause-reads
returns-in-Some-2-clause-reads g c =
    let load = c.in_ok-load.ensures in
    let read = c.in_ok-bytes.ensures in
    let bytes = c.in-Some-2.bytes in
    after_reading g.D.Device _ c.args.layout c.args.unloaded _ _ _ _ c.read.new.self _ _ c.read.new.device
    c.copy_node-in-Some-2.result load.only load.unchanged load.agrees (from_bytes g.D.Device _ c.args.layout
    c.args.unloaded _ _ (λ node. node_in c.args.layout bytes ≡ Some node) _ _ _ _ bytes c.copy_node-in-Some-2.result
    read.only read.unchanged read.agrees (λ honest agrees. sym (read.page honest agrees) ∙ c.in-Some-2.is)
    (λ pages here node is. node_seen c.args.layout pages c.args.unloaded bytes here ∙ is)
    c.copy_node-in-Some-2.ensures.node (λ is. subst (λ (r : Result Node PagesError). OnErr r (SpellsNoNode
    c.args.layout bytes)) is c.copy_node-in-Some-2.ensures.damaged) (λ is. damaged_alone c.copy_node-in-Some-2.result
    c.copy_node-in-Some-2.ensures.cause is) (spent_exactly c.copy_node-in-Some-2.result (is_spent c.load.new.self)
    c.copy_node-in-Some-2.ensures.cause (λ was. never_ok (read.spent.1 was))) (damaged_is_read
    c.copy_node-in-Some-2.result c.copy_node-in-Some-2.ensures.cause))

pub returns-in-None-clause-reads : goal.returns-in-None-clause-reads
returns-in-None-clause-reads g c =
    let load = c.in_ok-load.ensures in
    let read = c.in_ok-bytes.ensures in
    after_reading g.D.Device _ c.args.layout c.args.unloaded _ _ _ _ c.read.new.self _ _ c.read.new.device
    (Err Damaged) load.only load.unchanged load.agrees (from_nothing g.D.Device _ c.args.layout c.args.unloaded _ _
    c.load.new.self c.read.new.self c.load.new.device c.read.new.device read.only read.unchanged read.agrees
    (λ honest agrees. sym c.in-None.is ∙ read.page honest agrees) (λ was. never_ok (read.spent.1 was)) tt)

pub read-requires : goal.read-requires
read-requires g c = record {
  sectors = sectors_on c.args.pages.now c.load.new.self _ _ c.in_ok-load.ensures.unchanged.committed.volume
      c.in_ok-load.ensures.only.sectors c.requires.sectors;
}
