use Rattle.std.proofs.Common.{subst, Option}
use Rattle.std.specs.Prelude.{IfSome}
use Rattle.data_instructions.specs.declared.index.ItemIndex.{ItemIndex}
use Rattle.machine.specs.Filing.{FindsStatus}
use Rattle.machine.proofs.Stored.{item_stands}
use Rattle.machine.proofs.file_statement.put_status.Goals as goal

pub pad-requires : goal.pad-requires
pad-requires c =
    let found = subst (λ (o : Option ItemIndex). IfSome o (FindsStatus c.args.tables.now c.args.areas.now)) c.in-Some.is
    c.requires in
    item_stands c.args.tables.now c.args.areas.now c.in-Some.item c.as_slice.result.now c.index-as_slice-item.result
    c.as_slice.ensures found.found c.index-as_slice-item.is
