use Rattle.std.proofs.Common.{subst, Option}
use Rattle.std.specs.Prelude.{IfSome}
use Rattle.data_instructions.specs.declared.index.ItemIndex.{ItemIndex}
use Rattle.machine.specs.Filing.{FindsNumber}
use Rattle.machine.proofs.Stored.{item_here, item_stands, number_read}
use Rattle.machine.proofs.file_statement.relative_number.Goals as goal

pub number-requires : goal.number-requires
number-requires c =
    let found = subst (λ (o : Option ItemIndex). IfSome o (FindsNumber c.args.tables.now c.args.areas.now)) c.in-Some.is
    c.requires in
    item_stands c.args.tables.now c.args.areas.now c.in-Some.item c.as_slice.result.now c.index-as_slice-item.result
    c.as_slice.ensures found.found c.index-as_slice-item.is

pub returns : goal.returns
returns c =
    let found = subst (λ (o : Option ItemIndex). IfSome o (FindsNumber c.args.tables.now c.args.areas.now)) c.in-Some.is
    c.requires in
    number_read c.args.tables.now c.args.item c.in-Some.item c.index-as_slice-item.result c.args.areas.now _
    c.in-Some.is
    (item_here c.args.tables.now c.args.areas.now c.in-Some.item c.as_slice.result.now c.index-as_slice-item.result
    c.as_slice.ensures found.found c.index-as_slice-item.is)
    c.number.ensures
