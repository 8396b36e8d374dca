use Rattle.std.proofs.Common.{◌≡◌, ◌<◌, length, true, subst, Option}
use Rattle.std.specs.Prelude.{IfSome}
use Rattle.std.proofs.lemmas.Option.{slice_get_within}
use Rattle.source_tree.specs.FileRules.{is_unsigned_integer}
use Rattle.data_instructions.specs.declared.index.ItemIndex.{ItemIndex}
use Rattle.data_instructions.specs.declared.tables.DataItem.{DataItem}
use Rattle.data_machine.proofs.Inspects.{entry_read}
use Rattle.machine.specs.Filing.{FindsNumber}
use Rattle.machine.proofs.Stored.{low_number_stored, other_test, item_found, item_stands}
use Rattle.machine.proofs.file_statement.put_relative_number.Goals as goal

pub returns-then-old-new-clause-stores : goal.returns-then-old-new-clause-stores
returns-then-old-new-clause-stores c =
    let index = c.in-Some.item in
    let one = c.index-as_slice-item.result in
    let found = subst (λ (o : Option ItemIndex). IfSome o (FindsNumber c.args.tables.now c.args.areas.now)) c.in-Some.is
    c.requires in
    let within : index.number < length c.args.tables.now.items =
    slice_get_within c.args.tables.now.items index.number found.found.one found.found.here in
    low_number_stored c.args.tables.now c.args.item index one c.args.old c.args.new c.args.areas.now
    c.put_number.new.self c.in-Some.is
    (entry_read c.as_slice.result.now c.args.tables.now.items index.number one c.as_slice.ensures within
    c.index-as_slice-item.is)
    (other_test c.args.old c.args.new c.if-old-new.true) c.put_number.ensures.stores

pub put_number-requires-clause-stands : goal.put_number-requires-clause-stands
put_number-requires-clause-stands c =
    let found = subst (λ (o : Option ItemIndex). IfSome o (FindsNumber c.args.tables.now c.args.areas.now)) c.in-Some.is
    c.requires in
    item_stands c.args.tables.now c.args.areas.now c.in-Some.item c.as_slice.result.now c.index-as_slice-item.result
    c.as_slice.ensures found.found c.index-as_slice-item.is

pub put_number-requires-clause-kind : goal.put_number-requires-clause-kind
put_number-requires-clause-kind c =
    let found = subst (λ (o : Option ItemIndex). IfSome o (FindsNumber c.args.tables.now c.args.areas.now)) c.in-Some.is
    c.requires in
    let is = item_found c.args.tables.now c.args.areas.now c.in-Some.item c.as_slice.result.now
    c.index-as_slice-item.result
    c.as_slice.ensures found.found c.index-as_slice-item.is in
    subst (λ (d : DataItem). is_unsigned_integer d.item.kind ≡ true) is found.kind
