use Rattle.std.proofs.Common.{List, length, map, sym, ap, subst, ◌∙◌}
use Rattle.std.specs.Prelude.{reverse}
use Rattle.text_ops.specs.declared.entry.Entry.{Entry}
use Rattle.text_ops.specs.Convert.{converted_subject}
use Rattle.text_ops.specs.Entries.{AreWithin}
use Rattle.source_tree.specs.References.{part_of, storage_with}
use Rattle.data_instructions.specs.Table.{measured_by}
use Rattle.data_instructions.specs.Tables.{item_place}
use Rattle.data_machine.proofs.TextLengths.{measured_within}
use Rattle.data_machine.proofs.converting.convert_item.Goals as goal

pub convert-requires-clause-entries : goal.convert-requires-clause-entries
convert-requires-clause-entries c =
    let one = c.args.one.now in
    let found = reverse c.args.numbers.now in
    subst (λ (xs : List Entry). AreWithin xs (length c.args.texts.now))
    (sym (c.measured.ensures ∙ ap (map (measured_by found)) c.as_slice-entries.ensures))
    (subst (AreWithin (map (measured_by found) one.replacing)) (sym c.requires.size)
    (measured_within found one.replacing one.size c.requires.form.replacing))

pub returns-clause-stores : goal.returns-clause-stores
returns-clause-stores c =
    let place = item_place c.args.to.now c.args.offset in
    let areas = c.args.areas.now in
    c.convert.ensures.stores
    ∙ ap (λ (xs : List Entry). storage_with place (converted_subject c.args.texts.now xs (part_of areas place)) areas)
    (c.measured.ensures ∙ ap (map (measured_by (reverse c.args.numbers.now))) c.as_slice-entries.ensures)
