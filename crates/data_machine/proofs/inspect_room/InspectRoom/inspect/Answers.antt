use Rattle.std.proofs.Common.{◌≡◌, ℕ, List, length, map, sym, ap, subst, ◌∙◌, arith}
use Rattle.std.proofs.lemmas.Grind.{common_steps}
use Rattle.std.specs.Prelude.{reverse, slice_index}
use Rattle.std.proofs.lemmas.List.{length-map, with_items_is}
use Rattle.text_ops.specs.declared.entry.Entry.{Entry}
use Rattle.text_ops.specs.Entries.{AreWithin}
use Rattle.text_ops.specs.Inspect.{tally}
use Rattle.data_instructions.specs.Table.{measured_by}
use Rattle.data_machine.proofs.TextLengths.{measured_within}
use Rattle.data_machine.proofs.inspect_room.InspectRoom.inspect.Goals as goal

pub count_each-requires-clause-within : goal.count_each-requires-clause-within
count_each-requires-clause-within c =
    let one = c.args.one.now in
    let found = reverse c.args.numbers.now in
    subst (λ (xs : List Entry). AreWithin xs (length c.args.texts.now))
    (sym (c.measured-tallying.ensures ∙ ap (map (measured_by found)) c.as_slice-tallying.ensures))
    (subst (AreWithin (map (measured_by found) one.tallying)) (sym c.requires.size)
    (measured_within found one.tallying one.size c.requires.form.tallying))

pub replace-requires-clause-within : goal.replace-requires-clause-within
replace-requires-clause-within c =
    let one = c.args.one.now in
    let found = reverse c.args.numbers.now in
    subst (λ (xs : List Entry). AreWithin xs (length c.args.texts.now))
    (sym (c.measured-replacing.ensures ∙ ap (map (measured_by found)) c.as_slice-replacing.ensures))
    (subst (AreWithin (map (measured_by found) one.replacing)) (sym c.requires.size)
    (measured_within found one.replacing one.size c.requires.form.replacing))

pub returns-clause-counts : goal.returns-clause-counts
returns-clause-counts c = λ k h.
    let found = reverse c.args.numbers.now in
    let entries_are = c.measured-tallying.ensures ∙ ap (map (measured_by found)) c.as_slice-tallying.ensures in
    let long : length c.measured-tallying.result.now ≡ length c.args.one.now.tallying =
    ap (λ (xs : List Entry). length xs) entries_are ∙ length-map c.args.one.now.tallying (measured_by found) in
    ap (λ (xs : List ℕ). slice_index xs k) (with_items_is c.args.self.now.counts c.count_each.new.counts
    (c.count_each.auto.counts ∙ c.as_mut_slice-2.ensures.len))
    ∙ c.count_each.ensures k (omega (arith, long, h))
    ∙ ap (λ (xs : List Entry). tally c.args.texts.now xs c.args.subject.now k) entries_are

pub returns-clause-room : goal.returns-clause-room
returns-clause-room c = grind (arith, common_steps)

pub replace-requires-clause-progress : goal.replace-requires-clause-progress
replace-requires-clause-progress c = grind (arith, common_steps)

pub measured-replacing-requires-clause-value : goal.measured-replacing-requires-clause-value
measured-replacing-requires-clause-value c = grind (arith, common_steps)

pub returns-clause-size : goal.returns-clause-size
returns-clause-size c = grind (arith, common_steps)

pub append-requires : goal.append-requires
append-requires c = grind (arith, common_steps)

pub count_each-requires-clause-progress : goal.count_each-requires-clause-progress
count_each-requires-clause-progress c = grind (arith, common_steps)

pub count_each-requires-clause-counts : goal.count_each-requires-clause-counts
count_each-requires-clause-counts c = grind (arith, common_steps)
