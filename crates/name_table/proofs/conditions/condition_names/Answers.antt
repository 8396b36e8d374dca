use Rattle.std.proofs.Common.{◌≡◌, ℕ, ◌+◌, ◌++◌, map, length, ap, ◌∙◌, arith}
use Rattle.std.specs.Prelude.{Result, Ok, Err, IfOk}
use Rattle.std.proofs.lemmas.List.{length-map}
use Rattle.source_tree.specs.Records.{program_items}
use Rattle.name_table.specs.Conditions.{pair_of}
use Rattle.name_table.specs.Items.{called_item}
use Rattle.name_table.specs.Passing.{item_count, record_item_count, conditions_after, behind_records}
use Rattle.name_table.specs.Table.{calls_in}
use Rattle.name_table.proofs.ConditionCalls.{items_are_counted, all_told}
use Rattle.name_table.proofs.conditions.condition_names.Goals as goal

pub with_entries-requires-clause-items : goal.with_entries-requires-clause-items
with_entries-requires-clause-items c =
    let program = c.args.program.now in
    let own = ap item_count c.as_slice.ensures in
    let counted = items_are_counted program in
    let mapped = ap length c.requires ∙ length-map (program_items program) called_item in
    omega arith

pub with_records-requires-clause-items : goal.with_records-requires-clause-items
with_records-requires-clause-items c =
    let program = c.args.program.now in
    let own = ap item_count c.as_slice.ensures in
    let records = ap record_item_count c.as_slice-2.ensures in
    let passed = c.in_ok-passed.ensures.items in
    let counted = items_are_counted program in
    let mapped = ap length c.requires ∙ length-map (program_items program) called_item in
    omega arith

first_items : (n : ℕ) → 0 + n ≡ n
first_items n = omega arith

if_both : {A E : Type 0} (r : Result A E) (P Q R : A → Type 0) → ((x : A) → P x → Q x → R x) → IfOk r P → IfOk r Q
    → IfOk r R
if_both (Ok x) P Q R h p q = h x p q
if_both (Err e) P Q R h p q = tt

pub returns : goal.returns
returns c =
    let program = c.args.program.now in
    let calls = calls_in c.args.items.now in
    if_both c.with_records.result _ _ _ (λ all told pairs.
    all_told calls program all c.requires told
    (pairs ∙ ap
    (λ l. l ++ behind_records c.in_ok-passed.passed.items c.as_slice-2.result.now) (c.in_ok-passed.ensures.pairs
    ∙ ap (λ l. l ++ conditions_after 0 0 c.as_slice.result.now) (ap (map pair_of) c.new.ensures.conditions))
    ∙ ap (λ n. conditions_after 0 0 c.as_slice.result.now ++ behind_records n c.as_slice-2.result.now)
    (c.in_ok-passed.ensures.items ∙ first_items (item_count c.as_slice.result.now))
    ∙ ap (λ l. conditions_after 0 0 l ++ behind_records (item_count l) c.as_slice-2.result.now) c.as_slice.ensures
    ∙ ap (λ l. conditions_after 0 0 program.storage ++ behind_records (item_count program.storage) l)
    c.as_slice-2.ensures))
    c.with_records.ensures.told c.with_records.ensures.pairs
