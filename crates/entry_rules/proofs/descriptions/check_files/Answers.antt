use Rattle.std.proofs.Common.{◌≡◌, ◌≤◌, ◌++◌, ℕ, List, [], ◌∷◌, length, take, Some, sym, ap, subst, ◌∙◌, arith}
use Rattle.std.specs.Prelude.{map}
use Rattle.std.proofs.lemmas.List.{drop_all, map_more, take_all}
use Rattle.std.proofs.lemmas.Result.{err_from_is_err_and}
use Rattle.source_tree.specs.declared.select.FileDescription.{FileDescription}
use Rattle.source_tree.specs.Broken.{each}
use Rattle.source_tree.specs.EntryRules.{most_entries}
use Rattle.source_tree.specs.FileRules.{description_rules, record_storage_rules}
use Rattle.source_tree.specs.LookUp.{first}
use Rattle.entry_rules.specs.Checks.{broken_of, fault_of}
use Rattle.entry_rules.specs.RecordAreas.{length_of}
use Rattle.entry_rules.proofs.Firsts.{same_front, same_back, front_back, none_first}
use Rattle.entry_rules.proofs.Firsts.{each_first, each_next, each_none}
use Rattle.entry_rules.proofs.FileEntries.{entries_within, added_next, added_all}
use Rattle.entry_rules.proofs.descriptions.check_files.Goals as goal

pub check_description-requires : goal.check_description-requires
check_description-requires c =
    let within = entries_within c.args.descriptions.now c.loop-one.one-index c.one-item.result c.loop-one-test.true in
    record {
      few = subst (λ (one : FileDescription). length one.entries ≤ most_entries) (sym c.one-item.is)
          (omega (arith, within, c.requires.few));
    }

pub returns-in_err-bytes-clause-rules : goal.returns-in_err-bytes-clause-rules
returns-in_err-bytes-clause-rules c =
    let p = err_from_is_err_and c.from_residual.result c.from_residual.ensures.1 in
    let all = c.args.descriptions.now in
    let fault = fault_of c.in_err-bytes.field-0.0 in
    rw (p.1, p.2) (same_front fault (each description_rules all) (record_storage_rules c.args.storage all)
    (each_first description_rules all c.loop-one.one-index c.one-item.result (each description_rules all) fault
    c.loop-one-test.true c.one-item.is c.loop-one.invariant.rules c.in_err-bytes.ensures.rules))

pub returns-in_err-push : goal.returns-in_err-push
returns-in_err-push c =
    let p = err_from_is_err_and c.from_residual-in_err-push.result c.from_residual-in_err-push.ensures.1 in
    rw (p.1, p.2) (record { rules = tt; lengths = tt })

pub loop-one-preserved : goal.loop-one-preserved
loop-one-preserved c =
    let all = c.args.descriptions.now in
    let i = c.loop-one.one-index in let one = c.one-item.result in
    let before = c.loop-one.invariant in
    let length_is = c.in_ok-bytes.ensures.bytes ∙ ap length_of c.one-item.is in
    record {
      rules = each_next description_rules all i one (each description_rules all) c.loop-one-test.true before.rules
          (subst (λ (x : FileDescription). description_rules x ≡ []) c.one-item.is c.in_ok-bytes.ensures.rules);
      lengths = c.in_ok-push.ensures.items ∙ ap (λ (ns : List ℕ). ns ++ c.in_ok-bytes.bytes ∷ []) before.lengths
          ∙ ap (λ (n : ℕ). map length_of (take i all) ++ n ∷ []) length_is
          ∙ sym (map_more length_of all i one c.loop-one-test.true);
      areas = added_next c.with-areas.result one c.in_ok-bytes.bytes c.loop-one-test.true c.one-item.is before.areas
          c.in_ok-bytes.ensures.bytes c.with-areas.ensures;
    }

pub returns-in_err-rules-clause-rules : goal.returns-in_err-rules-clause-rules
returns-in_err-rules-clause-rules c =
    let p = err_from_is_err_and c.from_residual-in_err-rules.result c.from_residual-in_err-rules.ensures.1 in
    let all = c.args.descriptions.now in
    let i = c.loop-one.one-index in
    let past = c.loop-one-test.false in
    let before = c.loop-one.invariant in
    rw (p.1, p.2) (same_back (Some (broken_of c.in_err-rules.field-0.0)) (each description_rules all)
    (record_storage_rules c.args.storage all) (each_none description_rules all i _ past before.rules)
    (added_all (drop_all i all past) before.areas ∙ c.in_err-rules.ensures))

pub returns : goal.returns
returns c =
    let all = c.args.descriptions.now in
    let i = c.loop-one.one-index in
    let past = c.loop-one-test.false in
    let before = c.loop-one.invariant in
    record {
      rules = front_back (each description_rules all) (record_storage_rules c.args.storage all)
          (each_none description_rules all i _ past before.rules)
          (none_first (record_storage_rules c.args.storage all)
          (added_all (drop_all i all past) before.areas ∙ ap first c.in_ok-rules.ensures));
      lengths = before.lengths ∙ ap (map length_of) (take_all i all past);
    }
