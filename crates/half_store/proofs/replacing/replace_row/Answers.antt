use Rattle.half_store.proofs.Replaced.{is_seen, taken_becomes, row_becomes}
use Rattle.half_store.proofs.replacing.replace_row.Goals as goal

pub returns-then-has_other_taken-clause-becomes : goal.returns-then-has_other_taken-clause-becomes
returns-then-has_other_taken-clause-becomes c = λ ascend.
    let is = is_seen c.args.file.now c.in-Some.place c.index-rows-place.result c.as_slice-rows.ensures.value
    (c.prime_key-prime.ensures c.args.number) c.in-Some.ensures.bound c.index-rows-place.is
    (c.in-Some.ensures.found c.index-rows-place.result) in
    taken_becomes c.args.number c.args.bytes.now is c.as_slice-before.ensures.value c.as_slice-keys.ensures.value
    (c.prime_key-prime.ensures c.args.number)
    c.as_slice-rows.ensures.value c.has_other_taken.ensures c.if-has_other_taken.true

pub returns-clause-becomes : goal.returns-clause-becomes
returns-clause-becomes c = λ ascend.
    let is = is_seen c.args.file.now c.in-Some.place c.index-rows-place.result c.as_slice-rows.ensures.value
    (c.prime_key-prime.ensures c.args.number) c.in-Some.ensures.bound c.index-rows-place.is
    (c.in-Some.ensures.found c.index-rows-place.result) in
    row_becomes c.args.number c.args.bytes.now is c.as_slice-before.ensures.value c.as_slice-keys.ensures.value
    (c.prime_key-prime.ensures c.args.number)
    c.as_slice-rows.ensures.value c.has_other_taken.ensures c.in_ok-row.row ascend c.if-has_other_taken.false
    c.has_other_duplicate-duplicate.ensures c.outcome_of.ensures c.is_any_changed-changed.ensures
    c.next_after-file.ensures c.in_ok-row.ensures.row
