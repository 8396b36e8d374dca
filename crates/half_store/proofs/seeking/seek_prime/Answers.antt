use Rattle.std.proofs.Common.{rules, arith}
use Rattle.std.proofs.lemmas.List.Sorted.{IsPartitionPoint-from_clause}
use Rattle.records.specs.Rows.{Pair}
use Rattle.records.specs.Stores.{spec_of}
use Rattle.half_store.proofs.PrimeOrder.{is_before, parted, none_from_point, some_from_point}
use Rattle.half_store.proofs.seeking.seek_prime.Goals as goal

pub returns-then-place-rows-clause-row : goal.returns-then-place-rows-clause-row
returns-then-place-rows-clause-row c = λ ascend d.
    let o = c.args.spec.now.organization in
    let pair : Pair = record { value = c.args.value.now; number = c.args.number } in
    let place = c.partition_point-place.result in
    let point = IsPartitionPoint-from_clause (is_before o c.args.side pair)
    c.args.rows.now place c.partition_point-place.ensures.partitioned (parted o c.args.side pair c.args.rows.now ascend)
    (λ a r q k. search rules) in
    some_from_point (spec_of c.args.spec.now) c.args.side pair c.args.rows.now place ascend point (omega arith) d

pub returns-else-place-rows-clause-row : goal.returns-else-place-rows-clause-row
returns-else-place-rows-clause-row c = λ ascend d.
    let o = c.args.spec.now.organization in
    let pair : Pair = record { value = c.args.value.now; number = c.args.number } in
    let place = c.partition_point-place.result in
    let point = IsPartitionPoint-from_clause (is_before o c.args.side pair)
    c.args.rows.now place c.partition_point-place.ensures.partitioned (parted o c.args.side pair c.args.rows.now ascend)
    (λ a r q k. search rules) in
    none_from_point (spec_of c.args.spec.now) c.args.side pair c.args.rows.now place ascend point (omega arith)
    (omega (arith, c.partition_point-place.ensures.bound))
