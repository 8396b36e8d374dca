use Rattle.std.proofs.Common.{◌<◌, ◌^◌, length, ap, arith}
use Rattle.std.specs.Prelude.{Ok}
use Rattle.std.proofs.lemmas.List.{length-drop}
use Rattle.half_store.proofs.ReadFile.{front, long}
use Rattle.half_store.proofs.Rested.{from_none, is_none, read_some, if_some, rows_there, file_is, end_is}
use Rattle.half_store.proofs.reading.read_file.Goals as goal

pub returns-then-bytes-at-lt-HEAD_BYTES-clause-file : goal.returns-then-bytes-at-lt-HEAD_BYTES-clause-file
returns-then-bytes-at-lt-HEAD_BYTES-clause-file c = λ one more good is.
    let e = long one more _ good is in
    omega (arith, e, length-drop c.args.at c.args.bytes.now, c.if-bytes-at-lt-HEAD_BYTES.true)

pub returns-in_default-clause-file : goal.returns-in_default-clause-file
returns-in_default-clause-file c = λ one more good is.
    from_none c.in_ok-spec.field-0 _ c.in_default.not-Some
    (c.in_ok-spec.ensures.spec one.name one.file.spec _ good.named.name good.named.file.spec (front one more _ good is))

pub returns-in_default-2-clause-file : goal.returns-in_default-2-clause-file
returns-in_default-2-clause-file c = λ one more good is.
    let bytes = c.args.bytes.now in
    let few : length bytes < 2 ^ 64 = omega arith in
    let told = read_some c.in_ok-spec.field-0 c.in-Some.spec _ c.in-Some.is (c.in_ok-spec.ensures.spec one.name
    one.file.spec _ good.named.name good.named.file.spec (front one more _ good is)) in
    rows_there bytes c.args.at one more good is few c.in-Some.spec told c.number_at-count.result
    c.number_at-count.ensures
    (c.in_ok-found.ensures.none (ap (λ o. Ok o) (is_none c.in_ok-found.field-0 c.in_default-2.not-Some)))

pub returns-clause-file : goal.returns-clause-file
returns-clause-file c = λ one more good is.
    let bytes = c.args.bytes.now in
    let few : length bytes < 2 ^ 64 = omega arith in
    let count = c.number_at-count.result in
    let told = read_some c.in_ok-spec.field-0 c.in-Some.spec _ c.in-Some.is (c.in_ok-spec.ensures.spec one.name
    one.file.spec _ good.named.name good.named.file.spec (front one more _ good is)) in
    let rows = if_some c.in_ok-found.field-0 c.in-Some-2.found _ c.in-Some-2.is c.in_ok-found.ensures.rows in
    let end = if_some c.in_ok-found.field-0 c.in-Some-2.found _ c.in-Some-2.is c.in_ok-found.ensures.end in (
      file_is bytes c.args.at one more good is few c.in-Some.spec told count c.number_at-count.ensures
          c.in-Some-2.found.rows.items c.number_at-next_arrival.result rows c.number_at-next_arrival.ensures,
      end_is bytes c.args.at one more good is few c.in-Some.spec told count c.number_at-count.ensures
          c.in-Some-2.found.end end.0,
    )
