use Rattle.std.proofs.Common.{rules, ◌≡◌, List, sym, subst}
use Rattle.std.specs.Prelude.{IfOk, OnOk}
use Rattle.std.specs.Option.{option_map}
use Rattle.records.specs.Rows.{Row}
use Rattle.records.specs.Stores.{spec_of, bound_of, record_of}
use Rattle.records.specs.Order.{sought_row, found_row as told}
use Rattle.half_store.proofs.Committed.{held_rows, held_ascend, held_records}
use Rattle.half_store.proofs.store_calls.HalfStoreStore.seek.Goals as goal

pub returns-in-Some-clause-damaged : goal.returns-in-Some-clause-damaged
returns-in-Some-clause-damaged g c = λ files held stands has.
    let rows = held_rows stands.there c.in-Some.place has c.deref.ensures.value c.deref-2.ensures.value c.index.ensures
    (c.in-Some.ensures.found c.index.result.now) c.deref-in-Some.ensures.value in
    let ok = c.seek_in.ensures.sound (held_records stands.there _ has rows c.requires.bytes) in
    search rules

pub returns-in-Some-clause-found : goal.returns-in-Some-clause-found
returns-in-Some-clause-found g c = λ files held stands has.
    let rows = held_rows stands.there c.in-Some.place has c.deref.ensures.value c.deref-2.ensures.value c.index.ensures
    (c.in-Some.ensures.found c.index.result.now) c.deref-in-Some.ensures.value in
    let spec = spec_of c.args.file.now in
    let b = bound_of c.args.bound in
    subst (λ (l : List Row). IfOk c.seek_in.result (λ answer. answer
    ≡ option_map (told spec c.args.key l) (sought_row spec c.args.key b l))) (sym rows)
    (c.seek_in.ensures.found (held_ascend stands.there _ has rows))

pub returns-in-Some-clause-bytes : goal.returns-in-Some-clause-bytes
returns-in-Some-clause-bytes g c = λ files held stands has.
    let rows = held_rows stands.there c.in-Some.place has c.deref.ensures.value c.deref-2.ensures.value c.index.ensures
    (c.in-Some.ensures.found c.index.result.now) c.deref-in-Some.ensures.value in
    let spec = spec_of c.args.file.now in
    let b = bound_of c.args.bound in
    subst (λ (l : List Row). OnOk c.seek_in.result (c.seek_in.new.bytes
    ≡ record_of c.args.bytes.now (sought_row spec c.args.key b l))) (sym rows)
    (c.seek_in.ensures.bytes (held_ascend stands.there _ has rows))
