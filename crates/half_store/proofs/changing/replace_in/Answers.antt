use Rattle.std.proofs.lemmas.List.{get_or_read}
use Rattle.records.specs.Files.{File}
use Rattle.records.specs.Changes.{replacement}
use Rattle.half_store.proofs.Placed.{is_found_at, row_becomes_in}
use Rattle.half_store.proofs.changing.replace_in.Goals as goal

pub returns-in-Some-clause-becomes : goal.returns-in-Some-clause-becomes
returns-in-Some-clause-becomes c = λ held has are.
    let old = c.index_mut.result.now in
    let files = c.args.files.now.items in
    let at = is_found_at files c.args.spec.now c.in-Some.place old c.deref.ensures.value c.deref-2.ensures.value
    c.in-Some.ensures.bound (λ lt. get_or_read files c.in-Some.place old lt c.index_mut.ensures.value old)
    (c.in-Some.ensures.found old) in
    row_becomes_in (λ (f : File). replacement c.args.number c.args.bytes.now f) at has are
    (λ ascend same. c.replace_row.ensures.becomes ascend)
