use Rattle.std.proofs.Common.{subst}
use Rattle.std.proofs.lemmas.List.{get_or_read}
use Rattle.records.specs.Files.{File}
use Rattle.records.specs.Changes.{removal}
use Rattle.records.specs.declared.file_spec.Organization.{Organization}
use Rattle.records.specs.Stores.{pair_of}
use Rattle.file_bytes.specs.Stored.{file_of}
use Rattle.half_store.specs.Changing.{Becomes}
use Rattle.half_store.proofs.Placed.{is_found_at, row_becomes_in}
use Rattle.half_store.proofs.changing.remove_in.Goals as goal

pub returns-in-Some-clause-becomes : goal.returns-in-Some-clause-becomes
returns-in-Some-clause-becomes c = λ held has are.
    let old = c.index_mut.result.now in
    let files = c.args.files.now.items in
    let at = is_found_at files c.args.spec.now c.in-Some.place old c.deref.ensures.value c.deref-2.ensures.value
    c.in-Some.ensures.bound (λ lt. get_or_read files c.in-Some.place old lt c.index_mut.ensures.value old)
    (c.in-Some.ensures.found old) in
    row_becomes_in (λ (f : File). removal (pair_of c.args.spec.now.organization c.args.key.now c.args.number) f) at has
    are
    (λ ascend same.
    subst (λ (o : Organization). Becomes c.remove_row.result (removal (pair_of o c.args.key.now c.args.number)
    (file_of old)) old c.remove_row.new.file) same (c.remove_row.ensures.becomes ascend))
