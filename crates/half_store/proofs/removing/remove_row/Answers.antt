use Rattle.std.proofs.Common.{◌≡◌, List, get_or, refl, sym, subst}
use Rattle.file_bytes.specs.declared.stored.StoredRow.{StoredRow}
use Rattle.half_store.proofs.Replaced.{is_seen, removed_becomes}
use Rattle.half_store.proofs.removing.remove_row.Goals as goal

pub returns-in-Some-clause-becomes : goal.returns-in-Some-clause-becomes
returns-in-Some-clause-becomes c = λ ascend.
    let old = c.remove.result in
    let is = is_seen c.args.file.now c.in-Some.place old c.deref.ensures.value refl c.in-Some.ensures.bound
    (subst (λ (l : List StoredRow). old ≡ get_or l c.in-Some.place old) (sym c.deref.ensures.value)
    c.remove.ensures.value) (c.in-Some.ensures.found old) in
    removed_becomes is ascend c.remove.new.self c.remove.ensures.items
