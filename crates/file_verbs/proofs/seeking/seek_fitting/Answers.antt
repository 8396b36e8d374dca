use Rattle.std.proofs.Common.{true, false, sym, ◌∙◌, arith}
use Rattle.records.specs.Stores.{spec_of}
use Rattle.file_verbs.proofs.Calling.{still_reads, reads_on, refused_by_call}
use Rattle.file_verbs.proofs.Told.{is_sought, none_sought, one_sought, no_longer, first_bytes_long}
use Rattle.file_verbs.proofs.seeking.seek_fitting.Goals as goal

pub returns-in_default-clause-found : goal.returns-in_default-clause-found
returns-in_default-clause-found g c = λ files held stands has.
    let comparison = c.args.comparison in
    let sought = is_sought (spec_of c.args.file.now) comparison.key comparison.relation comparison.count
    c.args.bytes.now c.args.number c.args.file.now.sound c.requires.key c.requires.count c.side_for-side.ensures
    c.key_bytes-value.ensures c.number_named-from.ensures in
    none_sought sought held.rows c.seek.new.bytes
    (sym c.in_default.is ∙ c.in_ok-found.ensures.found files held stands has)

pub returns-then-is_fitting-clause-found : goal.returns-then-is_fitting-clause-found
returns-then-is_fitting-clause-found g c = λ files held stands has.
    let comparison = c.args.comparison in
    let sought = is_sought (spec_of c.args.file.now) comparison.key comparison.relation comparison.count
    c.args.bytes.now c.args.number c.args.file.now.sound c.requires.key c.requires.count c.side_for-side.ensures
    c.key_bytes-value.ensures c.number_named-from.ensures in
    one_sought sought held.rows c.args.sought.now c.seek.new.bytes c.in-Some.found true
    (sym c.if-is_fitting.true ∙ c.is_fitting.ensures) c.key_value-row_value.ensures
    (sym c.in-Some.is ∙ c.in_ok-found.ensures.found files held stands has)
    (c.in_ok-found.ensures.bytes files held stands has)

pub returns-else-is_fitting-clause-found : goal.returns-else-is_fitting-clause-found
returns-else-is_fitting-clause-found g c = λ files held stands has.
    let comparison = c.args.comparison in
    let sought = is_sought (spec_of c.args.file.now) comparison.key comparison.relation comparison.count
    c.args.bytes.now c.args.number c.args.file.now.sound c.requires.key c.requires.count c.side_for-side.ensures
    c.key_bytes-value.ensures c.number_named-from.ensures in
    one_sought sought held.rows c.args.sought.now c.seek.new.bytes c.in-Some.found false
    (sym c.if-is_fitting.false ∙ c.is_fitting.ensures) c.key_value-row_value.ensures
    (sym c.in-Some.is ∙ c.in_ok-found.ensures.found files held stands has)
    (c.in_ok-found.ensures.bytes files held stands has)

pub is_fitting-requires : goal.is_fitting-requires
is_fitting-requires g c =
    let comparison = c.args.comparison in
    no_longer (spec_of c.args.file.now) comparison.key comparison.count c.args.bytes.now c.seek.new.bytes
    c.args.file.now.sound c.requires.key c.requires.count c.requires.bytes (c.seek.auto.bytes ∙ c.requires.sought)
    c.key_bytes-value.ensures
    c.key_value-row_value.ensures

pub returns-in_err-found-clause-reads : goal.returns-in_err-found-clause-reads
returns-in_err-found-clause-reads g c =
    still_reads c.seek.ensures.reads c.in_err-found.was c.from_residual.ensures.1

pub returns-in_default-clause-reads : goal.returns-in_default-clause-reads
returns-in_default-clause-reads g c = reads_on c.seek.ensures.reads _

pub returns-then-is_fitting-clause-reads : goal.returns-then-is_fitting-clause-reads
returns-then-is_fitting-clause-reads g c = reads_on c.seek.ensures.reads _

pub returns-else-is_fitting-clause-reads : goal.returns-else-is_fitting-clause-reads
returns-else-is_fitting-clause-reads g c = reads_on c.seek.ensures.reads _

pub returns-in_err-found-clause-damaged : goal.returns-in_err-found-clause-damaged
returns-in_err-found-clause-damaged g c = λ files held stands has is.
    c.seek.ensures.damaged files held stands has (refused_by_call c.in_err-found.was c.from_residual.ensures.1 is)

pub seek-requires-clause-value : goal.seek-requires-clause-value
seek-requires-clause-value g c =
    let comparison = c.args.comparison in
    let long = first_bytes_long (spec_of c.args.file.now) comparison.key comparison.count c.args.bytes.now
    c.args.file.now.sound c.requires.key c.requires.count c.requires.bytes c.key_bytes-value.ensures in
    let short = c.requires.count in
    omega (arith, long, short)

pub key_value-row_value-requires-clause-whole : goal.key_value-row_value-requires-clause-whole
key_value-row_value-requires-clause-whole g c = c.seek.auto.bytes ∙ c.requires.sought
