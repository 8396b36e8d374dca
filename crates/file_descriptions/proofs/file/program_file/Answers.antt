use Rattle.std.proofs.Common.{◌≡◌, ap, ◌∙◌}
use Rattle.source_tree.specs.ProgramFiles.{alternates, item_place}
use Rattle.file_descriptions.specs.Descriptions.{described_in}
use Rattle.file_descriptions.specs.Files.{place_at}
use Rattle.file_descriptions.specs.Sources.{data_in, items_in}
use Rattle.file_descriptions.proofs.NumberedItems.{place_numbered}
use Rattle.file_descriptions.proofs.SameFile.{same_file}
use Rattle.file_descriptions.proofs.file.program_file.Goals as goal

pub returns-clause-file : goal.returns-clause-file
returns-clause-file c =
    let items = items_in c.args.source in
    let select = c.args.select.now in
    let relative : place_at items c.clause_number.result ≡ item_place items select.relative_key =
    ap (place_at items) c.clause_number.ensures
    ∙ place_numbered items select.relative_key c.requires.clauses.relative_key in
    let status : place_at items c.clause_number-2.result ≡ item_place items select.status =
    ap (place_at items) c.clause_number-2.ensures ∙ place_numbered items select.status c.requires.clauses.status in
    let keys : c.in_ok-alternates.alternates.items ≡ alternates items select.alternate_keys =
    c.in_ok-alternates.ensures ∙ ap (alternates items) c.as_slice.ensures in
    same_file select c.args.number items (described_in (data_in c.args.source) select.name) c.organization.result
    c.in_ok-alternates.alternates.items c.in_ok-found.found
    (place_at items c.clause_number.result) (place_at items c.clause_number-2.result) c.organization.ensures keys
    c.in_ok-found.ensures relative status
