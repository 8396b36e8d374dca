use Rattle.std.proofs.Common.{refl}
use Rattle.records.specs.Files.{empty_file}
use Rattle.records.specs.Stores.{spec_of}
use Rattle.records.proofs.Maps.{found_again}
use Rattle.file_verbs.specs.Links.{There}
use Rattle.file_verbs.proofs.open_statement.open_new.Goals as goal

pub returns-clause-linked : goal.returns-clause-linked
returns-clause-linked g c = λ files.
    let file = c.args.select.now.file in
    There c.begin.ensures.absent (empty_file (spec_of file))
    (record { there = found_again file.name.items (empty_file (spec_of file)) files; spec = refl })
