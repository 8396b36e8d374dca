use Rattle.file_descriptions.specs.Sources.{data_in}
use Rattle.file_descriptions.proofs.SourceData.{clauses_next, files_next, numbers_next}
use Rattle.file_descriptions.proofs.files.put_files.Goals as goal

pub loop-number-preserved : goal.loop-number-preserved
loop-number-preserved c =
    let given = data_in c.args.source in
    let selects = c.args.selects.now in
    let one = c.index-selects-number in
    let lt = c.loop-number-test.true in
    let inv = c.loop-number.invariant in
    let pushed = c.in_ok-push.ensures.items in
    let made = c.in_ok-program_file.ensures in
    record {
      clauses = clauses_next given selects c.loop-number.number one.result lt one.is inv.clauses;
      files = files_next given selects c.loop-number.number one.result lt one.is _ _ _ _ pushed made.file inv.files;
      numbers = numbers_next given selects _ one.result lt one.is _ _ _ _ pushed made.numbers inv.numbers;
    }
