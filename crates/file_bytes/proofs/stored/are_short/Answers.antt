use Rattle.std.proofs.Common.{◌∙◌, sym}
use Rattle.file_bytes.proofs.Short.{all_short, short_all}
use Rattle.file_bytes.proofs.stored.are_short.Goals as goal

pub returns-clause-yes : goal.returns-clause-yes
returns-clause-yes c = λ is. all_short c.args.files.now (sym c.all_short.ensures ∙ is)

pub returns-clause-no : goal.returns-clause-no
returns-clause-no c = λ is short.
    let long = sym c.all_short.ensures ∙ is in
    let all = short_all c.args.files.now short in
    cc (long, all)
