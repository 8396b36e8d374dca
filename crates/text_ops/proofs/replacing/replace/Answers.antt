use Rattle.std.proofs.Common.{length, sym, subst, List}
use Rattle.text_ops.specs.declared.progress.Progress.{Progress}
use Rattle.text_ops.specs.Walk.{AreActive}
use Rattle.text_ops.proofs.Walks.{active_begun}
use Rattle.text_ops.proofs.replacing.replace.Goals as goal

pub replace_fits-requires : goal.replace_fits-requires
replace_fits-requires c =
    let P : List Progress → Type 0 = λ xs. AreActive xs (length c.args.texts.now) in
    subst P (sym c.begin.ensures)
    (active_begun c.args.texts.now c.args.subject.now c.args.entries.now (length c.args.texts.now) c.requires.within)
