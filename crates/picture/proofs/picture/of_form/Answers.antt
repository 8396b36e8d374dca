use Rattle.std.proofs.Common.{sym, ap, ◌∙◌}
use Rattle.picture.specs.Deciding.{category_of}
use Rattle.picture.proofs.Forms.{category_found}
use Rattle.picture.proofs.picture.of_form.Goals as goal

pub described-requires-clause-form : goal.described-requires-clause-form
described-requires-clause-form c =
    category_found c.args.runs c.in-Some.category (sym (ap category_of c.as_slice.ensures) ∙ sym c.in-Some.ensures)
