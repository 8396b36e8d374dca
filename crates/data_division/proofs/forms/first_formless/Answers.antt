use Rattle.std.proofs.Common.{◌≡◌, None, Some, sym, subst, rules, arith}
use Rattle.std.specs.Prelude.{IfOk}
use Rattle.std.proofs.lemmas.Grind.{common_steps}
use Rattle.data_division.specs.Forms.{first_formless, file_entries}
use Rattle.data_division.proofs.Formless.{formless_first, formless_second}
use Rattle.data_division.proofs.forms.first_formless.Goals as goal

pub returns-in-Some : goal.returns-in-Some
returns-in-Some c =
    let some : Some c.in-Some.place ≡ first_formless (file_entries c.args.files.now) =
    first_of (search rules, grind (arith, common_steps)) in
    sym (formless_first (file_entries c.args.files.now) c.args.storage.now c.in-Some.place some)

pub returns-in-None : goal.returns-in-None
returns-in-None c =
    let none : None ≡ first_formless (file_entries c.args.files.now) =
    first_of (search rules, grind (arith, common_steps)) in
    subst (λ o. IfOk c.formless_entry.result (λ place. place ≡ o))
    (sym (formless_second (file_entries c.args.files.now) c.args.storage.now none)) c.formless_entry.ensures
