use Rattle.std.proofs.Common.{ℕ, List, ap, sym, ◌∙◌}
use Rattle.source_tree.specs.Filing.{class_by}
use Rattle.file_image.specs.declared.class.StatusClass.{StatusClass}
use Rattle.file_image.specs.declared.class.StatusClass.TheVariants.{Successful, AtEnd, InvalidKey}
use Rattle.file_image.specs.Classes.{is_of, has_class}
use Rattle.file_image.proofs.ClassTests.{successful, at_end, invalid_key}
use Rattle.file_image.proofs.class.class_is.Goals as goal

pub returns-in-Successful : goal.returns-in-Successful
unfolding has_class
returns-in-Successful c =
    successful c.bytes.result ∙ ap (λ (bytes : List ℕ). is_of Successful (class_by bytes)) c.bytes.ensures
    ∙ ap (λ (one : StatusClass). has_class one c.args.status) (sym c.in-Successful.is)

pub returns-in-AtEnd : goal.returns-in-AtEnd
unfolding has_class
returns-in-AtEnd c = at_end c.bytes.result ∙ ap (λ (bytes : List ℕ). is_of AtEnd (class_by bytes)) c.bytes.ensures
    ∙ ap (λ (one : StatusClass). has_class one c.args.status) (sym c.in-AtEnd.is)

pub returns-in-InvalidKey : goal.returns-in-InvalidKey
unfolding has_class
returns-in-InvalidKey c =
    invalid_key c.bytes.result ∙ ap (λ (bytes : List ℕ). is_of InvalidKey (class_by bytes)) c.bytes.ensures
    ∙ ap (λ (one : StatusClass). has_class one c.args.status) (sym c.in-InvalidKey.is)
