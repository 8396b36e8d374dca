use Rattle.std.proofs.Common.{◌≤◌, sym, ap, subst, ◌∙◌, length, replicate}
use Rattle.items.specs.declared.taken.Taken.{Taken}
use Rattle.items.specs.Items.{IsTaken}
use Rattle.items.specs.Texts.{character_of, plain_bytes}
use Rattle.text_ops.specs.Compare.{order_of_texts}
use Rattle.text_ops.proofs.Orders.{order, beside_character, beside_repeated}
use Rattle.text_ops.proofs.comparison.order_beside.Goals as goal

pub returns-in-Figurative : goal.returns-in-Figurative
returns-in-Figurative c =
    let text = c.args.text.now in
    c.order_beside_character.ensures ∙ ap (λ x. order text (replicate (length text) x)) c.character.ensures
    ∙ sym (beside_character text (character_of c.in-Figurative.constant))
    ∙ ap (λ b. order_of_texts text (plain_bytes b c.args.bytes.now (length text))) (sym c.in-Figurative.is)

pub returns-in-All : goal.returns-in-All
returns-in-All c =
    let text = c.args.text.now in
    let P : Taken → Type 0 = λ b. IsTaken b c.args.bytes.now in
    let some : 1 ≤ length c.args.bytes.now = subst P c.in-All.is c.requires in
    c.order_beside_repeated.ensures ∙ sym (beside_repeated text c.args.bytes.now some)
    ∙ ap (λ b. order_of_texts text (plain_bytes b c.args.bytes.now (length text))) (sym c.in-All.is)
