use Rattle.std.proofs.Common.{sym, ◌∙◌}
use Rattle.data_machine.proofs.Characters.{texts_tell}
use Rattle.data_machine.proofs.testing.texts_satisfy_at_once.Goals as goal

pub returns-then-is_text-2 : goal.returns-then-is_text-2
returns-then-is_text-2 c =
    texts_tell c.args.relation c.args.one.now c.args.other.now c.args.ones.now c.args.others.now c.in-Item.first
    c.in_ok-found.found c.stands.result c.in-Item.is (sym c.is_text.ensures ∙ c.if-is_text.true)
    (sym c.is_text-then-is_text.ensures ∙ c.if-is_text-2.true) c.in_ok-found.ensures c.stands.ensures
