use Rattle.std.proofs.Common.{sym, ◌∙◌, ap}
use Rattle.source_tree.specs.Conditions.{satisfies}
use Rattle.data_machine.proofs.Characters.{characters_tell}
use Rattle.data_machine.proofs.testing.characters_satisfy.Goals as goal

pub returns-then-is_text-2 : goal.returns-then-is_text-2
returns-then-is_text-2 c =
    let both = c.in-Item-Item in
    characters_tell c.args.relation c.args.one c.args.other c.args.ones.now c.args.others.now both.left both.right
    c.in_ok-first.first c.in_ok-second.second c.stands.result both.is-0 both.is-1 c.in_ok-first.ensures
    c.in_ok-second.ensures (sym c.is_text.ensures ∙ c.if-is_text.true)
    (sym c.is_text-then-is_text.ensures ∙ c.if-is_text-2.true)
    (c.stands.ensures ∙ ap (satisfies c.args.relation) c.cmp.ensures)
