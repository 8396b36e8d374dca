use Rattle.std.proofs.Common.{ap, ◌∙◌}
use Rattle.std.specs.Prelude.{insert}
use Rattle.file_descriptions.specs.Keys.{keys_before}
use Rattle.file_descriptions.proofs.KeyOrder.{in_order}
use Rattle.file_descriptions.proofs.keys.put_key.Goals as goal

pub returns : goal.returns
returns c =
    let one = c.args.one in
    let keys = c.args.keys.now.items in
    c.in_ok-insert.ensures.items
    ∙ ap (λ n. insert keys n one) (c.keys_before-before.ensures.value ∙ ap (keys_before one) c.deref.ensures.value)
    ∙ in_order one keys
