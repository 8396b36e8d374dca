use Rattle.std.proofs.Common.{◌≡◌, IfOk, map, ◌∙◌, ap, rules}
use Rattle.std.proofs.lemmas.Result.{IfOk-weaker}
use Rattle.std.specs.Int.{from_bool}
use Rattle.pages.specs.Runs.{used_flags}
use Rattle.pages.proofs.Runs.{marked_bytes}
use Rattle.pages.proofs.sector_use.mark_bytes.Goals as goal

pub returns : goal.returns
returns c =
    let each : IfOk c.collect.result (λ bytes. bytes.items ≡ map from_bool c.args.used.now) = search rules in
    IfOk-weaker c.collect.result _ _ (λ bytes is. ap used_flags is ∙ marked_bytes c.args.used.now) each
