use Rattle.std.proofs.Common.{◌<◌, ◌^◌, ℕ, ap, ◌∙◌, arith}
use Rattle.std.proofs.lemmas.List.Elements.{All-from_get_or}
use Rattle.pages.specs.Layout.{words}
use Rattle.pages.proofs.Words.{words-spelled}
use Rattle.pages.proofs.numbers.spelled_numbers.Goals as goal

pub returns-clause-reads : goal.returns-clause-reads
returns-clause-reads c = ap words c.write_u32_into.ensures ∙ words-spelled c.args.numbers.now
    (All-from_get_or (λ (n : ℕ). n < 2 ^ 32) c.args.numbers.now 0 (λ i lt. omega (arith, c.type_inv.numbers i)))
