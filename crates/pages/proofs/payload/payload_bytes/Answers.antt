use Rattle.std.proofs.Common.{◌<◌, ◌^◌, ℕ, refl, replicate, arith, rules}
use Rattle.std.proofs.lemmas.List.Elements.{All-from_get_or}
use Rattle.pages.proofs.Payloads.{filled}
use Rattle.pages.proofs.payload.payload_bytes.Goals as goal

pub returns : goal.returns
returns c = filled c.args.catalog _ c.args.maps.now (replicate 4096 0) c.put_numbers.new.bytes c.put_numbers-2.new.bytes
    (search rules) c.requires (omega arith)
    (All-from_get_or (λ (n : ℕ). n < 2 ^ 32) c.args.maps.now 0 (λ i lt. omega (arith, c.type_inv.maps i))) refl
    c.put_numbers.ensures c.put_numbers-2.ensures
