use Rattle.std.proofs.Common.{ap, ◌∙◌, ◌++◌, length, drop, ℕ, List}
use Rattle.byteorder.specs.Endian.{big_bytes}
use Rattle.roots.proofs.Spelled.{head_put}
use Rattle.roots.proofs.root.put_head.Goals as goal

pub returns : goal.returns
returns c =
    head_put c.args.bytes.now c.args.mark.now c.to_be_bytes.result c.to_be_bytes-2.result c.put.new.bytes
    c.put-2.new.bytes c.put-3.new.bytes
    c.told-mark (ap length c.to_be_bytes.ensures) (ap length c.to_be_bytes-2.ensures) c.put.ensures c.put-2.ensures
    c.put-3.ensures
    ∙ ap (λ (g : List ℕ). c.args.mark.now ++ g ++ c.to_be_bytes-2.result ++ drop 20 c.args.bytes.now)
    c.to_be_bytes.ensures
    ∙ ap (λ (s : List ℕ). c.args.mark.now ++ big_bytes 8 c.args.generation ++ s ++ drop 20 c.args.bytes.now)
    c.to_be_bytes-2.ensures
