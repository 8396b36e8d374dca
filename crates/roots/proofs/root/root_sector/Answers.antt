use Rattle.std.proofs.Common.{refl, replicate}
use Rattle.std.proofs.Common.{rules}
use Rattle.byteorder.specs.Endian.{big_bytes}
use Rattle.byteorder.specs.Numbers.{length-bytes_high_first}
use Rattle.roots.proofs.Spelled.{all_put}
use Rattle.roots.proofs.root.root_sector.Goals as goal

pub returns : goal.returns
returns c =
    all_put (replicate 4096 0) c.args.mark.now (big_bytes 8 c.args.root.now.generation)
    (big_bytes 4 c.args.root.now.sectors) c.args.root.now.payload c.put_head.new.bytes c.put.new.bytes
    refl c.told-mark (length-bytes_high_first 8 c.args.root.now.generation)
    (length-bytes_high_first 4 c.args.root.now.sectors) (search rules) c.put_head.ensures c.put.ensures
