use Rattle.std.proofs.Common.{ap, ◌∙◌}
use Rattle.byteorder.specs.Endian.{big_number}
use Rattle.chains.proofs.link.next_of.Goals as goal

pub returns : goal.returns
returns c = c.read_u32.ensures ∙ ap (big_number 4) c.split_at.ensures.back
