use Rattle.std.proofs.Common.{rules}
use Rattle.pages.proofs.Words.{all_words}
use Rattle.pages.proofs.root.payload_words_of.Goals as goal

pub returns : goal.returns
returns c =
    all_words 1019 c.args.payload.now c.read_u32_into.new.dst c.told-payload (search rules) c.read_u32_into.ensures
