use Rattle.std.proofs.Common.{rules}
use Rattle.pages.proofs.Words.{all_words}
use Rattle.pages.proofs.numbers.numbers_in.Goals as goal

pub returns : goal.returns
returns c = all_words 1024 c.args.bytes.now c.read_u32_into.new.dst c.told-bytes (search rules) c.read_u32_into.ensures
