use Rattle.volume_commands.proofs.Faithful.{same_from_text}
use Rattle.volume_commands.proofs.laws.text_determines_bytes.Goals as goal

pub returns : goal.returns
returns c = same_from_text
