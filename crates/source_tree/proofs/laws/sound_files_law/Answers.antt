use Rattle.source_tree.proofs.SoundFiles.{sound_files}
use Rattle.source_tree.proofs.laws.sound_files_law.Goals as goal

pub returns : goal.returns
returns c = record { files = sound_files }
