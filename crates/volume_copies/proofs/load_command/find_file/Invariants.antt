use Rattle.std.proofs.Common.{◌≡◌, drop}
use Rattle.records.specs.Files.{file_at}
use Rattle.file_bytes.specs.Stored.{files_of}
use Rattle.volume_copies.proofs.load_command.find_file.Given as goal

abbrev pub invariant-loop-place : goal.invariant-loop-place
invariant-loop-place l = file_at l.name (files_of l.files) ≡ file_at l.name (files_of (drop l.place l.files))
