use Rattle.std.proofs.Common.{◌≡◌, drop}
use Rattle.data_division.specs.Forms.{first_formless, file_entries}
use Rattle.data_division.proofs.forms.formless_file.Given as goal

-- what is still to be looked at
abbrev pub invariant-loop-file : goal.invariant-loop-file
invariant-loop-file l =
    first_formless (file_entries l.files) ≡ first_formless (file_entries (drop l.file-index l.files))
