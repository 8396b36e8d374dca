use Rattle.std.proofs.Common.{◌≡◌, drop}
use Rattle.data_division.specs.Forms.{first_formless}
use Rattle.data_division.proofs.forms.formless_entry.Given as goal

-- what is still to be looked at
abbrev pub invariant-loop-entry : goal.invariant-loop-entry
invariant-loop-entry l = first_formless l.entries ≡ first_formless (drop l.entry-index l.entries)
