-- What file statements look at of a file.
use Rattle.records.specs.Spec.{Spec}
use Rattle.file_descriptions.specs.declared.file.ProgramFile.{ProgramFile}

-- its organization and its keys
abbrev pub spec_in : ProgramFile → Spec
spec_in one = record { organization = one.organization; record_length = one.record_length; alternates = one.alternates.items }
