-- What `list` prints: a line for each file, in order of name.
use Rattle.std.specs.Prelude.{ℕ, List, [], ◌∷◌, ◌++◌, codes, decimal, length}
use Rattle.std.specs.List.{flat_map}
use Rattle.records.specs.declared.file_spec.Organization.{Organization}
use Rattle.records.specs.declared.file_spec.Organization.TheVariants.{Sequential, Relative, Indexed}
use Rattle.records.specs.Files.{NamedFile, Files}
use Rattle.volume_commands.specs.Text.{bytes_text, line_feed}

abbrev pub organization_word : Organization → List ℕ
organization_word Sequential = codes "sequential"
organization_word Relative = codes "relative"
organization_word (Indexed place) = codes "indexed"

abbrev pub space : ℕ
space = 32

-- its name, its organization, the bytes of a record, and how many rows it has
abbrev pub file_line : NamedFile → List ℕ
file_line one =
    bytes_text one.name
    ++ space ∷ organization_word one.file.spec.organization
    ++ space ∷ decimal one.file.spec.record_length
    ++ space ∷ decimal (length one.file.rows)
    ++ line_feed ∷ []

-- `Files` are in order of name.
abbrev pub listing : Files → List ℕ
listing files = flat_map file_line files
