-- What the code of a file is made from.
use Rattle.std.specs.Prelude.{◌==◌, ◌&&◌, Bool, if◌then◌else◌, List, [], ◌∷◌, Option, None}
use Rattle.std.specs.Option.{option_map}
use Rattle.picture.specs.declared.picture.Picture.{Picture}
use Rattle.layout.specs.declared.placed.PlacedItem.{PlacedItem}
use Rattle.file_descriptions.specs.declared.file.ProgramFile.{ProgramFile}
use Rattle.file_image.specs.declared.file.CodeFile.{CodeFile}
use Rattle.statement_codegen.specs.FileCode.{index_at, edited_alike}

-- an item of the record area that is edited, as what is sent is
abbrev pub edits : ProgramFile → PlacedItem → Bool
edits file one = (one.area == file.area) && edited_alike one.item.kind file.sent.kind && (one.item.length == file.sent.length)

-- the picture of the first that passes
abbrev pub first_editing : (PlacedItem → Bool) → List PlacedItem → Option Picture
first_editing test [] = None
first_editing test (one ∷ more) = if test one then one.editing else first_editing test more

abbrev pub code_in : ProgramFile → CodeFile
code_in one = record {
  name = one.select.now.assigned.characters;
  organization = one.organization;
  record_length = one.record_length;
  alternates = one.alternates.items;
  access = one.select.now.access;
  optional = one.select.now.optional;
  area = one.area;
  relative_key = option_map index_at one.relative_key;
  status = option_map index_at one.status;
}
