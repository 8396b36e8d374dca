-- Pictures of entries that have a form, and the first that has none.
use Rattle.std.specs.Prelude.{◌≡◌, if◌then◌else◌, is_none, List, [], ◌∷◌, ◌++◌, Option, None, Some}
use Rattle.lexical.specs.declared.place.Place.{Place}
use Rattle.picture.specs.Pictures.{picture_of}
use Rattle.source_tree.specs.declared.entry.PictureText.{PictureText}
use Rattle.source_tree.specs.declared.entry.Entry.{Entry}
use Rattle.source_tree.specs.declared.entry.Entry.TheVariants as entry_as
use Rattle.source_tree.specs.declared.select.FileDescription.{FileDescription}
use Rattle.source_tree.specs.declared.program.Program.{Program}

-- where a picture without a form stands
abbrev pub formless_in : Option PictureText → Option Place
formless_in None = None
formless_in (Some text) = if is_none (picture_of text.characters) then Some text.place else None

abbrev pub formless_of : Entry → Option Place
formless_of (entry_as.Item one) = formless_in one.picture
formless_of (entry_as.Condition one) = None

abbrev pub this_or : Option Place → Option Place → Option Place
this_or (Some place) later = Some place
this_or None later = later

-- where the first picture without a form stands
unfoldable pub first_formless : List Entry → Option Place
first_formless [] = None
first_formless (one ∷ more) = this_or (formless_of one) (first_formless more)

-- the entries of files, in the order of the FDs
abbrev pub file_entries : List FileDescription → List Entry
file_entries [] = []
file_entries (one ∷ more) = one.entries ++ file_entries more

-- All entries of a program, in the order of the text: the FILE SECTION comes before WORKING-STORAGE.
abbrev pub program_entries : Program → List Entry
program_entries program = file_entries program.files ++ program.storage

-- Each picture has a form.
abbrev pub HasForms : List Entry → Type 0
HasForms entries = first_formless entries ≡ None
