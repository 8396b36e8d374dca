-- Statuses by their first character (COBOL-85, Sequential, Relative and Indexed I-O, "I-O status").
use Rattle.std.specs.Prelude.{Bool, true, false}
use Rattle.records.specs.declared.status.Status.{Status}
use Rattle.source_tree.specs.Filing as meaning
use Rattle.source_tree.specs.Filing.{Class, class_of}
use Rattle.file_image.specs.declared.class.StatusClass.{StatusClass}
use Rattle.file_image.specs.declared.class.StatusClass.TheVariants.{Successful, AtEnd, InvalidKey}

-- whether a status of a class of the meaning is of this class
abbrev pub is_of : StatusClass → Class → Bool
is_of Successful meaning.Successful = true
is_of AtEnd meaning.AtEnd = true
is_of InvalidKey meaning.InvalidKey = true
is_of _ _ = false

-- whether a status is of this class
unfoldable pub has_class : StatusClass → Status → Bool
has_class one status = is_of one (class_of status)
