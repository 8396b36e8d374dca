-- An image holds at most one list of files, whichever store wrote it.
use Rattle.std.proofs.Common.{◌≡◌, inl, inr, List}
use Rattle.station.specs.Disk.{Sector}
use Rattle.records.specs.Files.{Files}
use Rattle.half_store.specs.Half.{Holds as HoldsHalf}
use Rattle.volume_format.specs.Volume.{Holds as HoldsTrees}
use Rattle.file_recovery.specs.Recovered.{HoldsFiles}
use Rattle.file_recovery.proofs.Foreign.{half_is_foreign, trees_are_own}

module _ (trees : (image : List Sector) (one two : Files) → HoldsTrees image one → HoldsTrees image two → one ≡ two)
    (halves : (image : List Sector) (one two : Files) → HoldsHalf image one → HoldsHalf image two → one ≡ two) where
  pub one_files : (image : List Sector) (files others : Files) → HoldsFiles image files → HoldsFiles image others
      → files ≡ others
  one_files image files others (inl one) (inl two) = trees image files others one two
  one_files image files others (inl one) (inr two) =
      absurd (trees_are_own image files one (half_is_foreign image others two))
  one_files image files others (inr one) (inl two) =
      absurd (trees_are_own image others two (half_is_foreign image files one))
  one_files image files others (inr one) (inr two) = halves image files others one two
