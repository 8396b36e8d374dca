-- A volume without pages, and the next generation of one.
use Rattle.std.proofs.Common.{◌≡◌, ◌*◌, ℕ, zero, suc, [], refl, inl, arith}
use Rattle.std.specs.Prelude.{replicate, slice_index_or, Option, None}
use Rattle.std.specs.List.Sorted.{IsStrictlySortedBy}
use Rattle.std.proofs.lemmas.List.Elements.{All-nil, All-cons, All-weaker}
use Rattle.station.specs.Disk.{Sector}
use Rattle.pages.specs.Layout.{map_count}
use Rattle.pages.specs.Image.{Map}
use Rattle.pages.specs.Pages.{next_generation}
use Rattle.pages.specs.Empty.{empty_map}
use Rattle.records.specs.Files.{Files, AreFiles}
use Rattle.volume_format.specs.Forest.{IsTreeIn}
use Rattle.volume_format.specs.Volume.{MapHolds, FileTrees, IsKept, catalog_tree}
use Rattle.volume_format.proofs.Whole.{whole_grows}

none_there : (n page : ℕ) → slice_index_or {A = Option Sector} (replicate n None) page None ≡ None
none_there zero page = refl
none_there (suc n) zero = refl
none_there (suc n) (suc page) = none_there n page

no_files : AreFiles []
unfolding IsStrictlySortedBy
no_files = record { ascend = tt; each = tt; count = omega arith }

pub empty_holds : (sectors : ℕ) → MapHolds (empty_map sectors) []
empty_holds sectors = record {
  kept = [];
  keeps = record {
    catalog = [];
    forest = record {
      grow = All-cons (IsTreeIn (empty_map sectors).pages) (catalog_tree (empty_map sectors) []) []
          (whole_grows (empty_map sectors).pages (catalog_tree (empty_map sectors) []).tree [] (inl (refl, refl)))
          (All-nil (IsTreeIn (empty_map sectors).pages));
      once = tt;
      covered = λ page some. absurd (some (none_there (1024 * map_count sectors) page));
    };
    listed = refl;
    each = All-nil (IsKept 0);
  };
  named = refl;
  are = no_files;
  short = λ first. tt;
}

next_kept : (m : Map) (kept : FileTrees) → IsKept m.generation kept → IsKept (next_generation m).generation kept
next_kept m kept is = record {
  layout = is.layout;
  form = is.form;
  rows = is.rows;
  count = is.count;
  indexes = is.indexes;
  arrivals = let low = is.arrivals in omega arith;
}

pub next_holds : (m : Map) (files : Files) → MapHolds m files → MapHolds (next_generation m) files
next_holds m files holds = record {
  kept = holds.kept;
  keeps = record {
    catalog = holds.keeps.catalog;
    forest = holds.keeps.forest;
    listed = holds.keeps.listed;
    each = All-weaker (IsKept m.generation) (IsKept (next_generation m).generation) (next_kept m) holds.kept
        holds.keeps.each;
  };
  named = holds.named;
  are = holds.are;
  short = holds.short;
}
