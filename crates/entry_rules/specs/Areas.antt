-- The areas of working storage, as a walk adds them up.
use Rattle.std.specs.Prelude.{ℕ, ◌+◌, nat_lt, max, if◌then◌else◌, List, [], ◌∷◌, ◌++◌, Option, Some, None}
use Rattle.lexical.specs.declared.place.Place.{Place}
use Rattle.source_tree.specs.declared.entry.ItemEntry.{ItemEntry}
use Rattle.source_tree.specs.Broken.{RuleBreach}
use Rattle.source_tree.specs.EntryRules.{most_storage}
use Rattle.source_tree.specs.Levels.{Forest, End, Tree}
use Rattle.source_tree.specs.Clauses.{nothing_around}
use Rattle.source_tree.specs.Rooms.{redefines}
use Rattle.entry_rules.specs.Trees.{extent}
use Rattle.entry_rules.specs.declared.storage.Area.{Area}
use Rattle.entry_rules.specs.declared.storage.Areas.{Areas}

abbrev pub no_areas : Areas
no_areas = record { before = 0; last = None; past = None }

abbrev pub past_in : ℕ → Area → Option Place
past_in before area = if nat_lt most_storage (before + area.longest) then Some area.place else None

abbrev pub past_last : ℕ → Option Area → Option Place
past_last before None = None
past_last before (Some area) = past_in before area

abbrev pub past_by : Option Place → ℕ → Option Area → Option Place
past_by (Some place) before last = Some place
past_by None before last = past_last before last

-- where the first area stands that goes past the limit
abbrev pub first_past : Areas → Option Place
first_past areas = past_by areas.past areas.before areas.last

abbrev pub bytes_of_last : Option Area → ℕ
bytes_of_last None = 0
bytes_of_last (Some area) = area.longest

abbrev pub bytes_in : Areas → ℕ
bytes_in areas = areas.before + bytes_of_last areas.last

abbrev pub redefined_area : ℕ → Option Area → Option Area
redefined_area bytes None = None
redefined_area bytes (Some area) = Some (record { place = area.place; longest = max area.longest bytes })

-- after a 01 or 77 of so many bytes
abbrev pub with : Areas → ItemEntry → ℕ → Areas
with areas one bytes =
    if redefines one then record { before = areas.before; last = redefined_area bytes areas.last; past = areas.past }
    else record { before = bytes_in areas; last = Some (record { place = one.level.place; longest = bytes }); past = first_past areas }

abbrev pub past_rules : Option Place → List RuleBreach
past_rules None = []
past_rules (Some place) = record { rule = 48; place = place } ∷ []

-- What the areas so far and the 01s and 77s from here on break.
abbrev pub broken_area_rules : ℕ → Option Area → Forest → List RuleBreach
broken_area_rules before last End = past_rules (past_last before last)
broken_area_rules before last (Tree one conditions inner next) =
    if redefines one then broken_area_rules before (redefined_area (extent nothing_around one inner) last) next
    else past_rules (past_last before last) ++ broken_area_rules (before + bytes_of_last last) (Some (record { place = one.level.place; longest = extent nothing_around one inner })) next
