-- The areas that a walk adds up are those of the definition.
use Rattle.std.proofs.Common.{◌≡◌, ℕ, ◌+◌, ◌≤◌, Bool, true, false, if◌then◌else◌, List, [], ◌++◌, None, Some, refl, sym}
use Rattle.std.proofs.Common.{ap, ◌∙◌, max, nat_lt, add-zero, arith}
use Rattle.std.specs.Prelude.{Option}
use Rattle.std.proofs.lemmas.List.{append-nil}
use Rattle.lexical.specs.declared.place.Place.{Place}
use Rattle.source_tree.specs.declared.entry.ItemEntry.{ItemEntry}
use Rattle.source_tree.specs.declared.entry.ConditionEntry.{ConditionEntry}
use Rattle.source_tree.specs.Levels.{Forest, End, Tree}
use Rattle.source_tree.specs.Clauses.{nothing_around}
use Rattle.source_tree.specs.Rooms.{redefines, longest, leading_redefinitions}
use Rattle.source_tree.specs.Broken.{RuleBreach, where_so}
use Rattle.source_tree.specs.LookUp.{first}
use Rattle.source_tree.specs.EntryRules.{most_storage, storage_rules}
use Rattle.entry_rules.specs.declared.storage.Area.{Area}
use Rattle.entry_rules.specs.declared.storage.Areas.{Areas}
use Rattle.entry_rules.specs.Areas.{past_last, past_by, past_rules, first_past, bytes_of_last, bytes_in, redefined_area}
use Rattle.entry_rules.specs.Areas.{with, broken_area_rules}
use Rattle.entry_rules.specs.Trees.{extent}

same_rule : (b : Bool) (place : Place) → past_rules (if b then Some place else None) ≡ where_so b 48 place
same_rule true place = refl
same_rule false place = refl

-- what an area that has come to so many bytes breaks, and the ones after it
abbrev behind : ℕ → ℕ → Place → Forest → List RuleBreach
behind before bytes place F =
    where_so (nat_lt most_storage (before + bytes)) 48 place ++ storage_rules (before + bytes) F

max_three : (a b c : ℕ) → max (max a b) c ≡ max a (max b c)
max_three a b c = omega arith

max_none : (a : ℕ) → max a 0 ≡ a
max_none a = omega arith

-- the bytes of those at the front that redefine
abbrev front : Forest → ℕ
front F = longest nothing_around (leading_redefinitions F)

area_tree : (b : Bool) (before bytes : ℕ) (place : Place) (one : ItemEntry) (conditions : List ConditionEntry)
    (inner next : Forest) → redefines one ≡ b
    → broken_area_rules before (Some (record { place = place; longest = max bytes (extent nothing_around one inner) }))
    next ≡ behind before (max (max bytes (extent nothing_around one inner)) (front next)) place next
    → broken_area_rules
    (before + bytes) (Some (record { place = one.level.place; longest = extent nothing_around one inner })) next
    ≡ behind (before + bytes) (max (extent nothing_around one inner) (front next)) one.level.place next
    → broken_area_rules before (Some (record { place = place; longest = bytes })) (Tree one conditions inner next)
    ≡ behind before (max bytes (front (Tree one conditions inner next))) place (Tree one conditions inner next)
area_tree true before bytes place one conditions inner next e longer another =
    rw e
    (longer ∙ ap (λ n. behind before n place next) (max_three bytes (extent nothing_around one inner) (front next)))
area_tree false before bytes place one conditions inner next e longer another =
    rw e (ap (λ l. l ++ broken_area_rules
    (before + bytes) (Some (record { place = one.level.place; longest = extent nothing_around one inner })) next)
    (same_rule (nat_lt most_storage (before + bytes)) place)
    ∙ ap (λ l. where_so (nat_lt most_storage (before + bytes)) 48 place ++ l) another
    ∙ ap (λ n. where_so (nat_lt most_storage (before + n)) 48 place ++ behind (before + n)
    (max (extent nothing_around one inner) (front next)) one.level.place next) (sym (max_none bytes)))

from_area : (before bytes : ℕ) (place : Place) (F : Forest) → broken_area_rules before
    (Some (record { place = place; longest = bytes })) F ≡ behind before (max bytes (front F)) place F
from_area before bytes place End =
    same_rule (nat_lt most_storage (before + bytes)) place
    ∙ ap (λ n. where_so (nat_lt most_storage (before + n)) 48 place) (sym (max_none bytes))
    ∙ sym (append-nil (where_so (nat_lt most_storage (before + max bytes 0)) 48 place))
from_area before bytes place (Tree one conditions inner next) =
    area_tree (redefines one) before bytes place one conditions inner next refl
    (from_area before (max bytes (extent nothing_around one inner)) place next)
    (from_area (before + bytes) (extent nothing_around one inner) one.level.place next)

start_tree : (b : Bool) (before : ℕ) (one : ItemEntry) (conditions : List ConditionEntry) (inner next : Forest)
    → redefines one ≡ b
    → broken_area_rules before None next ≡ storage_rules before next
    → broken_area_rules before None (Tree one conditions inner next)
    ≡ storage_rules before (Tree one conditions inner next)
start_tree true before one conditions inner next e ih = rw e ih
start_tree false before one conditions inner next e ih =
    rw e (from_area (before + 0) (extent nothing_around one inner) one.level.place next
    ∙ ap (λ n. behind n (max (extent nothing_around one inner) (front next)) one.level.place next) (add-zero before))

pub from_start : (before : ℕ) (F : Forest) → broken_area_rules before None F ≡ storage_rules before F
from_start before End = refl
from_start before (Tree one conditions inner next) =
    start_tree (redefines one) before one conditions inner next refl (from_start before next)

-- ---- one 01 or 77 after another

first_of_two : (past : Option Place) (before : ℕ) (last : Option Area) (rest : List RuleBreach) → first (past_rules past
    ++ (past_rules (past_last before last) ++ rest)) ≡ first (past_rules (past_by past before last) ++ rest)
first_of_two None before last rest = refl
first_of_two (Some place) before last rest = refl

step_by : (b : Bool) (areas : Areas) (one : ItemEntry) (conditions : List ConditionEntry) (inner next : Forest)
    → redefines one ≡ b
    → first (past_rules areas.past ++ broken_area_rules areas.before areas.last (Tree one conditions inner next))
    ≡ first (past_rules (with areas one (extent nothing_around one inner)).past ++ broken_area_rules (with areas one
    (extent nothing_around one inner)).before (with areas one (extent nothing_around one inner)).last next)
step_by true areas one conditions inner next e = rw e refl
step_by false areas one conditions inner next e =
    rw e (first_of_two areas.past areas.before areas.last (broken_area_rules (bytes_in areas)
    (Some (record { place = one.level.place; longest = extent nothing_around one inner })) next))

pub area_step : (all : List RuleBreach) (areas new : Areas) (F : Forest) (one : ItemEntry)
    (conditions : List ConditionEntry) (inner next : Forest) (bytes : ℕ) → F ≡ Tree one conditions inner next
    → first all ≡ first (past_rules areas.past ++ broken_area_rules areas.before areas.last F)
    → bytes ≡ extent nothing_around one inner → new ≡ with areas one bytes
    → first all ≡ first (past_rules new.past ++ broken_area_rules new.before new.last next)
area_step all areas new F one conditions inner next bytes e before is known =
    before ∙ ap (λ G. first (past_rules areas.past ++ broken_area_rules areas.before areas.last G)) e
    ∙ step_by (redefines one) areas one conditions inner next refl
    ∙ ap (λ (n : Areas). first (past_rules n.past ++ broken_area_rules n.before n.last next))
    (ap (λ k. with areas one k) (sym is) ∙ sym known)

pub area_end : (all : List RuleBreach) (areas : Areas) (F : Forest)
    → F ≡ End → first all ≡ first (past_rules areas.past ++ broken_area_rules areas.before areas.last F)
    → first all ≡ first (past_rules (first_past areas))
area_end all areas F e before =
    before ∙ ap (λ G. first (past_rules areas.past ++ broken_area_rules areas.before areas.last G)) e
    ∙ ap (λ l. first (past_rules areas.past ++ l)) (sym (append-nil (past_rules (past_last areas.before areas.last))))
    ∙ first_of_two areas.past areas.before areas.last []
    ∙ ap first (append-nil (past_rules (first_past areas)))

last_bytes : (last : Option Area) (bytes : ℕ) → bytes_of_last (redefined_area bytes last) ≤ bytes_of_last last + bytes
last_bytes None bytes = omega arith
last_bytes (Some one) bytes = omega arith

with_by : (b : Bool) (areas : Areas) (one : ItemEntry) (bytes : ℕ) → redefines one ≡ b
    → bytes_in (with areas one bytes) ≤ bytes_in areas + bytes
with_by true areas one bytes e = let h = last_bytes areas.last bytes in rw e (omega (arith, h))
with_by false areas one bytes e = rw e (omega arith)

pub with_bytes : (areas new : Areas) (one : ItemEntry) (bytes : ℕ) → new ≡ with areas one bytes
    → bytes_in new ≤ bytes_in areas + bytes
with_bytes areas new one bytes e = let h = with_by (redefines one) areas one bytes refl in
    let same : bytes_in new ≡ bytes_in (with areas one bytes) = ap bytes_in e in omega arith
