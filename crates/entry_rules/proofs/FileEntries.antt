-- The records of FDs, one after another.
use Rattle.std.proofs.Common.{◌≡◌, ℕ, zero, suc, ◌+◌, ◌-◌, ◌≤◌, ◌<◌, Bool, true, false, List, [], ◌∷◌, ◌++◌, None, Some}
use Rattle.std.proofs.Common.{length, drop, get_or, refl, sym, ap, ◌∙◌, subst, max, nat_lt, add-one, drop-cons, arith}
use Rattle.std.proofs.Common.{length-append}
use Rattle.std.specs.Prelude.{Option, if◌then◌else◌}
use Rattle.std.proofs.Math.Seq.{drop-append-add}
use Rattle.std.proofs.lemmas.List.{append-nil}
use Rattle.lexical.specs.declared.place.Place.{Place}
use Rattle.source_tree.specs.declared.entry.Entry.{Entry}
use Rattle.source_tree.specs.declared.entry.ItemEntry.{ItemEntry}
use Rattle.source_tree.specs.declared.entry.ConditionEntry.{ConditionEntry}
use Rattle.source_tree.specs.declared.select.FileDescription.{FileDescription}
use Rattle.source_tree.specs.Broken.{RuleBreach, where_so, each}
use Rattle.source_tree.specs.Clauses.{nothing_around}
use Rattle.source_tree.specs.EntryRules.{most_storage, excess}
use Rattle.source_tree.specs.FileRules.{file_entries, record_storage_rules}
use Rattle.source_tree.specs.Levels.{Forest, Tree}
use Rattle.source_tree.specs.LookUp.{first}
use Rattle.source_tree.specs.Records.{record_length}
use Rattle.source_tree.specs.Rooms.{longest}
use Rattle.entry_rules.specs.declared.record_areas.RecordAreas.{RecordAreas}
use Rattle.entry_rules.specs.Areas.{past_rules}
use Rattle.entry_rules.specs.RecordAreas.{with, IsWithinLimit}
use Rattle.entry_rules.specs.Trees.{extent}

-- ---- the entries of all files

entries_at : (all : List FileDescription) (i : ℕ) (d : FileDescription) → i < length all
    → file_entries (drop i all) ≡ (get_or all i d).entries ++ file_entries (drop (i + 1) all)
entries_at all i d h = ap file_entries (drop-cons all i d h)
    ∙ ap (λ k. (get_or all i d).entries ++ file_entries (drop k all)) (sym (add-one i))

pub entries_within : (all : List FileDescription) (i : ℕ) (d : FileDescription) → i < length all
    → length (get_or all i d).entries ≤ length (file_entries all)
entries_within [] i d h = absurd (omega arith)
entries_within (one ∷ more) zero d h = let both = length-append one.entries (file_entries more) in omega (arith, both)
entries_within (one ∷ more) (suc i) d h =
    let both = length-append one.entries (file_entries more) in let rest =
    entries_within more i d (omega arith) in omega (arith, both, rest)

behind : (left : ℕ) (xs ys : List Entry) → length xs ≤ left → drop left (xs ++ ys) ≡ drop (left - length xs) ys
behind left xs ys h =
    let same : left ≡ length xs + (left - length xs) = omega arith in
    ap (λ n. drop n (xs ++ ys)) same ∙ drop-append-add xs ys (left - length xs)

excess_front : (left : ℕ) (xs ys : List Entry) (b : RuleBreach) → first (each excess (drop left xs)) ≡ Some b
    → first (each excess (drop left (xs ++ ys))) ≡ Some b
excess_front zero [] ys b e = cc
excess_front zero (x ∷ xs) ys b e = e
excess_front (suc n) [] ys b e = cc
excess_front (suc n) (x ∷ xs) ys b e = excess_front n xs ys b e

-- the entries past a limit, where those of some files are counted
pub record AreCounted (most left : ℕ) (all : List FileDescription) (i : ℕ) : Type 0 where
  pub rules : drop most (file_entries all) ≡ drop left (file_entries (drop i all))
  pub count : length (file_entries all) + left ≡ most + length (file_entries (drop i all))

pub counted_none : (most : ℕ) (all : List FileDescription) → AreCounted most most all 0
counted_none most all = record { rules = refl; count = omega arith }

pub counted_next : {most left : ℕ} {all : List FileDescription} {i : ℕ} (d : FileDescription) (entries : List Entry)
    → i < length all → entries ≡ (get_or all i d).entries
    → AreCounted most left all i → length entries ≤ left → AreCounted most (left - length entries) all (i + 1)
counted_next {most} {left} {all} {i} d entries h is before few =
    let rest = file_entries (drop (i + 1) all) in
    let split = entries_at all i d h ∙ ap (λ l. l ++ rest) (sym is) in
    let long = ap (λ l. length l) split in
    let both = length-append entries rest in
    let count = before.count in
    record {
      rules = before.rules ∙ ap (drop left) split ∙ behind left entries rest few;
      count = omega (arith, long, both, count);
    }

pub counted_found : {most left : ℕ} {all : List FileDescription} {i : ℕ} (d : FileDescription) (entries : List Entry)
    (b : RuleBreach) → i < length all → entries ≡ (get_or all i d).entries
    → AreCounted most left all i → first (each excess (drop left entries)) ≡ Some b
    → first (each excess (drop most (file_entries all))) ≡ Some b
counted_found {most} {left} {all} {i} d entries b h is before found =
    let rest = file_entries (drop (i + 1) all) in
    let split = entries_at all i d h ∙ ap (λ l. l ++ rest) (sym is) in
    ap (λ l. first (each excess l)) (before.rules ∙ ap (drop left) split) ∙ excess_front left entries rest b found

-- ---- one record after another

pub longest_tree : (all : ℕ) (before bytes : ℕ) (F : Forest) (one : ItemEntry) (conditions : List ConditionEntry)
    (inner next : Forest) → F ≡ Tree one conditions inner next
    → all ≡ max before (longest nothing_around F) → bytes ≡ extent nothing_around one inner
    → all ≡ max (max bytes before) (longest nothing_around next)
longest_tree all before bytes F one conditions inner next e h is =
    let tree : longest nothing_around F ≡ max (extent nothing_around one inner) (longest nothing_around next) =
    ap (longest nothing_around) e in
    omega (arith, tree)

-- ---- the record areas

same_rule : (b : Bool) (place : Place) → past_rules (if b then Some place else None) ≡ where_so b 48 place
same_rule true place = refl
same_rule false place = refl

step : (past : Option Place) (bytes : ℕ) (place : Place) (size : ℕ) (more : List FileDescription)
    → first (past_rules past
    ++ (where_so (nat_lt most_storage (bytes + size)) 48 place ++ record_storage_rules (bytes + size) more))
    ≡ first (past_rules (with (record { bytes = bytes; past = past }) place size).past
    ++ record_storage_rules (with (record { bytes = bytes; past = past }) place size).bytes more)
step (Some at) bytes place size more = refl
step None bytes place size more = ap (λ l. first (l ++ record_storage_rules (bytes + size) more))
    (sym (same_rule (nat_lt most_storage (bytes + size)) place))

within_by : (b : Bool) (n : ℕ) (place : Place) → nat_lt most_storage n ≡ b
    → IsWithinLimit (if b then Some place else None) n
within_by true n place e = tt
within_by false n place e = grind arith

within_step : (past : Option Place) (bytes : ℕ) (place : Place) (size : ℕ)
    → IsWithinLimit (with (record { bytes = bytes; past = past }) place size).past
    (with (record { bytes = bytes; past = past }) place size).bytes
within_step (Some at) bytes place size = tt
within_step None bytes place size = within_by (nat_lt most_storage (bytes + size)) (bytes + size) place refl

areas_at : (all : List FileDescription) (i : ℕ) (d : FileDescription) (bytes : ℕ) → i < length all
    → record_storage_rules bytes (drop i all)
    ≡ where_so (nat_lt most_storage (bytes + record_length (get_or all i d).entries)) 48 (get_or all i d).name.place
    ++ record_storage_rules (bytes + record_length (get_or all i d).entries) (drop (i + 1) all)
areas_at all i d bytes h =
    let one = get_or all i d in
    ap (record_storage_rules bytes) (drop-cons all i d h)
    ∙ ap (λ k. where_so (nat_lt most_storage (bytes + record_length one.entries)) 48 one.name.place
    ++ record_storage_rules (bytes + record_length one.entries) (drop k all)) (sym (add-one i))

-- the record areas of some files, which are the first of these
pub record AreAdded (storage : ℕ) (all : List FileDescription) (i : ℕ) (areas : RecordAreas) : Type 0 where
  pub rules : first (record_storage_rules storage all)
      ≡ first (past_rules areas.past ++ record_storage_rules areas.bytes (drop i all))
  pub within : IsWithinLimit areas.past areas.bytes

pub added_none : (storage : ℕ) (all : List FileDescription) (areas : RecordAreas)
    → areas ≡ record { bytes = storage; past = None } → storage ≤ most_storage → AreAdded storage all 0 areas
added_none storage all areas e few = subst (AreAdded storage all 0) (sym e) (record { rules = refl; within = few })

pub added_next : {storage : ℕ} {all : List FileDescription} {i : ℕ} {areas : RecordAreas} (new : RecordAreas)
    (one : FileDescription) (bytes : ℕ) → i < length all → one ≡ get_or all i one
    → AreAdded storage all i areas → bytes ≡ record_length one.entries → new ≡ with areas one.name.place bytes
    → AreAdded storage all (i + 1) new
added_next {storage} {all} {i} {areas} new one bytes h is before size e =
    let place = one.name.place in
    let split : record_storage_rules areas.bytes (drop i all) ≡ where_so (nat_lt most_storage (areas.bytes + bytes)) 48
    place ++ record_storage_rules (areas.bytes + bytes) (drop (i + 1) all) =
    areas_at all i one areas.bytes h
    ∙ ap (λ (x : FileDescription). where_so (nat_lt most_storage (areas.bytes + record_length x.entries)) 48
    x.name.place ++ record_storage_rules (areas.bytes + record_length x.entries) (drop (i + 1) all)) (sym is)
    ∙ ap (λ n. where_so (nat_lt most_storage (areas.bytes + n)) 48 place
    ++ record_storage_rules (areas.bytes + n) (drop (i + 1) all)) (sym size) in
    subst (AreAdded storage all (i + 1)) (sym e) (record {
      rules = before.rules ∙ ap (λ l. first (past_rules areas.past ++ l)) split
          ∙ step areas.past areas.bytes place bytes (drop (i + 1) all);
      within = within_step areas.past areas.bytes place bytes;
    })

pub added_all : {storage : ℕ} {all : List FileDescription} {i : ℕ} {areas : RecordAreas} → drop i all ≡ []
    → AreAdded storage all i areas
    → first (record_storage_rules storage all) ≡ first (past_rules areas.past)
added_all {storage} {all} {i} {areas} none before =
    before.rules ∙ ap (λ l. first (past_rules areas.past ++ record_storage_rules areas.bytes l)) none
    ∙ ap first (append-nil (past_rules areas.past))
