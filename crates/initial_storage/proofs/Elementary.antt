-- What an elementary item holds doesn't depend on entries in it.
use Rattle.std.proofs.Common.{◌≡◌, ℕ, ◌+◌, ◌≤◌, Bool, true, false, List, ◌++◌, length, take, drop, Some, None, refl, ap}
use Rattle.std.proofs.Common.{◌∙◌, arith}
use Rattle.std.specs.Prelude.{Option}
use Rattle.std.proofs.lemmas.List.{take_all}
use Rattle.std.proofs.Math.Seq.{take-append_seam}
use Rattle.picture.specs.declared.picture.Picture.{Picture}
use Rattle.picture.specs.declared.category.Category.{Category}
use Rattle.picture.specs.declared.category.Category.TheVariants as category
use Rattle.items.specs.declared.numeric.Numeric.{Numeric}
use Rattle.items.specs.declared.item.Item.{Item}
use Rattle.source_tree.specs.declared.literal.Literal.{Literal}
use Rattle.source_tree.specs.declared.entry.Around.{Around}
use Rattle.source_tree.specs.declared.entry.ItemEntry.{ItemEntry}
use Rattle.source_tree.specs.Levels.{Forest}
use Rattle.source_tree.specs.Clauses.{inside, kind_by, numeric_by, elementary, item_by, picture_in}
use Rattle.source_tree.specs.Rooms.{room}
use Rattle.source_tree.specs.Starts.{start, initial_bytes, without_value}
use Rattle.initial_storage.specs.Occurrences.{occurrence}

free_kind : (category : Category) (justified blank : Bool) (numeric : Numeric) (item : Item) (one other : List ℕ)
    → without_value (kind_by category justified blank numeric) item one
    ≡ without_value (kind_by category justified blank numeric) item other
free_kind category.Alphabetic justified blank numeric item one other = refl
free_kind category.Alphanumeric justified blank numeric item one other = refl
free_kind category.AlphanumericEdited justified blank numeric item one other = refl
free_kind category.NumericEdited justified blank numeric item one other = refl
free_kind category.Numeric justified true numeric item one other = refl
free_kind category.Numeric justified false numeric item one other = refl

free : (around : Around) (one : ItemEntry) (picture : Picture) (value : Option Literal) (within other : List ℕ)
    → initial_bytes (elementary around one picture) value within
    ≡ initial_bytes (elementary around one picture) value other
free around one picture None within other =
    free_kind picture.category one.justified one.blank_when_zero (numeric_by around one picture)
    (elementary around one picture) within other
free around one picture (Some literal) within other = refl

elementary_occurrence :
    (around : Around) (one : ItemEntry) (inner : Forest) (picture : Picture) (item : Item) (within : List ℕ)
    → Some picture ≡ picture_in one → item ≡ elementary around one picture
    → initial_bytes item one.value within ≡ occurrence around one inner
elementary_occurrence around one inner picture item within read is =
    ap (λ i. initial_bytes i one.value within) is
    ∙ free around one picture one.value within (start (inside around one) inner)
    ∙ ap (λ p. initial_bytes (item_by around one p (room (inside around one) inner)) one.value
    (start (inside around one) inner)) read

-- The bytes before the room that was made for an item stay.
before_room : (begin size : ℕ) (old spaces made : List ℕ) → begin ≡ length old
    → made ≡ take (begin + size) old ++ spaces → take begin made ≡ old
before_room begin size old spaces made e is =
    let all : length old ≤ begin + size = omega arith in
    ap (take begin) (is ∙ ap (λ l. l ++ spaces) (take_all (begin + size) old all)) ∙ ap (λ n. take n (old ++ spaces)) e
    ∙ take-append_seam old spaces

pub elementary_put : (around : Around) (one : ItemEntry) (inner : Forest) (picture : Picture) (item : Item) (begin : ℕ)
    (old spaces made new : List ℕ) → begin ≡ length old
    → made ≡ take (begin + item.length) old ++ spaces → Some picture ≡ picture_in one
    → item ≡ elementary around one picture
    → new ≡ take begin made ++ initial_bytes item one.value (drop begin made) → new ≡ old ++ occurrence around one inner
elementary_put around one inner picture item begin old spaces made new e room read is put =
    put ∙ ap (λ l. l ++ initial_bytes item one.value (drop begin made))
    (before_room begin item.length old spaces made e room)
    ∙ ap (λ l. old ++ l) (elementary_occurrence around one inner picture item (drop begin made) read is)
