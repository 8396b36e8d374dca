-- The length of a part in the run: that which its literals say, or one within its item.
use Rattle.std.proofs.Common.{◌≡◌, ◌≢◌, ℕ, zero, suc, ◌+◌, ◌-◌, ◌≤◌, ℤ, pos, negsuc, Bool, true, false, cond, List, []}
use Rattle.std.proofs.Common.{◌∷◌, map, Option, Some, None, refl, ap, sym, subst, ◌∙◌, arith}
use Rattle.std.specs.Prelude.{Ok, nat_le, ◌&&◌}
use Rattle.source_tree.specs.declared.reference.Subscript.{Subscript}
use Rattle.source_tree.specs.declared.reference.Subscript.TheVariants as subscript
use Rattle.source_tree.specs.declared.reference.Part.{Part}
use Rattle.source_tree.specs.declared.reference.Reference.{Reference}
use Rattle.source_tree.specs.Clauses.{or_else}
use Rattle.source_tree.specs.Evaluated.{◌>>=◌, evaluation_of}
use Rattle.source_tree.specs.Integers.{number_of}
use Rattle.source_tree.specs.LookUp.{items_named, first}
use Rattle.source_tree.specs.Parts.{known_length, length_from, seen_by}
use Rattle.source_tree.specs.Places.{LocatedItem}
use Rattle.source_tree.specs.References.{ItemPlace, place_after, bytes_before, occurrence, place_of, subscript_value}
use Rattle.source_tree.specs.References.{part_after, part_of_length, part_from, length_value, part_in, referred_place}
use Rattle.source_tree.specs.Storage.{Storage}
use Rattle.source_tree.specs.MeasuredTexts.{room_by, part_room, room_of}
use Rattle.source_tree.specs.InspectLayout.{Bytes, found_size, text_size}
use Rattle.source_tree.proofs.Evaluations.{okay, same_Ok, same_Some, needed_is, bound, chosen}
use Rattle.source_tree.proofs.Parts.{made_within}

of_length : (p : ItemPlace) (before n : ℕ) (place : ItemPlace) → part_of_length p before (pos n) ≡ okay place
    → place.item.length ≡ n
of_length p before n place e = sym (ap (λ (q : ItemPlace). q.item.length)
    (chosen (nat_le 1 n && nat_le (before + n) p.item.length) (part_after p before n) place e))

from_length : (p : ItemPlace) (z : ℤ) (n : ℕ) (place : ItemPlace) → part_from p z (Some (pos n)) ≡ okay place
    → place.item.length ≡ n
from_length p (pos zero) n place e = absurd cc
from_length p (pos (suc before)) n place e = of_length p before n place e
from_length p (negsuc k) n place e = absurd cc

to_end : (p : ItemPlace) (first : ℕ) (place : ItemPlace) → part_from p (pos first) None ≡ okay place
    → place.item.length ≡ p.item.length + 1 - first
to_end p zero place e = absurd cc
to_end p (suc before) place e =
    let long = of_length p before (p.item.length - before) place e in
    omega (arith, long)

picked : (test : Bool) (n : ℕ) → cond test (Some n) None ≢ None → cond test (Some n) None ≡ Some n
picked true n h = refl
picked false n h = absurd (h refl)

from_literal : (size : ℕ) (test : Bool) (n : ℕ) → length_from size (cond test (Some n) None) ≢ None
    → length_from size (cond test (Some n) None) ≡ Some (size + 1 - n)
from_literal size true n h = refl
from_literal size false n h = absurd (h refl)

first_seen : (part : Option Part) (all : List LocatedItem) (found : LocatedItem) → first all ≡ Some found
    → first (map (seen_by part) all) ≡ Some (seen_by part found)
first_seen part [] found e = absurd cc
first_seen part (one ∷ more) found e = ap (λ (it : LocatedItem). Some (seen_by part it)) (same_Some one found e)

-- The length of a text, by its room and its size as it is laid out.
abbrev pub Fits : Option ℕ → ℕ → ℕ → Type 0
Fits None size length = length ≡ size
Fits (Some room) size length = (room ≡ size) × (1 ≤ length) × (length ≤ size)

module _ (items : List LocatedItem) (storage : Storage) where
  end_long : (part : Subscript) (p place : ItemPlace)
      → known_length p.item.length part None ≢ None
      → (subscript_value items part storage >>= (λ z. part_from p z None)) ≡ okay place
      → known_length p.item.length part None ≡ Some place.item.length
  end_long (subscript.Literal n) p place h e =
      let size = p.item.length in
      from_literal size (nat_le 1 (number_of n) && nat_le (number_of n) size) (number_of n) h
      ∙ ap (λ k. Some k) (sym (to_end p (number_of n) place e))
  end_long (subscript.Item item adjustment) p place h e = absurd (h refl)

  length_long : (part length : Subscript) (p place : ItemPlace)
      → known_length p.item.length part (Some length) ≢ None
      → (subscript_value items part storage
      >>= (λ z. length_value items (Some length) storage >>= (λ n. part_from p z n))) ≡ okay place
      → known_length p.item.length part (Some length) ≡ Some place.item.length
  length_long part (subscript.Literal n) p place h e =
      let size = p.item.length in
      let from = bound (subscript_value items part storage)
      (λ z. part_from p z (Some (pos (number_of n)))) place e in
      picked (nat_le 1 (number_of n) && nat_le (number_of n) size) (number_of n) h
      ∙ ap (λ k. Some k) (sym (from_length p from.0 (number_of n) place from.2))
  length_long part (subscript.Item item adjustment) p place h e = absurd (h refl)

  known_long : (first : Subscript) (length : Option Subscript) (p place : ItemPlace)
      → known_length p.item.length first length ≢ None
      → part_in items (Some (record { first = first; length = length })) storage p ≡ okay place
      → known_length p.item.length first length ≡ Some place.item.length
  known_long first None p place h e = end_long first p place h e
  known_long first (Some length) p place h e = length_long first length p place h e

  made_fits : (found : LocatedItem) (part : Part) (p place : ItemPlace) (known : Option ℕ)
      → p.item.length ≡ found.item.length → known_length found.item.length part.first part.length ≡ known
      → part_in items (Some part) storage p ≡ okay place
      → Fits (room_by found.item.length known) (or_else known found.item.length) place.item.length
  made_fits found part p place None size is e =
      let within = made_within items part storage p place e in
      (refl, within.1, omega (arith, size, within.0.begin, within.0.end))
  made_fits found part p place (Some n) size is e =
      let here : known_length p.item.length part.first part.length ≡ Some n =
      ap (λ m. known_length m part.first part.length) size ∙ is in
      let long = known_long part.first part.length p place (λ none. absurd cc) e in
      same_Some place.item.length n (sym long ∙ here)

  part_fits : (part : Option Part) (found : LocatedItem) (p place : ItemPlace) → p.item.length ≡ found.item.length
      → part_in items part storage p ≡ okay place
      → Fits (part_room (Some found) part) (seen_by part found).item.length place.item.length
  part_fits None found p place size e = sym (ap (λ (q : ItemPlace). q.item.length) (same_Ok p place e)) ∙ size
  part_fits (Some part) found p place size e =
      made_fits found part p place (known_length found.item.length part.first part.length) size refl e

  pub place_fits : (one : Reference) (place : ItemPlace) → place_of items one storage ≡ Ok place
      → Fits (room_of items one) (text_size items (Bytes one)) place.item.length
  place_fits one place e =
      let all = items_named items one.item in
      let found = bound (evaluation_of (first all)) (λ it. referred_place items one it storage) place e in
      let there = bound (occurrence items one.subscripts found.0 storage) (part_in items one.part storage) place
      found.2 in
      let behind = bound (bytes_before items found.0.dimensions one.subscripts storage)
      (λ more. Ok (place_after found.0 more)) there.0 there.1 in
      let is = needed_is (first all) found.0 found.1 in
      let size : there.0.item.length ≡ found.0.item.length = sym (ap (λ (p : ItemPlace). p.item.length)
      (same_Ok (place_after found.0 behind.0) there.0 behind.2)) in
      let fits = part_fits one.part found.0 there.0 place size there.2 in
      subst (λ o. Fits (part_room o one.part) (text_size items (Bytes one)) place.item.length) (sym is)
      (subst (λ n. Fits (part_room (Some found.0) one.part) n place.item.length)
      (sym (ap found_size (first_seen one.part all found.0 is))) fits)
