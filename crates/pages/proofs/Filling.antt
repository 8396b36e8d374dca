-- How many of the changed pages have bytes.
use Rattle.std.proofs.Common.{◌≡◌, ⊎_elim, ◌<◌, ◌≤◌, ◌+◌, cond, Bool, true, false, ℕ, zero, suc, List, [], ◌∷◌, ◌++◌}
use Rattle.std.proofs.Common.{length, set, get_or, sym, ◌∙◌, ap, subst, arith, get_or-set_other, get_or-set_same}
use Rattle.std.proofs.Common.{length-set}
use Rattle.std.specs.Prelude.{Option, Some, None, Result, Ok, Err, IfSome, OnOk, OnErr, is_some}
use Rattle.std.proofs.lemmas.Bool.{cases_eq}
use Rattle.std.proofs.lemmas.List.Sums.{sum_by-set, count_by-le-length}
use Rattle.std.proofs.lemmas.List.Elements.{Contains-append_left, Contains-push}
use Rattle.station.specs.Disk.{Sector}
use Rattle.pages.specs.declared.change.Change.{Change}
use Rattle.pages.specs.Image.{Volume}
use Rattle.pages.specs.Needed.{filled_count, is_written, written_below, needed_sectors, HasBytes, Fills}
use Rattle.pages.proofs.Counting.{count_push}
use Rattle.pages.proofs.Edits.{Away, IsOnly}

-- one change is replaced
pub filled_set : (changes : List Change) (i : ℕ) (new d : Change) → i < length changes
    → filled_count (set changes i new) + cond (is_some (get_or changes i d).bytes) 1 0 ≡ filled_count changes + cond
    (is_some new.bytes) 1 0
filled_set changes i new d low = sum_by-set (λ (c : Change). cond (is_some c.bytes) 1 0) changes i new d low

pub filled_replaced : (changes : List Change) (i : ℕ) (new : Change) → i < length changes
    → filled_count (set changes i new) ≤ filled_count changes + cond (is_some new.bytes) 1 0
filled_replaced changes i new low = omega (arith, filled_set changes i new new low)

-- one change comes
pub filled_pushed : (changes : List Change) (new : Change)
    → filled_count (changes ++ new ∷ []) ≤ filled_count changes + cond (is_some new.bytes) 1 0
filled_pushed changes new = omega (arith, count_push (λ (c : Change). is_some c.bytes) changes new)

-- the one change of a page gets bytes
pub fills_set : (changes : List Change) (page i : ℕ) (bytes : Option Sector) → IsOnly changes page i
    → IfSome bytes (λ _. Fills changes page (set changes i (record { page = page; bytes = bytes })))
fills_set changes page i None only = tt
fills_set changes page i (Some bytes) only =
    let new : Change = record { page = page; bytes = Some bytes } in
    let here : HasBytes (set changes i new) page =
    (bytes, (i, omega (arith, only.low, length-set changes i new), get_or-set_same changes i new new only.low)) in
    record {
      again = λ has.
          let old : Change = record { page = page; bytes = Some has.0 } in
          let at : has.1.0 ≡ i = only.only has.1.0 old has.1.1 (ap (λ (c : Change). c.page) has.1.2) in
          let is : get_or changes i old ≡ old = subst (λ (k : ℕ). get_or changes k old ≡ old) at has.1.2 in
          omega
          (arith, filled_set changes i new old only.low, ap {B = ℕ} (λ (c : Change). cond (is_some c.bytes) 1 0) is);
      here = here;
      others = λ other has.
          let old : Change = record { page = other; bytes = Some has.0 } in
          ⊎_elim
          (λ at. subst (HasBytes (set changes i new)) (sym (only.here old)
          ∙ ap (λ (c : Change). c.page) (subst (λ (k : ℕ). get_or changes k old ≡ old) at has.1.2)) here)
          (λ away. (
            has.0,
            (
              has.1.0,
              omega (arith, has.1.1, length-set changes i new),
              get_or-set_other changes i has.1.0 new old away ∙ has.1.2,
            ),
          ))
          (cases_eq has.1.0 i);
    }

-- a page that had no change gets bytes
pub fills_pushed : (changes : List Change) (page : ℕ) (bytes : Option Sector) → Away page changes
    → IfSome bytes (λ _. Fills changes page (changes ++ record { page = page; bytes = bytes } ∷ []))
fills_pushed changes page None away = tt
fills_pushed changes page (Some bytes) away =
    let new : Change = record { page = page; bytes = Some bytes } in
    record {
      again = λ has.
          let old : Change = record { page = page; bytes = Some has.0 } in
          absurd (away has.1.0 old has.1.1 (ap (λ (c : Change). c.page) has.1.2));
      here = (bytes, Contains-push changes new);
      others = λ other has.
          (has.0, Contains-append_left changes (new ∷ []) (record { page = other; bytes = Some has.0 }) has.1);
    }

-- what holds whether or not a call was refused
pub either_way : {T E P Q R : Type 0} (r : Result T E) → OnOk r P → OnErr r Q → (P → R) → (Q → R) → R
either_way (Ok x) p q f g = f p
either_way (Err e) p q f g = g q

one_bit : (b : Bool) → cond b 1 0 ≤ 1
one_bit true = omega arith
one_bit false = omega arith

-- no more map sectors are written than there are
pub written_le_count : (v : Volume) (changes : List Change) (n : ℕ) → written_below v changes n ≤ n
written_le_count v changes zero = omega arith
written_le_count v changes (suc i) = omega (arith, written_le_count v changes i, one_bit (is_written v changes i))

pub needed_le : (v : Volume) (changes : List Change)
    → needed_sectors v changes ≤ filled_count changes + length v.root.maps
needed_le v changes = omega (arith, written_le_count v changes (length v.root.maps))

pub filled_le : (changes : List Change) → filled_count changes ≤ length changes
filled_le changes = count_by-le-length (λ (c : Change). is_some c.bytes) changes
