-- Changes of entries that keep their keys.
use Rattle.std.proofs.Common.{◌≡◌, ◌⊎◌, inl, inr, ⊎_elim, Bool, true, false, List, [], ◌∷◌, ◌++◌, ℕ, map, refl, sym, ap}
use Rattle.std.proofs.Common.{◌∙◌}
use Rattle.std.specs.Prelude.{Option, Some, None, option_map, if◌then◌else◌}
use Rattle.std.specs.Ordering.{is_lt, is_gt, is_eq}
use Rattle.btree_pages.specs.Keys.{key_cmp}
use Rattle.btree.specs.Entries.{Entry, entry_with, first_from, first_entry_after, with_new_entry, with_value}
use Rattle.btree.specs.Entries.{without_entry}
use Rattle.chains.specs.Rows.{MapsEntries}

abbrev pub KeepsKeys : (Entry → Entry) → Type 0
KeepsKeys f = (entry : Entry) → (f entry).key ≡ entry.key

-- a choice, of what a function makes of each side
choice : {X Y : Type 0} (g : X → Y) (b : Bool) (x y : X) → (if b then g x else g y) ≡ g (if b then x else y)
choice g true x y = refl
choice g false x y = refl

pub found_as : (f : Entry → Entry) → KeepsKeys f → (entries : List Entry) (key : List ℕ)
    → entry_with (map f entries) key ≡ option_map f (entry_with entries key)
found_as f keeps [] key = refl
found_as f keeps (entry ∷ more) key =
    ap (λ (k : List ℕ). if is_eq (key_cmp k key) then Some (f entry) else entry_with (map f more) key) (keeps entry)
    ∙ ap (λ (o : Option Entry). if is_eq (key_cmp entry.key key) then Some (f entry) else o)
    (found_as f keeps more key)
    ∙ choice (option_map f) (is_eq (key_cmp entry.key key)) (Some entry) (entry_with more key)

pub from_as : (f : Entry → Entry) → KeepsKeys f → (entries : List Entry) (key : List ℕ)
    → first_from (map f entries) key ≡ option_map f (first_from entries key)
from_as f keeps [] key = refl
from_as f keeps (entry ∷ more) key =
    ap (λ (k : List ℕ). if is_lt (key_cmp k key) then first_from (map f more) key else Some (f entry)) (keeps entry)
    ∙ ap (λ (o : Option Entry). if is_lt (key_cmp entry.key key) then o else Some (f entry))
    (from_as f keeps more key)
    ∙ choice (option_map f) (is_lt (key_cmp entry.key key)) (first_from more key) (Some entry)

pub later_as : (f : Entry → Entry) → KeepsKeys f → (entries : List Entry) (key : List ℕ)
    → first_entry_after (map f entries) key ≡ option_map f (first_entry_after entries key)
later_as f keeps [] key = refl
later_as f keeps (entry ∷ more) key =
    ap (λ (k : List ℕ). if is_gt (key_cmp k key) then Some (f entry) else first_entry_after (map f more) key)
    (keeps entry)
    ∙ ap (λ (o : Option Entry). if is_gt (key_cmp entry.key key) then Some (f entry) else o)
    (later_as f keeps more key)
    ∙ choice (option_map f) (is_gt (key_cmp entry.key key)) (Some entry) (first_entry_after more key)

pub inserted_as : (f : Entry → Entry) → KeepsKeys f → (entries : List Entry) (new : Entry)
    → with_new_entry (map f entries) (f new) ≡ map f (with_new_entry entries new)
inserted_as f keeps [] new = refl
inserted_as f keeps (entry ∷ more) new =
    let late = with_new_entry (map f more) (f new) in
    ap (λ (k : List ℕ). if is_lt (key_cmp k (f new).key) then f entry ∷ late else f new ∷ f entry ∷ map f more)
    (keeps entry)
    ∙ ap (λ (k : List ℕ). if is_lt (key_cmp entry.key k) then f entry ∷ late else f new ∷ f entry ∷ map f more)
    (keeps new)
    ∙ ap (λ (l : List Entry). if is_lt (key_cmp entry.key new.key) then f entry ∷ l else f new ∷ f entry ∷ map f more)
    (inserted_as f keeps more new)
    ∙ choice (map f) (is_lt (key_cmp entry.key new.key)) (entry ∷ with_new_entry more new) (new ∷ entry ∷ more)

pub replaced_as : (f : Entry → Entry) → KeepsKeys f → (entries : List Entry) (new : Entry)
    → with_value (map f entries) (f new) ≡ map f (with_value entries new)
replaced_as f keeps [] new = refl
replaced_as f keeps (entry ∷ more) new =
    let late = with_value (map f more) (f new) in
    ap (λ (k : List ℕ). if is_eq (key_cmp k (f new).key) then f new ∷ map f more else f entry ∷ late) (keeps entry)
    ∙ ap (λ (k : List ℕ). if is_eq (key_cmp entry.key k) then f new ∷ map f more else f entry ∷ late) (keeps new)
    ∙ ap (λ (l : List Entry). if is_eq (key_cmp entry.key new.key) then f new ∷ map f more else f entry ∷ l)
    (replaced_as f keeps more new)
    ∙ choice (map f) (is_eq (key_cmp entry.key new.key)) (new ∷ more) (entry ∷ with_value more new)

pub removed_as : (f : Entry → Entry) → KeepsKeys f → (entries : List Entry) (key : List ℕ)
    → without_entry (map f entries) key ≡ map f (without_entry entries key)
removed_as f keeps [] key = refl
removed_as f keeps (entry ∷ more) key =
    let late = without_entry (map f more) key in
    ap (λ (k : List ℕ). if is_eq (key_cmp k key) then map f more else f entry ∷ late) (keeps entry)
    ∙ ap (λ (l : List Entry). if is_eq (key_cmp entry.key key) then map f more else f entry ∷ l)
    (removed_as f keeps more key)
    ∙ choice (map f) (is_eq (key_cmp entry.key key)) more (entry ∷ without_entry more key)

pub values_dont_steer : (f : Entry → Entry) → KeepsKeys f → MapsEntries f
values_dont_steer f keeps = record {
  found = found_as f keeps;
  from = from_as f keeps;
  later = later_as f keeps;
  inserted = inserted_as f keeps;
  replaced = replaced_as f keeps;
  removed = removed_as f keeps;
}

-- The place of a new entry, whatever the values are.
pub record NewPlace (entries : List Entry) (new : Entry) : Type 0 where
  pub left : List Entry
  pub right : List Entry
  pub is : entries ≡ left ++ right
  pub plain : with_new_entry entries new ≡ left ++ (new ∷ right)
  pub mapped : (f : Entry → Entry) (other : Entry) → KeepsKeys f → other.key ≡ new.key
      → with_new_entry (map f entries) other ≡ map f left ++ (other ∷ map f right)

either : (b : Bool) → (b ≡ true) ⊎ (b ≡ false)
either true = inl refl
either false = inr refl

new_asked : (entry new : Entry) (f : Entry → Entry) (other : Entry) → KeepsKeys f → other.key ≡ new.key
    → is_lt (key_cmp (f entry).key other.key) ≡ is_lt (key_cmp entry.key new.key)
new_asked entry new f other keeps same = ap (λ (k : List ℕ). is_lt (key_cmp k other.key)) (keeps entry)
    ∙ ap (λ (k : List ℕ). is_lt (key_cmp entry.key k)) same

new_later : (entry : Entry) (more : List Entry) (new : Entry) → is_lt (key_cmp entry.key new.key) ≡ true
    → NewPlace more new → NewPlace (entry ∷ more) new
new_later entry more new low below = record {
  left = entry ∷ below.left;
  right = below.right;
  is = ap (λ (l : List Entry). entry ∷ l) below.is;
  plain = ap (λ (b : Bool). if b then entry ∷ with_new_entry more new else new ∷ entry ∷ more) low
      ∙ ap (λ (l : List Entry). entry ∷ l) below.plain;
  mapped = λ f other keeps same.
      ap (λ (b : Bool). if b then f entry ∷ with_new_entry (map f more) other else other ∷ f entry ∷ map f more)
      (new_asked entry new f other keeps same ∙ low)
      ∙ ap (λ (l : List Entry). f entry ∷ l) (below.mapped f other keeps same);
}

new_here : (entry : Entry) (more : List Entry) (new : Entry) → is_lt (key_cmp entry.key new.key) ≡ false
    → NewPlace (entry ∷ more) new
new_here entry more new high = record {
  left = [];
  right = entry ∷ more;
  is = refl;
  plain = ap (λ (b : Bool). if b then entry ∷ with_new_entry more new else new ∷ entry ∷ more) high;
  mapped = λ f other keeps same.
      ap (λ (b : Bool). if b then f entry ∷ with_new_entry (map f more) other else other ∷ f entry ∷ map f more)
      (new_asked entry new f other keeps same ∙ high);
}

pub new_place : (entries : List Entry) (new : Entry) → NewPlace entries new
new_place [] new = record {
  left = [];
  right = [];
  is = refl;
  plain = refl;
  mapped = λ f other keeps same. refl;
}
new_place (entry ∷ more) new = ⊎_elim (λ low. new_later entry more new low (new_place more new))
    (λ high. new_here entry more new high) (either (is_lt (key_cmp entry.key new.key)))

-- The place of an entry that is there.
pub record HeldPlace (entries : List Entry) (key : List ℕ) (old : Entry) : Type 0 where
  pub left : List Entry
  pub right : List Entry
  pub is : entries ≡ left ++ (old ∷ right)
  pub plain_value : (other : Entry) → other.key ≡ key → with_value entries other ≡ left ++ (other ∷ right)
  pub value : (f : Entry → Entry) (other : Entry) → KeepsKeys f → other.key ≡ key
      → with_value (map f entries) other ≡ map f left ++ (other ∷ map f right)
  pub plain_without : without_entry entries key ≡ left ++ right
  pub without : (f : Entry → Entry) → KeepsKeys f → without_entry (map f entries) key ≡ map f left ++ map f right

some_same : {X : Type 0} {x y : X} → (◌≡◌ {A = Option X} (Some x) (Some y)) → x ≡ y
some_same is = cc

held_asked : (entry : Entry) (key : List ℕ) (f : Entry → Entry) → KeepsKeys f
    → is_eq (key_cmp (f entry).key key) ≡ is_eq (key_cmp entry.key key)
held_asked entry key f keeps = ap (λ (k : List ℕ). is_eq (key_cmp k key)) (keeps entry)

value_asked : (entry : Entry) (key : List ℕ) (f : Entry → Entry) (other : Entry) → KeepsKeys f → other.key ≡ key
    → is_eq (key_cmp (f entry).key other.key) ≡ is_eq (key_cmp entry.key key)
value_asked entry key f other keeps same =
    ap (λ (k : List ℕ). is_eq (key_cmp (f entry).key k)) same ∙ held_asked entry key f keeps

held_here : (entry : Entry) (more : List Entry) (key : List ℕ) (old : Entry)
    → is_eq (key_cmp entry.key key) ≡ true → entry ≡ old → HeldPlace (entry ∷ more) key old
held_here entry more key old low own = record {
  left = [];
  right = more;
  is = ap (λ (e : Entry). e ∷ more) own;
  plain_value = λ other same. ap (λ (b : Bool). if b then other ∷ more else entry ∷ with_value more other)
      (ap (λ (k : List ℕ). is_eq (key_cmp entry.key k)) same ∙ low);
  value = λ f other keeps same.
      ap (λ (b : Bool). if b then other ∷ map f more else f entry ∷ with_value (map f more) other)
      (value_asked entry key f other keeps same ∙ low);
  plain_without = ap (λ (b : Bool). if b then more else entry ∷ without_entry more key) low;
  without = λ f keeps. ap (λ (b : Bool). if b then map f more else f entry ∷ without_entry (map f more) key)
      (held_asked entry key f keeps ∙ low);
}

held_later : (entry : Entry) (more : List Entry) (key : List ℕ) (old : Entry)
    → is_eq (key_cmp entry.key key) ≡ false → HeldPlace more key old → HeldPlace (entry ∷ more) key old
held_later entry more key old high below = record {
  left = entry ∷ below.left;
  right = below.right;
  is = ap (λ (l : List Entry). entry ∷ l) below.is;
  plain_value = λ other same. ap (λ (b : Bool). if b then other ∷ more else entry ∷ with_value more other)
      (ap (λ (k : List ℕ). is_eq (key_cmp entry.key k)) same ∙ high)
      ∙ ap (λ (l : List Entry). entry ∷ l) (below.plain_value other same);
  value = λ f other keeps same.
      ap (λ (b : Bool). if b then other ∷ map f more else f entry ∷ with_value (map f more) other)
      (value_asked entry key f other keeps same ∙ high)
      ∙ ap (λ (l : List Entry). f entry ∷ l) (below.value f other keeps same);
  plain_without = ap (λ (b : Bool). if b then more else entry ∷ without_entry more key) high
      ∙ ap (λ (l : List Entry). entry ∷ l) below.plain_without;
  without = λ f keeps. ap (λ (b : Bool). if b then map f more else f entry ∷ without_entry (map f more) key)
      (held_asked entry key f keeps ∙ high)
      ∙ ap (λ (l : List Entry). f entry ∷ l) (below.without f keeps);
}

chosen : (entry : Entry) (other : Option Entry) (b c : Bool) (old : Entry)
    → (if b then Some entry else other) ≡ Some old
    → b ≡ c → (if c then Some entry else other) ≡ Some old
chosen entry other b c old has is =
    sym (ap (λ (x : Bool). if x then Some entry else other) is) ∙ has

pub held_place : (entries : List Entry) (key : List ℕ) (old : Entry) → entry_with entries key ≡ Some old
    → HeldPlace entries key old
held_place [] key old has = let never : None ≡ Some old = has in cc
held_place (entry ∷ more) key old has =
    let asked = is_eq (key_cmp entry.key key) in
    ⊎_elim
    (λ low. held_here entry more key old low
    (some_same (chosen entry (entry_with more key) asked true old has low)))
    (λ high. held_later entry more key old high
    (held_place more key old (chosen entry (entry_with more key) asked false old has high)))
    (either asked)
