-- An item with a picture has the form of its kind, and the picture that edits it.
use Rattle.std.proofs.Common.{◌≡◌, ℕ, ◌+◌, ◌≤◌, nat_le, nat_lt, Bool, true, false, if◌then◌else◌, List, [], ◌∷◌, length}
use Rattle.std.proofs.Common.{Some, Ok, inl, inr, refl, ap, arith}
use Rattle.picture.specs.declared.run.Run.{Run}
use Rattle.picture.specs.declared.place.Place.{Place}
use Rattle.picture.specs.declared.picture.Picture.{Picture}
use Rattle.picture.specs.declared.category.Category.{Category}
use Rattle.picture.specs.declared.category.Category.TheVariants as category
use Rattle.picture.specs.declared.class.Class.TheVariants as c
use Rattle.picture.specs.Runs.{runs_past, occurrences, symbol_count}
use Rattle.picture.specs.Regions.{is_digit_place, digits_in}
use Rattle.picture.specs.Categories.{contains_class, is_empty, kind_of}
use Rattle.picture.specs.Faults.{or_no_form}
use Rattle.picture.specs.Pictures.{IsAnyPicture, IsWithinBounds, picture_of}
use Rattle.picture.proofs.Counts.{at_most_all}
use Rattle.picture.proofs.Pictures.{answer_form, any_bounded}
use Rattle.picture.proofs.Regions.{any_editing}
use Rattle.items.specs.declared.usage.Usage.{Usage}
use Rattle.items.specs.declared.usage.Usage.TheVariants as usage
use Rattle.items.specs.declared.item.Kind.{Kind}
use Rattle.items.specs.declared.item.Kind.TheVariants as kind
use Rattle.items.specs.declared.item.Item.{Item}
use Rattle.items.specs.Numbers.{usage_length}
use Rattle.items.specs.Items.{most_length, IsOfLength, IsItem}
use Rattle.source_tree.specs.declared.entry.Around.{Around}
use Rattle.source_tree.specs.declared.entry.ItemEntry.{ItemEntry}
use Rattle.source_tree.specs.Clauses as clauses
use Rattle.source_tree.specs.Clauses.{numeric_by, kind_by, length_by, editing_by, elementary}
use Rattle.initial_storage.specs.Formed.{IsEditing}

-- ---- what is read is a picture, and has a place at least

pub picture_read : (text : List ℕ) (picture : Picture) → picture_of text ≡ Some picture → IsAnyPicture picture
picture_read text picture e = (text, answer_form text (Ok picture) (ap or_no_form e))

is_text : Category → Bool
is_text category.Numeric = false
is_text category.NumericEdited = false
is_text _ = true

has_characters : (b : Bool) (text : Category) (number : Bool)
    → is_text (if b then text else if number then category.Numeric else category.NumericEdited) ≡ true → b ≡ true
unfolding is_text
has_characters true text number e = refl
has_characters false text true e = cc
has_characters false text false e = cc

not_none : (n : ℕ) → nat_lt 0 n ≡ true → 1 ≤ n
not_none n e = grind arith

some_characters : (runs : List Run) → is_text (kind_of runs) ≡ true → 1 ≤ symbol_count runs
unfolding kind_of
some_characters runs e =
    let text : Category = if contains_class c.SimpleInsertions runs then category.AlphanumericEdited
    else if contains_class c.CharactersAndNines runs then category.Alphanumeric else category.Alphabetic in
    let there : contains_class c.LettersAndCharacters runs ≡ true =
    has_characters (contains_class c.LettersAndCharacters runs) text (is_empty (runs_past c.Numeric runs)) e in
    let some : 1 ≤ occurrences c.LettersAndCharacters runs = not_none (occurrences c.LettersAndCharacters runs) there in
    omega (arith, some, at_most_all c.LettersAndCharacters runs)

digits_within : (places : List Place) → digits_in places ≤ length places
unfolding digits_in
digits_within [] = omega arith
digits_within (place ∷ right) = one_more (is_digit_place place) (digits_within right)
  where
    one_more : (b : Bool) → digits_in right ≤ length right
        → (if b then 1 else 0) + digits_in right ≤ length (place ∷ right)
    one_more true h = omega (arith, h)
    one_more false h = omega (arith, h)

some_digits : (places : List Place) (digits size : ℕ) → 1 ≤ digits → digits_in places ≡ digits → length places ≡ size
    → 1 ≤ size
some_digits places digits size some numbered all = omega (arith, some, numbered, all, digits_within places)

some_by_category : (category : Category) (picture : Picture) → kind_of picture.runs ≡ category
    → digits_in picture.places ≡ picture.digits → IsWithinBounds category picture → 1 ≤ picture.size
unfolding is_text
some_by_category category.Alphabetic picture kind numbered h =
    omega (arith, some_characters picture.runs (ap is_text kind), h.2)
some_by_category category.Alphanumeric picture kind numbered h =
    omega (arith, some_characters picture.runs (ap is_text kind), h.2)
some_by_category category.AlphanumericEdited picture kind numbered h =
    omega (arith, some_characters picture.runs (ap is_text kind), h.2)
some_by_category category.Numeric picture kind numbered h =
    some_digits picture.places picture.digits picture.size h.0 numbered h.3
some_by_category category.NumericEdited picture kind numbered h =
    some_digits picture.places picture.digits picture.size h.0.0 numbered h.0.3

some_places : (picture : Picture) → IsAnyPicture picture → 1 ≤ picture.size
some_places picture h =
    some_by_category picture.category picture h.1.form.kind (any_editing picture h).numbered (any_bounded picture h)

-- ---- its item

abbrev IsFormedBy : Picture → Kind → Type 0
IsFormedBy picture kind =
    IsOfLength kind (length_by kind picture)
    × IsEditing (record { kind = kind; length = length_by kind picture }) (editing_by kind picture)

by_category : (category : Category) (justified blank : Bool) (around : Around) (one : ItemEntry) (picture : Picture)
    → picture.category ≡ category → IsWithinBounds category picture
    → 1 ≤ picture.size
    → length_by (kind_by category justified blank (numeric_by around one picture)) picture ≤ most_length
    → IsFormedBy picture (kind_by category justified blank (numeric_by around one picture))
by_category category.Alphabetic justified blank around one picture e h some most = ((some, most), tt)
by_category category.Alphanumeric justified blank around one picture e h some most = ((some, most), tt)
by_category category.AlphanumericEdited justified blank around one picture e h some most = ((some, most), (e, refl))
by_category category.NumericEdited justified blank around one picture e h some most = ((some, most), (inl e, refl))
by_category category.Numeric justified true around one picture e h some most = ((some, most), (inr e, refl))
by_category category.Numeric justified false around one picture e h some most =
    ((record { some = h.0; most = h.1; decimals = h.2 }, refl), tt)

pub elementary_formed : (around : Around) (one : ItemEntry) (picture : Picture) → IsAnyPicture picture
    → (elementary around one picture).length ≤ most_length
    → IsItem (elementary around one picture)
    × IsEditing (elementary around one picture) (editing_by (clauses.kind_of around one picture) picture)
elementary_formed around one picture h most =
    by_category picture.category one.justified one.blank_when_zero around one picture refl (any_bounded picture h)
    (some_places picture h) most

-- ---- an item with its form has a byte at least

two_bytes : (four nine : Bool) → 1 ≤ (if four then 2 else if nine then 4 else 8)
two_bytes true nine = omega arith
two_bytes false true = omega arith
two_bytes false false = omega arith

some_of_usage : (usage : Usage) (digits : ℕ) → 1 ≤ digits → 1 ≤ usage_length usage digits
some_of_usage (usage.Display sign) digits h = omega (arith, h)
some_of_usage (usage.Binary signed) digits h = two_bytes (nat_le digits 4) (nat_le digits 9)
some_of_usage (usage.Packed signed) digits h = omega arith

some_of_kind : (kind : Kind) (length : ℕ) → IsOfLength kind length → 1 ≤ length
some_of_kind kind.Group length h = h.0
some_of_kind (kind.Alphabetic justified) length h = h.0
some_of_kind (kind.Alphanumeric justified) length h = h.0
some_of_kind kind.AlphanumericEdited length h = h.0
some_of_kind (kind.NumericEdited blank) length h = h.0
some_of_kind (kind.Numeric numeric) length h = let some =
    some_of_usage numeric.usage numeric.digits h.0.some in omega (arith, some, h.1)

pub some_bytes : (item : Item) → IsItem item → 1 ≤ item.length
some_bytes item h = some_of_kind item.kind item.length h
