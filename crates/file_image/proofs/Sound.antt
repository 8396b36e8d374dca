-- What is so of a file in order: its items lie in their areas.
use Rattle.std.proofs.Common.{◌≡◌, ◌&&◌, ◌==◌, ℕ, Bool, true, false, not, Option, None, Some, refl, subst}
use Rattle.std.specs.Prelude.{IfSome, slice_get}
use Rattle.std.specs.Option.{option_map}
use Rattle.std.proofs.lemmas.Bool.{eqb-true}
use Rattle.std.proofs.lemmas.Option.{same_Some}
use Rattle.items.specs.declared.item.Kind.{Kind}
use Rattle.items.specs.declared.item.Kind.TheVariants as k
use Rattle.items.specs.declared.numeric.Numeric.{Numeric}
use Rattle.items.specs.Numbers.{is_signed}
use Rattle.source_tree.specs.References.{ItemPlace}
use Rattle.source_tree.specs.FileRules.{is_unsigned_integer, is_two_characters}
use Rattle.source_tree.specs.SoundFiles.{IsRelativeKey}
use Rattle.data_instructions.specs.declared.index.ItemIndex.{ItemIndex}
use Rattle.data_instructions.specs.declared.tables.DataItem.{DataItem}
use Rattle.data_instructions.specs.declared.tables.DataTables.{DataTables}
use Rattle.data_instructions.specs.Tables.{IsTables}
use Rattle.file_image.specs.declared.file.CodeFile.{CodeFile}
use Rattle.file_image.specs.Files.{place_of_item, place_at, IsTwoCharacters, IsCodeFile, LiesIn, IsNumberPlace}
use Rattle.file_image.specs.Files.{IsStatusPlace}

stood : (o : Option DataItem) (place : ItemPlace) → option_map place_of_item o ≡ Some place
    → (one : DataItem) × (o ≡ Some one) × (place_of_item one ≡ place)
stood None place e = absurd cc
stood (Some one) place e = (one, refl, same_Some (place_of_item one) place e)

-- An item of tables in order lies in its area.
pub lies_at : (tables : DataTables) (item : Option ItemIndex) (place : ItemPlace) → IsTables tables
    → place_at tables item ≡ Some place
    → LiesIn tables.areas place
lies_at tables None place order e = absurd cc
lies_at tables (Some index) place order e =
    let s = stood (slice_get tables.items index.number) place e in
    let is = order.items index.number s.0 s.1 in
    subst (LiesIn tables.areas) s.2
    (record { form = is.form; area = is.lies.area; here = is.lies.here; within = is.lies.within })

both : (a b : Bool) → a && b ≡ true → (a ≡ true) × (b ≡ true)
both true b e = (refl, e)
both false b e = absurd cc

isnt : (a : Bool) → not a ≡ true → a ≡ false
isnt true e = absurd cc
isnt false e = refl

unsigned : (kind : Kind) → is_unsigned_integer kind ≡ true
    → (n : Numeric) × (kind ≡ k.Numeric n) × (is_signed n ≡ false) × (n.scale ≡ 0)
unsigned (k.Numeric n) e =
    let all = both (not (is_signed n)) (n.scale == 0) e in
    (n, refl, isnt (is_signed n) all.0, eqb-true n.scale 0 all.1)
unsigned k.Group e = absurd cc
unsigned (k.Alphabetic justified) e = absurd cc
unsigned (k.Alphanumeric justified) e = absurd cc
unsigned k.AlphanumericEdited e = absurd cc
unsigned (k.NumericEdited blank) e = absurd cc

two : (kind : Kind) (size : ℕ) → is_two_characters kind size ≡ true → size ≡ 2
two (k.Alphanumeric justified) size e = eqb-true size 2 e
two k.Group size e = absurd cc
two (k.Alphabetic justified) size e = absurd cc
two k.AlphanumericEdited size e = absurd cc
two (k.NumericEdited blank) size e = absurd cc
two (k.Numeric n) size e = absurd cc

-- what is so of an item that is there
of_some : {A : Type 0} (P : A → Type 0) (o : Option A) (x : A) → IfSome o P → o ≡ Some x → P x
of_some {A = A} P o x all e = subst (λ (o : Option A). IfSome o P) e all

pub number_place : (tables : DataTables) (one : CodeFile) (place : ItemPlace) → IsTables tables → IsCodeFile tables one
    → place_at tables one.relative_key ≡ Some place
    → IsNumberPlace tables.areas one.area place
number_place tables one place order is e =
    let key = of_some (IsRelativeKey one.area) (place_at tables one.relative_key) place is.relative_key e in
    let u = unsigned place.item.kind key.kind in
    record {
      numeric = u.0;
      kind = u.1;
      unsigned = u.2;
      whole = u.3;
      lies = lies_at tables one.relative_key place order e;
      outside = isnt (place.area == one.area) key.outside;
    }

pub status_place : (tables : DataTables) (one : CodeFile) (place : ItemPlace) → IsTables tables → IsCodeFile tables one
    → place_at tables one.status ≡ Some place
    → IsStatusPlace tables.areas place
status_place tables one place order is e =
    let kind = of_some IsTwoCharacters (place_at tables one.status) place is.status e in
    record { size = two place.item.kind place.item.length kind; lies = lies_at tables one.status place order e }
