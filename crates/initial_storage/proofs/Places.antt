-- The places that references name lie within their areas.
use Rattle.std.proofs.Common.{◌≡◌, ℕ, ◌+◌, ◌-◌, ◌*◌, ◌≤◌, nat_le, Bool, true, false, ◌&&◌, if◌then◌else◌, List, [], ◌∷◌}
use Rattle.std.proofs.Common.{get_or, Ok, Err, refl, sym, ap, subst, arith}
use Rattle.std.specs.Prelude.{ℤ, pos, negsuc, filter, cond}
use Rattle.std.specs.List.{AllByRecursion}
use Rattle.std.proofs.Math.Nat.{mul-le-mul_right}
use Rattle.source_tree.specs.declared.table.Dimension.{Dimension}
use Rattle.source_tree.specs.declared.reference.Subscript as written
use Rattle.source_tree.specs.declared.reference.Reference.{Reference}
use Rattle.source_tree.specs.declared.program.Program.{Program}
use Rattle.source_tree.specs.Evaluated.{Subscript, Evaluation, ◌>>=◌, evaluation_of}
use Rattle.source_tree.specs.Storage.{Storage}
use Rattle.source_tree.specs.Places.{LocatedItem}
use Rattle.source_tree.specs.Records.{program_items}
use Rattle.source_tree.specs.LookUp.{is_item, items_named, first}
use Rattle.source_tree.specs.References.{ItemPlace, place_after, occurrence_offset, subscript_value, bytes_before}
use Rattle.source_tree.specs.References.{occurrence, part_in, referred_place, place_of, IsWithin}
use Rattle.source_tree.specs.EntryRules.{entry_rules}
use Rattle.source_tree.specs.FileRules.{descriptions_rules}
use Rattle.source_tree.proofs.Parts.{part_within}
use Rattle.initial_storage.specs.Formed.{IsFormed}
use Rattle.initial_storage.specs.Reach.{reach, IsWithinArea, program_area_lengths}
use Rattle.initial_storage.proofs.Pictures.{some_bytes}
use Rattle.initial_storage.proofs.Formed.{formed_by_recursion}
use Rattle.initial_storage.proofs.Records.{within_by_recursion}

-- what two steps answer, both of them did
both : {A B : Type 0} (one : Evaluation A) (next : A → Evaluation B) (y : B) → (one >>= next) ≡ Ok y
    → (x : A) × (one ≡ Ok x) × (next x ≡ Ok y)
both (Ok x) next y e = (x, refl, e)
both (Err fault) next y e = cc

told : (b : Bool) (n here : ℕ) → ◌≡◌ {A = Evaluation ℕ} (if b then Ok n else Err Subscript) (Ok here)
    → (b ≡ true) × (n ≡ here)
told true n here e = (refl, cc)
told false n here e = cc

last_of : (a b : Bool) → (a && b) ≡ true → b ≡ true
last_of true b e = e
last_of false b e = cc

at_most : (n most : ℕ) → nat_le n most ≡ true → n ≤ most
at_most n most e = grind arith

stepped_most : (dimension : Dimension) (z : ℤ) (here : ℕ) → occurrence_offset dimension z ≡ Ok here
    → here ≤ (dimension.count - 1) * dimension.stride
stepped_most dimension (pos n) here e =
    let parts = told (nat_le 1 n && nat_le n dimension.count) ((n - 1) * dimension.stride) here e in
    let most : n ≤ dimension.count =
    at_most n dimension.count (last_of (nat_le 1 n) (nat_le n dimension.count) parts.0) in
    let less : n - 1 ≤ dimension.count - 1 = omega arith in
    let h : (n - 1) * dimension.stride ≤ (dimension.count - 1) * dimension.stride =
    mul-le-mul_right dimension.stride less in
    let same : (n - 1) * dimension.stride ≡ here = parts.1 in
    subst (λ k. k ≤ (dimension.count - 1) * dimension.stride) same h
stepped_most dimension (negsuc n) here e = cc

before_reach : (items : List LocatedItem) (dimensions : List Dimension) (subscripts : List written.Subscript)
    (storage : Storage) (behind : ℕ)
    → bytes_before items dimensions subscripts storage ≡ Ok behind → behind ≤ reach dimensions
before_reach items [] subscripts storage behind e = let none : 0 ≡ behind = cc in omega (arith, none)
before_reach items (one ∷ more) [] storage behind e = cc
before_reach items (one ∷ more) (subscript ∷ others) storage behind e =
    let value = both (subscript_value items subscript storage) _ behind e in
    let step = both (occurrence_offset one value.0) _ behind value.2 in
    let rest = both (bytes_before items more others storage) _ behind step.2 in
    let here : step.0 ≤ (one.count - 1) * one.stride = stepped_most one value.0 step.0 step.1 in
    let later : rest.0 ≤ reach more = before_reach items more others storage rest.0 rest.1 in
    let sum : step.0 + rest.0 ≡ behind = let same = rest.2 in cc in
    omega (arith, here, later, sum)

occurrence_within : (lengths : List ℕ) (items : List LocatedItem) (subscripts : List written.Subscript)
    (one : LocatedItem) (storage : Storage) (place : ItemPlace)
    → occurrence items subscripts one storage ≡ Ok place → IsWithinArea lengths one
    → place.offset + place.item.length ≤ get_or lengths place.area 0
occurrence_within lengths items subscripts one storage place e h =
    let found = both (bytes_before items one.dimensions subscripts storage) _ place e in
    let most : found.0 ≤ reach one.dimensions = before_reach items one.dimensions subscripts storage found.0 found.1 in
    let same : place_after one found.0 ≡ place = let told = found.2 in cc in
    let end : one.offset + found.0 + one.item.length ≤ get_or lengths one.area 0 = omega (arith, most, h) in
    subst (λ (p : ItemPlace). p.offset + p.item.length ≤ get_or lengths p.area 0) same end

occurrence_some : (items : List LocatedItem) (subscripts : List written.Subscript) (one : LocatedItem)
    (storage : Storage) (place : ItemPlace) → occurrence items subscripts one storage ≡ Ok place → IsFormed one
    → 1 ≤ place.item.length
occurrence_some items subscripts one storage place e formed =
    let found = both (bytes_before items one.dimensions subscripts storage) _ place e in
    let same : place_after one found.0 ≡ place = let told = found.2 in cc in
    subst (λ (p : ItemPlace). 1 ≤ p.item.length) same (some_bytes one.item formed.form)

part_of_whole : (lengths : List ℕ) (whole place : ItemPlace) → IsWithin place whole
    → whole.offset + whole.item.length ≤ get_or lengths whole.area 0
    → place.offset + place.item.length ≤ get_or lengths place.area 0
part_of_whole lengths whole place within e =
    let same : get_or lengths whole.area 0 ≡ get_or lengths place.area 0 =
    ap (λ k. get_or lengths k 0) (sym within.area) in
    omega (arith, e, within.end, same)

first_if : (b : Bool) (P : LocatedItem → Type 0) (one : LocatedItem) (more : List LocatedItem) (x : LocatedItem) → P one
    → (evaluation_of (first more) ≡ Ok x → P x)
    → evaluation_of (first (cond b (one ∷ more) more)) ≡ Ok x → P x
first_if true P one more x h later e = let same : one ≡ x = cc in subst P same h
first_if false P one more x h later e = later e

named_so : (P : LocatedItem → Type 0) (test : LocatedItem → Bool) (items : List LocatedItem) (x : LocatedItem)
    → AllByRecursion P items → evaluation_of (first (filter test items)) ≡ Ok x → P x
named_so P test [] x h e = cc
named_so P test (one ∷ more) x h e = first_if (test one) P one (filter test more) x h.0 (named_so P test more x h.1) e

pub places_within : (program : Program) (reference : Reference) (storage : Storage) (place : ItemPlace)
    → entry_rules program.storage ≡ [] → descriptions_rules program.storage program.files ≡ []
    → place_of (program_items program) reference storage ≡ Ok place
    → place.offset + place.item.length ≤ get_or (program_area_lengths program) place.area 0
places_within program reference storage place kept files_kept e =
    let items : List LocatedItem = program_items program in
    let lengths : List ℕ = program_area_lengths program in
    let found = both (evaluation_of (first (items_named items reference.item)))
    (λ one. referred_place items reference one storage) place e in
    let named = named_so (IsWithinArea lengths) (is_item reference.item) items found.0
    (within_by_recursion program kept files_kept) found.1 in
    let formed = named_so IsFormed (is_item reference.item) items found.0
    (formed_by_recursion program kept files_kept) found.1 in
    let whole = both (occurrence items reference.subscripts found.0 storage)
    (part_in items reference.part storage) place found.2 in
    let some = occurrence_some items reference.subscripts found.0 storage whole.0 whole.1 formed in
    part_of_whole lengths whole.0 place (part_within items reference.part storage whole.0 place some whole.2).0
    (occurrence_within lengths items reference.subscripts found.0 storage whole.0 whole.1 named)
