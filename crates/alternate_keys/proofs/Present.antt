-- Whether the file that the catalog lists is as the program says.
use Rattle.std.proofs.Common.{◌≡◌, Bool, true, false, ◌&&◌, ◌==◌, ℕ, List, [], ◌∷◌, refl, sym, ap, subst, ◌∙◌}
use Rattle.std.specs.Prelude.{take, Option, Some, None, if◌then◌else◌}
use Rattle.std.proofs.lemmas.Bool.{eqb-false}
use Rattle.pages.specs.Image.{Map}
use Rattle.btree.specs.Entries.{Entry}
use Rattle.records.specs.declared.answer.Presence.TheVariants.{Absent, Different, Present}
use Rattle.records.specs.declared.file_spec.AlternateKey.{AlternateKey}
use Rattle.records.specs.declared.file_spec.KeyPlace.{KeyPlace}
use Rattle.records.specs.declared.file_spec.Organization.{Organization}
use Rattle.records.specs.declared.file_spec.Organization.TheVariants.{Sequential, Relative, Indexed}
use Rattle.records.specs.Spec.{Spec, is_spec, same_place, same_organization, same_bool, same_alternates, same_spec}
use Rattle.records.specs.Rows.{same_bytes}
use Rattle.records.specs.Files.{File, presence}
use Rattle.records.proofs.Maps.{bytes_same, same_itself, specs_same}
use Rattle.file_bytes.specs.Description.{spec_bytes}
use Rattle.volume_format.specs.Volume.{FileTrees, listing_of}
use Rattle.volume_format.proofs.Listings.{spec_read}
use Rattle.file_bytes.proofs.Descriptions.{one_spec}
use Rattle.alternate_keys.specs.Listed.{IsListed}
use Rattle.alternate_keys.proofs.Keeping.{listing_kept}

number_by : (b : Bool) (n : ℕ) → (n == n) ≡ b → b ≡ true
number_by true n is = refl
number_by false n is = absurd (eqb-false n n is refl)

number_itself : (n : ℕ) → (n == n) ≡ true
number_itself n = number_by (n == n) n refl

place_itself : (p : KeyPlace) → same_place p p ≡ true
place_itself p = ap (λ b. b && (p.length == p.length)) (number_itself p.offset) ∙ number_itself p.length

organization_itself : (o : Organization) → same_organization o o ≡ true
organization_itself Sequential = refl
organization_itself Relative = refl
organization_itself (Indexed place) = place_itself place

bool_itself : (b : Bool) → same_bool b b ≡ true
bool_itself true = refl
bool_itself false = refl

alternates_itself : (keys : List AlternateKey) → same_alternates keys keys ≡ true
alternates_itself [] = refl
alternates_itself (key ∷ keys) =
    ap (λ b. b && same_bool key.duplicates key.duplicates && same_alternates keys keys) (place_itself key.place)
    ∙ ap (λ b. b && same_alternates keys keys) (bool_itself key.duplicates) ∙ alternates_itself keys

spec_itself : (s : Spec) → same_spec s s ≡ true
spec_itself s =
    ap (λ b. b && (s.record_length == s.record_length) && same_alternates s.alternates s.alternates)
    (organization_itself s.organization)
    ∙ ap (λ b. b && same_alternates s.alternates s.alternates) (number_itself s.record_length)
    ∙ alternates_itself s.alternates

pub absent : (m : Map) (found : Option File) (entry : Option Entry) (spec : Spec) → IsListed m found entry
    → entry ≡ None → Absent ≡ presence found spec
absent m found entry spec listed none =
    let there : found ≡ None = subst (IsListed m found) none listed in
    sym (ap (λ (f : Option File). presence f spec) there)

other : (c : Bool) (s spec : Spec) → same_spec s spec ≡ c → same_bytes (spec_bytes s) (spec_bytes spec) ≡ false
    → Different ≡ (if c then Present else Different)
other true s spec is test =
    let same : s ≡ spec = specs_same s spec is in
    let clash : true ≡ false = sym (same_itself (spec_bytes spec))
    ∙ ap (λ (x : Spec). same_bytes (spec_bytes x) (spec_bytes spec)) (sym same) ∙ test in
    cc
other false s spec is test = refl

by : (b : Bool) (s spec : Spec) → is_spec s ≡ true → is_spec spec ≡ true → same_bytes (spec_bytes s)
    (spec_bytes spec) ≡ b → (if b then Present else Different) ≡ (if same_spec s spec then Present else Different)
by true s spec good is test =
    let same : s ≡ spec = one_spec s spec good is (bytes_same (spec_bytes s) (spec_bytes spec) test) in
    sym (ap (λ (x : Spec). if same_spec x spec then Present else Different) same
    ∙ ap (λ c. if c then Present else Different) (spec_itself spec))
by false s spec good is test = other (same_spec s spec) s spec refl test

-- by the bytes that say what a file is
pub present_by : (b : Bool) (m : Map) (found : Option File) (entry : Option Entry) (e : Entry) (spec : Spec)
    → is_spec spec ≡ true → IsListed m found entry → entry ≡ Some e
    → same_bytes (take 43 (take 83 e.value)) (spec_bytes spec) ≡ b
    →
    (if b then Present else Different) ≡ presence found spec
present_by b m found entry e spec is listed some told =
    let there = subst (IsListed m found) some listed in
    let kept : FileTrees = there.0 in
    let s : Spec = kept.named.file.spec in
    let good = there.1.named.file.spec in
    let bytes : take 43 (take 83 e.value) ≡ spec_bytes s =
    ap (λ (x : Entry). take 43 (take 83 x.value)) there.2 ∙ ap (take 43) (listing_kept m found kept there.1)
    ∙ spec_read (listing_of kept) good in
    let test : same_bytes (spec_bytes s) (spec_bytes spec) ≡ b =
    ap (λ (l : List ℕ). same_bytes l (spec_bytes spec)) (sym bytes) ∙ told in
    by b s spec good is test ∙ sym (ap (λ (f : Option File). presence f spec) there.1.there)
