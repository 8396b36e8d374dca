-- Files, read and spelled.
use Rattle.std.proofs.Common.{◌≡◌, ℕ, eqb, Bool, List, [], ◌∷◌, ◌++◌, Ok, refl, ap, subst, ◌∙◌, append_assoc, inl, inr}
use Rattle.std.specs.Prelude.{Option, None, Some}
use Rattle.records.specs.declared.file_spec.KeyPlace.{KeyPlace}
use Rattle.records.specs.declared.file_spec.AlternateKey.{AlternateKey}
use Rattle.records.specs.declared.file_spec.Organization.{Organization}
use Rattle.records.specs.declared.file_spec.Organization.TheVariants as organization
use Rattle.records.specs.declared.select.Access.{Access}
use Rattle.records.specs.declared.select.Access.TheVariants as access
use Rattle.records.specs.Spec.{Spec}
use Rattle.data_instructions.specs.declared.index.ItemIndex.{ItemIndex}
use Rattle.data_image.specs.declared.fault.ImageFault.TheVariants as faults
use Rattle.data_image.specs.Spelling.{IsBytes, small_bytes, short_bytes, flag_byte, text_bytes, table_bytes, AreSpelled}
use Rattle.data_image.specs.Spelling.{IsAny}
use Rattle.data_image.specs.Reading.{ReadResult, ◌>>=◌, byte_at, told_at, flag_of, small_at, short_at, table_at}
use Rattle.data_image.proofs.Forms.{ok_is, failed, chosen, takes_then, Takes, IsForm, part, part_again, Took, form_of}
use Rattle.data_image.proofs.Forms.{first_took, byte_is, behind_took, alone_took, first_told, byte_told}
use Rattle.data_image.proofs.Numbers.{flag_form, small_form, short_form}
use Rattle.data_image.proofs.TableForms.{table_form, text_form}
use Rattle.file_image.specs.declared.file.CodeFile.{CodeFile}
use Rattle.file_image.specs.Files.{spec_of}
use Rattle.file_image.specs.Spelling.{organization_bytes, IsOrganizationSpelled, organization_from, organization_at}
use Rattle.file_image.specs.Spelling.{alternate_bytes, IsAlternateSpelled, alternate_at, spec_bytes, IsSpecSpelled}
use Rattle.file_image.specs.Spelling.{spec_at, access_byte, access_of, item_bytes, IfItemSpelled, item_from, item_at}
use Rattle.file_image.specs.Spelling.{file_bytes, IsFileSpelled, file_at}
use Rattle.file_image.proofs.Keys.{place_form, alternate_form}

-- ---- organizations

abbrev indexed : KeyPlace → Organization
indexed place = organization.Indexed place

organization_from_took : (n : ℕ) (rest : List ℕ) (x : Organization × List ℕ) → IsBytes rest
    → organization_from n rest ≡ Ok x → Took organization_bytes IsOrganizationSpelled (n ∷ rest) x
organization_from_took n rest x is e =
    elim (chosen (eqb n 1) _ _ _ e) [
      | inl p ↦ byte_is organization_bytes IsOrganizationSpelled 1 n rest x p.0
          (alone_took organization_bytes IsOrganizationSpelled 1 organization.Sequential rest x (refl, tt) is p.1)
      | inr q ↦ elim (chosen (eqb n 2) _ _ _ q.1) [
        | inl p ↦ byte_is organization_bytes IsOrganizationSpelled 2 n rest x p.0
            (alone_took organization_bytes IsOrganizationSpelled 2 organization.Relative rest x (refl, tt) is p.1)
        | inr r ↦ elim (chosen (eqb n 3) _ _ _ r.1) [
          | inl p ↦ byte_is organization_bytes IsOrganizationSpelled 3 n rest x p.0 (behind_took organization_bytes
              IsOrganizationSpelled place_form 3 indexed (λ a. refl) (λ a h. h) rest x is p.1)
          | inr s ↦ absurd (failed faults.Value x s.1)
        ]
      ]
    ]

organization_took : (bytes : List ℕ) (x : Organization × List ℕ) → IsBytes bytes → organization_at bytes ≡ Ok x
    → Took organization_bytes IsOrganizationSpelled bytes x
unfolding organization_at
organization_took bytes x is e =
    first_took organization_bytes IsOrganizationSpelled organization_from organization_from_took bytes x is e

organization_again : (one : Organization) (rest : List ℕ) → IsOrganizationSpelled one
    → organization_at (organization_bytes one ++ rest) ≡ Ok (one, rest)
unfolding organization_at byte_at
organization_again organization.Sequential rest h = refl
organization_again organization.Relative rest h = refl
organization_again (organization.Indexed place) rest h =
    part_again place_form place rest (λ place. Ok (indexed place.0, place.1)) h

organization_form : IsForm organization_at organization_bytes IsOrganizationSpelled
organization_form =
    form_of organization_at organization_bytes IsOrganizationSpelled organization_took organization_again

-- ---- accesses

abbrev accesses : List (ℕ × Access)
accesses = (1, access.Sequential) ∷ (2, access.Random) ∷ (3, access.Dynamic) ∷ []

access_told : (n : ℕ) → access_of n ≡ first_told accesses n
unfolding access_of
access_told n = refl

access_again : (one : Access) → access_of (access_byte one) ≡ Some one
unfolding access_of
access_again access.Sequential = refl
access_again access.Random = refl
access_again access.Dynamic = refl

access_form : IsForm (told_at access_of) (λ one. access_byte one ∷ []) IsAny
access_form = byte_told (λ one. access_byte one ∷ []) access_of accesses ((refl, tt), ((refl, tt), ((refl, tt), tt)))
    access_told (λ one. (access_byte one, refl, access_again one))

-- ---- items of the table

abbrev some_item : ℕ → Option ItemIndex
some_item number = Some (record { number = number })

item_from_took : (n : ℕ) (rest : List ℕ) (x : Option ItemIndex × List ℕ) → IsBytes rest → item_from n rest ≡ Ok x
    → Took item_bytes IfItemSpelled (n ∷ rest) x
item_from_took n rest x is e =
    elim (chosen (eqb n 0) _ _ _ e) [
      | inl p ↦ byte_is item_bytes IfItemSpelled 0 n rest x p.0
          (alone_took item_bytes IfItemSpelled 0 None rest x (refl, tt) is p.1)
      | inr q ↦ elim (chosen (eqb n 1) _ _ _ q.1) [
        | inl p ↦ byte_is item_bytes IfItemSpelled 1 n rest x p.0
            (behind_took item_bytes IfItemSpelled short_form 1 some_item (λ a. refl) (λ a h. h) rest x is p.1)
        | inr r ↦ absurd (failed faults.Value x r.1)
      ]
    ]

item_took : (bytes : List ℕ) (x : Option ItemIndex × List ℕ) → IsBytes bytes → item_at bytes ≡ Ok x
    → Took item_bytes IfItemSpelled bytes x
unfolding item_at
item_took bytes x is e = first_took item_bytes IfItemSpelled item_from item_from_took bytes x is e

item_again : (one : Option ItemIndex) (rest : List ℕ) → IfItemSpelled one
    → item_at (item_bytes one ++ rest) ≡ Ok (one, rest)
unfolding item_at byte_at
item_again None rest h = refl
item_again (Some item) rest h = part_again short_form item.number rest (λ number. Ok (some_item number.0, number.1)) h

item_form : IsForm item_at item_bytes IfItemSpelled
item_form = form_of item_at item_bytes IfItemSpelled item_took item_again

-- ---- alternate keys of a file

alternate_table : IsForm (table_at alternate_at) (table_bytes alternate_bytes) (AreSpelled IsAlternateSpelled)
alternate_table = table_form alternate_at alternate_bytes IsAlternateSpelled alternate_form

-- ---- what files are

regroup : (a b c d : List ℕ) → a ++ b ++ c ++ d ≡ a ++ (b ++ (c ++ d))
regroup a b c d = append_assoc (a ++ b) c d ∙ append_assoc a b (c ++ d)

spec_took : (bytes : List ℕ) (x : Spec × List ℕ) → IsBytes bytes → spec_at bytes ≡ Ok x
    → Took spec_bytes IsSpecSpelled bytes x
unfolding spec_at
spec_took bytes x is e =
    let a = part organization_form bytes _ x is e in
    let b = part small_form a.rest _ x a.takes.rest_fits a.goes in
    let c = part alternate_table b.rest _ x b.takes.rest_fits b.goes in
    let ta = organization_bytes a.value in
    let tb = small_bytes b.value in
    let made : Spec = record { organization = a.value; record_length = b.value; alternates = c.value } in
    let two = takes_then bytes ta a.rest tb b.rest a.takes b.takes in
    let three = takes_then bytes (ta ++ tb) b.rest (table_bytes alternate_bytes c.value) c.rest two c.takes in
    let fits : IsSpecSpelled made = record { organization = a.sound; record_length = b.sound; alternates = c.sound } in
    subst (Took spec_bytes IsSpecSpelled bytes) {x = (made, c.rest)} (ok_is (made, c.rest) x c.goes) (three, fits)

abbrev alternates_from : Organization → ℕ → List AlternateKey × List ℕ → ReadResult Spec
alternates_from organization record_length alternates = Ok (
  record { organization = organization; record_length = record_length; alternates = alternates.0 },
  alternates.1,
)

abbrev record_length_from : Organization → ℕ × List ℕ → ReadResult Spec
record_length_from organization record_length =
    table_at alternate_at record_length.1 >>= alternates_from organization record_length.0

abbrev kind_from : Organization × List ℕ → ReadResult Spec
kind_from organization = small_at organization.1 >>= record_length_from organization.0

spec_again : (one : Spec) (rest : List ℕ) → IsSpecSpelled one → spec_at (spec_bytes one ++ rest) ≡ Ok (one, rest)
unfolding spec_at
spec_again one rest fits =
    let a = organization_bytes one.organization in
    let b = small_bytes one.record_length in
    let c = table_bytes alternate_bytes one.alternates in
    ap spec_at (regroup a b c rest)
    ∙ part_again organization_form one.organization (b ++ (c ++ rest)) kind_from fits.organization
    ∙ part_again small_form one.record_length (c ++ rest) (record_length_from one.organization) fits.record_length
    ∙ part_again alternate_table one.alternates rest (alternates_from one.organization one.record_length)
    fits.alternates

spec_form : IsForm spec_at spec_bytes IsSpecSpelled
spec_form = form_of spec_at spec_bytes IsSpecSpelled spec_took spec_again

-- ---- files of the table

-- a part after those that were taken
after : {A B : Type 0} {read : List ℕ → ReadResult A} {spelled : A → List ℕ} {fits : A → Type 0}
    → IsForm read spelled fits
    → (whole text bytes : List ℕ) (f : A × List ℕ → ReadResult B) (y : B × List ℕ) (Q : Type 0)
    → Takes whole text bytes → (read bytes >>= f) ≡ Ok y
    → ((value : A) (rest : List ℕ) → Takes whole (text ++ spelled value) rest → fits value → f (value, rest) ≡ Ok y → Q)
    → Q
after {spelled = spelled} form whole text bytes f y Q taken e goes =
    let p = part form bytes f y taken.rest_fits e in
    goes p.value p.rest (takes_then whole text bytes (spelled p.value) p.rest taken p.takes) p.sound p.goes

regroup_7 : (a b c d e f g h : List ℕ)
    → a ++ b ++ c ++ d ++ e ++ f ++ g ++ h ≡ a ++ (b ++ (c ++ (d ++ (e ++ (f ++ (g ++ h))))))
regroup_7 a b c d e f g h =
    append_assoc (a ++ b ++ c ++ d ++ e ++ f) g h
    ∙ append_assoc (a ++ b ++ c ++ d ++ e) f (g ++ h)
    ∙ append_assoc (a ++ b ++ c ++ d) e (f ++ (g ++ h))
    ∙ append_assoc (a ++ b ++ c) d (e ++ (f ++ (g ++ h)))
    ∙ append_assoc (a ++ b) c (d ++ (e ++ (f ++ (g ++ h))))
    ∙ append_assoc a b (c ++ (d ++ (e ++ (f ++ (g ++ h)))))

abbrev file_of : List ℕ → Spec → Access → Bool → ℕ → Option ItemIndex → Option ItemIndex → CodeFile
file_of name spec access optional area relative_key status = record {
  name = name;
  organization = spec.organization;
  record_length = spec.record_length;
  alternates = spec.alternates;
  access = access;
  optional = optional;
  area = area;
  relative_key = relative_key;
  status = status;
}

file_took : (bytes : List ℕ) (x : CodeFile × List ℕ) → IsBytes bytes → file_at bytes ≡ Ok x
    → Took file_bytes IsFileSpelled bytes x
unfolding file_at
file_took bytes x is e =
    let Q : Type 0 = Took file_bytes IsFileSpelled bytes x in
    after text_form bytes [] bytes _ x Q (record { parts = refl; rest_fits = is }) e (λ name r1 t1 s1 e1.
    after spec_form bytes (text_bytes name) r1 _ x Q t1 e1 (λ spec r2 t2 s2 e2.
    after access_form bytes (text_bytes name ++ spec_bytes spec) r2 _ x Q t2 e2 (λ access r3 t3 s3 e3.
    after flag_form bytes (text_bytes name ++ spec_bytes spec ++ access_byte access ∷ []) r3 _ x Q t3 e3
    (λ optional r4 t4 s4 e4.
    after short_form bytes _ r4 _ x Q t4 e4 (λ area r5 t5 s5 e5.
    after item_form bytes _ r5 _ x Q t5 e5 (λ relative_key r6 t6 s6 e6.
    after item_form bytes _ r6 _ x Q t6 e6 (λ status r7 t7 s7 e7.
    let made = file_of name spec access optional area relative_key status in
    let fits : IsFileSpelled made = record { name = s1; spec = s2; area = s5; relative_key = s6; status = s7 } in
    subst (Took file_bytes IsFileSpelled bytes) {x = (made, r7)} (ok_is (made, r7) x e7) (t7, fits))))))))

-- reading from each part on
module _ (name : List ℕ) where
  module _ (spec : Spec) where
    module _ (access : Access) where
      module _ (optional : Bool) where
        module _ (area : ℕ) where
          abbrev status_from : Option ItemIndex → Option ItemIndex × List ℕ → ReadResult CodeFile
          status_from relative_key status = Ok (file_of name spec access optional area relative_key status.0, status.1)

          abbrev relative_key_from : Option ItemIndex × List ℕ → ReadResult CodeFile
          relative_key_from relative_key = item_at relative_key.1 >>= status_from relative_key.0

        abbrev area_from : ℕ × List ℕ → ReadResult CodeFile
        area_from area = item_at area.1 >>= relative_key_from area.0

      abbrev optional_from : Bool × List ℕ → ReadResult CodeFile
      optional_from optional = short_at optional.1 >>= area_from optional.0

    abbrev access_from : Access × List ℕ → ReadResult CodeFile
    access_from access = told_at flag_of access.1 >>= optional_from access.0

  abbrev spec_from : Spec × List ℕ → ReadResult CodeFile
  spec_from spec = told_at access_of spec.1 >>= access_from spec.0

abbrev name_from : List ℕ × List ℕ → ReadResult CodeFile
name_from name = spec_at name.1 >>= spec_from name.0

file_again : (one : CodeFile) (rest : List ℕ) → IsFileSpelled one → file_at (file_bytes one ++ rest) ≡ Ok (one, rest)
unfolding file_at
file_again one rest fits =
    let s = spec_of one in
    let a = text_bytes one.name in
    let b = spec_bytes s in
    let c : List ℕ = access_byte one.access ∷ [] in
    let d : List ℕ = flag_byte one.optional ∷ [] in
    let e = short_bytes one.area in
    let f = item_bytes one.relative_key in
    let g = item_bytes one.status in
    ap file_at (regroup_7 a b c d e f g rest)
    ∙ part_again text_form one.name (b ++ (c ++ (d ++ (e ++ (f ++ (g ++ rest)))))) name_from fits.name
    ∙ part_again spec_form s (c ++ (d ++ (e ++ (f ++ (g ++ rest))))) (spec_from one.name) fits.spec
    ∙ part_again access_form one.access (d ++ (e ++ (f ++ (g ++ rest)))) (access_from one.name s) tt
    ∙ part_again flag_form one.optional (e ++ (f ++ (g ++ rest))) (optional_from one.name s one.access) tt
    ∙ part_again short_form one.area (f ++ (g ++ rest)) (area_from one.name s one.access one.optional) fits.area
    ∙ part_again item_form one.relative_key (g ++ rest)
    (relative_key_from one.name s one.access one.optional one.area) fits.relative_key
    ∙ part_again item_form one.status rest
    (status_from one.name s one.access one.optional one.area one.relative_key) fits.status

pub file_form : IsForm file_at file_bytes IsFileSpelled
file_form = form_of file_at file_bytes IsFileSpelled file_took file_again
