-- What is noted of a file is what the catalog says of it.
use Rattle.std.proofs.Common.{◌≡◌, ◌≢◌, ℕ, Bool, true, false, List, [], sym, ap, subst, ◌∙◌}
use Rattle.std.specs.Prelude.{take, Option, Some, None}
use Rattle.std.specs.Str.{bytes_eq}
use Rattle.std.proofs.lemmas.Slice.Eq.{bytes_eq-Decides}
use Rattle.pages.specs.Image.{Map}
use Rattle.btree.specs.declared.place.LeafPlace.{LeafPlace}
use Rattle.btree.specs.Places.{IsLeafPlace}
use Rattle.btree.specs.Entries.{Entry}
use Rattle.records.specs.Spec.{is_name}
use Rattle.records.specs.Files.{File, Files, file_at}
use Rattle.volume_format.specs.Volume.{MapHolds}
use Rattle.alternate_keys.specs.Listed.{IsListed}
use Rattle.alternate_keys.specs.Notes.{NotedSearch, AreNotesOf, IsListingOf}
use Rattle.alternate_keys.proofs.Keeping.{listing_kept}

-- the listing in the entry of a file that was found
pub listing_in : (m : Map) (found : Option File) (answer : Option Entry) (entry : Entry) (listing : List ℕ)
    → IsListed m found answer → answer ≡ Some entry → listing ≡ take 83 entry.value → IsListingOf m found true listing
listing_in m found answer entry listing listed some part =
    let is = subst (IsListed m found) some listed in
    (is.0, is.1, part ∙ ap (λ (e : Entry). take 83 e.value) is.2 ∙ listing_kept m found is.0 is.1)

-- a file without an entry wasn't found
pub none_found : (m : Map) (found : Option File) (answer : Option Entry) → IsListed m found answer → answer ≡ None
    → found ≡ None
none_found m found answer listed none = subst (IsListed m found) none listed

-- the listing that is noted of a name, by another word for it
pub listing_as : (m : Map) (files : Files) (one two : List ℕ) (is_there : Bool) (listing : List ℕ) → one ≡ two
    → is_there ≡ true → IsListingOf m (file_at one files) is_there listing
    → IsListingOf m (file_at two files) true listing
listing_as m files one two is_there listing same there is =
    subst (λ (n : List ℕ). IsListingOf m (file_at n files) true listing) same
    (subst (λ (b : Bool). IsListingOf m (file_at one files) b listing) there is)

-- a file that is there is found
pub never_missing : (m : Map) (files : Files) (one two : List ℕ) (is_there : Bool) (listing : List ℕ) (held : File)
    → one ≡ two → is_there ≡ false → IsListingOf m (file_at one files) is_there listing
    → file_at two files ≡ Some held → ⊥
never_missing m files one two is_there listing held same none is there =
    let found : file_at one files ≡ None = subst (λ (b : Bool). IsListingOf m (file_at one files) b listing) none is in
    let clash : None ≡ Some held = sym found ∙ ap (λ (n : List ℕ). file_at n files) same ∙ there in
    cc

-- the file of this name is noted
pub noted_listing : (m : Map) (notes : NotedSearch) (name noted : List ℕ) (files : Files) → is_name name ≡ true
    → noted ≡ notes.name → bytes_eq noted name ≡ true → AreNotesOf notes m → MapHolds m files
    → IsListingOf m (file_at name files) true notes.listing
noted_listing m notes name noted files is own same are holds =
    let name_is : notes.name ≡ name = sym own ∙ (bytes_eq-Decides noted name).0 same in
    let some : notes.name ≢ [] = λ none.
    let clash : is_name [] ≡ true = subst (λ (n : List ℕ). is_name n ≡ true) (sym name_is ∙ none) is in cc in
    subst (λ (n : List ℕ). IsListingOf m (file_at n files) true notes.listing) name_is (are.listing some files holds)

-- a listing that was found is noted, and the leaf stays
pub noted_anew : (m : Map) (old new : NotedSearch) (name : List ℕ)
    → ((files : Files) → MapHolds m files → IsListingOf m (file_at name files) true new.listing)
    → new.name ≡ name → new.place ≡ old.place → AreNotesOf old m → AreNotesOf new m
noted_anew m old new name listing name_is place_is are = record {
  listing = λ some files holds.
      subst (λ (n : List ℕ). IsListingOf m (file_at n files) true new.listing) (sym name_is) (listing files holds);
  place = subst (λ (p : LeafPlace). IsLeafPlace p m.pages) (sym place_is) are.place;
}

-- no file is noted, and the leaf stays
pub noted_nothing : (m : Map) (old new : NotedSearch) → new.name ≡ [] → new.place ≡ old.place → AreNotesOf old m
    → AreNotesOf new m
noted_nothing m old new none place_is are = record {
  listing = λ some files holds. absurd (some none);
  place = subst (λ (p : LeafPlace). IsLeafPlace p m.pages) (sym place_is) are.place;
}

-- a leaf is noted, and the file stays
pub leaf_noted : (m : Map) (old new : NotedSearch) → new.name ≡ old.name → new.listing ≡ old.listing
    → IsLeafPlace new.place m.pages → AreNotesOf old m → AreNotesOf new m
leaf_noted m old new name_is listing_is place are = record {
  listing = λ some files holds.
      subst (λ (l : List ℕ). IsListingOf m (file_at new.name files) true l) (sym listing_is)
      (subst (λ (n : List ℕ). IsListingOf m (file_at n files) true old.listing) (sym name_is)
      (are.listing (λ none. some (name_is ∙ none)) files holds));
  place = place;
}
