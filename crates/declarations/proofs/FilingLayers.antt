-- A file statement with other statements in its phrases.
use Rattle.std.proofs.Common.{◌≡◌, List, None, Some, refl}
use Rattle.std.specs.Prelude.{Option, map}
use Rattle.std.specs.Option.{option_map}
use Rattle.lexical.specs.declared.place.Place.{Place}
use Rattle.source_tree.specs.declared.phrases.Phrases.{Phrases}
use Rattle.source_tree.specs.declared.phrases.FilePhrases.{FilePhrases}
use Rattle.source_tree.specs.declared.phrases.FilePhrases.TheVariants.{Absent, AtEnd, InvalidKey}
use Rattle.source_tree.specs.declared.file_statement.FileStatement.{FileStatement}
use Rattle.source_tree.specs.declared.file_statement.FileStatement.TheVariants.{Open, Close, Read, Write, Rewrite}
use Rattle.source_tree.specs.declared.file_statement.FileStatement.TheVariants.{Delete, Start}
use Rattle.source_tree.specs.declared.statement.Verb.TheVariants as verb
use Rattle.source_tree.specs.declared.statement.Statement.TheFolds.{map-Statement}
use Rattle.source_tree.specs.Filing.{phrases_of}
use Rattle.source_tree.specs.FilingRules.{filing_rules}
use Rattle.source_tree.specs.Places.{LocatedItem}
use Rattle.source_tree.specs.ProgramFiles.{ProgramFile}

-- each form of phrases
abbrev pair : {S : Type 0} → Option (List S) → Option (List S) → Phrases S
pair arose did_not = record { arose = arose; did_not = did_not }

by_form : {S : Type 0} (P : FilePhrases S → Type 0) → P Absent
    → P (AtEnd (pair None None)) → ((x : List S) → P (AtEnd (pair (Some x) None)))
    → ((y : List S) → P (AtEnd (pair None (Some y)))) → ((x y : List S) → P (AtEnd (pair (Some x) (Some y))))
    → P (InvalidKey (pair None None)) → ((x : List S) → P (InvalidKey (pair (Some x) None)))
    → ((y : List S) → P (InvalidKey (pair None (Some y)))) → ((x y : List S) → P (InvalidKey (pair (Some x) (Some y))))
    → (phrases : FilePhrases S) → P phrases
by_form {S} P absent a b c d e f g h phrases = form phrases
  where
    at_end : (arose did_not : Option (List S)) → P (AtEnd (pair arose did_not))
    at_end None None = a
    at_end (Some x) None = b x
    at_end None (Some y) = c y
    at_end (Some x) (Some y) = d x y

    invalid_key : (arose did_not : Option (List S)) → P (InvalidKey (pair arose did_not))
    invalid_key None None = e
    invalid_key (Some x) None = f x
    invalid_key None (Some y) = g y
    invalid_key (Some x) (Some y) = h x y

    form : (phrases : FilePhrases S) → P phrases
    form Absent = absent
    form (AtEnd one) = at_end one.arose one.did_not
    form (InvalidKey one) = invalid_key one.arose one.did_not

module _ {A B : Type 0} (f : A → B) where
  abbrev pub mapped_phrases : FilePhrases A → FilePhrases B
  mapped_phrases Absent = Absent
  mapped_phrases (AtEnd one) = AtEnd (pair (option_map (map f) one.arose) (option_map (map f) one.did_not))
  mapped_phrases (InvalidKey one) = InvalidKey (pair (option_map (map f) one.arose) (option_map (map f) one.did_not))

  abbrev pub mapped_filing : FileStatement A → FileStatement B
  mapped_filing (Open all) = Open all
  mapped_filing (Close all) = Close all
  mapped_filing (Read file next into key phrases) = Read file next into key (mapped_phrases phrases)
  mapped_filing (Write one from phrases) = Write one from (mapped_phrases phrases)
  mapped_filing (Rewrite one from phrases) = Rewrite one from (mapped_phrases phrases)
  mapped_filing (Delete file phrases) = Delete file (mapped_phrases phrases)
  mapped_filing (Start file key phrases) = Start file key (mapped_phrases phrases)

  abbrev IsMapped : Place → FileStatement A → Type 0
  IsMapped place one = (map-Statement A B f (record { place = place; verb = verb.FileStatement one })).verb
      ≡ verb.FileStatement (mapped_filing one)

  -- where the statements in it are mapped
  pub filing_mapped : (place : Place) (one : FileStatement A)
      → (map-Statement A B f (record { place = place; verb = verb.FileStatement one })).verb ≡ verb.FileStatement
      (mapped_filing one)
  filing_mapped place (Open all) = refl
  filing_mapped place (Close all) = refl
  filing_mapped place (Read file next into key phrases) =
      by_form (λ p. IsMapped place (Read file next into key p)) refl refl (λ x. refl) (λ y. refl) (λ x y. refl) refl
      (λ x. refl) (λ y. refl) (λ x y. refl) phrases
  filing_mapped place (Write one from phrases) =
      by_form (λ p. IsMapped place (Write one from p)) refl refl (λ x. refl) (λ y. refl) (λ x y. refl) refl (λ x. refl)
      (λ y. refl) (λ x y. refl) phrases
  filing_mapped place (Rewrite one from phrases) =
      by_form (λ p. IsMapped place (Rewrite one from p)) refl refl (λ x. refl) (λ y. refl) (λ x y. refl) refl
      (λ x. refl) (λ y. refl) (λ x y. refl) phrases
  filing_mapped place (Delete file phrases) =
      by_form (λ p. IsMapped place (Delete file p)) refl refl (λ x. refl) (λ y. refl) (λ x y. refl) refl (λ x. refl)
      (λ y. refl) (λ x y. refl) phrases
  filing_mapped place (Start file key phrases) =
      by_form (λ p. IsMapped place (Start file key p)) refl refl (λ x. refl) (λ y. refl) (λ x y. refl) refl (λ x. refl)
      (λ y. refl) (λ x y. refl) phrases

  pub phrases_mapped : (one : FileStatement A) → phrases_of (mapped_filing one) ≡ mapped_phrases (phrases_of one)
  phrases_mapped (Open all) = refl
  phrases_mapped (Close all) = refl
  phrases_mapped (Read file next into key phrases) = refl
  phrases_mapped (Write one from phrases) = refl
  phrases_mapped (Rewrite one from phrases) = refl
  phrases_mapped (Delete file phrases) = refl
  phrases_mapped (Start file key phrases) = refl

  -- Its own rules look at no statement in it.
  pub own_rules_same : (items : List LocatedItem) (files : List ProgramFile) (one : FileStatement A)
      → filing_rules items files (mapped_filing one) ≡ filing_rules items files one
  own_rules_same items files (Open all) = refl
  own_rules_same items files (Close all) = refl
  own_rules_same items files (Read file next into key Absent) = refl
  own_rules_same items files (Read file next into key (AtEnd pair)) = refl
  own_rules_same items files (Read file next into key (InvalidKey pair)) = refl
  own_rules_same items files (Write one from Absent) = refl
  own_rules_same items files (Write one from (AtEnd pair)) = refl
  own_rules_same items files (Write one from (InvalidKey pair)) = refl
  own_rules_same items files (Rewrite one from Absent) = refl
  own_rules_same items files (Rewrite one from (AtEnd pair)) = refl
  own_rules_same items files (Rewrite one from (InvalidKey pair)) = refl
  own_rules_same items files (Delete file Absent) = refl
  own_rules_same items files (Delete file (AtEnd pair)) = refl
  own_rules_same items files (Delete file (InvalidKey pair)) = refl
  own_rules_same items files (Start file key Absent) = refl
  own_rules_same items files (Start file key (AtEnd pair)) = refl
  own_rules_same items files (Start file key (InvalidKey pair)) = refl
