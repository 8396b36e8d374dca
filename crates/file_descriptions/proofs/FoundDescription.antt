-- The FD of a name, and its area.
use Rattle.std.proofs.Common.{◌≡◌, ℕ, ◌+◌, ◌<◌, Bool, true, false, if◌then◌else◌, List, [], ◌∷◌, length, drop, get_or}
use Rattle.std.proofs.Common.{sym, ap, ◌∙◌, drop-cons, add-one}
use Rattle.std.specs.Prelude.{bytes_eq}
use Rattle.source_tree.specs.declared.name.Name.{Name}
use Rattle.source_tree.specs.declared.select.FileDescription.{FileDescription}
use Rattle.source_tree.specs.Names.{same}
use Rattle.source_tree.specs.Broken.{each}
use Rattle.source_tree.specs.FileRules.{description_rules}
use Rattle.source_tree.specs.ProgramFiles.{DescribedFile, described_file}
use Rattle.source_tree.proofs.SoundFiles.{left_none, right_none}

pub rest_at : {A : Type 0} (xs : List A) (i : ℕ) (one : A) → i < length xs → one ≡ get_or xs i one
    → drop i xs ≡ one ∷ drop (i + 1) xs
rest_at xs i one h is = drop-cons xs i one h ∙ ap (λ k. get_or xs i one ∷ drop k xs) (sym (add-one i))
    ∙ ap (λ x. x ∷ drop (i + 1) xs) (sym is)

module _ (area : ℕ) (name : Name) (files more : List FileDescription) (one : FileDescription)
    (e : files ≡ one ∷ more) where
  chosen : Bool → DescribedFile
  chosen test = if test then record { area = area; entries = one.entries } else described_file (area + 1) name more

  pub is_this : same name one.name ≡ true
      → described_file area name files ≡ record { area = area; entries = one.entries }
  unfolding chosen
  is_this h = ap (described_file area name) e ∙ ap chosen h

  is_later : same name one.name ≡ false → described_file area name files ≡ described_file (area + 1) name more
  unfolding chosen
  is_later h = ap (described_file area name) e ∙ ap chosen h

  pub this_kept : each description_rules files ≡ [] → description_rules one ≡ []
  this_kept h =
      left_none (description_rules one) (each description_rules more) (sym (ap (each description_rules) e) ∙ h)

  others_kept : each description_rules files ≡ [] → each description_rules more ≡ []
  others_kept h =
      right_none (description_rules one) (each description_rules more) (sym (ap (each description_rules) e) ∙ h)

-- the names of a file and of what is sought, as they were compared
pub compared : (name one : Name) (a b : List ℕ) (r : Bool) → a ≡ name.characters → b ≡ one.characters
    → r ≡ bytes_eq a b → same name one ≡ r
compared name one a b r a_is b_is is = sym (is ∙ ap (λ l. bytes_eq l b) a_is ∙ ap (bytes_eq name.characters) b_is)

-- The file of a turn has another name.
pub described_later : (files : List FileDescription) (i area : ℕ) (name : Name) (one : FileDescription)
    (all : DescribedFile) → i < length files → one ≡ get_or files i one → same name one.name ≡ false
    → each description_rules (drop i files) ≡ [] → described_file area name (drop i files) ≡ all
    → (each description_rules (drop (i + 1) files) ≡ []) × (described_file (area + 1) name (drop (i + 1) files) ≡ all)
described_later files i area name one all lt is other rules before =
    let rest = rest_at files i one lt is in (
      others_kept area name (drop i files) (drop (i + 1) files) one rest rules,
      sym (is_later area name (drop i files) (drop (i + 1) files) one rest other) ∙ before,
    )
