-- The file of a name among those that are kept, and another in its place.
use Rattle.std.proofs.Common.{◌≡◌, ◌++◌, Bool, true, false, List, [], ◌∷◌, ℕ, refl, sym, ap, subst, ◌∙◌}
use Rattle.std.specs.Prelude.{map, Some, if◌then◌else◌}
use Rattle.std.specs.List.{AllByRecursion}
use Rattle.std.specs.List.Sorted.{IsStrictlySortedBy}
use Rattle.std.specs.Ordering.{is_eq, is_lt}
use Rattle.std.specs.declared.cmp.Ordering.{Ordering}
use Rattle.std.specs.declared.cmp.Ordering.TheVariants.{Less}
use Rattle.btree.specs.Entries.{Entry, with_value}
use Rattle.records.specs.Spec.{is_name}
use Rattle.records.specs.Rows.{bytes_cmp, same_bytes}
use Rattle.records.specs.Files.{File, Files, NamedFile, names, file_at, with_file}
use Rattle.records.proofs.Maps.{bytes_same, same_itself}
use Rattle.btree_pages.specs.Keys.{key_cmp}
use Rattle.file_bytes.specs.Description.{padded_name}
use Rattle.volume_format.specs.Volume.{FileTrees, catalog_entry}
use Rattle.volume_format.proofs.Names.{names_in_order}

abbrev pub named_of : List FileTrees → Files
named_of kept = map (λ (one : FileTrees). one.named) kept

-- those before it have lesser names
pub record Split (name : List ℕ) (kept : List FileTrees) (one : FileTrees) : Type 0 where
  pub before : List FileTrees
  pub after : List FileTrees
  pub is : kept ≡ before ++ one ∷ after
  pub same : one.named.name ≡ name
  pub lower : AllByRecursion (λ (k : FileTrees). bytes_cmp k.named.name name ≡ Less) before

pub record Found (name : List ℕ) (kept : List FileTrees) (file : File) : Type 0 where
  pub one : FileTrees
  pub split : Split name kept one
  pub file_is : one.named.file ≡ file

-- a name after all of a list is after one of it
behind : (P : List ℕ → Type 0) (before : List FileTrees) (one : FileTrees) (after : List FileTrees)
    → AllByRecursion P (names (named_of (before ++ one ∷ after))) → P one.named.name
behind P [] one after all = all.0
behind P (k ∷ before) one after all = behind P before one after all.1

later : (k : FileTrees) (more : List FileTrees) (name : List ℕ) (file : File)
    → AllByRecursion (λ other. bytes_cmp k.named.name other ≡ Less) (names (named_of more)) → Found name more file
    → Found name (k ∷ more) file
later k more name file above found = record {
  one = found.one;
  split = record {
    before = k ∷ found.split.before;
    after = found.split.after;
    is = ap (λ (l : List FileTrees). k ∷ l) found.split.is;
    same = found.split.same;
    lower = (
      subst (λ (n : List ℕ). bytes_cmp k.named.name n ≡ Less) found.split.same
          (behind (λ other. bytes_cmp k.named.name other ≡ Less) found.split.before found.one found.split.after
          (subst (λ (l : List FileTrees). AllByRecursion (λ other. bytes_cmp k.named.name other ≡ Less)
          (names (named_of l))) found.split.is above)),
      found.split.lower,
    );
  };
  file_is = found.file_is;
}

here : (k : FileTrees) (more : List FileTrees) (name : List ℕ) (file : File) → same_bytes k.named.name name ≡ true
    → k.named.file ≡ file → Found name (k ∷ more) file
here k more name file same is = record {
  one = k;
  split = record { before = []; after = more; is = refl; same = bytes_same k.named.name name same; lower = tt };
  file_is = is;
}

found_by : (b : Bool) (k : FileTrees) (more : List FileTrees) (name : List ℕ) (file : File) → same_bytes k.named.name
    name ≡ b → AllByRecursion (λ other. bytes_cmp k.named.name other ≡ Less) (names (named_of more)) →
    (if b then Some k.named.file else file_at name (named_of more)) ≡ Some file
    → (file_at name (named_of more) ≡ Some file → Found name more file) → Found name (k ∷ more) file
found_by true k more name file is above at rest = here k more name file is cc
found_by false k more name file is above at rest = later k more name file above (rest at)

pub found_of : (name : List ℕ) (kept : List FileTrees) (file : File)
    → IsStrictlySortedBy bytes_cmp (names (named_of kept)) → file_at name (named_of kept) ≡ Some file
    → Found name kept file
unfolding IsStrictlySortedBy
found_of name [] file up there = absurd cc
found_of name (k ∷ more) file up there =
    found_by (same_bytes k.named.name name) k more name file refl up.0 there (λ at. found_of name more file up.1 at)

-- another file under the name
named_with : List ℕ → File → NamedFile
named_with name file = record { name = name; file = file }

put_in : (name : List ℕ) (before : List FileTrees) (one new : FileTrees) (after : List FileTrees)
    → one.named.name ≡ name → new.named.name ≡ name
    → AllByRecursion (λ (k : FileTrees). bytes_cmp k.named.name name ≡ Less) before →
    with_file name new.named.file (named_of (before ++ one ∷ after)) ≡ named_of (before ++ new ∷ after)
unfolding named_with
put_in name [] one new after same is lower =
    ap (λ (b : Bool). if b then named_with name new.named.file ∷ named_of after
    else if is_lt (bytes_cmp one.named.name name) then one.named ∷ with_file name new.named.file (named_of after)
    else named_with name new.named.file ∷ one.named ∷ named_of after)
    (ap (λ (n : List ℕ). same_bytes n name) same ∙ same_itself name)
    ∙ ap (λ (n : List ℕ). named_with n new.named.file ∷ named_of after) (sym is)
put_in name (k ∷ before) one new after same is lower =
    let more : Files = named_of (before ++ one ∷ after) in
    ap (λ (o : Ordering). if is_eq o then named_with name new.named.file ∷ more else if is_lt o
    then k.named ∷ with_file name new.named.file more else named_with name new.named.file ∷ k.named ∷ more) lower.0
    ∙ ap (λ (l : Files). k.named ∷ l) (put_in name before one new after same is lower.1)

pub put_at : (name : List ℕ) (kept : List FileTrees) (one new : FileTrees) → (split : Split name kept one)
    → new.named.name ≡ name →
    with_file name new.named.file (named_of kept) ≡ named_of (split.before ++ new ∷ split.after)
put_at name kept one new split is =
    ap (λ (l : List FileTrees). with_file name new.named.file (named_of l)) split.is
    ∙ put_in name split.before one new split.after split.same is split.lower

-- and in the catalog
value_in : (mark : ℕ) (name : List ℕ) (before : List FileTrees) (one new : FileTrees) (after : List FileTrees)
    → is_name name ≡ true → one.named.name ≡ name → new.named.name ≡ name
    → AllByRecursion (λ (k : FileTrees). bytes_cmp k.named.name name ≡ Less) before →
    AllByRecursion (λ (k : FileTrees). is_name k.named.name ≡ true) before → with_value
    (map (catalog_entry mark) (before ++ one ∷ after)) (catalog_entry mark new)
    ≡ map (catalog_entry mark) (before ++ new ∷ after)
value_in mark name [] one new after named same is lower all =
    let equal : is_eq (key_cmp (padded_name one.named.name) (padded_name new.named.name)) ≡ true =
    ap (λ (n : List ℕ). is_eq (key_cmp (padded_name n) (padded_name new.named.name))) same
    ∙ ap (λ (n : List ℕ). is_eq (key_cmp (padded_name name) (padded_name n))) is ∙ same_itself (padded_name name) in
    ap (λ (b : Bool). if b then catalog_entry mark new ∷ map (catalog_entry mark) after
    else catalog_entry mark one ∷ with_value (map (catalog_entry mark) after) (catalog_entry mark new)) equal
value_in mark name (k ∷ before) one new after named same is lower all =
    let more : List Entry = map (catalog_entry mark) (before ++ one ∷ after) in
    let less : key_cmp (padded_name k.named.name) (padded_name new.named.name) ≡ Less =
    ap (λ (n : List ℕ). key_cmp (padded_name k.named.name) (padded_name n)) is
    ∙ names_in_order k.named.name name all.0 named ∙ lower.0 in
    ap (λ (o : Ordering). if is_eq o then catalog_entry mark new ∷ more
    else catalog_entry mark k ∷ with_value more (catalog_entry mark new)) less
    ∙ ap (λ (es : List Entry). catalog_entry mark k ∷ es)
    (value_in mark name before one new after named same is lower.1 all.1)

pub value_at : (mark : ℕ) (name : List ℕ) (kept : List FileTrees) (one new : FileTrees) → (split : Split name kept one)
    → is_name
    name ≡ true → new.named.name ≡ name → AllByRecursion (λ (k : FileTrees). is_name k.named.name ≡ true) split.before →
    with_value (map (catalog_entry mark) kept) (catalog_entry mark new)
    ≡ map (catalog_entry mark) (split.before ++ new ∷ split.after)
value_at mark name kept one new split named is all =
    ap (λ (l : List FileTrees). with_value (map (catalog_entry mark) l) (catalog_entry mark new)) split.is
    ∙ value_in mark name split.before one new split.after named split.same is split.lower all
