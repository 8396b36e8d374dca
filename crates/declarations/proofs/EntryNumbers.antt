-- Numbers of entries, as those before them are passed.
use Rattle.std.proofs.Common.{◌≡◌, ℕ, zero, suc, ◌+◌, ◌-◌, ◌<◌, ◌≤◌, List, [], ◌∷◌, ◌++◌, Some, length, drop, get_or}
use Rattle.std.proofs.Common.{refl, sym, ap, ◌∙◌, add-one, drop-cons, length-append, arith}
use Rattle.std.specs.Prelude.{slice_get, Bool, ◌==◌}
use Rattle.source_tree.specs.Levels.{level_of}
use Rattle.source_tree.specs.declared.entry.ItemEntry.{ItemEntry}
use Rattle.source_tree.specs.declared.entry.ConditionEntry.{ConditionEntry}
use Rattle.source_tree.specs.declared.entry.Entry.{Entry}
use Rattle.source_tree.specs.declared.entry.Entry.TheVariants as entry
use Rattle.source_tree.specs.declared.select.FileDescription.{FileDescription}
use Rattle.declarations.specs.Entries.{items_among, items_of_files}

-- What has this number among all has that one among these, and all are so many more.
pub record IsBehind (all rest : List ItemEntry) (number left : ℕ) : Type 0 where
  pub same : slice_get all number ≡ slice_get rest left
  pub count : number + length rest ≡ length all + left

pub behind_none : (all : List ItemEntry) (number : ℕ) → IsBehind all all number number
behind_none all number = record { same = refl; count = omega arith }

-- past one of them
pub behind_one : {all rest : List ItemEntry} {number left : ℕ} (one : ItemEntry) (more : List ItemEntry)
    → rest ≡ one ∷ more → IsBehind all rest number left → 1 ≤ left → IsBehind all more number (left - 1)
behind_one {all} {rest} {number} {left} one more e h some =
    let count = h.count in
    let long : length rest ≡ length more + 1 = ap length e ∙ (omega arith) in
    let step : left ≡ suc (left - 1) = omega arith in
    record {
      same = h.same ∙ ap (λ (l : List ItemEntry). slice_get l left) e ∙ ap (slice_get (one ∷ more)) step;
      count = omega (arith, count, long, some);
    }

-- the first of them
pub behind_here : {all rest : List ItemEntry} {number left : ℕ} (one : ItemEntry) (more : List ItemEntry)
    → rest ≡ one ∷ more → IsBehind all rest number left → left ≡ 0 → slice_get all number ≡ Some one
behind_here {all} {rest} {number} {left} one more e h none =
    h.same ∙ ap (λ (l : List ItemEntry). slice_get l left) e ∙ ap (slice_get (one ∷ more)) none

pub past_front : (xs ys : List ItemEntry) (left : ℕ) → slice_get (xs ++ ys) (length xs + left) ≡ slice_get ys left
past_front [] ys left = let same : length {A = ItemEntry} [] + left ≡ left = omega arith in ap (slice_get ys) same
past_front (x ∷ xs) ys left =
    let same : length (x ∷ xs) + left ≡ suc (length xs + left) = omega arith in
    ap (slice_get ((x ∷ xs) ++ ys)) same ∙ past_front xs ys left

pub in_front : (xs ys : List ItemEntry) (number : ℕ) (one : ItemEntry) → slice_get xs number ≡ Some one
    → slice_get (xs ++ ys) number ≡ Some one
in_front [] ys number one e = cc
in_front (x ∷ xs) ys zero one e = e
in_front (x ∷ xs) ys (suc n) one e = in_front xs ys n one e

-- past all of a file
pub behind_file : {all rest : List ItemEntry} {number left : ℕ} (some more : List ItemEntry) (new : ℕ)
    → rest ≡ some ++ more → IsBehind all rest number left → left ≡ length some + new → IsBehind all more number new
behind_file {all} {rest} {number} {left} some more new e h past =
    let count = h.count in
    let long = ap length e ∙ length-append some more in
    record {
      same = h.same ∙ ap (λ (l : List ItemEntry). slice_get l left) e ∙ ap (slice_get (some ++ more)) past
          ∙ past_front some more new;
      count = omega (arith, count, long, past);
    }

-- one of them
pub behind_found : {all rest : List ItemEntry} {number left : ℕ} (some more : List ItemEntry) (one : ItemEntry)
    → rest ≡ some ++ more → IsBehind all rest number left → slice_get some left ≡ Some one
    → slice_get all number ≡ Some one
behind_found {all} {rest} {number} {left} some more one e h found =
    h.same ∙ ap (λ (l : List ItemEntry). slice_get l left) e ∙ in_front some more left one found

pub behind_all : {all : List ItemEntry} {number left : ℕ} → IsBehind all [] number left → number ≡ length all + left
behind_all h = let count = h.count in omega (arith, count)

-- ---- entries and files at a place

pub files_at : (all : List FileDescription) (i : ℕ) (d : FileDescription) → i < length all
    → items_of_files (drop i all) ≡ items_among (get_or all i d).entries ++ items_of_files (drop (i + 1) all)
files_at all i d h = ap items_of_files (drop-cons all i d h)
    ∙ ap (λ k. items_among (get_or all i d).entries ++ items_of_files (drop k all)) (sym (add-one i))

abbrev own : Entry → List ItemEntry
own (entry.Item one) = one ∷ []
own (entry.Condition one) = []

own_at : (one : Entry) (more : List Entry) → items_among (one ∷ more) ≡ own one ++ items_among more
own_at (entry.Item one) more = refl
own_at (entry.Condition one) more = refl

pub entries_at : (all : List Entry) (i : ℕ) (d : Entry) → i < length all
    → items_among (drop i all) ≡ own (get_or all i d) ++ items_among (drop (i + 1) all)
entries_at all i d h = ap items_among (drop-cons all i d h) ∙ own_at (get_or all i d) (drop (suc i) all)
    ∙ ap (λ k. own (get_or all i d) ++ items_among (drop k all)) (sym (add-one i))

pub item_at : (all : List Entry) (i : ℕ) (d : Entry) (one : ItemEntry) → i < length all → d ≡ get_or all i d
    → d ≡ entry.Item one → items_among (drop i all) ≡ one ∷ items_among (drop (i + 1) all)
item_at all i d one h is item =
    entries_at all i d h ∙ ap (λ (x : Entry). own x ++ items_among (drop (i + 1) all)) (sym is ∙ item)

pub condition_at : (all : List Entry) (i : ℕ) (d : Entry) (one : ConditionEntry) → i < length all → d ≡ get_or all i d
    → d ≡ entry.Condition one → items_among (drop i all) ≡ items_among (drop (i + 1) all)
condition_at all i d one h is item =
    entries_at all i d h ∙ ap (λ (x : Entry). own x ++ items_among (drop (i + 1) all)) (sym is ∙ item)

-- ---- the level of an item

pub same_level : (a b : ItemEntry) (test : Bool) (all : List ItemEntry) (number : ℕ) → slice_get all number ≡ Some a
    → slice_get all number ≡ Some b → test ≡ (level_of a == 1) → test ≡ (level_of b == 1)
same_level a b test all number e f h =
    let both : Some a ≡ Some b = sym e ∙ f in
    let same : a ≡ b = (cc) in
    h ∙ ap (λ (one : ItemEntry). level_of one == 1) same
