-- A change of a file, put on the disk.
use Rattle.std.proofs.Common.{◌≡◌, inl, inr, ⊎_elim, ◌<◌, ◌≤◌, ◌+◌, ◌*◌, ◌||◌, Bool, true, false, ℕ, List, [], length}
use Rattle.std.proofs.Common.{refl, sym, ap, ◌∙◌, arith}
use Rattle.std.specs.Prelude.{filter, Option, Some, None, if◌then◌else◌}
use Rattle.std.proofs.lemmas.Bool.{cond_both}
use Rattle.pages.specs.Image.{Volume}
use Rattle.pages.specs.Use.{free_count}
use Rattle.pages.specs.Pages.{committed_of, changed_pages_of, needed_of, IsFull, SameCommitted}
use Rattle.pages.specs.declared.page_map.PageMap.{PageMap}
use Rattle.btree.specs.Results.{FewChanged}
use Rattle.chains.specs.Chain.{pages_for}
use Rattle.records.specs.declared.answer.Outcome.TheVariants.{Taken}
use Rattle.records.specs.declared.file_spec.AlternateKey.{AlternateKey}
use Rattle.records.specs.declared.file_spec.Organization.{Organization}
use Rattle.records.specs.Spec.{Spec}
use Rattle.records.specs.Rows.{Row, Pair, named_pair}
use Rattle.records.specs.Changes as rows
use Rattle.records.specs.Changes.{FileChange, row_at, has_prime, new_row, replaced_row, removed_row, without_change}
use Rattle.records.specs.Changes.{is_taken, is_duplicate, done_outcome, changes}
use Rattle.records.specs.Files.{File, Files, file_at, with_file}
use Rattle.records.specs.Stores.{is_change, files_after, pair_of}
use Rattle.records.proofs.Maps.{found_again}
use Rattle.volume_format.specs.Chained.{chained_bytes}
use Rattle.alternate_keys.specs.declared.row_verb.RowVerb.{RowVerb}
use Rattle.alternate_keys.specs.declared.row_verb.RowVerb.TheVariants.{Insert, Replace, Remove}
use Rattle.alternate_keys.specs.Moved.{changed_by}
use Rattle.alternate_keys.specs.NewRow.{file_with}
use Rattle.alternate_keys.specs.Stands.{LacksSpace, keys_of, record_pages}
use Rattle.alternate_keys.proofs.ReplaceRow.{file_changed}
use Rattle.alternate_keys.proofs.Still.{same_volume}

-- a change of a row leaves what the file is
replaced_spec : (pair : Pair) (bytes : List ℕ) (file : File) (found : Option Row)
    → (replaced_row pair bytes file found).file.spec ≡ file.spec
replaced_spec pair bytes file None = refl
replaced_spec pair bytes file (Some row) =
    let keys : List AlternateKey = filter (changes row.bytes bytes) file.spec.alternates in
    let others : List Row = rows.without_pair file.spec.organization pair file.rows in
    cond_both (is_taken keys others bytes) (without_change Taken file)
    (record { outcome = done_outcome (is_duplicate keys others bytes); file = file_changed pair bytes row file })
    (λ (c : FileChange). c.file.spec ≡ file.spec) (λ _. refl) (λ _. refl)

removed_spec : (pair : Pair) (file : File) (found : Option Row) → (removed_row pair file found).file.spec ≡ file.spec
removed_spec pair file None = refl
removed_spec pair file (Some row) = refl

pub changed_spec : (verb : RowVerb) (o : Organization) (number : ℕ) (bytes : List ℕ) (file : File)
    → (changed_by verb o number bytes file).file.spec ≡ file.spec
changed_spec Insert o number bytes file =
    cond_both (has_prime file (new_row file number bytes) || is_taken file.spec.alternates file.rows bytes)
    (without_change Taken file)
    (record {
      outcome = done_outcome (is_duplicate file.spec.alternates file.rows bytes);
      file = file_with (new_row file number bytes) file;
    }) (λ (c : FileChange). c.file.spec ≡ file.spec) (λ _. refl) (λ _. refl)
changed_spec Replace o number bytes file =
    let pair : Pair = named_pair file.spec.organization number bytes in
    replaced_spec pair bytes file (row_at file.spec.organization pair file.rows)
changed_spec Remove o number bytes file =
    let pair : Pair = pair_of o bytes number in
    removed_spec pair file (row_at file.spec.organization pair file.rows)

-- so it has as many alternate keys as before
keys_by : (b : Bool) (name : List ℕ) (files : Files) (held file : File) (n : ℕ)
    → file_at name files ≡ Some held → length held.spec.alternates ≡ n → file.spec ≡ held.spec
    → keys_of (file_at name (if b then with_file name file files else files)) ≡ n
keys_by true name files held file n there count spec =
    ap keys_of (found_again name file files) ∙ ap (λ (s : Spec). length s.alternates) spec ∙ count
keys_by false name files held file n there count spec = ap keys_of there ∙ count

keys_then : (name : List ℕ) (files : Files) (held : File) (changed : FileChange) (spec : Spec)
    → file_at name files ≡ Some held → held.spec ≡ spec → changed.file.spec ≡ held.spec
    → keys_of (file_at name (files_after name files changed)) ≡ length spec.alternates
keys_then name files held changed spec there is same = keys_by (is_change changed.outcome) name files held changed.file
    (length spec.alternates) there (ap (λ (s : Spec). length s.alternates) is) same

-- and its records have as many pages
pages_by : (b : Bool) (name : List ℕ) (files : Files) (held file : File) (n : ℕ)
    → file_at name files ≡ Some held → pages_for (chained_bytes held.spec) ≡ n → file.spec ≡ held.spec
    → record_pages (file_at name (if b then with_file name file files else files)) ≡ n
pages_by true name files held file n there count spec =
    ap record_pages (found_again name file files) ∙ ap (λ (s : Spec). pages_for (chained_bytes s)) spec ∙ count
pages_by false name files held file n there count spec = ap record_pages there ∙ count

pages_then : (name : List ℕ) (files : Files) (held : File) (changed : FileChange) (spec : Spec)
    → file_at name files ≡ Some held → held.spec ≡ spec → changed.file.spec ≡ held.spec
    → record_pages (file_at name (files_after name files changed)) ≡ pages_for (chained_bytes spec)
pages_then name files held changed spec there is same = pages_by (is_change changed.outcome) name files held
    changed.file (pages_for (chained_bytes spec)) there (ap (λ (s : Spec). pages_for (chained_bytes s)) is) same

-- where room is wanting
lacks_before : (volume : Volume) (name : List ℕ) (after : Files) (n m : ℕ) → keys_of (file_at name after) ≡ n
    → record_pages (file_at name after) ≡ m → free_count volume < 84 * n + (43 + m)
    → LacksSpace volume false name after
lacks_before volume name after n m keys many low = inl (omega (arith, keys, many, low))

lacks_then : (p q : PageMap) (name : List ℕ) (after : Files) (n m : ℕ) → keys_of (file_at name after) ≡ n
    → record_pages (file_at name after) ≡ m → SameCommitted p q → needed_of q ≤ 2 * length (changed_pages_of q)
    → length (changed_pages_of q) ≤ 84 * n + (43 + m) → IsFull q → LacksSpace (committed_of p) false name after
lacks_then p q name after n m keys many same needs few full =
    let volume = same_volume p q same in
    ⊎_elim (λ short. let free = ap free_count volume in inl (omega (arith, keys, many, needs, few, short, free)))
    (λ last. inr (inr (let own = ap (λ v. v.generation) same.volume in omega (arith, last, own)))) full.1

pub lacks_changed : (p : PageMap) (name : List ℕ) (files : Files) (held : File) (changed : FileChange) (spec : Spec)
    → file_at name files ≡ Some held → held.spec ≡ spec → changed.file.spec ≡ held.spec → changed_pages_of p ≡ []
    → free_count (committed_of p) < length (changed_pages_of p) + (84 * length spec.alternates
    + (43 + pages_for (chained_bytes spec))) → LacksSpace (committed_of p) false name (files_after name files changed)
lacks_changed p name files held changed spec there is same rested room =
    let none = ap (λ (l : List ℕ). length l) rested in
    lacks_before (committed_of p) name (files_after name files changed) (length spec.alternates)
    (pages_for (chained_bytes spec)) (keys_then name files held changed spec there is same)
    (pages_then name files held changed spec there is same) (omega (arith, room, none))

-- and where it is wanting for the commit
pub lacks_committed : (p q : PageMap) (name : List ℕ) (files : Files) (held : File) (changed : FileChange) (spec : Spec)
    → file_at name files ≡ Some held → held.spec ≡ spec → changed.file.spec ≡ held.spec → SameCommitted p q
    → needed_of q ≤ 2 * length (changed_pages_of q) → changed_pages_of p ≡ []
    → FewChanged (84 * length spec.alternates + (43 + pages_for (chained_bytes spec))) p q → IsFull q
    → LacksSpace (committed_of p) false name (files_after name files changed)
lacks_committed p q name files held changed spec there is same committed needs rested few full =
    let none = ap (λ (l : List ℕ). length l) rested in
    lacks_then p q name (files_after name files changed) (length spec.alternates) (pages_for (chained_bytes spec))
    (keys_then name files held changed spec there is same) (pages_then name files held changed spec there is same)
    committed needs (omega (arith, few, none)) full

-- a change that changes nothing leaves the files
pub files_rest : (name : List ℕ) (files : Files) (changed : FileChange) → is_change changed.outcome ≡ false
    → files ≡ files_after name files changed
files_rest name files changed none =
    sym (ap (λ (b : Bool). if b then with_file name changed.file files else files) none)
