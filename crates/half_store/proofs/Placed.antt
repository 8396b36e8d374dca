-- A file among files in memory.
use Rattle.std.proofs.Common.{◌≡◌, ◌≤◌, ◌<◌, ◌+◌, Bool, true, false, cond, ⊎_elim, ℕ, zero, suc, List, [], ◌∷◌, ◌++◌}
use Rattle.std.proofs.Common.{length, map, take, drop, set, get_or, append_assoc, length-append, refl, sym, ◌∙◌, ap}
use Rattle.std.proofs.Common.{subst}
use Rattle.std.proofs.Common.{arith}
use Rattle.std.specs.Prelude.{Option, Some, None, Result, Ok, Err, OnOk, IfOk}
use Rattle.std.specs.Ordering.{is_lt, is_eq}
use Rattle.std.specs.List.{AllByRecursion, insert}
use Rattle.std.specs.List.Sorted.{IsStrictlySortedBy}
use Rattle.std.specs.declared.cmp.Ordering.{Ordering}
use Rattle.std.specs.declared.cmp.Ordering.TheVariants.{Less, Equal, Greater}
use Rattle.std.proofs.lemmas.Bool.{cond-true, cond_both, cases_lt}
use Rattle.std.proofs.lemmas.List.{take_more, drop_more, drop_all, set-get_or, map-append, length-map, take-append-drop}
use Rattle.std.proofs.lemmas.List.{set_split}
use Rattle.std.proofs.lemmas.Map.Keys.{sorted_head, sorted_tail}
use Rattle.records.specs.declared.answer.Outcome.{Outcome}
use Rattle.records.specs.declared.fault.StoreFault.{StoreFault}
use Rattle.records.specs.declared.file_spec.FileSpec.{FileSpec}
use Rattle.records.specs.Stores.{Has, is_change, files_after}
use Rattle.records.specs.Rows.{Row, bytes_cmp, same_bytes}
use Rattle.records.specs.Files.{File, Files, NamedFile, IsRow, AreFiles, names, file_at, with_file}
use Rattle.records.specs.Changes.{FileChange}
use Rattle.records.specs.Laws.{RowsAscend}
use Rattle.records.specs.Spec.{Spec}
use Rattle.records.proofs.Maps.{bytes_same}
use Rattle.records.proofs.Changed.{there_is_file}
use Rattle.half_store.specs.Seeking.{AreRecords}
use Rattle.file_bytes.specs.declared.stored.StoredFile.{StoredFile}
use Rattle.file_bytes.specs.Stored.{row_of, file_of, named_of, files_of}
use Rattle.half_store.specs.Half.{AreEarly}
use Rattle.half_store.specs.Changing.{Becomes, BecomesIn}

-- the file under a name
abbrev first : Bool → StoredFile → List ℕ → List StoredFile → Option File
first b one name more = cond b (Some (file_of one)) (file_at name (files_of more))

pub missed : (name : List ℕ) (files : List StoredFile) (k : ℕ) (d : StoredFile) → k < length files
    → same_bytes (get_or files k d).spec.name.items name ≡ false
    → file_at name (files_of (drop k files)) ≡ file_at name (files_of (drop (k + 1) files))
missed name files k d lt other = ap (λ (l : List StoredFile). file_at name (files_of l)) (drop_more files k d lt)
    ∙ ap (λ (b : Bool). first b (get_or files k d) name (drop (k + 1) files)) other

pub met : (name : List ℕ) (files : List StoredFile) (k : ℕ) (d : StoredFile) → k < length files
    → same_bytes (get_or files k d).spec.name.items name ≡ true
    → file_at name (files_of (drop k files)) ≡ Some (file_of (get_or files k d))
met name files k d lt same = ap (λ (l : List StoredFile). file_at name (files_of l)) (drop_more files k d lt)
    ∙ ap (λ (b : Bool). first b (get_or files k d) name (drop (k + 1) files)) same

pub not_there : (name : List ℕ) (files : List StoredFile) (k : ℕ) → length files ≤ k
    → file_at name (files_of (drop k files)) ≡ None
not_there name files k le = ap (λ (l : List StoredFile). file_at name (files_of l)) (drop_all k files le)

-- a file in place of one of its name
below : (P : List ℕ → Type 0) (files : List StoredFile) (j : ℕ) (d : StoredFile) → j < length files
    → AllByRecursion P (names (files_of files)) → P (get_or files j d).spec.name.items
below P [] j d lt all = absurd (omega (arith, lt))
below P (file ∷ files) zero d lt all = all.0
below P (file ∷ files) (suc j) d lt all = below P files j d (omega (arith, lt)) all.1

abbrev behind : Ordering → NamedFile → List ℕ → File → Files → Files
behind r one name file more = cond (is_eq r) (record { name = name; file = file } ∷ more)
    (cond (is_lt r) (one ∷ with_file name file more) (record { name = name; file = file } ∷ one ∷ more))

abbrev named_as : List ℕ → StoredFile → NamedFile
named_as name f = record { name = name; file = file_of f }

pub put_at : (name : List ℕ) (files : List StoredFile) (i : ℕ) (d f : StoredFile) → i < length files
    → IsStrictlySortedBy bytes_cmp (names (files_of files)) → same_bytes (get_or files i d).spec.name.items name ≡ true
    → f.spec ≡ (get_or files i d).spec
    → with_file name (file_of f) (files_of files) ≡ files_of (set files i f)
put_at name [] i d f lt ascend same spec = absurd (omega (arith, lt))
put_at name (one ∷ more) zero d f lt ascend same spec =
    cond-true (same_bytes one.spec.name.items name) (named_as name f ∷ files_of more)
    (cond (is_lt (bytes_cmp one.spec.name.items name)) (named_of one ∷ with_file name (file_of f) (files_of more))
    (named_as name f ∷ named_of one ∷ files_of more)) same
    ∙ ap (λ (n : List ℕ). named_as n f ∷ files_of more)
    (sym (ap (λ (s : FileSpec). s.name.items) spec ∙ bytes_same one.spec.name.items name same))
put_at name (one ∷ more) (suc j) d f lt ascend same spec =
    let less : bytes_cmp one.spec.name.items name ≡ Less = subst
    (λ (n : List ℕ). bytes_cmp one.spec.name.items n ≡ Less) (bytes_same (get_or more j d).spec.name.items name same)
    (below (λ n. bytes_cmp one.spec.name.items n ≡ Less) more j d (omega (arith, lt))
    (sorted_head bytes_cmp one.spec.name.items (names (files_of more)) ascend)) in
    ap (λ (r : Ordering). behind r (named_of one) name (file_of f) (files_of more)) less
    ∙ ap (λ (l : Files). named_of one ∷ l) (put_at name more j d f (omega (arith, lt))
    (sorted_tail bytes_cmp one.spec.name.items (names (files_of more)) ascend) same spec)

abbrev after_if : Bool → List ℕ → File → Files → Files
after_if b name file files = cond b (with_file name file files) files

-- the files after a change of one of them
pub changed_at : (name : List ℕ) (files : List StoredFile) (i : ℕ) (d f : StoredFile) (changed : FileChange)
    → i < length files → IsStrictlySortedBy bytes_cmp (names (files_of files))
    → same_bytes (get_or files i d).spec.name.items name ≡ true
    → f.spec ≡ (get_or files i d).spec → file_of f ≡ changed.file
    → (is_change changed.outcome ≡ false → f ≡ get_or files i d)
    → files_of (set files i f) ≡ files_after name (files_of files) changed
changed_at name files i d f changed lt ascend same spec file idle = by_change (is_change changed.outcome) refl
  where
    by_change : (b : Bool) → is_change changed.outcome ≡ b
        → files_of (set files i f) ≡ after_if (is_change changed.outcome) name changed.file (files_of files)
    by_change true is =
        sym (put_at name files i d f lt ascend same spec) ∙ ap (λ (g : File). with_file name g (files_of files)) file
        ∙ sym (ap (λ (c : Bool). after_if c name changed.file (files_of files)) is)
    by_change false is = ap (λ (g : StoredFile). files_of (set files i g)) (idle is)
        ∙ ap files_of (set-get_or files i d) ∙ sym (ap (λ (c : Bool). after_if c name changed.file (files_of files)) is)

abbrev IsThat : Option File → File → Type 0
IsThat None file = ⊥
IsThat (Some one) file = one ≡ file

pub one_file : (there : Option File) (one two : File) → there ≡ Some one → there ≡ Some two → one ≡ two
one_file there one two is also =
    subst (λ (o : Option File). IsThat o two) is (subst (λ (o : Option File). IsThat o two) (sym also) refl)

abbrev IsFound : List StoredFile → List ℕ → ℕ → StoredFile → Type 0
IsFound files name i d = (file_at name (files_of files) ≡ Some (file_of (get_or files i d)))
    × (same_bytes (get_or files i d).spec.name.items name ≡ true)

pub found_there : (files seen : List StoredFile) (name told : List ℕ) (i : ℕ) (d : StoredFile) → seen ≡ files
    → told ≡ name → IsFound seen told i d → IsFound files name i d
found_there files seen name told i d same called found =
    subst (λ (n : List ℕ). IsFound files n i d) called (subst (λ (l : List StoredFile). IsFound l told i d) same found)

pub early_held : (g : ℕ) (name : List ℕ) (files : Files) (held : File) → AreEarly g files
    → file_at name files ≡ Some held → held.next_arrival ≤ g
early_held g name files held early is = go files early (subst (λ (o : Option File). IsThat o held) (sym is) refl)
  where
    go : (files : Files) → AreEarly g files → IsThat (file_at name files) held → held.next_arrival ≤ g
    go [] early never = absurd never
    go (one ∷ more) early here = cond_both (same_bytes one.name name) (Some one.file) (file_at name more)
        (λ o. IsThat o held → held.next_arrival ≤ g)
        (λ _ same. subst (λ (f : File). f.next_arrival ≤ g) same early.0) (λ _ later. go more early.1 later) here

pub no_change : (name : List ℕ) (files : Files) (changed : FileChange) → is_change changed.outcome ≡ false
    → files_after name files changed ≡ files
no_change name files changed is = ap (λ (b : Bool). after_if b name changed.file files) is

-- a changed file among files
three_ok : {T E A B : Type 0} {Q R : T → Type 0} (r : Result T E) → IfOk r Q → OnOk r A → OnOk r B → IfOk r R
    → {C : Type 0} → ((x : T) → Q x → A → B → R x → C) → OnOk r C
three_ok (Ok x) q a b r from = from x q a b r
three_ok (Err e) q a b r from = tt

pub becomes_in : (files : List StoredFile) (spec : FileSpec) (i : ℕ) (old new : StoredFile) (held : File)
    (result : Result Outcome StoreFault) (change : File → FileChange)
    → i < length files → get_or files i old ≡ old → IsFound files spec.name.items i old → Has (files_of files) spec held
    → AreFiles (files_of files) → Becomes result (change (file_of old)) old new
    → BecomesIn result spec.name.items (change held) held files (set files i new)
becomes_in files spec i old new held result change lt here found has are becomes =
    let is : held ≡ file_of old =
    one_file _ held (file_of old) has.there (found.0 ∙ ap (λ (f : StoredFile). Some (file_of f)) here) in
    record {
      outcome = subst (λ (f : File). IfOk result (λ outcome. outcome ≡ (change f).outcome)) (sym is) becomes.outcome;
      after = three_ok result becomes.outcome becomes.after becomes.spec becomes.idle
          (λ outcome told file same idle. changed_at spec.name.items files i old new (change held) lt are.ascend found.1
          (same ∙ ap (λ (f : StoredFile). f.spec) (sym here))
          (file ∙ ap (λ (f : File). (change f).file) (sym is))
          (λ none. idle (ap is_change (told ∙ ap (λ (f : File). (change f).outcome) (sym is)) ∙ none) ∙ sym here));
      full = λ e. let late = becomes.full e in omega (arith, late, ap (λ (f : File). f.next_arrival) is);
      changes = λ e. ap (λ (f : File). is_change (change f).outcome) is ∙ becomes.changes e;
      sound = becomes.sound;
    }

pub held_is : (files : List StoredFile) (spec : FileSpec) (i : ℕ) (old : StoredFile) (held : File)
    → get_or files i old ≡ old → IsFound files spec.name.items i old → Has (files_of files) spec held
    → held ≡ file_of old
held_is files spec i old held here found has =
    one_file _ held (file_of old) has.there (found.0 ∙ ap (λ (f : StoredFile). Some (file_of f)) here)

-- arrivals after a change
later : (g : ℕ) (files : Files) → AreEarly g files → AreEarly (g + 1) files
later g [] all = tt
later g (one ∷ more) all = (omega (arith, all.0), later g more all.1)

pub early_with : (g : ℕ) (name : List ℕ) (file : File) (files : Files) → file.next_arrival ≤ g + 1 → AreEarly g files
    → AreEarly (g + 1) (with_file name file files)
early_with g name file [] le all = (le, tt)
early_with g name file (one ∷ more) le all =
    cond_both (same_bytes one.name name) (record { name = name; file = file } ∷ more)
    (cond (is_lt (bytes_cmp one.name name)) (one ∷ with_file name file more)
    (record { name = name; file = file } ∷ one ∷ more)) (AreEarly (g + 1))
    (λ _. (le, later g more all.1))
    (λ _. cond_both (is_lt (bytes_cmp one.name name)) (one ∷ with_file name file more)
    (record { name = name; file = file } ∷ one ∷ more) (AreEarly (g + 1))
    (λ _. (omega (arith, all.0), early_with g name file more le all.1)) (λ _. (le, later g (one ∷ more) all)))

pub early_after : (g : ℕ) (name : List ℕ) (files : Files) (changed : FileChange) → changed.file.next_arrival ≤ g + 1
    → AreEarly g files → AreEarly (g + 1) (files_after name files changed)
early_after g name files changed le all = cond_both (is_change changed.outcome) (with_file name changed.file files)
    files (AreEarly (g + 1)) (λ _. early_with g name changed.file files le all) (λ _. later g files all)

-- the place of a name
abbrev pub PassedNames : List ℕ → List StoredFile → ℕ → Type 0
PassedNames name files k = (file : File)
    → with_file name file (files_of files) ≡ files_of (take k files) ++ with_file name file (files_of (drop k files))

pub passed_there : {files seen : List StoredFile} {name told : List ℕ} (k : ℕ) → seen ≡ files → told ≡ name
    → PassedNames told seen k → PassedNames name files k
passed_there {files} {seen} {name} {told} k same called passed =
    subst (λ (l : List StoredFile). PassedNames name l k) same
    (subst (λ (n : List ℕ). PassedNames n seen k) called passed)

abbrev stepped : Bool → Bool → List ℕ → File → NamedFile → Files → Files
stepped same less name file one more = cond same (record { name = name; file = file } ∷ more)
    (cond less (one ∷ with_file name file more) (record { name = name; file = file } ∷ one ∷ more))

by_order : (r : Ordering) (name : List ℕ) (file : File) (one : NamedFile) (more : Files) → is_lt r ≡ true
    → stepped (is_eq r) (is_lt r) name file one more ≡ one ∷ with_file name file more
by_order Less name file one more is = refl
by_order Equal name file one more is = absurd cc
by_order Greater name file one more is = absurd cc

pub pass_name : (name : List ℕ) (files : List StoredFile) (k : ℕ) (d : StoredFile)
    → k < length files → is_lt (bytes_cmp (get_or files k d).spec.name.items name) ≡ true → PassedNames name files k
    → PassedNames name files (k + 1)
pass_name name files k d lt less so_far file = so_far file
    ∙ ap (λ (l : List StoredFile). files_of (take k files) ++ with_file name file (files_of l)) (drop_more files k d lt)
    ∙ ap (λ (l : Files). files_of (take k files) ++ l) (by_order (bytes_cmp (get_or files k d).spec.name.items name)
    name file (named_of (get_or files k d)) (files_of (drop (k + 1) files)) less)
    ∙ sym (append_assoc (files_of (take k files)) (named_of (get_or files k d) ∷ [])
    (with_file name file (files_of (drop (k + 1) files))))
    ∙ ap (λ (l : Files). l ++ with_file name file (files_of (drop (k + 1) files)))
    (sym (map-append named_of (take k files) (get_or files k d ∷ [])) ∙ ap files_of (sym (take_more files k d lt)))

-- a file comes in the place of one of its name, or before the first whose name is greater
pub put_here : (name : List ℕ) (files : List StoredFile) (k : ℕ) (d f : StoredFile) → k < length files
    → PassedNames name files k → same_bytes (get_or files k d).spec.name.items name ≡ true → f.spec.name.items ≡ name
    → files_of (set files k f) ≡ with_file name (file_of f) (files_of files)
put_here name files k d f lt passed same named = sym (
    passed (file_of f)
    ∙ ap (λ (l : List StoredFile). files_of (take k files) ++ with_file name (file_of f) (files_of l))
    (drop_more files k d lt)
    ∙ ap (λ (b : Bool). files_of (take k files) ++ stepped b (is_lt (bytes_cmp (get_or files k d).spec.name.items name))
    name (file_of f) (named_of (get_or files k d)) (files_of (drop (k + 1) files))) same
    ∙ ap (λ (n : List ℕ).
    files_of (take k files) ++ record { name = n; file = file_of f } ∷ files_of (drop (k + 1) files)) (sym named)
    ∙ sym (map-append named_of (take k files) (f ∷ drop (k + 1) files))
    ∙ ap files_of (sym (set_split files k f lt
    ∙ ap (λ (n : ℕ). take k files ++ f ∷ drop n files) (let e : suc k ≡ k + 1 = omega arith in e))))

not_before : (r : Ordering) (name : List ℕ) (file : File) (one : NamedFile) (more : Files) → is_lt r ≡ false → is_eq
    r ≡ false → stepped (is_eq r) (is_lt r) name file one more ≡ record { name = name; file = file } ∷ one ∷ more
not_before Less name file one more is other = absurd cc
not_before Equal name file one more is other = absurd cc
not_before Greater name file one more is other = refl

pub put_before : (name : List ℕ) (files : List StoredFile) (k : ℕ) (d f : StoredFile)
    → PassedNames name files k → (k < length files → (is_lt (bytes_cmp (get_or files k d).spec.name.items name) ≡ false)
    × (same_bytes (get_or files k d).spec.name.items name ≡ false)) → f.spec.name.items ≡ name
    → files_of (insert files k f) ≡ with_file name (file_of f) (files_of files)
put_before name files k d f passed behind named = sym (passed (file_of f) ∙ ap (λ (l : Files). files_of (take k files)
    ++ l) (⊎_elim here past (cases_lt k (length files))) ∙ sym (map-append named_of (take k files) (f ∷ drop k files)))
  where
    here : k < length files → with_file name (file_of f) (files_of (drop k files)) ≡ files_of (f ∷ drop k files)
    here lt = ap (λ (l : List StoredFile). with_file name (file_of f) (files_of l)) (drop_more files k d lt)
        ∙ not_before (bytes_cmp (get_or files k d).spec.name.items name) name (file_of f) (named_of (get_or files k d))
        (files_of (drop (k + 1) files)) (behind lt).0 (behind lt).1
        ∙ ap (λ (n : List ℕ).
        record { name = n; file = file_of f } ∷ named_of (get_or files k d) ∷ files_of (drop (k + 1) files)) (sym named)
        ∙ ap (λ (l : List StoredFile). named_of f ∷ files_of l) (sym (drop_more files k d lt))

    past : length files ≤ k → with_file name (file_of f) (files_of (drop k files)) ≡ files_of (f ∷ drop k files)
    past le = ap (λ (l : List StoredFile). with_file name (file_of f) (files_of l)) (drop_all k files le)
        ∙ ap (λ (n : List ℕ). let one : NamedFile = record { name = n; file = file_of f } in one ∷ []) (sym named)
        ∙ ap (λ (l : List StoredFile). named_of f ∷ files_of l) (sym (drop_all k files le))

pub inserted_count : (files : List StoredFile) (k : ℕ) (f : StoredFile) → length (insert files k f) ≡ suc (length files)
inserted_count files k f = length-append (take k files) (f ∷ drop k files)
    ∙ omega (arith, length-append (take k files) (drop k files), ap length (take-append-drop k files))

pub counted : (files : List StoredFile) → length (files_of files) ≡ length files
counted files = length-map files named_of

-- the records of a file that is there have its length
all_long : (spec : Spec) (next : ℕ) (rows : List Row) → AllByRecursion (IsRow spec next) rows
    → AreRecords spec.record_length rows
all_long spec next [] all = tt
all_long spec next (row ∷ rows) all = (all.0.long, all_long spec next rows all.1)

pub records_held : (name : List ℕ) (files : Files) (held : File) → AreFiles files → file_at name files ≡ Some held
    → AreRecords held.spec.record_length held.rows
records_held name files held are there =
    all_long held.spec held.next_arrival held.rows (there_is_file name held files are there).rows

-- the rows of a file that is there ascend
pub rows_ascend : (name : List ℕ) (files : Files) (held : File) → AreFiles files → file_at name files ≡ Some held
    → RowsAscend held.spec.organization held.rows
rows_ascend name files held are there = (there_is_file name held files are there).ascend

-- A file of this name was found at a place, in what was seen of the files.
pub record IsFoundAt (files : List StoredFile) (spec : FileSpec) (place : ℕ) (old : StoredFile) : Type 0 where
  pub lt : place < length files
  pub here : get_or files place old ≡ old
  pub found : IsFound files spec.name.items place old

pub is_found_at : (files : List StoredFile) (spec : FileSpec) (place : ℕ) (old : StoredFile) {seen : List StoredFile}
    {name : List ℕ} → seen ≡ files → name ≡ spec.name.items → place < length seen
    → (place < length files → old ≡ get_or files place old) → IsFound seen name place old
    → IsFoundAt files spec place old
is_found_at files spec place old {seen} {name} same called lt read found =
    let lt' = subst (λ (l : List StoredFile). place < length l) same lt in
    record {
      lt = lt';
      here = sym (read lt');
      found = found_there files seen spec.name.items name place old same called found;
    }

-- what a change of that file, whose rows ascend, is among the files
pub row_becomes_in : {files : List StoredFile} {spec : FileSpec} {place : ℕ} {old new : StoredFile} {held : File}
    {result : Result Outcome StoreFault} (change : File → FileChange) → IsFoundAt files spec place old
    → Has (files_of files) spec held → AreFiles (files_of files)
    → (RowsAscend old.spec.organization (map row_of old.rows.items) → old.spec.organization ≡ spec.organization
    → Becomes result (change (file_of old)) old new)
    → BecomesIn result spec.name.items (change held) held files (set files place new)
row_becomes_in {files} {spec} {place} {old} {new} {held} {result} change at has are becomes =
    let is : held ≡ file_of old = held_is files spec place old held at.here at.found has in
    becomes_in files spec place old new held result change at.lt at.here at.found has are
    (becomes (subst (λ (f : File). RowsAscend f.spec.organization f.rows) is
    (there_is_file spec.name.items held (files_of files) are has.there).ascend)
    (ap (λ (f : File). f.spec.organization) (sym is) ∙ ap (λ (s : Spec). s.organization) has.spec))
