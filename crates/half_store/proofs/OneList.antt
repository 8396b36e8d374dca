-- Bytes spell at most one list of files, and an image holds at most one.
use Rattle.std.proofs.Common.{◌≡◌, ◌≤◌, ◌<◌, ◌+◌, ◌*◌, ◌^◌, ℕ, List, [], ◌∷◌, ◌++◌, length, drop, length-append, refl}
use Rattle.std.proofs.Common.{sym, ◌∙◌, ap, arith}
use Rattle.std.specs.List.{AllByRecursion}
use Rattle.station.specs.Disk.{Sector}
use Rattle.roots.specs.declared.pair.Roots.{Roots}
use Rattle.roots.proofs.Within.{roots_stand}
use Rattle.records.specs.Spec.{Spec}
use Rattle.records.specs.Rows.{Row}
use Rattle.records.specs.Files.{Files, NamedFile}
use Rattle.half_store.specs.Half.{known_families, half, named_bytes, Holds}
use Rattle.half_store.specs.Read.{row_size, rows_in}
use Rattle.half_store.specs.Readable.{IsReadable}
use Rattle.half_store.specs.Spelled.{file_bytes, files_bytes}
use Rattle.file_bytes.proofs.Descriptions.{one_name, one_spec_in}
use Rattle.half_store.proofs.ReadFile.{name_there, spec_there, front, long, next_is, count_is, rows_are, rest_is}
use Rattle.half_store.proofs.Rested.{readable}

abbrev Begins : List ℕ → NamedFile → List ℕ → Type 0
Begins bytes one more = bytes ≡ file_bytes one ++ more

-- two files that the same bytes begin with
module _ (bytes : List ℕ) (one other : NamedFile) (more more' : List ℕ) (good : IsReadable one) (good' :
    IsReadable other) (is : Begins bytes one more) (is' : Begins bytes other more') (few : length bytes < 2 ^ 64) where
  same_name : one.name ≡ other.name
  same_name = one_name one.name other.name good.named.name good'.named.name
      (sym (name_there one.name _ bytes one.file.spec good.named.name (front one more bytes good is))
      ∙ name_there other.name _ bytes other.file.spec good'.named.name (front other more' bytes good' is'))

  abbrev s : Spec
  s = one.file.spec

  abbrev s' : Spec
  s' = other.file.spec

  same_spec : s ≡ s'
  same_spec = one_spec_in s s' _ _ (drop 30 bytes) good.named.file.spec good'.named.file.spec
      (spec_there one.name _ bytes s good.named.name (front one more bytes good is))
      (spec_there other.name _ bytes s' good'.named.name (front other more' bytes good' is'))

  same_next : one.file.next_arrival ≡ other.file.next_arrival
  same_next = sym (next_is one more bytes good is) ∙ next_is other more' bytes good' is'

  same_count : length one.file.rows ≡ length other.file.rows
  same_count = sym (count_is one more bytes good is few) ∙ count_is other more' bytes good' is' few

  same_rows : one.file.rows ≡ other.file.rows
  same_rows =
      sym (rows_are one more bytes good is)
      ∙ ap (λ (t : Spec). rows_in t (length one.file.rows) (drop 121 bytes)) same_spec
      ∙ ap (λ (n : ℕ). rows_in s' n (drop 121 bytes)) same_count
      ∙ rows_are other more' bytes good' is'

  abbrev named_with : List ℕ → Spec → List Row → ℕ → NamedFile
  named_with name spec rows next =
      record { name = name; file = record { spec = spec; rows = rows; next_arrival = next } }

  pub same_file : one ≡ other
  same_file =
      ap (λ (n : List ℕ). named_with n s one.file.rows one.file.next_arrival) same_name
      ∙ ap (λ (t : Spec). named_with other.name t one.file.rows one.file.next_arrival) same_spec
      ∙ ap (λ (rows : List Row). named_with other.name s' rows one.file.next_arrival) same_rows
      ∙ ap (λ (n : ℕ). named_with other.name s' other.file.rows n) same_next

  pub same_rest : more ≡ more'
  same_rest =
      sym (rest_is one more bytes good is)
      ∙ ap (λ (t : Spec). drop (121 + row_size t * length one.file.rows) bytes) same_spec
      ∙ ap (λ (n : ℕ). drop (121 + row_size s' * n) bytes) same_count
      ∙ rest_is other more' bytes good' is'

same_files : (one other : Files) (bytes : List ℕ) → AllByRecursion IsReadable one → AllByRecursion IsReadable other
    → bytes ≡ files_bytes one → bytes ≡ files_bytes other → length bytes < 2 ^ 64 → one ≡ other
same_files [] [] bytes good good' is is' few = refl
same_files [] (file ∷ more) bytes good good' is is' few =
    absurd (let e = long file (files_bytes more) bytes good'.0 is' in omega (arith, e, ap length is))
same_files (file ∷ more) [] bytes good good' is is' few =
    absurd (let e = long file (files_bytes more) bytes good.0 is in omega (arith, e, ap length is'))
same_files (file ∷ more) (file' ∷ more') bytes good good' is is' few =
    let shorter : length (files_bytes more) < 2 ^ 64 =
    omega (arith, few, ap length is, length-append (file_bytes file) (files_bytes more)) in
    let rest = same_files more more' (files_bytes more) good.1 good'.1 refl
    (same_rest bytes file file' (files_bytes more) (files_bytes more') good.0 good'.0 is is' few) shorter in
    ap (λ (n : NamedFile). n ∷ more)
    (same_file bytes file file' (files_bytes more) (files_bytes more') good.0 good'.0 is is' few)
    ∙ ap (λ (l : Files). file' ∷ l) rest

small_half : (n : ℕ) → n ≤ 921600 → 4096 * half n < 2 ^ 64
unfolding half
small_half n le = omega arith

pub one_list : (image : List Sector) (one other : Files) → Holds image one → Holds image other → one ≡ other
one_list image one other holds holds' =
    let h = holds.2 in
    let h' = holds'.2 in
    let roots : h.roots ≡ h'.roots = (let e = sym h.reads ∙ h'.reads in cc) in
    let within = (roots_stand known_families image h.roots h.reads).within.newest in
    let within' = (roots_stand known_families image h'.roots h'.reads).within.newest in
    let g : holds.1 < 2 ^ 63 = omega (arith, within.generation, h.generation) in
    let g' : holds'.1 < 2 ^ 63 = omega (arith, within'.generation, h'.generation) in
    let few : length (files_bytes one) < 2 ^ 64 =
    omega (arith, h.counted, h.halves.newest.fits, small_half h.roots.newest.sectors within.most) in
    same_files one other (files_bytes one) (readable holds.1 one g h.sound.each h.early)
    (readable holds'.1 other g' h'.sound.each h'.early) refl
    (sym h.bytes ∙ ap (λ (r : Roots). named_bytes image r.newest) roots ∙ h'.bytes) few
