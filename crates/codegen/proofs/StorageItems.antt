-- The table of items, one after another.
use Rattle.std.proofs.Common.{◌≡◌, ℕ, zero, suc, ◌+◌, ◌<◌, ◌≤◌, Bool, true, false, if◌then◌else◌, List, [], ◌∷◌, ◌++◌}
use Rattle.std.proofs.Common.{Option, length, take, get_or, refl, sym, ap, arith, ◌∙◌, append_assoc}
use Rattle.std.specs.Prelude.{◌==◌, ◌&&◌, filter, map}
use Rattle.std.specs.Option.{option_map}
use Rattle.std.proofs.lemmas.List.{take_more, take-map}
use Rattle.picture.specs.declared.picture.Picture.{Picture}
use Rattle.items.specs.declared.item.Item.{Item}
use Rattle.source_tree.specs.declared.select.Select.{Select}
use Rattle.source_tree.specs.LookUp.{first}
use Rattle.source_tree.specs.Places.{LocatedItem}
use Rattle.source_tree.specs.ProgramFiles as meaning
use Rattle.layout.specs.declared.placed.PlacedItem.{PlacedItem}
use Rattle.layout.specs.Placing.{placed_item}
use Rattle.data_instructions.specs.declared.tables.DataItem.{DataItem}
use Rattle.data_instructions.specs.Codes.{data_item}
use Rattle.file_descriptions.specs.declared.file.ProgramFile.{ProgramFile}
use Rattle.file_descriptions.specs.Files.{file_in, numbers_in, clause_numbers}
use Rattle.file_image.specs.declared.file.CodeFile.{CodeFile}
use Rattle.statement_codegen.specs.FileCode as files
use Rattle.statement_codegen.specs.FileCode.{edited_alike, editing_in}
use Rattle.codegen.specs.Sent.{edits, first_editing, code_in}
use Rattle.condition_codegen.proofs.Lists.{map_both}

abbrev pub entry : PlacedItem → DataItem
entry one = record { item = one.item; editing = one.editing; area = one.area; offset = one.offset }

mapped_length : {A B : Type 0} (f : A → B) (xs : List A) → length (map f xs) ≡ length xs
mapped_length f [] = refl
mapped_length f (x ∷ xs) = ap suc (mapped_length f xs)

entry_at : (items : List LocatedItem) (i : ℕ) (one : PlacedItem) → i < length (map placed_item items)
    → one ≡ get_or (map placed_item items) i one → get_or (map data_item items) i (entry one) ≡ entry one
entry_at [] i one lt e = absurd (omega arith)
entry_at (x ∷ xs) zero one lt e = ap entry (sym e)
entry_at (x ∷ xs) (suc i) one lt e = entry_at xs i one (omega arith) e

pub items_more : (items : List LocatedItem) (placed : List PlacedItem) (i : ℕ) (one : PlacedItem) (made : DataItem)
    (old new : List DataItem)
    → placed ≡ map placed_item items → i < length placed → one ≡ get_or placed i one → made ≡ entry one
    → old ≡ map data_item (take i items) → new ≡ old ++ made ∷ []
    → new ≡ map data_item (take (i + 1) items)
items_more items placed i one made old new is lt at made_is before after =
    let all : List DataItem = map data_item items in
    let within : i < length (map placed_item items) = omega (arith, lt, ap length is) in
    let found : get_or all i (entry one) ≡ entry one =
    entry_at items i one within (at ∙ ap (λ (l : List PlacedItem). get_or l i one) is) in
    let there : i < length all =
    omega (arith, within, mapped_length placed_item items, mapped_length data_item items) in
    after
    ∙ ap (λ (l : List DataItem). l ++ made ∷ []) (before ∙ sym (take-map data_item i items))
    ∙ ap (λ (d : DataItem). take i all ++ d ∷ []) (made_is ∙ sym found)
    ∙ sym (take_more all i (entry one) there)
    ∙ take-map data_item (i + 1) items

-- ---- what READ INTO sends of each file

by_test : (test : Bool) (x : LocatedItem) (other : Option Picture) (rest : List LocatedItem)
    → other ≡ editing_in (first rest)
    → (if test then x.editing else other) ≡ editing_in (first (if test then x ∷ rest else rest))
by_test true x other rest e = refl
by_test false x other rest e = e

same_test : (file : ProgramFile) (known : meaning.ProgramFile) (x : LocatedItem) → known.places.area ≡ file.area
    → known.sent ≡ file.sent
    → edits file (placed_item x) ≡ files.edits known x
same_test file known x a b =
    ap (λ (n : ℕ). (x.area == n) && edited_alike x.item.kind file.sent.kind && (x.item.length == file.sent.length))
    (sym a)
    ∙ ap (λ (item : Item).
    (x.area == known.places.area) && edited_alike x.item.kind item.kind && (x.item.length == item.length)) (sym b)

-- the picture that edits the record, among items as they are placed
pub first_is : (file : ProgramFile) (known : meaning.ProgramFile) (items : List LocatedItem)
    → known.places.area ≡ file.area → known.sent ≡ file.sent
    → first_editing (edits file) (map placed_item items) ≡ editing_in (first (filter (files.edits known) items))
first_is file known [] a b = refl
first_is file known (x ∷ xs) a b =
    let others = first_editing (edits file) (map placed_item xs) in
    ap (λ (t : Bool). if t then x.editing else others) (same_test file known x a b)
    ∙ by_test (files.edits known x) x others (filter (files.edits known) xs) (first_is file known xs a b)

-- ---- tables, one entry after another

-- one entry of a mapped list more
pub mapped_more : {A B : Type 0} (f : A → B) (all : List A) (i : ℕ) (one : A) (front old new : List B) (made : B)
    → i < length all
    → one ≡ get_or all i one → made ≡ f one → old ≡ front ++ map f (take i all) → new ≡ old ++ made ∷ []
    → new ≡ front ++ map f (take (i + 1) all)
mapped_more {A} {B} f all i one front old new made lt is made_is before after =
    after
    ∙ ap (λ (l : List B). l ++ made ∷ []) before
    ∙ append_assoc front (map f (take i all)) (made ∷ [])
    ∙ ap (λ (l : List B). front ++ l)
    (ap (λ (x : B). map f (take i all) ++ x ∷ []) (made_is ∙ ap f is)
    ∙ sym (map_both f (take i all) (get_or all i one ∷ []))
    ∙ ap (map f) (sym (take_more all i one lt)))

-- the entries of files are those of the meaning
pub codes_are : (items : List LocatedItem) (selects : List Select) (all : List ProgramFile)
    → map numbers_in all ≡ map (clause_numbers items) selects
    → map code_in all ≡ files.code_files items selects (map (file_in items) all)
codes_are items [] [] e = refl
codes_are items [] (one ∷ more) e = absurd cc
codes_are items (select ∷ selects) [] e = absurd cc
codes_are items (select ∷ selects) (one ∷ more) e =
    let here : numbers_in one ≡ clause_numbers items select = head_same (numbers_in one) (clause_numbers items select)
    (map numbers_in more) (map (clause_numbers items) selects) e in
    let rest = tail_same (numbers_in one) (clause_numbers items select) (map numbers_in more)
    (map (clause_numbers items) selects) e in
    ap (λ (numbers : Option ℕ × Option ℕ).
    record (code_in one)
    { relative_key = option_map files.index_at numbers.0; status = option_map files.index_at numbers.1 }
    ∷ map code_in more) here
    ∙ ap (λ (l : List CodeFile). files.code_file items select (file_in items one) ∷ l)
    (codes_are items selects more rest)
  where
    head_same : (x y : Option ℕ × Option ℕ) (xs ys : List (Option ℕ × Option ℕ)) → x ∷ xs ≡ y ∷ ys → x ≡ y
    head_same x y xs ys e = cc

    tail_same : (x y : Option ℕ × Option ℕ) (xs ys : List (Option ℕ × Option ℕ)) → x ∷ xs ≡ y ∷ ys → xs ≡ ys
    tail_same x y xs ys e = cc

whole_taken : {A : Type 0} (i : ℕ) (xs : List A) → length xs ≤ i → take i xs ≡ xs
whole_taken zero [] le = refl
whole_taken zero (x ∷ xs) le = absurd (omega (arith, le))
whole_taken (suc i) [] le = refl
whole_taken {A} (suc i) (x ∷ xs) le = ap (λ (l : List A). x ∷ l) (whole_taken i xs (omega (arith, le)))

map_twice : {A B C : Type 0} (f : A → B) (g : B → C) (xs : List A) → map (λ x. g (f x)) xs ≡ map g (map f xs)
map_twice f g [] = refl
map_twice {C = C} f g (x ∷ xs) = ap (λ (l : List C). g (f x) ∷ l) (map_twice f g xs)

-- all entries of files
pub sent_all : (items : List LocatedItem) (all : List ProgramFile) (known : List meaning.ProgramFile) (i : ℕ)
    (made : List DataItem) → length all ≤ i
    → made ≡ map data_item items ++ map (λ file. files.sent_entry items (file_in items file)) (take i all)
    → map (file_in items) all ≡ known
    → made ≡ map data_item items ++ map (files.sent_entry items) known
sent_all items all known i made le so_far is =
    so_far
    ∙ ap (λ (l : List ProgramFile). map data_item items ++ map (λ file. files.sent_entry items (file_in items file)) l)
    (whole_taken i all le)
    ∙ ap (λ (l : List DataItem). map data_item items ++ l) (map_twice (file_in items) (files.sent_entry items) all)
    ∙ ap (λ (l : List meaning.ProgramFile). map data_item items ++ map (files.sent_entry items) l) is

pub codes_all : (items : List LocatedItem) (selects : List Select) (all : List ProgramFile)
    (known : List meaning.ProgramFile) (i : ℕ) (made : List CodeFile)
    → length all ≤ i → made ≡ map code_in (take i all) → map numbers_in all ≡ map (clause_numbers items) selects
    → map (file_in items) all ≡ known
    → made ≡ files.code_files items selects known
codes_all items selects all known i made le so_far numbers is =
    so_far ∙ ap (map code_in) (whole_taken i all le) ∙ codes_are items selects all numbers
    ∙ ap (files.code_files items selects) is
