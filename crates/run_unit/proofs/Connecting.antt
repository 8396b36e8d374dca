-- Connectors to the files of code, one after the other.
use Rattle.std.proofs.Common.{◌≡◌, ◌∙◌, ℕ, ◌+◌, ◌<◌, List, [], ◌∷◌, ◌++◌, length, map, take, get_or, refl, sym, ap}
use Rattle.std.proofs.lemmas.List.{take_more, map-append}
use Rattle.records.specs.Connector.{Connector, Entry, closed_connector}
use Rattle.data_instructions.specs.declared.tables.DataTables.{DataTables}
use Rattle.file_image.specs.declared.file.CodeFile.{CodeFile}
use Rattle.file_image.specs.Files.{entries_of, entry_of}
use Rattle.code_image.specs.declared.code.Code.{Code}

abbrev pub closed_ones : List CodeFile → List Connector
closed_ones files = map (λ one. closed_connector) files

one_more : (files : List CodeFile) (i : ℕ) (one : CodeFile) → i < length files → one ≡ get_or files i one
    → take (i + 1) files ≡ take i files ++ one ∷ []
one_more files i one within is = take_more files i one within ∙ ap (λ (x : CodeFile). take i files ++ x ∷ []) (sym is)

-- none at the begin
pub no_entries : (tables : DataTables) (files : List CodeFile) → [] ≡ entries_of tables (take 0 files)
unfolding entries_of
no_entries tables files = refl

-- one more
pub entries_grow : (tables : DataTables) (files : List CodeFile) (i : ℕ) (one : CodeFile) (old new : List Entry)
    (entry : Entry) → i < length files → one ≡ get_or files i one
    → old ≡ entries_of tables (take i files) → entry ≡ entry_of tables one → new ≡ old ++ entry ∷ []
    → new ≡ entries_of tables (take (i + 1) files)
unfolding entries_of
entries_grow tables files i one old new entry within is so_far of added =
    added ∙ ap (λ (all : List Entry). all ++ entry ∷ []) so_far
    ∙ ap (λ (e : Entry). map (entry_of tables) (take i files) ++ e ∷ []) of
    ∙ sym (map-append (entry_of tables) (take i files) (one ∷ []))
    ∙ ap (map (entry_of tables)) (sym (one_more files i one within is))

pub connectors_grow : (files : List CodeFile) (i : ℕ) (one : CodeFile) (old new : List Connector) → i < length files
    → one ≡ get_or files i one
    → old ≡ closed_ones (take i files) → new ≡ old ++ closed_connector ∷ [] → new ≡ closed_ones (take (i + 1) files)
connectors_grow files i one old new within is so_far added =
    added ∙ ap (λ (all : List Connector). all ++ closed_connector ∷ []) so_far
    ∙ sym (map-append (λ (one : CodeFile). closed_connector) (take i files) (one ∷ []))
    ∙ ap (λ (all : List CodeFile). closed_ones all) (sym (one_more files i one within is))
