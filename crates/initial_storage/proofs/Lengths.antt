-- Areas are as long as their records say.
use Rattle.std.proofs.Common.{◌≡◌, ℕ, ◌-◌, Bool, true, false, if◌then◌else◌, List, [], ◌∷◌, ◌++◌, length, take, refl}
use Rattle.std.proofs.Common.{ap, ◌∙◌, length-append, length-take, arith}
use Rattle.std.specs.Prelude.{map, replicate}
use Rattle.std.proofs.lemmas.List.{length-replicate, map-append}
use Rattle.items.specs.Texts.{padded_text}
use Rattle.source_tree.specs.declared.select.FileDescription.{FileDescription}
use Rattle.source_tree.specs.declared.program.Program.{Program}
use Rattle.source_tree.specs.Levels.{Forest, End, Tree, forest_of}
use Rattle.source_tree.specs.Clauses.{nothing_around}
use Rattle.source_tree.specs.Rooms.{redefines, area_length, area_lengths}
use Rattle.source_tree.specs.Starts.{start, areas_from, areas_at_start}
use Rattle.source_tree.specs.Records.{record_length, record_areas, program_areas}
use Rattle.initial_storage.specs.Reach.{record_area_lengths, program_area_lengths}

pub length-padded : (size : ℕ) (text : List ℕ) → length (padded_text size text) ≡ size
length-padded size text = omega (
  arith,
  length-append (take size text) (replicate (size - length text) 32),
  length-take size text,
  length-replicate {A = ℕ} (size - length text) 32,
)

either : (b : Bool) (one two : List (List ℕ)) (lengths more : List ℕ) → map length one ≡ lengths → map length two ≡ more
    → map length (if b then one else two) ≡ (if b then lengths else more)
either true one two lengths more e f = e
either false one two lengths more e f = f

lengths_of : (F : Forest) → map length (areas_from F) ≡ area_lengths F
lengths_of End = refl
lengths_of (Tree one conditions inner next) =
    let size : ℕ = area_length one conditions inner next in
    let bytes : List ℕ = start nothing_around (Tree one conditions inner End) in
    either (redefines one) (areas_from next) (padded_text size bytes ∷ areas_from next) (area_lengths next)
    (size ∷ area_lengths next) (lengths_of next)
    (ap (λ n. n ∷ map length (areas_from next)) (length-padded size bytes) ∙ ap (λ l. size ∷ l) (lengths_of next))

record_lengths : (files : List FileDescription) → map length (record_areas files) ≡ record_area_lengths files
record_lengths [] = refl
record_lengths (one ∷ more) =
    ap (λ n. n ∷ map length (record_areas more)) (length-padded (record_length one.entries) [])
    ∙ ap (λ l. record_length one.entries ∷ l) (record_lengths more)

pub program_lengths : (program : Program) → map length (program_areas program) ≡ program_area_lengths program
program_lengths program =
    map-append length (areas_at_start program.storage) (record_areas program.files)
    ∙ ap (λ l. l ++ map length (record_areas program.files)) (lengths_of (forest_of program.storage))
    ∙ ap (λ l. area_lengths (forest_of program.storage) ++ l) (record_lengths program.files)
