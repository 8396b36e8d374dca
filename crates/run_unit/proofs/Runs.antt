-- What a call promises of the program that it runs: of an image, and of a source text.
use Rattle.std.proofs.Common.{◌≡◌, ℕ, List, [], ◌∷◌, length, refl, sym, subst, ap, arith}
use Rattle.records.specs.Files.{Files}
use Rattle.records.specs.Connector.{Entry}
use Rattle.file_recovery.specs.Recovered.{HoldsFiles}
use Rattle.source_tree.specs.declared.program.Program.{Program}
use Rattle.source_tree.specs.Given.{RunInput}
use Rattle.source_tree.specs.Meaning.{Run, meaning}
use Rattle.code_image.specs.declared.code.Code.{Code}
use Rattle.file_image.specs.Files.{entries_of}
use Rattle.code_image.specs.Table.{Runs}
use Rattle.machine.specs.Ends.{LacksForChange}
use Rattle.compiler.specs.Trees.{IsTreeOf}
use Rattle.compiler.specs.Images.{MeansAs, IsCompiled}
use Rattle.run_unit.specs.Alone.{RunsAlone}
use Rattle.run_unit.specs.Ends.{ForImage, IsEndOfImage}
use Rattle.run_unit.specs.Volume.{RunsOnVolume, RunsOnHalves, IsOfHalves, lacks_either}
use Rattle.run_unit.specs.Runs.{Call, given_alone, given_files, RunsAsMeant, ImageRuns, TextRuns}
use Rattle.run_unit.specs.declared.ended.Refusal.TheVariants.{Damaged}
use Rattle.run_unit.specs.declared.ended.Ended.{Ended}
use Rattle.run_unit.specs.declared.ended.Ended.TheVariants.{Refused}
use Rattle.compiler.proofs.Images.{OneSpelling}
use Rattle.run_unit.proofs.Images.{end_of_image}

-- ---- the code of an image that was loaded

no_length : (code : Code) → code.files ≡ [] → length code.files ≡ 0
no_length code none = ap length none

none_of : {A : Type 0} (xs : List A) → length xs ≡ 0 → xs ≡ []
none_of [] none = refl
none_of (x ∷ xs) none = absurd (omega (arith, none))

no_files : (code : Code) → length code.files ≡ 0 → code.files ≡ []
no_files code none = none_of code.files none

module _ (code loaded : Code) (same : loaded ≡ code) (means : RunInput → Run)
    (runs : (given : RunInput) → Runs code given (means given)) (call : Call) where
  runs_loaded : (given : RunInput) → Runs loaded given (means given)
  runs_loaded given = subst (λ (c : Code). Runs c given (means given)) (sym same) (runs given)

  -- what was done without files
  abbrev pub DidAlone : Type 0
  DidAlone = (run : Run) → Runs loaded (given_alone call) run
      → RunsAlone run call.past call.old call.ended call.later call.new

  -- over a volume that holds files
  abbrev pub DidOnVolume : Type 0
  DidOnVolume = (files : Files) → HoldsFiles call.old.disk.present files
      → (run : Run) → Runs loaded (given_files call files) run
      → RunsOnVolume HoldsFiles (LacksForChange lacks_either (entries_of loaded.tables loaded.files)) run call.past
      call.old call.ended call.later call.new

  -- and over one of halves
  abbrev pub DidOnHalves : Type 0
  DidOnHalves = IsOfHalves call.old.disk.present
      → (run : Files → Run) → ((files : Files) → Runs loaded (given_files call files) (run files))
      → RunsOnHalves (entries_of loaded.tables loaded.files) run call.past call.old call.ended call.later call.new

  -- the code has no files
  pub runs_alone : loaded.files ≡ [] → DidAlone → (call.ended ≡ Refused Damaged → ⊥)
      → RunsAsMeant (entries_of code.tables code.files) means (length code.files) call
  runs_alone none alone sound =
      let zero = no_length code (subst (λ (c : Code). c.files ≡ []) same none) in
      record {
        alone = λ empty. alone (means (given_alone call)) (runs_loaded (given_alone call));
        volume = λ some files held. absurd (some zero);
        halves = λ some halves. absurd (some zero);
        sound = λ files held. sound;
      }

  -- it has some
  pub runs_files : (loaded.files ≡ [] → ⊥) → DidOnVolume → DidOnHalves
      → ((files : Files) → HoldsFiles call.old.disk.present files → call.ended ≡ Refused Damaged → ⊥)
      → RunsAsMeant (entries_of code.tables code.files) means (length code.files) call
  runs_files some volume halves sound = record {
    alone = λ zero. absurd (some (subst (λ (c : Code). c.files ≡ []) (sym same) (no_files code zero)));
    volume = λ with files held.
        subst (λ (c : Code). RunsOnVolume HoldsFiles (LacksForChange lacks_either (entries_of c.tables c.files))
        (means (given_files call files)) call.past call.old call.ended call.later call.new) same
        (volume files held (means (given_files call files)) (runs_loaded (given_files call files)));
    halves = λ with of_halves.
        subst (λ (c : Code). RunsOnHalves (entries_of c.tables c.files) (λ files. means (given_files call files))
        call.past call.old call.ended call.later call.new) same
        (halves of_halves (λ files. means (given_files call files)) (λ files. runs_loaded (given_files call files)));
    sound = sound;
  }

-- ---- bytes that were compiled

-- a text has one tree
abbrev pub OneTreeOfText : Type 0
OneTreeOfText = (source : List ℕ) (tree other : Program) → IsTreeOf source tree → IsTreeOf source other → tree ≡ other

module _ (source image : List ℕ) (compiled : IsCompiled source image) where
  pub compiled_tree : OneTreeOfText → (tree : Program) → IsTreeOf source tree → MeansAs tree image
  compiled_tree one tree is =
      subst (λ (t : Program). MeansAs t image) (one source compiled.0 tree compiled.1 is) compiled.2

  pub compiled_end : OneSpelling → (ended : Ended) → ForImage ended image → IsEndOfImage ended
  compiled_end spelt ended for = end_of_image spelt image ended (compiled.2.code, compiled.2.is) for

  pub compiled_runs : OneTreeOfText → (call : Call) → ImageRuns image call → TextRuns source call
  compiled_runs one call runs tree is =
      let has = compiled_tree one tree is in
      subst (λ (entries : List Entry). RunsAsMeant entries (meaning tree) (length tree.selects) call) has.entries
      (subst (λ (count : ℕ). RunsAsMeant (entries_of has.code.tables has.code.files) (meaning tree) count call)
      has.files (runs has.code has.is (meaning tree) has.runs))
