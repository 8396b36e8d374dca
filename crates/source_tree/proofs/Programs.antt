-- The laws of meaning, of whole programs.
use Rattle.std.proofs.Common.{◌≡◌, ◌≢◌, ℕ, suc, ◌+◌, ◌-◌, ◌<◌, ◌≤◌, refl, sym, ap, subst, arith, [], ◌∷◌}
use Rattle.std.specs.Prelude.{length}
use Rattle.source_tree.specs.declared.program.Program.{Program}
use Rattle.source_tree.specs.Given.{RunInput, with_budget}
use Rattle.source_tree.specs.State.{Stopped, Budget, Faulted, State, Outcome, Done, Over, all_files, outcome_state}
use Rattle.source_tree.specs.Setting.{paragraphs, context_of}
use Rattle.source_tree.specs.Meaning.{exec, start, run_from, run_of, meaning}
use Rattle.source_tree.specs.Told.{Further, Onward}
use Rattle.source_tree.proofs.Telling.{itself}
use Rattle.source_tree.proofs.Runs.{Alike, richer}
use Rattle.source_tree.proofs.StatementRuns.{exec_runs, range_runs}
use Rattle.source_tree.proofs.StatementDepth.{exec_agrees, range_agrees}

deep : (program : Program) (given : RunInput) (depth : ℕ) → given.budget < depth
    → run_from depth program (start program given) ≡ run_from (suc given.budget) program (start program given)
deep program given depth below =
    let around = context_of program in
    let budget = given.budget in
    (range_agrees budget (exec around depth) (exec around (suc budget)) (exec_runs around depth)
    (exec_agrees around budget depth (suc budget) below (omega arith))
    (paragraphs program) (length (paragraphs program))).by
    (start program given) (omega arith)

pub depth_is_enough : (program : Program) (given : RunInput) (depth : ℕ) → given.budget < depth
    → run_of (run_from depth program (start program given)) ≡ meaning program given
depth_is_enough program given depth below = ap run_of (deep program given depth below)

told_alike : (k : ℕ) (o other : Outcome) → Alike k o other → (run_of o).end ≢ Budget → run_of other ≡ run_of o
told_alike k (Done s) other a ends = ap run_of a
told_alike k (Over Stopped s) other a ends = ap run_of a
told_alike k (Over (Faulted fault line) s) other a ends = ap run_of a
told_alike k (Over Budget s) other a ends = absurd (ends refl)

told_further : (k : ℕ) (o other : Outcome) → Alike k o other
    → Further (run_of o).events (run_of o).files (run_of other).events (run_of other).files
told_further k (Done s) other a =
    subst (λ x. Further s.events (all_files s) (run_of x).events (run_of x).files) (sym a) (itself s)
told_further k (Over Stopped s) other a =
    subst (λ x. Further s.events (all_files s) (run_of x).events (run_of x).files) (sym a) (itself s)
told_further k (Over (Faulted fault line) s) other a =
    subst (λ x. Further s.events (all_files s) (run_of x).events (run_of x).files) (sym a) (itself s)
told_further k (Over Budget s) (Done t) a = a
told_further k (Over Budget s) (Over end t) a = a

richer_start : (program : Program) (given : RunInput) (more : ℕ) → given.budget ≤ more
    → richer (more - given.budget) (start program given) ≡ start program (with_budget more given)
richer_start program given more le = let e : given.budget + (more - given.budget) ≡ more =
    omega arith in ap (λ n. start program (with_budget n given)) e

-- the same program, at the depth of the greater budget
both : (program : Program) (given : RunInput) (more : ℕ) → given.budget ≤ more
    → Alike (more - given.budget) (run_from (suc given.budget) program (start program given))
    (run_from (suc more) program (start program (with_budget more given)))
both program given more le =
    let e = deep program given (suc more) (omega arith) in
    let k = more - given.budget in
    subst (λ o. Alike k o (run_from (suc more) program (start program (with_budget more given)))) e
    (subst (λ t. Alike k (run_from (suc more) program (start program given)) (run_from (suc more) program t))
    (richer_start program given more le)
    ((range_runs (context_of program) (suc more) (paragraphs program) (length (paragraphs program))).alike k
    (start program given)))

pub enough_budget : (program : Program) (given : RunInput) (more : ℕ) → given.budget ≤ more
    → (meaning program given).end ≢ Budget → meaning program (with_budget more given) ≡ meaning program given
enough_budget program given more le ends =
    told_alike (more - given.budget) (run_from (suc given.budget) program (start program given))
    (run_from (suc more) program (start program (with_budget more given))) (both program given more le) ends

pub more_tells_more : (program : Program) (given : RunInput) (more : ℕ) → given.budget ≤ more
    → Further (meaning program given).events (meaning program given).files
    (meaning program (with_budget more given)).events (meaning program (with_budget more given)).files
more_tells_more program given more le =
    told_further (more - given.budget) (run_from (suc given.budget) program (start program given))
    (run_from (suc more) program (start program (with_budget more given))) (both program given more le)

told_onward : (s : State) (o : Outcome) → Onward s (outcome_state o)
    → Further s.events (all_files s) (run_of o).events (run_of o).files
told_onward s (Done t) a = a
told_onward s (Over end t) a = a

-- All that a run has told comes after the start, where nothing was told and there are the files that are given.
pub told_from_start : (program : Program) (given : RunInput)
    → Further [] (given.files ∷ []) (meaning program given).events (meaning program given).files
told_from_start program given =
    told_onward (start program given) (run_from (suc given.budget) program (start program given))
    ((range_runs (context_of program) (suc given.budget) (paragraphs program) (length (paragraphs program))).grows
    (start program given))
