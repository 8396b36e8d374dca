-- Turns of the loop that reads runs.
use Rattle.std.proofs.Common.{◌≡◌, ◌≤◌, ◌<◌, ◌+◌, ◌-◌, ◌==◌, ℕ, zero, suc, false, List, [], ◌∷◌, ◌++◌, length, Some}
use Rattle.std.proofs.Common.{None, refl, ap, ◌∙◌, arith}
use Rattle.std.proofs.lemmas.Bool.{le-leb}
use Rattle.picture.specs.declared.run.Run.{Run}
use Rattle.picture.specs.Runs.{symbol_count}
use Rattle.picture.specs.Text.{runs_of, runs_from, run_at, then_runs}

pub total-append : (runs : List Run) (run : Run) → symbol_count (runs ++ run ∷ []) ≡ symbol_count runs + run.count
unfolding symbol_count
total-append [] run = omega arith
total-append (first ∷ more) run = let h = total-append more run in omega arith

takes : (n m : ℕ) (found : List Run) (rest more : List ℕ) (run : Run) → n ≡ suc m → (length rest == 0) ≡ false
    → run_at rest ≡ Some (run, more)
    → runs_from n found rest ≡ runs_from m (found ++ run ∷ []) more
unfolding runs_from
takes zero m found rest more run e full is = cc
takes (suc n) m found [] more run e full is = cc
takes (suc n) m found (byte ∷ text) more run e full is =
    let same : n ≡ m = cc in
    ap (λ x. then_runs x (λ run rest. runs_from n (found ++ run ∷ []) rest)) is
    ∙ ap (λ k. runs_from k (found ++ run ∷ []) more) same

pub turn_takes : (turn : ℕ) (found : List Run) (rest more : List ℕ) (run : Run) → turn < 30 → (length rest == 0) ≡ false
    → run_at rest ≡ Some (run, more)
    → runs_from (30 - turn) found rest ≡ runs_from (30 - (turn + 1)) (found ++ run ∷ []) more
turn_takes turn found rest more run h full is =
    takes (30 - turn) (30 - (turn + 1)) found rest more run (omega arith) full is

refuses : (n : ℕ) (found : List Run) (rest : List ℕ) → (length rest == 0) ≡ false → run_at rest ≡ None
    → runs_from n found rest ≡ None
unfolding runs_from
refuses n found [] full is = cc
refuses zero found (byte ∷ text) full is = refl
refuses (suc n) found (byte ∷ text) full is =
    ap (λ x. then_runs x (λ run rest. runs_from n (found ++ run ∷ []) rest)) is

pub turn_refuses : (turn : ℕ) (found : List Run) (rest : List ℕ) → (length rest == 0) ≡ false → run_at rest ≡ None
    → runs_from (30 - turn) found rest ≡ None
turn_refuses turn found rest full is = refuses (30 - turn) found rest full is

ends : (n : ℕ) (found : List Run) (rest : List ℕ) → n ≡ zero → (length rest == 0) ≡ false
    → runs_from n found rest ≡ None
unfolding runs_from
ends n found [] e full = cc
ends zero found (byte ∷ text) e full = refl
ends (suc n) found (byte ∷ text) e full = cc

pub turns_end : (turn : ℕ) (found : List Run) (rest : List ℕ) → 30 ≤ turn → (length rest == 0) ≡ false
    → runs_from (30 - turn) found rest ≡ None
turns_end turn found rest h full = ends (30 - turn) found rest (omega arith) full

pub short_enough : (text : List ℕ) → length text ≤ 30 → runs_of text ≡ runs_from 30 [] text
unfolding runs_of
short_enough text h = rw (le-leb (length text) 30 h) refl
