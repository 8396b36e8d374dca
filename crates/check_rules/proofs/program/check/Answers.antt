use Rattle.std.proofs.Common.{◌≡◌, [], ◌++◌, Ok, Err, subst, sym, ap, ◌∙◌}
use Rattle.std.specs.Prelude.{Result}
use Rattle.std.proofs.lemmas.Result.{err_from_is_err_and}
use Rattle.std.specs.Result.{OnOk, result_map_both}
use Rattle.source_tree.specs.Rules.{sections_rules, procedure_rules, all_permitted}
use Rattle.source_tree.specs.Setting.{scope}
use Rattle.entry_rules.specs.Checks.{fault_of}
use Rattle.declarations.specs.Declaring.{declaration_rules}
use Rattle.declarations.specs.Named.{Declares}
use Rattle.declarations.proofs.Firsts.{is_first_front}
use Rattle.check_rules.proofs.Told.{told_first}
use Rattle.check_rules.proofs.program.check.Goals as goal

pub returns-in_err-declarations-clause-exact : goal.returns-in_err-declarations-clause-exact
returns-in_err-declarations-clause-exact c =
    let error = err_from_is_err_and c.from_residual.result c.from_residual.ensures.1 in
    let program = c.args.program.now in
    let fault = fault_of c.in_err-declarations.field-0.0 in
    let declared = declaration_rules program in
    let statements = sections_rules (scope program) all_permitted program.sections in
    rw (error.1, error.2)
    (told_first program fault (is_first_front fault (declared ++ statements) (procedure_rules program)
    (is_first_front fault declared statements c.in_err-declarations.ensures.rules)))

-- What was made is held where nothing failed after it.
nothing_failed : {A E : Type 0} (first : A) (behind : Result (Unit {0}) E) (held : A) (end : Unit {0})
    → result_map_both {U = A × Unit {0}} (λ b. (first, b)) (λ e. e) behind ≡ Ok (held, end)
    → (held ≡ first) × (behind ≡ Ok end)
nothing_failed {A} first (Ok end) held other h =
    let same : ◌≡◌ {A = A × Unit {0}} (held, other) (first, end) = cc in
    (ap (λ (pair : A × Unit {0}). pair.0) same, ap (λ (pair : A × Unit {0}). Ok pair.1) (sym same))
nothing_failed first (Err e) held other h = absurd cc

at_ok : {A E : Type 0} {P : Type 0} (r : Result A E) (x : A) → OnOk r P → r ≡ Ok x → P
at_ok {P} r x h e = subst (λ r. OnOk r P) e h

pub new-requires-clause-kept : goal.new-requires-clause-kept
new-requires-clause-kept c =
    let held = nothing_failed c.in_ok-declarations.declarations c.procedure_division_rules-ruled.result
    c.in_ok-declarations-2.declarations tt
    (sym c.beside.ensures ∙ c.in_ok-declarations-2.was) in
    at_ok c.procedure_division_rules-ruled.result tt c.procedure_division_rules-ruled.ensures.kept held.1

pub new-requires-clause-order : goal.new-requires-clause-order
new-requires-clause-order c =
    let held = nothing_failed c.in_ok-declarations.declarations c.procedure_division_rules-ruled.result
    c.in_ok-declarations-2.declarations tt
    (sym c.beside.ensures ∙ c.in_ok-declarations-2.was) in
    at_ok c.procedure_division_rules-ruled.result tt c.procedure_division_rules-ruled.ensures.order held.1

pub new-requires-clause-program : goal.new-requires-clause-program
new-requires-clause-program c =
    let held = nothing_failed c.in_ok-declarations.declarations c.procedure_division_rules-ruled.result
    c.in_ok-declarations-2.declarations tt
    (sym c.beside.ensures ∙ c.in_ok-declarations-2.was) in
    subst (Declares c.args.program.now) (sym held.0) c.in_ok-declarations.ensures.program

pub returns-clause-kept : goal.returns-clause-kept
returns-clause-kept c =
    let held = nothing_failed c.in_ok-declarations.declarations c.procedure_division_rules-ruled.result
    c.in_ok-declarations-2.declarations tt
    (sym c.beside.ensures ∙ c.in_ok-declarations-2.was) in
    at_ok c.procedure_division_rules-ruled.result tt c.procedure_division_rules-ruled.ensures.kept held.1

pub returns-clause-order : goal.returns-clause-order
returns-clause-order c =
    let held = nothing_failed c.in_ok-declarations.declarations c.procedure_division_rules-ruled.result
    c.in_ok-declarations-2.declarations tt
    (sym c.beside.ensures ∙ c.in_ok-declarations-2.was) in
    at_ok c.procedure_division_rules-ruled.result tt c.procedure_division_rules-ruled.ensures.order held.1
