-- From a source text to its tree, stage by stage. What the stages promise comes as premises.
use Rattle.std.proofs.Common.{◌≡◌, ◌∙◌, ℕ, Bool, ◌<◌, List, Option, None, Some, Result, Ok, Err, inl, inr, [], ◌∷◌}
use Rattle.std.proofs.Common.{refl, sym, ap, subst, arith}
use Rattle.std.specs.Prelude.{IfErr}
use Rattle.source_lines.specs.declared.lines.Character.{Character}
use Rattle.source_lines.specs.Format.{HasCharacters}
use Rattle.source_lines.specs.Reading.{characters_of}
use Rattle.tokens.specs.declared.token.Token.{Token}
use Rattle.tokens.specs.Tokens.{TokensOf}
use Rattle.tokens.specs.Scanning.{tokens}
use Rattle.source_tree.specs.declared.program.Program.{Program}
use Rattle.statements.specs.Spelling.{max_nesting}
use Rattle.data_division.specs.Forms.{HasForms, program_entries}
use Rattle.divisions.specs.Spelling.{SpellsProgram}
use Rattle.divisions.specs.Faults.{IsAnswer, parse_of}
use Rattle.answers.specs.Answer.{Fails}
use Rattle.tokens.specs.Faults.{fault_of}
use Rattle.tokens.specs.declared.fault.TokenError.{TokenError}
use Rattle.tokens.specs.declared.fault.TokenError.TheVariants as in_tokens
use Rattle.divisions.specs.declared.fault.ParseError.{ParseError}
use Rattle.divisions.specs.declared.fault.ParseError.TheVariants as in_tree
use Rattle.perform_graph.specs.declared.performed.PerformedRange.{PerformedRange}
use Rattle.perform_graph.specs.Order.{AllDecrease, PerformOneAnother, rank_in}
use Rattle.source_tree.specs.Broken.{RuleBreach}
use Rattle.source_tree.specs.LookUp.{first}
use Rattle.source_tree.specs.Recursion.{HasOrder, performed_by_program}
use Rattle.source_tree.specs.Rules.{program_rules}
use Rattle.check_rules.specs.Refusals.{IsBroken, IsFirstFault}
use Rattle.entry_rules.specs.Checks as rules
use Rattle.entry_rules.specs.declared.rule.CheckError.{CheckError}
use Rattle.entry_rules.specs.declared.rule.CheckError.TheVariants as in_rules
use Rattle.compiler.specs.Faults as compiling
use Rattle.compiler.specs.Faults.{StageFault, OfLines, OfTokens, OfTree, OfRules, from_tokens, from_tree, from_rules}
use Rattle.compiler.specs.Trees.{IsReadFrom, broken_rules}
use Rattle.compiler.specs.Stages.{IsTreeAnswer, IsRecursion, IsReported, IsFaultOf, then_read, tree_by, tree_with_rules}
use Rattle.compiler.specs.Stages.{tree_in_tokens, tree_in_characters, tree_of}
use Rattle.compiler.specs.Images.{IsImageAnswer}
use Rattle.compiler.specs.declared.fault.CompileError.{CompileError}
use Rattle.compiler.specs.declared.fault.CompileError.TheVariants.{Memory, Refused}
use Rattle.compiler.proofs.Results.{value}

-- what `reference_format` and `laws` say
abbrev pub OneFormat : Type 0
OneFormat = (source : List ℕ) (given : List Character) → HasCharacters source given → characters_of source ≡ Ok given

abbrev pub OneScan : Type 0
OneScan = (characters : List Character) (found : List Token) → TokensOf characters found → tokens characters ≡ Ok found

-- the tokens of a source text with this tree spell it
pub spelled_by : OneFormat → OneScan → (source : List ℕ) (tree : Program) → IsReadFrom source tree
    → (characters : List Character) (found : List Token) → characters_of source ≡ Ok characters
    → tokens characters ≡ Ok found → SpellsProgram max_nesting tree found
spelled_by format scan source tree is characters found read scanned =
    let same_characters : is.characters ≡ characters = value (format source is.characters is.format) read in
    let same_tokens : is.tokens ≡ found =
    value (scan is.characters is.tokens is.scanned) (subst (λ c. tokens c ≡ Ok found) (sym same_characters) scanned) in
    subst (λ t. SpellsProgram max_nesting tree t) same_tokens is.spelled

clash : {A F : Type 0} {r : Result A F} {a : A} {f : F} → r ≡ Ok a → r ≡ Err f → ⊥
clash is fails = cc

-- where a source text has a tree, only memory refuses its tokens
pub tokens_refusal : OneFormat → OneScan → (source : List ℕ) (tree : Program) → IsReadFrom source tree
    → (characters : List Character) → characters_of source ≡ Ok characters → (e : TokenError)
    → Fails (fault_of e) (tokens characters) → IsTreeAnswer tree (Err (from_tokens e))
tokens_refusal format scan source tree is characters read in_tokens.Memory fails = tt
tokens_refusal format scan source tree is characters read (in_tokens.Refused fault) fails =
    let same_characters : is.characters ≡ characters = value (format source is.characters is.format) read in
    clash (subst (λ c. tokens c ≡ Ok is.tokens) same_characters (scan is.characters is.tokens is.scanned)) fails

no_place : {A : Type 0} {o : Option A} {a : A} → o ≡ None → o ≡ Some a → ⊥
no_place none some = cc

-- where a tree of the greatest depth, whose pictures have forms, spells the tokens, only memory refuses it
pub tree_refusal : (tree : Program) → HasForms (program_entries tree) → (e : ParseError)
    → IsAnswer max_nesting tree (Err e) → IsTreeAnswer tree (Err (from_tree e))
tree_refusal tree formed in_tree.Memory allowed = tt
tree_refusal tree formed (in_tree.Refused fault) (inl deeper) =
    absurd (let deep : 64 < 64 = deeper.1 in omega (arith, deep))
tree_refusal tree formed (in_tree.Refused fault) (inr formless) = absurd (no_place formed formless.1)

-- what `one_answer` says
abbrev pub NoRing : Type 0
NoRing = (performed : List PerformedRange) (height : ℕ → ℕ) (among : ℕ → Bool) → AllDecrease height performed
    → PerformOneAnother among performed → ⊥

-- what is first of none
not_first : (rules : List RuleBreach) (one : RuleBreach) → rules ≡ [] → first rules ≡ Some one → ⊥
not_first [] one kept is = cc
not_first (other ∷ more) one kept is = cc

-- where the tree keeps the rules and has an order, nothing is told of it
not_told : NoRing → (tree : Program) (one : RuleBreach) → broken_rules tree ≡ [] → HasOrder tree → IsBroken tree one → ⊥
unfolding broken_rules
not_told none tree one kept order (inl is) = not_first (program_rules tree) one kept is
not_told none tree one kept order (inr back) =
    none (performed_by_program tree) (rank_in order.0) back.back.among order.1.fall back.back.ring

-- only memory refuses it
pub rules_refusal : NoRing → (tree : Program) → broken_rules tree ≡ [] → HasOrder tree → (e : CheckError)
    → IsFirstFault tree (rules.fault_of e) → IsImageAnswer tree (Err (from_rules e))
rules_refusal none tree kept order in_rules.Memory told = tt
rules_refusal none tree kept order (in_rules.Refused broken) told =
    absurd (not_told none tree (rules.broken_of broken) kept order told)

by_first : (tree : Program) (rules : List RuleBreach) (one : RuleBreach) → first rules ≡ Some one
    → tree_by tree rules ≡ Err (OfRules one)
by_first tree [] one e = cc
by_first tree (other ∷ more) one e = cc

told_fault : (tree : Program) (one : RuleBreach) → IsBroken tree one → IsReported tree (Some (OfRules one))
unfolding broken_rules
told_fault tree one (inl is) = inl (by_first tree (program_rules tree) one is)
told_fault tree one (inr back) = inr (record { broken = one; is = refl; back = back })

-- the first rule that is broken is what is told of the tree, or a PERFORM that leads back
pub rules_fault : (tree : Program) (e : CheckError) → IsFirstFault tree (rules.fault_of e)
    → IsReported tree (compiling.fault_of (from_rules e))
rules_fault tree in_rules.Memory told = tt
rules_fault tree (in_rules.Refused broken) told = told_fault tree (rules.broken_of broken) told

kept_tree : (tree : Program) (fault : StageFault) → IsRecursion tree fault → tree_with_rules tree ≡ Ok tree
unfolding broken_rules
kept_tree tree fault is = ap (tree_by tree) is.back.kept

-- what is told of a tree is told of its source text
pub source_fault : (source : List ℕ) (tree : Program) (fault : Option StageFault)
    → tree_of source ≡ tree_with_rules tree → IsReported tree fault → IsFaultOf source fault
source_fault source tree None same told = tt
source_fault source tree (Some fault) same (inl is) = inl (same ∙ is)
source_fault source tree (Some fault) same (inr back) = inr (tree, same ∙ kept_tree tree fault back, back)

-- where a result is an error
pub result_fault : {A : Type 0} (source : List ℕ) (tree : Program) (result : Result A CompileError)
    → tree_of source ≡ tree_with_rules tree
    → IfErr result (λ e. IsReported tree (compiling.fault_of e))
    → IfErr result (λ e. IsFaultOf source (compiling.fault_of e))
result_fault source tree (Ok value) same told = tt
result_fault source tree (Err e) same told = source_fault source tree (compiling.fault_of e) same told

-- a stage before the rules fails
pub stage_failed : (source : List ℕ) (fault : Option StageFault) → Fails fault (tree_of source) → IsFaultOf source fault
stage_failed source None fails = tt
stage_failed source (Some fault) fails = inl fails

-- a tree that was read is the source text's, if it keeps the rules
pub rules_left : (source : List ℕ) (characters : List Character) (found : List Token) (tree : Program)
    → characters_of source ≡ Ok characters → tokens characters ≡ Ok found → parse_of found ≡ Ok tree
    → tree_of source ≡ tree_with_rules tree
rules_left source characters found tree read scanned parsed =
    ap (λ r. then_read r OfLines tree_in_characters) read
    ∙ ap (λ r. then_read r OfTokens tree_in_tokens) scanned
    ∙ ap (λ r. then_read r OfTree tree_with_rules) parsed

pub image_refusal : (tree : Program) (e : CompileError) → IsTreeAnswer tree (Err e) → IsImageAnswer tree (Err e)
image_refusal tree Memory allowed = tt
image_refusal tree (Refused fault) allowed = allowed

pub memory_alone : (tree : Program) (e : CompileError) → IsImageAnswer tree (Err e) → e ≡ Memory
memory_alone tree Memory allowed = refl
memory_alone tree (Refused fault) allowed = absurd allowed
