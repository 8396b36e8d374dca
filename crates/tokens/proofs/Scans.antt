-- Reading on after a token or separator.
use Rattle.std.proofs.Common.{◌≡◌, ◌≤◌, ◌+◌, ◌-◌, ℕ, zero, suc, List, [], ◌∷◌, ◌++◌, length, take, drop, get_or, Ok}
use Rattle.std.proofs.Common.{Err, refl, sym, ap, ◌∙◌, arith, append_assoc, append-nil, add-zero, length-drop}
use Rattle.std.proofs.lemmas.List.{take_rest}
use Rattle.source_lines.specs.declared.lines.Character.{Character}
use Rattle.tokens.specs.declared.context.Context.{Context}
use Rattle.tokens.specs.declared.lexeme.Lexeme.{Lexeme}
use Rattle.tokens.specs.declared.token.Token.{Token}
use Rattle.tokens.specs.Contexts.{context_after}
use Rattle.tokens.specs.Lexemes.{lexeme}
use Rattle.tokens.specs.Scanning.{Tokens, tokens_from, before_others, token_of, span_of, and_then}

-- what is left of a token or separator is passed
pub passes : (left : ℕ) (before : Context) (start : ℕ) (cs : List Character)
    → tokens_from left before start cs ≡ tokens_from 0 before (start + left) (drop left cs)
passes zero before start cs = ap (λ n. tokens_from 0 before n cs) (sym (add-zero start))
passes (suc left) before start [] = refl
passes (suc left) before start (c ∷ more) =
    let e : (start + 1) + left ≡ start + suc left = omega arith in
    passes left before (start + 1) more ∙ ap (λ n. tokens_from 0 before n (drop left more)) e

pub joins : (found more : List Token) (others : Tokens)
    → before_others found (before_others more others) ≡ before_others (found ++ more) others
joins found more (Ok others) = ap Ok (sym (append_assoc found more others))
joins found more (Err fault) = refl

pub drop-more : (size : ℕ) (c : Character) (more : List Character) → 1 ≤ size
    → drop (size - 1) more ≡ drop size (c ∷ more)
drop-more zero c more h = absurd (omega arith)
drop-more (suc size) c more h = let e : suc size - 1 ≡ size = omega arith in ap (λ n. drop n more) e

pub goes_on : (before : Context) (start : ℕ) (c : Character) (more : List Character) (one : Lexeme) → 1 ≤ one.size
    → lexeme before c more ≡ Ok one
    → tokens_from 0 before start (c ∷ more)
    ≡ before_others (token_of one.kind (span_of start one.size) c.place)
    (tokens_from 0 (context_after before one.kind) (start + one.size) (drop one.size (c ∷ more)))
goes_on before start c more one h is =
    let e : (start + 1) + (one.size - 1) ≡ start + one.size = omega arith in
    ap (λ o. and_then o (λ one. before_others (token_of one.kind (span_of start one.size) c.place)
    (tokens_from (one.size - 1) (context_after before one.kind) (start + 1) more))) is
    ∙ ap (before_others (token_of one.kind (span_of start one.size) c.place))
    (passes (one.size - 1) (context_after before one.kind) (start + 1) more
    ∙ ap (λ n. tokens_from 0 (context_after before one.kind) n (drop (one.size - 1) more)) e
    ∙ ap (tokens_from 0 (context_after before one.kind) (start + one.size)) (drop-more one.size c more h))

-- the loop's step
pub steps : (found : List Token) (before : Context) (start : ℕ) (c : Character) (more : List Character) (one : Lexeme)
    → 1 ≤ one.size → lexeme before c more ≡ Ok one
    → before_others (found ++ token_of one.kind (span_of start one.size) c.place)
    (tokens_from 0 (context_after before one.kind) (start + one.size) (drop one.size (c ∷ more)))
    ≡ before_others found (tokens_from 0 before start (c ∷ more))
steps found before start c more one h is =
    sym (joins found (token_of one.kind (span_of start one.size) c.place) _)
    ∙ ap (before_others found) (sym (goes_on before start c more one h is))

pub stops : (before : Context) (start : ℕ) (c : Character) (more : List Character) (fault : _)
    → lexeme before c more ≡ Err fault → tokens_from 0 before start (c ∷ more) ≡ Err fault
stops before start c more fault is =
    ap (λ o. and_then o (λ one. before_others (token_of one.kind (span_of start one.size) c.place)
    (tokens_from (one.size - 1) (context_after before one.kind) (start + 1) more))) is

pub nothing_before : (others : Tokens) → before_others [] others ≡ others
nothing_before (Ok others) = refl
nothing_before (Err fault) = refl

pub nothing_after : (found : List Token) → before_others found (Ok []) ≡ Ok found
nothing_after found = ap Ok (append-nil found)

-- the same for the characters as a loop sees them
pub loop_steps : (found new : List Token) (before next : Context) (start : ℕ) (rest : List Character) (d : Character)
    (one : Lexeme) → 1 ≤ length rest → 1 ≤ one.size
    → lexeme before (get_or rest 0 d) (take (length rest - 1) (drop 1 rest)) ≡ Ok one
    → next ≡ context_after before one.kind
    → ◌≡◌ {A = Tokens} (Ok (found ++ token_of one.kind (span_of start one.size) (get_or rest 0 d).place)) (Ok new)
    → before_others new (tokens_from 0 next (start + one.size) (take (length rest - one.size) (drop one.size rest)))
    ≡ before_others found (tokens_from 0 before start rest)
loop_steps found new before next start [] d one l h is n t = absurd (omega arith)
loop_steps found new before next start (c ∷ more) d one l h is n t =
    let is_more : lexeme before c more ≡ Ok one = ap (lexeme before c) (sym (take_rest (c ∷ more) 1)) ∙ is in
    let pushed : found ++ token_of one.kind (span_of start one.size) c.place ≡ new = cc in
    rw (n, ← pushed, take_rest (c ∷ more) one.size) (steps found before start c more one h is_more)

pub left_counts : (rest : List Character) (size start total : ℕ) → size ≤ length rest → start + length rest ≡ total
    → (start + size) + length (take (length rest - size) (drop size rest)) ≡ total
left_counts rest size start total h e = rw take_rest (let l = length-drop size rest in omega arith)
