-- What reading in steps gives.
use Rattle.std.proofs.Common.{◌≡◌, ◌∙◌, ◌<◌, ℕ, suc, List, Ok, Err, refl, sym, ap, subst, arith}
use Rattle.tokens.specs.declared.token.Token.{Token}
use Rattle.grammar.specs.declared.fault.Halt.{Halt}
use Rattle.grammar.specs.declared.fault.Halt.TheVariants.{Unexpected, TooDeep}
use Rattle.grammar.specs.Reading.{Outcome, Parser, and_then}

-- Reading answers this and nothing else, but that it may halt as is allowed.
pub data Answers (Allowed : Halt → Type 0) {A : Type 0} (reading : Outcome A) (a : A) (rest : List Token) : Type 0 where
  Reached : reading ≡ Ok (a, rest) → Answers Allowed reading a rest
  Halts : (halt : Halt) → Allowed halt → reading ≡ Err halt → Answers Allowed reading a rest

-- what may be answered where statements, parentheses and signs stand in one another to `depth'`, and reading goes to
-- `depth`
abbrev pub Deeper : ℕ → ℕ → Halt → Type 0
Deeper depth depth' (TooDeep left) = depth < depth'
Deeper depth depth' (Unexpected left) = ⊥

-- where more is allowed
pub allow : {Allowed Wider : Halt → Type 0} {A : Type 0} {reading : Outcome A} {a : A} {rest : List Token}
    → ((halt : Halt) → Allowed halt → Wider halt) → Answers Allowed reading a rest → Answers Wider reading a rest
allow wider (Reached e) = Reached e
allow wider (Halts halt allowed e) = Halts halt (wider halt allowed) e

-- one level down on both sides
pub one_deeper : (depth depth' : ℕ) (halt : Halt) → Deeper depth depth' halt → Deeper (suc depth) (suc depth') halt
one_deeper depth depth' (TooDeep left) below = omega arith
one_deeper depth depth' (Unexpected left) none = none

pub step : {Allowed : Halt → Type 0} {A B : Type 0} (first : Outcome A) (f : A → Parser B) {a : A} {middle : List Token}
    {b : B} {rest : List Token}
    → Answers Allowed first a middle → Answers Allowed (f a middle) b rest → Answers Allowed (and_then first f) b rest
step {Allowed = Allowed} first f {b = b} {rest = rest} (Reached e) next =
    subst (λ o. Answers Allowed (and_then o f) b rest) (sym e) next
step first f (Halts halt allowed e) next = Halts halt allowed (ap (λ o. and_then o f) e)

-- the first step of what was read, handed on
pub unstep : {A B : Type 0} (first : Outcome A) (f : A → Parser B) {b : B} {rest : List Token} {Q : Type 0}
    → and_then first f ≡ Ok (b, rest)
    → ((a : A) (middle : List Token) → first ≡ Ok (a, middle) → f a middle ≡ Ok (b, rest) → Q) → Q
unstep (Ok p) f e go = go p.0 p.1 refl e
unstep (Err fault) f e go = cc

abbrev pub got : {A : Type 0} → A → List Token → Outcome A
got a rest = Ok (a, rest)

ok : {A : Type 0} → A × List Token → Outcome A
ok x = Ok x

same : {A : Type 0} {x y : A × List Token} → ok x ≡ ok y → x ≡ y
unfolding ok
same e = cc

pub value : {A : Type 0} {a b : A} {i j : List Token} → got a i ≡ got b j → a ≡ b
unfolding ok
value {A = A} {a = a} {b = b} {i = i} {j = j} e = ap (λ p. p.0) (same {x = (a, i)} {y = (b, j)} e)

pub after : {A : Type 0} {a b : A} {i j : List Token} → got a i ≡ got b j → i ≡ j
unfolding ok
after {A = A} {a = a} {b = b} {i = i} {j = j} e = ap (λ p. p.1) (same {x = (a, i)} {y = (b, j)} e)

-- the last step, which only hands on what was read
pub last : {A B : Type 0} {first : Outcome A} {a : A} {middle rest : List Token} {b c : B} → first ≡ Ok (a, middle)
    → got b middle ≡ got c rest → first ≡ Ok (a, rest)
last {a = a} is e = is ∙ ap (λ j. Ok (a, j)) (after e)
