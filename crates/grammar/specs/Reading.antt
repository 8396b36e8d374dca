-- Reading as a function on lists of tokens.
use Rattle.std.specs.Prelude.{ℕ, zero, suc, Bool, true, false, if◌then◌else◌, List, [], ◌∷◌, ◌++◌, length, drop, Option, Some, None, Result, Ok, Err}
use Rattle.tokens.specs.declared.reserved.Reserved.{Reserved}
use Rattle.tokens.specs.declared.token.Kind.{Kind}
use Rattle.tokens.specs.declared.token.Kind.TheVariants as k
use Rattle.tokens.specs.declared.token.Token.{Token}
use Rattle.tokens.specs.Reserved.{same_word}
use Rattle.lexical.specs.declared.place.Place.{Place}
use Rattle.source_tree.specs.declared.name.Name.{Name}
use Rattle.grammar.specs.declared.fault.Halt.{Halt}
use Rattle.grammar.specs.declared.fault.Halt.TheVariants.{Unexpected}
use Rattle.grammar.specs.declared.fault.ReadFault.{ReadFault}
use Rattle.grammar.specs.declared.fault.ReadFault.TheVariants as faults
use Rattle.answers.specs.Answer.{Gives}
use Rattle.grammar.specs.Parts.{name_in}

-- What was read and the tokens after it, or where reading stopped.
abbrev pub Outcome : Type 0 → Type 0
Outcome A = Result (A × List Token) Halt

abbrev pub Parser : Type 0 → Type 0
Parser A = List Token → Outcome A

abbrev pub and_then : {A B : Type 0} → Outcome A → (A → Parser B) → Outcome B
and_then (Ok p) f = f p.0 p.1
and_then (Err e) f = Err e

infixl 10 ◌>>=◌
abbrev pub ◌>>=◌ : {A B : Type 0} → Parser A → (A → Parser B) → Parser B
p >>= f = λ i. and_then (p i) f

infixl 10 ◌>>◌
abbrev pub ◌>>◌ : {A B : Type 0} → Parser A → Parser B → Parser B
p >> q = p >>= (λ _. q)

abbrev pub pure : {A : Type 0} → A → Parser A
pure a = λ i. Ok (a, i)

abbrev pub refuse : {A : Type 0} → Parser A
refuse = λ i. Err (Unexpected (length i))

-- ---- words

abbrev pub is_kind : Reserved → Kind → Bool
is_kind one (k.Reserved other) = same_word other one
is_kind one _ = false

abbrev pub is_word : Reserved → Token → Bool
is_word one first = is_kind one first.kind

abbrev pub begins_word : Reserved → List Token → Bool
begins_word one [] = false
begins_word one (first ∷ more) = is_word one first

-- The tokens after these words, where they stand.
abbrev pub Words : Type 0
Words = List Token → Option (List Token)

unfoldable pub after_word : Reserved → Words
after_word one [] = None
after_word one (first ∷ more) = if is_word one first then Some more else None

abbrev pub otherwise_here : List Token → Option (List Token) → List Token
otherwise_here i None = i
otherwise_here i (Some after) = after

unfoldable pub past_word : Reserved → List Token → List Token
past_word one i = otherwise_here i (after_word one i)

abbrev pub also_after : Reserved → Option (List Token) → Option (List Token)
also_after one None = None
also_after one (Some i) = after_word one i

abbrev pub outcome_of_rest : Option (List Token) → List Token → Outcome (Unit {0})
outcome_of_rest None i = refuse i
outcome_of_rest (Some after) i = Ok (tt, after)

unfoldable pub expect : Reserved → Parser (Unit {0})
expect one = λ i. outcome_of_rest (after_word one i) i

unfoldable pub skip : Reserved → Parser (Unit {0})
skip one = λ i. Ok (tt, past_word one i)

-- whether a phrase is left out, by the tokens after it where it stands
abbrev pub left_out_at : Option (List Token) → Parser Bool
left_out_at None i = Ok (true, i)
left_out_at (Some after) i = Ok (false, after)

unfoldable pub left_out : Words → Parser Bool
left_out words = λ i. left_out_at (words i) i

-- whether a phrase stands, by the tokens after it
abbrev pub stands_at : Option (List Token) → Parser Bool
stands_at None i = Ok (false, i)
stands_at (Some after) i = Ok (true, after)

unfoldable pub presence_reader : Words → Parser Bool
presence_reader words = λ i. stands_at (words i) i

-- the next token, whatever it is
abbrev pub advance : Parser (Unit {0})
advance = λ i. Ok (tt, drop 1 i)

abbrev pub is_period : Kind → Bool
is_period k.Period = true
is_period _ = false

unfoldable pub period : Parser (Unit {0})
period [] = refuse []
period (first ∷ more) = if is_period first.kind then Ok (tt, more) else refuse (first ∷ more)

unfoldable pub heading_reader : List Reserved → Parser (Unit {0})
heading_reader [] = period
heading_reader (one ∷ more) = expect one >> heading_reader more

unfoldable pub end_reader : Parser (Unit {0})
end_reader [] = Ok (tt, [])
end_reader (first ∷ more) = refuse (first ∷ more)

-- ---- one token

unfoldable pub here : Parser Place
here [] = refuse []
here (first ∷ more) = Ok (first.place, first ∷ more)

unfoldable pub verb : Reserved → Parser Place
verb one = here >>= (λ place. expect one >> pure place)

abbrev pub outcome_of_value : {A : Type 0} → Option A → List Token → List Token → Outcome A
outcome_of_value None more i = refuse i
outcome_of_value (Some a) more i = Ok (a, more)

unfoldable pub one_token : {A : Type 0} → (Token → Option A) → Parser A
one_token tells [] = refuse []
one_token tells (first ∷ more) = outcome_of_value (tells first) more (first ∷ more)

unfoldable pub name : Parser Name
name = one_token name_in

-- ---- lists

-- One or more. The number bounds the turns, and each turn takes a token, so the count of tokens is enough.
unfoldable pub several_from : {A : Type 0} → Parser A → (List Token → Bool) → ℕ → List A → Parser (List A)
several_from item begins zero found = refuse
several_from item begins (suc turns) found =
    item >>= (λ one i. if begins i then several_from item begins turns (found ++ one ∷ []) i else Ok (found ++ one ∷ [], i))

unfoldable pub several : {A : Type 0} → Parser A → (List Token → Bool) → Parser (List A)
several item begins = λ i. several_from item begins (length i) [] i

-- any number
unfoldable pub any : {A : Type 0} → Parser A → (List Token → Bool) → Parser (List A)
any item begins = λ i. if begins i then several item begins i else Ok ([], i)

-- ---- looking past what would be read

abbrev pub rest_of : {A : Type 0} → Outcome A → Option (List Token)
rest_of (Ok p) = Some p.1
rest_of (Err halt) = None

-- the tokens after what a reader reads
abbrev pub tokens_past : {A : Type 0} → Parser A → Words
tokens_past read = λ i. rest_of (read i)

abbrev pub and_past : Option (List Token) → Words → Option (List Token)
and_past None words = None
and_past (Some i) words = words i

unfoldable pub past_several_from : Words → (List Token → Bool) → ℕ → Words
past_several_from words begins zero i = None
past_several_from words begins (suc turns) i = and_past (words i) (λ j. if begins j then past_several_from words begins turns j else Some j)

unfoldable pub past_several : Words → (List Token → Bool) → Words
past_several words begins i = past_several_from words begins (length i) i

unfoldable pub past_any : Words → (List Token → Bool) → Words
past_any words begins i = if begins i then past_several words begins i else Some i

-- ---- what a function that reads ensures: what reading gives, unless memory ran out

-- where reading halted, or nothing where memory ran out
abbrev pub halt_of : ReadFault → Option Halt
halt_of faults.Memory = None
halt_of (faults.Halted halt) = Some halt

abbrev pub Reads : {A : Type 0} → Outcome A → Result A ReadFault → List Token → Type 0
Reads reading result rest = Gives (λ a. (a, rest)) halt_of result reading
