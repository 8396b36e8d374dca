-- The tokens of a text, as a function on its characters.
use Rattle.std.specs.Prelude.{◌≡◌, ℕ, zero, suc, ◌+◌, ◌-◌, List, [], ◌∷◌, ◌++◌, Option, None, Some, Result, Ok, Err}
use Rattle.source_lines.specs.declared.lines.Character.{Character}
use Rattle.lexical.specs.declared.place.Place.{Place}
use Rattle.tokens.specs.declared.fault.TokenFault.{TokenFault}
use Rattle.tokens.specs.declared.context.Context.{Context}
use Rattle.tokens.specs.declared.context.Context.TheVariants as context
use Rattle.tokens.specs.declared.lexeme.Lexeme.{Lexeme}
use Rattle.tokens.specs.declared.token.Kind.{Kind}
use Rattle.tokens.specs.declared.token.Span.{Span}
use Rattle.tokens.specs.declared.token.Token.{Token}
use Rattle.tokens.specs.Words.{Outcome}
use Rattle.tokens.specs.Contexts.{context_after}
use Rattle.tokens.specs.Lexemes.{lexeme}

abbrev pub Tokens : Type 0
Tokens = Result (List Token) TokenFault

-- the token that something at the front is; a separator is none
abbrev pub token_of : Option Kind → Span → Place → List Token
token_of None span place = []
token_of (Some kind) span place = record { kind = kind; span = span; place = place } ∷ []

abbrev pub span_of : ℕ → ℕ → Span
span_of start size = record { start = start; end = start + size }

-- these tokens come before the others
abbrev pub before_others : List Token → Tokens → Tokens
before_others found (Ok others) = Ok (found ++ others)
before_others found (Err fault) = Err fault

abbrev pub and_then : Outcome → (Lexeme → Tokens) → Tokens
and_then (Ok one) rest = rest one
and_then (Err fault) rest = Err fault

-- Each character belongs to the token or separator before it, of which some are left, or it begins the next one.
-- `start` is the place of the front among all characters.
abbrev pub tokens_from : ℕ → Context → ℕ → List Character → Tokens
tokens_from left before start [] = Ok []
tokens_from (suc left) before start (c ∷ more) = tokens_from left before (start + 1) more
tokens_from zero before start (c ∷ more) =
    and_then (lexeme before c more) (λ one. before_others (token_of one.kind (span_of start one.size) c.place) (tokens_from (one.size - 1) (context_after before one.kind) (start + 1) more))

unfoldable pub tokens : List Character → Tokens
tokens characters = tokens_from zero context.Apart 0 characters

-- the function answers these tokens
abbrev pub ScansTo : List Character → List Token → Type 0
ScansTo characters found = tokens characters ≡ Ok found
