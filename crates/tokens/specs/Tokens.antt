-- Which tokens some characters have, as a relation.
use Rattle.std.specs.Prelude.{◌≡◌, ◌<◌, ◌≤◌, ℕ, zero, suc, ◌+◌, List, [], ◌∷◌, ◌++◌, length, Option, None, Some}
use Rattle.source_lines.specs.declared.lines.Character.{Character}
use Rattle.lexical.specs.declared.place.Place.{Place}
use Rattle.tokens.specs.declared.context.Context.{Context}
use Rattle.tokens.specs.declared.context.Context.TheVariants as context
use Rattle.tokens.specs.declared.token.Kind.{Kind}
use Rattle.tokens.specs.declared.token.Token.{Token}
use Rattle.tokens.specs.Contexts.{context_after}
use Rattle.tokens.specs.Kinds.{IsFront}
use Rattle.tokens.specs.Scanning.{token_of, span_of}

-- The characters `c`, `text` and `rest` fall into a front, which is a token (`kind`) or a separator by its kind, and the rest, which has
-- the other tokens. So tokens and separators together cover the characters in order. `start` is the place of the front among all
-- characters, and `before` what stands before it.
pub data AreTokens : Context → ℕ → List Character → List Token → Type 0 where
  at_end : {before : Context} {start : ℕ} → AreTokens before start [] []
  front : {before : Context} {start : ℕ} {others : List Token} (c : Character) (text rest : List Character) (kind : Option Kind)
      → IsFront before kind (c ∷ text) rest
      → AreTokens (context_after before kind) (start + suc (length text)) rest others
      → AreTokens before start (c ∷ (text ++ rest)) (token_of kind (span_of start (suc (length text))) c.place ++ others)

-- these are the tokens of all characters of a source text
abbrev pub TokensOf : List Character → List Token → Type 0
TokensOf characters tokens = AreTokens context.Apart 0 characters tokens

-- whatever begins these characters here as a token or separator, before what then follows, is no longer than this text
abbrev pub NoLonger : Context → Character → List Character → List Character → Type 0
NoLonger before c characters longest = (kind : Option Kind) (text rest : List Character) → characters ≡ text ++ rest → IsFront before kind (c ∷ text) rest → length (c ∷ text) ≤ length longest

-- the spans are not empty, in order, apart, and within these bounds
abbrev pub InOrder : ℕ → ℕ → List Token → Type 0
InOrder from total [] = from ≤ total
InOrder from total (t ∷ more) = (from ≤ t.span.start) × (t.span.start < t.span.end) × InOrder t.span.end total more

abbrev pub place_at : List Character → ℕ → Option Place
place_at [] at = None
place_at (c ∷ more) zero = Some c.place
place_at (c ∷ more) (suc at) = place_at more at

-- each token's place is that of the character at which its span starts
abbrev pub ArePlacedBy : List Character → List Token → Type 0
ArePlacedBy characters [] = Unit {0}
ArePlacedBy characters (t ∷ more) = (place_at characters t.span.start ≡ Some t.place) × ArePlacedBy characters more
