-- The first line of a text and what is after it.
use Rattle.std.proofs.Common.{◌≡◌, ℕ, List, [], ◌∷◌, None, drop, get_or, ap, refl, sym, arith}
use Rattle.memchr.specs.Find.{IsFirstByte, is_byte}
use Rattle.source_lines.specs.Cut.{lines}
use Rattle.source_lines.proofs.Cutting.{line_left}

-- a text without a line feed is its first line
pub last_line : (rest : List ℕ) → IsFirstByte (is_byte 10) rest None → rest ≡ get_or (lines rest) 0 []
last_line [] none = refl
last_line (byte ∷ more) none = sym (ap (λ l. get_or l 0 []) (line_left (byte ∷ more) none (omega arith)))

-- and no line is after it
pub no_more_lines : (rest : List ℕ) → IsFirstByte (is_byte 10) rest None → lines [] ≡ drop 1 (lines rest)
no_more_lines [] none = refl
no_more_lines (byte ∷ more) none = sym (ap (λ l. drop 1 l) (line_left (byte ∷ more) none (omega arith)))
