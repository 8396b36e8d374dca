-- The function that reads a text and the relation that is the reference format agree.
use Rattle.std.proofs.Common.{◌≡◌, ℕ, ◌≤◌, Bool, true, false, cond, nat_le, List, [], length, Result, Ok, Err, refl}
use Rattle.std.proofs.Common.{sym, ◌∙◌, arith}
use Rattle.std.proofs.lemmas.Bool.Decides.{nat_tests}
use Rattle.source_lines.specs.declared.fault.SourceFault.{SourceFault}
use Rattle.source_lines.specs.declared.lines.Character.{Character}
use Rattle.source_lines.specs.declared.reader.Before.TheVariants.{Nothing}
use Rattle.source_lines.specs.Reading.{after_lines, and_then, at_end, at_start, characters_of, lines_of, too_large}
use Rattle.source_lines.specs.Format.{HasCharacters}
use Rattle.source_lines.proofs.Answered.{text_found}
use Rattle.source_lines.proofs.Cutting.{within_limit}
use Rattle.source_lines.proofs.Written.{Fresh, text_read}

pub within : (n : ℕ) → nat_le n 8000000 ≡ true → n ≤ 8000000
within n e = grind (arith, nat_tests)

by_size : (source : List ℕ) (given : List Character) (small : Bool) → nat_le (length source) 8000000 ≡ small
    → cond small (and_then (after_lines (lines_of source) at_start) at_end) (Err too_large) ≡ Ok given
    → HasCharacters source given
by_size source given true small e =
    record { size = within (length source) small; text = text_found (lines_of source) given e }
by_size source given false large e =
    absurd (let h : (let r : Result (List Character) SourceFault = Err too_large in r) ≡ Ok given = e in cc)

pub answered : (source : List ℕ) (given : List Character) → characters_of source ≡ Ok given → HasCharacters source given
unfolding characters_of
answered source given e = by_size source given (nat_le (length source) 8000000) refl e

pub only : (source : List ℕ) (given : List Character) → HasCharacters source given → characters_of source ≡ Ok given
only source given h = within_limit source h.size ∙ text_read h.text [] Nothing Fresh.nothing

same_given : {one two : List Character} → (let r : Result (List Character) SourceFault = Ok one in r) ≡ Ok two
    → one ≡ two
same_given e = cc

pub unique : (source : List ℕ) (one two : List Character) → HasCharacters source one → HasCharacters source two
    → one ≡ two
unique source one two a b = same_given (sym (only source one a) ∙ only source two b)
