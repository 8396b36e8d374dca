-- The paragraphs of the identification division that are dropped, whose bodies are comment-entries (COBOL-85, Nucleus,
-- "Identification division"). That they end at the next line with a nonblank in area A is the standard's rule for a paragraph.
use Rattle.std.specs.Prelude.{ℕ, ◌-◌, Bool, ◌||◌, ◌&&◌, nat_lt, List, length, take, drop, codes}
use Rattle.std.specs.Str.{str_eq_ignore_ascii_case}
use Rattle.source_lines.specs.declared.line.Line.{Line}

-- whether the text begins with this heading, in either case (own choice)
abbrev pub begins_with : List ℕ → List ℕ → Bool
begins_with text heading = str_eq_ignore_ascii_case (take (length heading) text) heading

abbrev pub begins_with_heading : List ℕ → Bool
begins_with_heading text =
    begins_with text (codes "AUTHOR.") || begins_with text (codes "INSTALLATION.") || begins_with text (codes "DATE-WRITTEN.")
    || begins_with text (codes "DATE-COMPILED.") || begins_with text (codes "SECURITY.")

-- whether a plain line with this first nonblank begins a dropped paragraph: the word begins in area A
abbrev pub begins_dropped : Line → ℕ → Bool
begins_dropped line first = nat_lt first 12 && begins_with_heading (drop (first - 1) line.columns)
