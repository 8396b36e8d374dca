-- Picture character-strings (COBOL-85, Nucleus, "PICTURE clause"). They are the nonblank characters after PIC or PICTURE and an
-- optional IS, without a last period, comma or semicolon that a space follows.
use Rattle.std.specs.Prelude.{ℕ, ◌-◌, Bool, ◌&&◌, if◌then◌else◌, ◌==◌, List, take, None}
use Rattle.std.specs.Str.{str_eq_ignore_ascii_case}
use lib.Chars.{codes}
use Rattle.source_lines.specs.declared.lines.Character.{Character}
use Rattle.tokens.specs.declared.character.Class.TheVariants as class
use Rattle.tokens.specs.declared.context.Context.{Context}
use Rattle.tokens.specs.declared.lexeme.Lexeme.{Lexeme}
use Rattle.tokens.specs.declared.reserved.Reserved.TheVariants as w
use Rattle.tokens.specs.declared.token.Kind.TheVariants as k
use Rattle.tokens.specs.Characters.{bytes, run_size, ends_with_class}
use Rattle.tokens.specs.Contexts.{may_be_is}
use Rattle.tokens.specs.Words.{token}

abbrev pub separator : Lexeme
separator = record { kind = None; size = 1 }

abbrev pub picture_size : List Character → ℕ
picture_size characters = let size = run_size class.Nonblank characters in if ends_with_class class.Ending (take size characters) then size - 1 else size

-- A picture that is empty without its last mark is none: the mark stands for itself. The number is the byte at the front.
abbrev pub lone_mark : ℕ → Lexeme
lone_mark first = if first == 46 then token k.Period 1 else separator

abbrev pub is_is : List ℕ → Bool
is_is text = str_eq_ignore_ascii_case text (codes "IS")

unfoldable pub picture : Context → ℕ → List Character → Lexeme
picture before first characters =
    let size = picture_size characters in
    let text = bytes (take size characters) in
    if size == 0 then lone_mark first
    else (if may_be_is before && is_is text then token (k.Reserved w.Is) size else token (k.Picture text) size)
