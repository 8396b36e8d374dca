-- What `run --trace-files` prints of a file statement (own choice).
use Rattle.std.specs.Prelude.{◌≡◌, ℕ, List, [], ◌∷◌, ◌++◌, Option, Some, None, codes, decimal}
use Rattle.station.specs.declared.traced.TracedStatement.{TracedStatement}
use Rattle.volume_commands.specs.Text.{bytes_text, line_feed}
use Rattle.volume_commands.specs.Listing.{space}
use Rattle.volume_commands.specs.Output.{AppendsBeginning}

-- its line in the source, its verb, the file's name as `list` prints it, and its status
abbrev pub traced_line : TracedStatement → List ℕ
traced_line statement =
    codes "line " ++ decimal statement.line ++ codes ": "
    ++ statement.verb.now
    ++ space ∷ bytes_text statement.file.now
    ++ space ∷ statement.status
    ++ line_feed ∷ []

-- The writer took a beginning of a line, and no writer is still none.
abbrev pub Tells : {E : Type 0} → (E → Option (List ℕ)) → Option E → Option E → List ℕ → Type 0
Tells contents None new line = new ≡ None
Tells contents (Some old) None line = ⊥
Tells contents (Some old) (Some new) line = AppendsBeginning (contents old) (contents new) line
