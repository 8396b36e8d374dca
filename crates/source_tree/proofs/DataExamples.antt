-- Programs on items and what they do.
use Rattle.std.proofs.Common.{◌≡◌, ℕ, true, List, [], ◌∷◌, None, refl}
use Rattle.std.specs.Prelude.{codes, map}
use Rattle.station.specs.State.{Shown}
use Rattle.source_tree.specs.declared.expression.Operand.{Operand}
use Rattle.source_tree.specs.declared.expression.Operand.TheVariants as operand
use Rattle.source_tree.specs.declared.data_statement.DataStatement.TheVariants.{Move}
use Rattle.source_tree.specs.declared.reference.Reference.{Reference}
use Rattle.source_tree.specs.declared.entry.Entry.{Entry}
use Rattle.source_tree.specs.declared.text_statement.TextStatement.TheVariants.{Display}
use Rattle.source_tree.specs.declared.statement.Verb.{Verb}
use Rattle.source_tree.specs.declared.statement.Verb.TheVariants as verb
use Rattle.source_tree.specs.declared.statement.Statement.{Statement, out-Statement, roll-Statement}
use Rattle.source_tree.specs.declared.program.Program.{Program}
use Rattle.source_tree.specs.Evaluated as fault
use Rattle.source_tree.specs.State.{Stopped, Faulted}
use Rattle.source_tree.specs.Meaning.{Run, meaning}
use Rattle.source_tree.proofs.Samples.{at, item, occurring, valued, group, entries, number, plain, reference, counted}
use Rattle.source_tree.proofs.Samples.{the_item, the_literal, name}
unfoldable use Rattle.source_tree.proofs.Computing.{computing}

abbrev statement : ℕ → Verb Statement → Statement
statement line one = roll-Statement (record { place = at line 12; verb = one })

abbrev move : ℕ → Operand → List Reference → Statement
move line sender receivers = statement line (verb.DataStatement (Move sender receivers))

abbrev display : ℕ → List Operand → Statement
display line operands = statement line (verb.TextStatement (Display operands true))

abbrev program : List Entry → List Statement → Program
program storage statements = record {
  name = name (codes "P");
  selects = [];
  files = [];
  storage = storage;
  sections = record {
    name = None;
    paragraphs = record { name = None; sentences = record { statements = statements } ∷ [] } ∷ [];
  } ∷ [];
}

abbrev runs : Program → Run
runs one = meaning one (record { budget = 9; day = codes "260730"; lines = []; files = [] })

-- 77 N PIC 99 VALUE 7. 01 T. 05 X PIC X OCCURS 2.
abbrev some : List Entry
some = entries (
    valued (number (codes "7")) (item (codes "77") (codes "N") (codes "99"))
    ∷ group (codes "01") (codes "T")
    ∷ occurring (codes "2") (item (codes "05") (codes "X") (codes "X"))
    ∷ [])

-- DISPLAY N. MOVE 12 TO N. DISPLAY N T. MOVE N TO T. DISPLAY T.
moved : runs (program some (display 7 (the_item (codes "N") ∷ [])
    ∷ move 8 (the_literal (number (codes "12"))) (plain (codes "N") ∷ [])
    ∷ display 9 (the_item (codes "N") ∷ the_item (codes "T") ∷ [])
    ∷ move 10 (the_item (codes "N")) (plain (codes "T") ∷ [])
    ∷ display 11 (the_item (codes "T") ∷ [])
    ∷ [])) ≡ record { events = map Shown (codes "07\n12  \n12\n"); end = Stopped; lines = []; files = [] ∷ [] }
unfolding computing out-Statement roll-Statement denote.Hole.Carrier.out denote.Hole.Carrier.roll
moved = refl

-- X (3)
abbrev the_occurrence : Operand
the_occurrence = operand.Item (reference (codes "X") (counted (codes "3") ∷ []))

-- A subscript out of range ends the run at its statement's line. What was moved before stays; nothing more is shown.
out_of_range : runs (program some (display 7 (the_item (codes "N") ∷ [])
    ∷ display 8 (the_item (codes "N") ∷ the_item (codes "T") ∷ the_occurrence ∷ [])
    ∷ display 9 (the_item (codes "N") ∷ [])
    ∷ [])) ≡ record { events = map Shown (codes "07\n"); end = Faulted fault.Subscript 8; lines = []; files = [] ∷ [] }
unfolding computing out-Statement roll-Statement denote.Hole.Carrier.out denote.Hole.Carrier.roll
out_of_range = refl
