-- Statements on texts: DISPLAY, ACCEPT and INSPECT.
use Rattle.std.specs.Prelude.{List}
use Rattle.source_tree.specs.declared.text_statement.TextStatement.{TextStatement}
use Rattle.source_tree.specs.declared.text_statement.TextStatement.TheVariants as text
use Rattle.source_tree.specs.Places.{LocatedItem}
use Rattle.source_tree.specs.State.{State, Outcome, Done, state_after_output, change_outcome, with_value}
use Rattle.source_tree.specs.Showing.{displayed_bytes}
use Rattle.source_tree.specs.Accepting.{next_line, later_lines, accept_line, accept_date}
use Rattle.source_tree.specs.Inspecting.{inspect}
use Rattle.source_tree.specs.Converting.{convert}

abbrev pub texts : List LocatedItem → TextStatement → State → Outcome
texts items (text.Display operands advancing) s =
    with_value (displayed_bytes items operands advancing s.storage) s (λ bytes. Done (state_after_output bytes s))
texts items (text.Accept receiver) s =
    with_value (accept_line items (next_line s.lines) receiver s.storage) s
    (λ after. Done (record s { storage = after; lines = later_lines s.lines }))
texts items (text.AcceptDate receiver) s = change_outcome (accept_date items s.day receiver) s
texts items (text.Inspect one) s = change_outcome (inspect items one) s
texts items (text.Convert one) s = change_outcome (convert items one) s
