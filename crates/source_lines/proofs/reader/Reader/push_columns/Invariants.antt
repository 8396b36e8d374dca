use Rattle.std.proofs.Common.{◌≡◌, ◌<◌}
use Rattle.source_lines.specs.Reading.{with_columns}
use Rattle.source_lines.proofs.reader.Reader.push_columns.Given as goal

abbrev pub invariant-loop-column : goal.invariant-loop-column
invariant-loop-column l =
    (l.self ≡ with_columns l.line l.fn.from l.column l.fn.self) × (l.end < l.fn.from → l.column ≡ l.fn.from)
