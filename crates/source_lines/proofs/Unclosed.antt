-- Reading tells an open literal exactly of the texts in which one stays open.
use Rattle.std.proofs.Common.{◌≡◌, ℕ, Bool, true, false, cond, nat_le, List, [], length, Err, refl, ◌∙◌}
use Rattle.source_lines.specs.declared.fault.SourceFault.{SourceFault}
use Rattle.source_lines.specs.declared.fault.FaultKind.TheVariants.{SourceTooLarge, UnclosedLiteral}
use Rattle.source_lines.specs.declared.literal.OpenLiteral.{OpenLiteral}
use Rattle.source_lines.specs.declared.reader.Before.TheVariants.{Nothing}
use Rattle.source_lines.specs.Reading as reading
use Rattle.source_lines.specs.Reading.{after_lines, and_then, at_end, at_start, characters_of, lines_of, too_large}
use Rattle.source_lines.specs.Unclosed.{HasUnclosed}
use Rattle.source_lines.proofs.Cutting.{within_limit}
use Rattle.source_lines.proofs.OneList.{within}
use Rattle.source_lines.proofs.UnclosedFound.{open_text_found, same_kind}
use Rattle.source_lines.proofs.UnclosedRead.{open_text_read}
use Rattle.source_lines.proofs.Written.{Fresh}

pub unclosed : (source : List ℕ) (literal : OpenLiteral) → HasUnclosed source literal
    → characters_of source ≡ Err (reading.unclosed_fault literal)
unclosed source literal h = within_limit source h.size ∙ open_text_read h.text [] Nothing Fresh.nothing

large_not : SourceTooLarge ≡ UnclosedLiteral → ⊥
large_not e = cc

by_size : (source : List ℕ) (fault : SourceFault) (small : Bool) → nat_le (length source) 8000000 ≡ small
    → fault.kind ≡ UnclosedLiteral
    → cond small (and_then (after_lines (lines_of source) at_start) at_end) (Err too_large) ≡ Err fault
    → (literal : OpenLiteral) × HasUnclosed source literal × (fault ≡ reading.unclosed_fault literal)
by_size source fault true small told e =
    let found = open_text_found (lines_of source) fault told e in
    (found.0, record { size = within (length source) small; text = found.1 }, found.2)
by_size source fault false large told e = absurd (large_not (same_kind e told))

pub unclosed_only : (source : List ℕ) (fault : SourceFault) → characters_of source ≡ Err fault
    → fault.kind ≡ UnclosedLiteral
    → (literal : OpenLiteral) × HasUnclosed source literal × (fault ≡ reading.unclosed_fault literal)
unfolding characters_of
unclosed_only source fault e told = by_size source fault (nat_le (length source) 8000000) refl told e
