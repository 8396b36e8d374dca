use Rattle.source_lines.proofs.OneList.{answered, only, unique}
use Rattle.source_lines.proofs.Unclosed.{unclosed, unclosed_only}
use Rattle.source_lines.proofs.format.reference_format.Goals as goal

pub returns : goal.returns
returns c =
    record { answered = answered; only = only; unique = unique; unclosed = unclosed; unclosed_only = unclosed_only }
