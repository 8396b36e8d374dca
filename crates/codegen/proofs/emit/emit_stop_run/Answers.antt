use Rattle.code_image.specs.declared.code.Code.{Code}
use Rattle.condition_codegen.proofs.Sequences.{ends_so}
use Rattle.codegen.specs.Layout.{end_fragment}
use Rattle.codegen.specs.UntilCode.{tick_fragment}
use Rattle.codegen.proofs.emit.emit_stop_run.Goals as goal

pub returns : goal.returns
returns c =
    ends_so c.emit_end.result (tick_fragment c.args.line) (λ (before : Code). end_fragment) c.args.code.now
    c.emit_tick.new.code c.emit_end.new.code c.in_ok-emit_tick.ensures c.emit_end.ensures
